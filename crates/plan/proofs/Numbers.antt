-- The number of a verdict is small: at most 65 branches are open, and at most 16 carts have routes of at most 255 steps.
use Rattle.std.proofs.Common.{◌≡◌, ℕ, ◌≤◌, Bool, true, false, cond, nat_le, ◌==◌, [], List, length, Some, None, Option, unwrap_or, subst, refl, sym, arith}
use Rattle.std.proofs.lemmas.List.Elements.{All-contains}
use Rattle.motion.specs.Listed.{steps}
use Rattle.search.proofs.Sums.{total_most}
use Rattle.tally.specs.CallAnswers.{Reached}
use Rattle.tally.specs.Openings.{Opening, Openable, RouteOf, LawfulOpening, carts}
use Rattle.tally.specs.Standings.{number_in, places_shown, shown_sum, standing, unshown, verdict_of}
use Rattle.tally.specs.Tallies.{Tally, is_shown, shown_of}
use Rattle.tally.specs.declared.standing.Verdict.TheVariants.{Open, Unshown, OtherSum, Least}
use Rattle.tally.proofs.Finding.{found}
use Rattle.tally.proofs.Limiting.{within_limits}
use Rattle.tally.proofs.Opening.{opened_exactly}
use Rattle.tally.proofs.Showing.{shown_well}

one_or_none : (b : Bool) → cond b 0 1 ≤ 255
one_or_none true = omega arith
one_or_none false = omega arith

module _ (branches missing sum claim : ℕ) (few : branches ≤ 65) (few_missing : missing ≤ 4080) (small_sum : sum ≤ 4080) (small_claim : claim ≤ 4000) where
  first_small : (p q r : Bool) → number_in (cond p (Open branches) (cond q (Unshown missing) (cond r (Least claim) (OtherSum sum)))) ≤ 4080
  first_small true q r = omega (arith, few)
  first_small false true r = few_missing
  first_small false false true = omega (arith, small_claim)
  first_small false false false = small_sum

module _ (o : Opening) (sound : LawfulOpening o) (openable : Openable o) (t : Tally) (reached : Reached o t) where
  few_steps : (a : ℕ) → steps (places_shown t a) ≤ 255
  few_steps a = by (shown_of t a) refl
    where
      by : (x : Option (List ℕ)) → shown_of t a ≡ x → steps (unwrap_or x []) ≤ 255
      by None is = omega arith
      by (Some ps) is =
          let w = found a t.shown ps is in
          subst (λ qs. steps qs ≤ 255) w.2.1 (All-contains (λ s. RouteOf o s.cart s.places) t.shown w.0 (shown_well o sound t reached).are_routes w.1).short

  pub standing_small : number_in (standing o t).verdict ≤ 4080
  standing_small =
      let few = openable.few_carts.1 in
      let sums = total_most (λ a. steps (places_shown t a)) 255 few_steps (carts o) in
      let lacks = total_most (λ a. cond (is_shown t.shown a) 0 1) 255 (λ a. one_or_none (is_shown t.shown a)) (carts o) in
      subst (λ x. number_in (verdict_of x (length t.branches) (unshown o t) (shown_sum o t) o.claim) ≤ 4080) (sym ((opened_exactly o).1 openable))
      (first_small (length t.branches) (unshown o t) (shown_sum o t) o.claim (within_limits o sound t reached).few_open (omega (arith, few, lacks)) (omega (arith, few, sums)) openable.small_claim
      (nat_le 1 (length t.branches)) (nat_le 1 (unshown o t)) (shown_sum o t == o.claim))
