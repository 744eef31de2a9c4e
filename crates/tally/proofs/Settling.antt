-- When a settlement says least, and what it says of another sum.
use Rattle.std.proofs.Common.{◌≡◌, ℕ, ◌<◌, eqb, List, [], length, Some, Ok, Err, Result, refl, ap, ◌∙◌, subst, arith}
use mathlib.Core.Path.{subst⁻¹}
use Rattle.std.proofs.lemmas.Bool.{cond-true, eq-eqb}
use Rattle.std.proofs.lemmas.Bool.Decides.{nat_tests}
use Rattle.std.proofs.lemmas.List.{nil_from_length}
use Rattle.tally.specs.Laws.{Complete, SettlesLeast}
use Rattle.tally.specs.Openings.{Opening, carts, opened}
use Rattle.tally.specs.Standings.{Says, settle, shown_sum, standing, unshown, verdict_of}
use Rattle.tally.specs.Tallies.{Tally, is_shown, shown_of}
use Rattle.tally.specs.declared.refusal.Refusal.{Refusal}
use Rattle.tally.specs.declared.standing.Verdict.TheVariants.{Least, OtherSum}
use Rattle.tally.proofs.Finding.{decides_shown}
use Rattle.tally.proofs.Totals.{none_of_total, total_none}

verdict_least : (r : Result (Unit {0}) Refusal) (branches missing sum claim : ℕ) → verdict_of r branches missing sum claim ≡ Least claim → (branches ≡ 0) × (missing ≡ 0) × (sum ≡ claim)
verdict_least (Err e) branches missing sum claim is = let z : ◌≡◌ {A = ℕ} 0 1 = cc in absurd (omega arith)
verdict_least (Ok x) branches missing sum claim is = (grind (arith, nat_tests), grind (arith, nat_tests), grind (arith, nat_tests))

verdict_other : (r : Result (Unit {0}) Refusal) (branches missing sum claim s : ℕ) → verdict_of r branches missing sum claim ≡ OtherSum s
    → (branches ≡ 0) × (missing ≡ 0) × (sum ≡ s) × (sum ≡ claim → ⊥)
verdict_other (Err e) branches missing sum claim s is = let z : ◌≡◌ {A = ℕ} 0 1 = cc in absurd (omega arith)
verdict_other (Ok x) branches missing sum claim s is = (grind (arith, nat_tests), grind (arith, nat_tests), grind (arith, nat_tests), grind (arith, nat_tests))

least_verdict : (claim : ℕ) → verdict_of (Ok tt) 0 0 claim claim ≡ Least claim
least_verdict claim = cond-true (eqb claim claim) (Least claim) (OtherSum claim) (eq-eqb claim claim refl)

module _ (o : Opening) (t : Tally) where
  own_card : settle o t o.card ≡ Ok (standing o t)
  own_card = cond-true (eqb o.card o.card) (Ok (standing o t)) (Err (record {})) (eq-eqb o.card o.card refl)

  pub shown_by_all : unshown o t ≡ 0 → (a : ℕ) → a < carts o → (ps : List ℕ) × (shown_of t a ≡ Some ps)
  shown_by_all none a lt = let here = none_of_total _ (carts o) none a lt in (decides_shown a t.shown).0 (grind (arith, nat_tests))

  pub none_missing : ((a : ℕ) → a < carts o → (ps : List ℕ) × (shown_of t a ≡ Some ps)) → unshown o t ≡ 0
  none_missing all_shown = total_none _ (carts o) (λ a lt. cond-true (is_shown t.shown a) 0 1 ((decides_shown a t.shown).1 (all_shown a lt)))

  -- a settlement of another sum: no branch is open, every cart has a route, and they sum to that, which is not the claim
  pub record Other (s : ℕ) : Type 0 where
    pub none_open : t.branches ≡ []
    pub all_shown : (a : ℕ) → a < carts o → (ps : List ℕ) × (shown_of t a ≡ Some ps)
    pub sums : shown_sum o t ≡ s
    pub not_claim : s ≡ o.claim → ⊥

  pub other_from_settled : (s : ℕ) → Says (settle o t o.card) (OtherSum s) → Other s
  other_from_settled s says =
      let is = verdict_other (opened o) _ _ _ _ s (subst (λ x. Says x (OtherSum s)) own_card says) in
      record { none_open = nil_from_length t.branches is.0; all_shown = shown_by_all is.1; sums = is.2; not_claim = λ same. is.3 (is.2 ∙ same) }

  pub complete_from_least : SettlesLeast o t → Complete o t
  complete_from_least says =
      let is = verdict_least (opened o) _ _ _ _ (subst (λ s. Says s (Least o.claim)) own_card says) in
      record {
        none_open = nil_from_length t.branches is.0;
        all_shown = shown_by_all is.1;
        sums = is.2;
      }

  pub least_from_complete : opened o ≡ Ok tt → Complete o t → SettlesLeast o t
  least_from_complete passes complete =
      let none_open : length t.branches ≡ 0 = ap length complete.none_open in
      let none-missing : unshown o t ≡ 0 = none_missing complete.all_shown in
      let sums : shown_sum o t ≡ o.claim = complete.sums in
      let least : verdict_of (opened o) (length t.branches) (unshown o t) (shown_sum o t) o.claim ≡ Least o.claim = cc (least_verdict o.claim) in
      subst⁻¹ (λ s. Says s (Least o.claim)) own_card least
