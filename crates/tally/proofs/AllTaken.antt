-- Calls that are all taken: they are those taken, and the routes shown are those that they show.
use Rattle.std.proofs.Common.{◌≡◌, ℕ, zero, suc, ◌≤◌, ◌↔◌, ◌⊎◌, List, [], ◌∷◌, length, map, Some, Ok, Err, All, Contains, Result, is_ok, inl, inr, ⊎_elim, sym, refl, ap, ap₂, ◌∙◌, subst, arith}
use Rattle.std.specs.List.{filter, zip}
use Rattle.floor.proofs.Chains.{ok_no_err}
use Rattle.std.proofs.lemmas.List.Elements.{All-head, All-nil, All-tail, Contains-append_left, Contains-push, Contains-push_cases}
use Rattle.tally.specs.CallAnswers.{after, after_all, answer, answer_of, answers, called, tally_of}
use Rattle.tally.specs.Calls.{Call, Takes, by_close, by_show, by_split, show}
use Rattle.tally.specs.Counts.{taken_of}
use Rattle.tally.specs.Openings.{LawfulOpening, Opening}
use Rattle.tally.specs.StandsAs.{ShownIn}
use Rattle.tally.specs.Tallies.{Tally, at_start, shown_of}
use Rattle.tally.specs.declared.refusal.Refusal.{Refusal}
use Rattle.tally.proofs.Lists.{has_none}
use Rattle.tally.proofs.Reaching.{filled_after}
use Rattle.tally.proofs.Showing.{shown_exactly}
use Rattle.tally.proofs.Taking.{call_exactly}
use Rattle.tally.proofs.Telling.{Filled}

abbrev Taken : Result (Unit {0}) Refusal → Type 0
Taken r = r ≡ Ok tt

module _ (o : Opening) where
  next_taken : (c : Call) (r : Result (Unit {0}) Refusal) → Taken r → (later : List (Call × Result (Unit {0}) Refusal))
      → map (λ made. made.0) (filter (λ made. is_ok made.1) ((c, r) ∷ later)) ≡ c ∷ map (λ made. made.0) (filter (λ made. is_ok made.1) later)
  next_taken c (Ok _) taken later = refl
  next_taken c (Err e) taken later = absurd (ok_no_err (sym taken))

  pub all_of_taken : (calls : List Call) (t : Tally) → All Taken (answers o t calls) → taken_of o t calls ≡ calls
  all_of_taken [] t taken = refl
  all_of_taken (c ∷ calls) t taken =
      next_taken c (answer o t c) (All-head Taken _ _ taken) (zip calls (answers o (after o t c) calls)) ∙ ap (λ cs. c ∷ cs) (all_of_taken calls (after o t c) (All-tail Taken (answer o t c) (answers o (after o t c) calls) taken))

  module _ (sound : LawfulOpening o) (a : ℕ) (ps : List ℕ) where
    -- shown before, or by the call
    shown_more : (t : Tally) (c : Call) (u : Tally) → Takes o t c u → ShownIn u a ps ↔ ShownIn t a ps ⊎ (c ≡ show a ps)
    shown_more t c u (by_show {a = b} {ps = qs} h) = (
      λ has. ⊎_elim inl (λ is. inr (ap₂ show (ap (λ s. s.cart) is) (ap (λ s. s.places) is))) (Contains-push_cases t.shown _ _ has),
      ⊎_elim (Contains-append_left t.shown _ _)
          (λ is. let same-cart : b ≡ a = cc in let same-places : qs ≡ ps = cc in
          subst (Contains u.shown) (ap₂ (λ d rs. record { cart = d; places = rs }) same-cart same-places) (Contains-push t.shown _)),
    )
    shown_more t c u (by_split is deep many h) = (inl, ⊎_elim (λ has. has) (λ is. absurd (cc)))
    shown_more t c u (by_close is none) = (inl, ⊎_elim (λ has. has) (λ is. absurd (cc)))

    shown_after : (t : Tally) → Filled t.shown → (c : Call) (r : Result Tally Refusal) → called o t c ≡ r → Taken (answer_of r)
        → ShownIn (tally_of t r) a ps ↔ ShownIn t a ps ⊎ (c ≡ show a ps)
    shown_after t filled c (Ok u) is taken = shown_more t c u ((call_exactly o sound t filled c u).0 is).1
    shown_after t filled c (Err e) is taken = absurd (ok_no_err (sym taken))

    has_cases : (c : Call) (calls : List Call) → Contains (c ∷ calls) (show a ps) ↔ (c ≡ show a ps) ⊎ Contains calls (show a ps)
    has_cases c calls = (cases, ⊎_elim (λ is. (0, omega arith, is)) (λ has. (suc has.0, omega (arith, has.1), has.2)))
      where
        cases : Contains (c ∷ calls) (show a ps) → (c ≡ show a ps) ⊎ Contains calls (show a ps)
        cases (zero, lt, is) = inl is
        cases (suc k, lt, is) = inr (k, omega arith, is)

    shown_after_all : (calls : List Call) (t : Tally) → Filled t.shown → All Taken (answers o t calls) → ShownIn (after_all o t calls) a ps ↔ ShownIn t a ps ⊎ Contains calls (show a ps)
    shown_after_all [] t filled taken = (inl, ⊎_elim (λ has. has) (λ has. absurd (has_none _ has)))
    shown_after_all (c ∷ calls) t filled taken =
        let one = shown_after t filled c (called o t c) refl (All-head Taken _ _ taken) in
        let rest = shown_after_all calls (after o t c) (filled_after o sound t c filled) (All-tail Taken (answer o t c) (answers o (after o t c) calls) taken) in
        let split = has_cases c calls in (
          λ has. ⊎_elim (λ then. ⊎_elim inl (λ is. inr (split.1 (inl is))) (one.0 then)) (λ later. inr (split.1 (inr later))) (rest.0 has),
          λ either. rest.1 (⊎_elim (λ before. inl (one.1 (inl before))) (λ has. ⊎_elim (λ is. inl (one.1 (inr is))) inr (split.0 has)) either),
        )

  module _ (sound : LawfulOpening o) (calls : List Call) (taken : All Taken (answers o at_start calls)) where
    pub shown_by_calls : (a : ℕ) (ps : List ℕ) → (shown_of (after_all o at_start calls) a ≡ Some ps) ↔ Contains calls (show a ps)
    shown_by_calls a ps =
        let exactly = shown_exactly o sound (after_all o at_start calls) (calls, refl) a ps in
        let all = shown_after_all sound a ps calls at_start (All-nil (λ s. 1 ≤ length s.places)) taken in (
          λ is. ⊎_elim (λ has. absurd (has_none _ has)) (λ has. has) (all.0 (exactly.0 is)),
          λ has. exactly.1 (all.1 (inr has)),
        )
