-- A barred check stands as it started.
use Rattle.std.proofs.Common.{◌≡◌, [], length, Ok, Err, Result, sym, refl, ap, ◌∙◌, arith}
use Rattle.floor.proofs.Chains.{ok_no_err}
use Rattle.tally.specs.CallAnswers.{Reached}
use Rattle.tally.specs.Openings.{BarredBy, Opening, LawfulOpening, opened}
use Rattle.tally.specs.Standings.{shown_sum, standing, unshown, verdict_of}
use Rattle.tally.specs.Tallies.{Tally, at_start}
use Rattle.tally.specs.declared.refusal.Refusal.{Refusal}
use Rattle.tally.specs.declared.standing.Verdict.TheVariants.{Barred}
use Rattle.tally.proofs.Opening.{barred_exactly, opened_exactly}
use Rattle.tally.proofs.Reaching.{kept}

module _ (o : Opening) (sound : LawfulOpening o) (t : Tally) (reached : Reached o t) where
  barred_at_start : (e : Refusal) → opened o ≡ Err e → t ≡ at_start
  barred_at_start e barred =
      kept o sound (λ u. u ≡ at_start) (λ _ _ _ openable _ _. absurd (ok_no_err (sym ((opened_exactly o).1 openable) ∙ barred))) refl t reached

  pub barred_standing : (e : Refusal) → BarredBy o e → standing o t ≡ record { branches = 1; splits = 0; closings = 0; verdict = Barred e }
  barred_standing e bars =
      let barred = (barred_exactly o e).1 bars in
      ap (standing o) (barred_at_start e barred)
      ∙ ap (λ r. record { branches = 1; splits = 0; closings = 0; verdict = verdict_of r 1 (unshown o at_start) (shown_sum o at_start) o.claim }) barred

  pub passes_with_none_open : t.branches ≡ [] → opened o ≡ Ok tt
  passes_with_none_open none = by_answer (opened o) refl
    where
      by_answer : (r : Result (Unit {0}) Refusal) → opened o ≡ r → opened o ≡ Ok tt
      by_answer (Ok _) is = is
      by_answer (Err e) is = absurd (omega (arith, ap length none, ap (λ u. length u.branches) (barred_at_start e is)))
