-- The splits and closings taken are those counted, and with the open branches they agree.
use Rattle.std.proofs.Common.{◌≡◌, ◌+◌, ◌≤◌, List, [], ◌∷◌, length, map, Ok, Err, Result, is_ok, refl, ap, arith}
use Rattle.std.specs.List.{filter, zip}
use Rattle.std.proofs.lemmas.List.Elements.{All-nil}
use Rattle.tally.specs.CallAnswers.{Reached, after, after_all, answer_of, answers, called, tally_of}
use Rattle.tally.specs.Calls.{Call, Takes, by_close, by_show, by_split}
use Rattle.tally.specs.Counts.{closings_in, splits_in, taken_of}
use Rattle.tally.specs.Laws.{CountsAfterAnyCalls}
use Rattle.tally.specs.Openings.{LawfulOpening, Opening}
use Rattle.tally.specs.Tallies.{Tally, at_start}
use Rattle.tally.specs.declared.refusal.Refusal.{Refusal}
use Rattle.tally.proofs.Reaching.{filled_after, kept}
use Rattle.tally.proofs.Taking.{call_exactly}
use Rattle.tally.proofs.Telling.{Filled}

abbrev CountsAgree : Tally → Type 0
CountsAgree t = length t.branches + t.closings ≡ t.splits + 1

agree_kept : (o : Opening) (t : Tally) (c : Call) (u : Tally) → Takes o t c u → CountsAgree t → CountsAgree u
agree_kept o t c u (by_show h) agree = agree
agree_kept o t c u (by_split is deep many h) agree = omega (arith, ap length is)
agree_kept o t c u (by_close is none) agree = omega (arith, ap length is)

pub counts_agree : (o : Opening) → LawfulOpening o → (t : Tally) → Reached o t → CountsAgree t
counts_agree o sound = kept o sound CountsAgree (λ t c u _. agree_kept o t c u) refl

-- ---- from one tally to another, as many splits and closings more as the calls have
abbrev Counted : Tally → Tally → List Call → Type 0
Counted t u calls = (u.splits ≡ t.splits + splits_in calls) × (u.closings ≡ t.closings + closings_in calls)

module _ (o : Opening) (sound : LawfulOpening o) where
  counted_more : (t : Tally) (c : Call) (u end : Tally) (calls : List Call) → Takes o t c u → Counted u end calls → Counted t end (c ∷ calls)
  counted_more t c u end calls (by_show h) rest = rest
  counted_more t c u end calls (by_split is deep many h) rest = (omega arith, omega arith)
  counted_more t c u end calls (by_close is none) rest = (omega arith, omega arith)

  module _ (t : Tally) (filled : Filled t.shown) (c : Call) (end : Tally) (later : List (Call × Result (Unit {0}) Refusal)) where
    abbrev taken : List (Call × Result (Unit {0}) Refusal) → List Call
    taken made = map (λ m. m.0) (filter (λ m. is_ok m.1) made)

    counted_next : (r : Result Tally Refusal) → called o t c ≡ r → Counted (tally_of t r) end (taken later) → Counted t end (taken ((c, answer_of r) ∷ later))
    counted_next (Ok u) is rest = counted_more t c u end (taken later) ((call_exactly o sound t filled c u).0 is).1 rest
    counted_next (Err e) is rest = rest

  counted_all : (calls : List Call) (t : Tally) → Filled t.shown → Counted t (after_all o t calls) (taken_of o t calls)
  counted_all [] t filled = (omega arith, omega arith)
  counted_all (c ∷ calls) t filled =
      let u : Tally = after o t c in
      counted_next t filled c (after_all o u calls) (zip calls (answers o u calls)) (called o t c) refl (counted_all calls u (filled_after o sound t c filled))

pub counts_taken : CountsAfterAnyCalls
counts_taken o sound calls =
    let counted = counted_all o sound calls at_start (All-nil (λ s. 1 ≤ length s.places)) in
    record { splits = omega (arith, counted.0); closings = omega (arith, counted.1) }
