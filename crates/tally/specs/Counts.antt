-- The splits and the closings among calls.
use Rattle.std.specs.Prelude.{◌≡◌, ℕ, Bool, true, false, List, length, map, is_ok}
use Rattle.std.specs.List.{filter, zip}
use Rattle.tally.specs.CallAnswers.{after_all, answers}
use Rattle.tally.specs.Calls.{Call, show, split, close}
use Rattle.tally.specs.Openings.{Opening}
use Rattle.tally.specs.Standings.{standing}
use Rattle.tally.specs.Tallies.{Tally, at_start}

abbrev pub is_split : Call → Bool
is_split (show a ps) = false
is_split (split letter bytes) = true
is_split close = false

abbrev pub is_closing : Call → Bool
is_closing (show a ps) = false
is_closing (split letter bytes) = false
is_closing close = true

abbrev pub splits_in : List Call → ℕ
splits_in calls = length (filter is_split calls)

abbrev pub closings_in : List Call → ℕ
closings_in calls = length (filter is_closing calls)

-- of calls that are made one after the other, those that are taken
abbrev pub taken_of : Opening → Tally → List Call → List Call
taken_of o t calls = map (λ made. made.0) (filter (λ made. is_ok made.1) (zip calls (answers o t calls)))

-- the standing has as many splits and closings as the calls made have that were taken
pub record CountsTaken (o : Opening) (calls : List Call) : Type 0 where
  pub splits : (standing o (after_all o at_start calls)).splits ≡ splits_in (taken_of o at_start calls)
  pub closings : (standing o (after_all o at_start calls)).closings ≡ closings_in (taken_of o at_start calls)
