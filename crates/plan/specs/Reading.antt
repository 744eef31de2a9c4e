-- A plan file read from its first byte to its last and checked, to the standing at its end or the first fault.
use Rattle.std.specs.Prelude.{ℕ, List, [], ◌∷◌, Ok, Err, Result}
use Rattle.floor.specs.Checks.{◌>>=◌, ◌>>◌}
use Rattle.floor.specs.Floor.{Floor}
use Rattle.motion.specs.declared.trip.Trip.{Trip}
use Rattle.splits.specs.Rules.{Rules}
use Rattle.plan.specs.Commands.{Item, commands}
use Rattle.plan.specs.Faults.{call_fault}
use Rattle.plan.specs.Headings.{heading}
use Rattle.plan.specs.declared.fault.Fault.{Fault}
use Rattle.tally.specs.CallAnswers.{called}
use Rattle.tally.specs.Openings.{Opening, opened}
use Rattle.tally.specs.Standings.{standing}
use Rattle.tally.specs.Tallies.{Tally, at_start}
use Rattle.tally.specs.declared.refusal.Refusal.{Refusal}
use Rattle.tally.specs.declared.standing.Standing.{Standing}

-- a refusal of the check becomes a fault at the offset
abbrev pub blame : {A : Type 0} → ℕ → Result A Refusal → Result A Fault
blame at (Ok x) = Ok x
blame at (Err e) = Err (call_fault e at)

-- the calls made one after the other, up to the first fault
abbrev pub made : Opening → Tally → List Item → Result Tally Fault
made o t [] = Ok t
made o t (Err f ∷ items) = Err f
made o t (Ok (at, call) ∷ items) = do
  next ← blame at (called o t call)
  made o next items

-- the same, if the check may be opened
abbrev pub made_if_open : Opening → Tally → List Item → Result Tally Fault
made_if_open o t items = do
  blame 0 (opened o)
  made o t items

-- the check that a plan opens on a floor; the number of its card is of no account, as no other card is settled with
abbrev pub opening : Floor → Rules → ℕ → List Trip → Opening
opening f r claim trips = record { floor = f; rules = r; trips = trips; claim = claim; card = 0 }

unfoldable pub plan_reading : Floor → Rules → List ℕ → Result Standing Fault
plan_reading f r bytes = do
  h ← heading bytes
  let o = opening f r h.claim h.trips
  t ← made_if_open o at_start (commands r 0 h.behind.at h.behind.bytes)
  Ok (standing o t)
