-- What holds of every two files.
use Rattle.std.specs.Prelude.{◌≡◌, ℕ, ◌≤◌, List, length, Ok, Err}
use Rattle.maps.specs.AnyMaps.{Hall, hall_floor}
use Rattle.mapfile.specs.MapFiles.{MapText}
use Rattle.motion.specs.declared.trip.Trip.{Trip}
use Rattle.plan.specs.Layout.{PlanText}
use Rattle.plan.specs.SoundAndComplete.{ProvesBound, ProvesLeast, StandsByPlan}
use Rattle.tally.specs.Standings.{number_in}
use Rattle.plan.specs.Reading.{opening}
use Rattle.report.specs.Faults.{file_of, offset_of}
use Rattle.report.specs.Files.{FilesFaultsExactly, FilesReadExactly, files_reading}
use Rattle.report.specs.declared.fault.Fault.{Fault}
use Rattle.splits.specs.Own.{own}
use Rattle.tally.specs.Calls.{Call}
use Rattle.tally.specs.Openings.{Openable}
use Rattle.tally.specs.Plans.{CallsOf, HonestPlan}
use Rattle.tally.specs.declared.standing.Standing.{Standing}
use Rattle.tally.specs.declared.standing.Verdict.TheVariants.{Least}

-- the map's bytes are the text of a hall
pub record HallOf (map : List ℕ) : Type 0 where
  pub hall : Hall
  pub text : MapText hall map

pub record FilesSoundAndComplete (map plan : List ℕ) : Type 0 where
  -- They come to a standing exactly when the map's bytes are the text of a hall, and the plan's that of a plan whose
  -- calls are all taken on that hall's floor; and then it is that run's settlement.
  pub read_exactly : FilesReadExactly map plan
  -- Else they are refused for a fault exactly when that is the first one.
  pub faults_exactly : FilesFaultsExactly map plan
  -- The offset of a fault is that of a byte of its file, or the file's length.
  pub fault_is_in_file : (f : Fault) → files_reading map plan ≡ Err f → offset_of f ≤ length (file_of f map plan)
  -- The standing that they come to is what the plan's own calls come to on the hall's floor: its splits, its closings,
  -- and the verdict whose conditions hold of its claim, its trips and the routes that it shows.
  pub stands_by_plan : (s : Standing) → files_reading map plan ≡ Ok s → (h : HallOf map) × StandsByPlan (hall_floor h.hall) own plan s
  -- `least n`: on the hall's floor the routes that the plan shows are a conflict-free set for its carts that sums to n,
  -- and no conflict-free set of routes for them, of any lengths, sums to less.
  pub least_is_least : (s : Standing) (n : ℕ) → files_reading map plan ≡ Ok s → s.verdict ≡ Least n → (h : HallOf map) × ProvesLeast (hall_floor h.hall) own plan n
  -- With no branch left open, whatever routes are shown, no conflict-free set of routes for the plan's carts sums to
  -- less than its claim.
  pub none_open_is_bound : (s : Standing) → files_reading map plan ≡ Ok s → s.branches ≡ 0 → (h : HallOf map) × ProvesBound (hall_floor h.hall) own plan
  -- The calls of an honest tree within the limits, written left side first with its routes anywhere between, settle as
  -- least.
  pub honest_plans_succeed : (h : HallOf map) (claim : ℕ) (trips : List Trip) → Openable (opening (hall_floor h.hall) own claim trips)
      → (honest : HonestPlan (opening (hall_floor h.hall) own claim trips)) (calls : List Call) → CallsOf honest calls → PlanText own claim trips calls plan
      → (s : Standing) × (files_reading map plan ≡ Ok s) × (s.verdict ≡ Least claim)
  -- The number that the files come to is small.
  pub number_is_small : (s : Standing) → files_reading map plan ≡ Ok s → number_in s.verdict ≤ 4080
