-- A map file and a plan file, read one after the other.
use Rattle.std.specs.Prelude.{◌≡◌, ℕ, ◌↔◌, List, Ok, Err, Result}
use Rattle.floor.specs.Checks.{◌>>=◌}
use Rattle.maps.specs.AnyMaps.{Hall, hall_floor}
use Rattle.mapfile.specs.MapFiles.{FaultAs, MapText, is_list, map_reading}
use Rattle.mapfile.specs.declared.fault.Fault.{Fault as MapFault}
use Rattle.plan.specs.FirstFault.{PlanFault}
use Rattle.plan.specs.Layout.{Settles}
use Rattle.plan.specs.Reading.{plan_reading}
use Rattle.plan.specs.declared.fault.Fault.{Fault as InPlan}
use Rattle.report.specs.declared.fault.Fault.{Fault}
use Rattle.report.specs.declared.fault.Fault.TheVariants.{Map, Plan}
use Rattle.splits.specs.Own.{own}
use Rattle.tally.specs.declared.standing.Standing.{Standing}

-- ---- the reading

abbrev pub of_map : Result Hall MapFault → Result Hall Fault
of_map (Ok hall) = Ok hall
of_map (Err f) = Err (Map f)

abbrev pub of_plan : Result Standing InPlan → Result Standing Fault
of_plan (Ok s) = Ok s
of_plan (Err f) = Err (Plan f)

-- the map, and then the plan on its floor, with our own letters
unfoldable pub files_reading : List ℕ → List ℕ → Result Standing Fault
files_reading map plan = do
  hall ← of_map (map_reading map)
  of_plan (plan_reading (hall_floor hall) own plan)

-- ---- what it means

-- the map's bytes are the text of a hall, and on its floor the plan settles with this standing
pub record FilesSettle (map plan : List ℕ) (s : Standing) : Type 0 where
  pub hall : Hall
  pub map_text : MapText hall map
  pub settles : Settles (hall_floor hall) own plan s

-- the files come to a standing exactly when they settle with it
abbrev pub FilesReadExactly : List ℕ → List ℕ → Type 0
FilesReadExactly map plan = (s : Standing) → (files_reading map plan ≡ Ok s) ↔ FilesSettle map plan s

-- the first fault of the map, or the map is the text of a hall and the first fault is the plan's
pub data FilesFault (map plan : List ℕ) : Fault → Type 0 where
  in_map : {f : MapFault} → FaultAs (is_list map) map f.refusal f.offset → FilesFault map plan (Map f)
  in_plan : {f : InPlan} (hall : Hall) → MapText hall map → PlanFault (hall_floor hall) own plan f.refusal f.offset → FilesFault map plan (Plan f)

-- two files are refused for a fault exactly when that is the first one
abbrev pub FilesFaultsExactly : List ℕ → List ℕ → Type 0
FilesFaultsExactly map plan = (f : Fault) → (files_reading map plan ≡ Err f) ↔ FilesFault map plan f
