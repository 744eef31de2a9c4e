-- A fault of the two files: its layer, number and offset, and how it is printed.
use Rattle.std.specs.Prelude.{ℕ, List}
use Rattle.maps.specs.Refusals.{number_of as map_number}
use Rattle.mapfile.specs.Faults.{fault_text as map_text}
use Rattle.plan.specs.Faults.{fault_text as plan_text, file_number}
use Rattle.plan.specs.declared.fault.PlanRefusal.{PlanRefusal}
use Rattle.plan.specs.declared.fault.PlanRefusal.TheVariants.{File as FileRefused, Call as CallRefused}
use Rattle.report.specs.declared.fault.Fault.{Fault}
use Rattle.report.specs.declared.fault.Fault.TheVariants.{Map, Plan}
use Rattle.report.specs.declared.fault.Layer.{Layer}
use Rattle.report.specs.declared.fault.Layer.TheVariants.{Map as MapLayer, File as FileLayer, Call as CallLayer}
use Rattle.tally.specs.Refusals.{number_of as call_number}

abbrev pub layer_number : Layer → ℕ
layer_number MapLayer = 1
layer_number FileLayer = 2
layer_number CallLayer = 3

abbrev pub plan_layer : PlanRefusal → Layer
plan_layer (FileRefused e) = FileLayer
plan_layer (CallRefused e) = CallLayer

abbrev pub plan_number : PlanRefusal → ℕ
plan_number (FileRefused e) = file_number e
plan_number (CallRefused e) = call_number e

abbrev pub layer_of : Fault → Layer
layer_of (Map f) = MapLayer
layer_of (Plan f) = plan_layer f.refusal

abbrev pub number_of : Fault → ℕ
number_of (Map f) = map_number f.refusal
number_of (Plan f) = plan_number f.refusal

abbrev pub offset_of : Fault → ℕ
offset_of (Map f) = f.offset
offset_of (Plan f) = f.offset

-- of the map's bytes and the plan's, those that the fault is in
abbrev pub file_of : Fault → List ℕ → List ℕ → List ℕ
file_of (Map f) map plan = map
file_of (Plan f) map plan = plan

abbrev pub fault_text : Fault → List ℕ
fault_text (Map f) = map_text f
fault_text (Plan f) = plan_text f
