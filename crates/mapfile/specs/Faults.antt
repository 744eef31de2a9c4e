-- A fault of a file, and how it is printed.
use Rattle.std.specs.Prelude.{ℕ, List, ◌++◌, codes}
use Rattle.std.specs.Fmt.{decimal}
use Rattle.cursor.specs.declared.missing.Lack.{Lack}
use Rattle.cursor.specs.declared.missing.Lack.TheVariants.{Letter as Another, CutShort as Short}
use Rattle.cursor.specs.declared.missing.Missing.{Missing}
use Rattle.maps.specs.Refusals.{number_of}
use Rattle.maps.specs.declared.refusal.MapRefusal.{MapRefusal}
use Rattle.maps.specs.declared.refusal.MapRefusal.TheVariants.{Letter, CutShort}
use Rattle.mapfile.specs.declared.fault.Fault.{Fault}

abbrev pub fault : MapRefusal → ℕ → Fault
fault e at = record { refusal = e; offset = at }

-- why a command is missing, as a refusal of the map
abbrev pub refusal_of : Lack → MapRefusal
refusal_of Another = Letter
refusal_of Short = CutShort

abbrev pub missing_fault : Missing → Fault
missing_fault m = fault (refusal_of m.lack) m.offset

abbrev pub fault_text : Fault → List ℕ
fault_text f = codes "refused map " ++ (decimal (number_of f.refusal) ++ (codes " " ++ decimal f.offset))
