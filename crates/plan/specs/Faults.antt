-- A fault of a plan file, its numbers and words, and how it is printed.
use Rattle.std.specs.Prelude.{ℕ, List, ◌++◌, codes, decimal}
use Rattle.cursor.specs.declared.missing.Lack.{Lack}
use Rattle.cursor.specs.declared.missing.Lack.TheVariants.{Letter as Another, CutShort as Short}
use Rattle.cursor.specs.declared.missing.Missing.{Missing}
use Rattle.plan.specs.declared.fault.Fault.{Fault}
use Rattle.plan.specs.declared.fault.FileRefusal.{FileRefusal}
use Rattle.plan.specs.declared.fault.FileRefusal.TheVariants.{Letter, CutShort, Trailing}
use Rattle.plan.specs.declared.fault.PlanRefusal.{PlanRefusal}
use Rattle.plan.specs.declared.fault.PlanRefusal.TheVariants.{File, Call}
use Rattle.tally.specs.Refusals.{number_of}
use Rattle.tally.specs.declared.refusal.Refusal.{Refusal}

abbrev pub file_number : FileRefusal → ℕ
file_number Letter = 21
file_number CutShort = 22
file_number Trailing = 23

abbrev pub file_word : FileRefusal → List ℕ
file_word Letter = codes "letter"
file_word CutShort = codes "cut short"
file_word Trailing = codes "trailing"

abbrev pub file_fault : FileRefusal → ℕ → Fault
file_fault e at = record { refusal = File e; offset = at }

-- why a command is missing, as a refusal of the file
abbrev pub refusal_of : Lack → FileRefusal
refusal_of Another = Letter
refusal_of Short = CutShort

abbrev pub missing_fault : Missing → Fault
missing_fault m = file_fault (refusal_of m.lack) m.offset

abbrev pub call_fault : Refusal → ℕ → Fault
call_fault e at = record { refusal = Call e; offset = at }

-- the layer and the number
abbrev pub refusal_text : PlanRefusal → List ℕ
refusal_text (File e) = codes "file " ++ decimal (file_number e)
refusal_text (Call e) = codes "call " ++ decimal (number_of e)

abbrev pub fault_text : Fault → List ℕ
fault_text f = codes "refused " ++ (refusal_text f.refusal ++ (codes " " ++ decimal f.offset))
