-- The eight bytes that an outcome is told by.
use Rattle.std.specs.Prelude.{ℕ, List, ◌∷◌, ◌++◌, Ok, Err, Result}
use Rattle.std.specs.Int.{bytes_high_first}
use Rattle.report.specs.Faults.{layer_number, layer_of, number_of, offset_of}
use Rattle.report.specs.declared.fault.Fault.{Fault}
use Rattle.tally.specs.Standings.{number_in}
use Rattle.tally.specs.declared.standing.Standing.{Standing}
use Rattle.tally.specs.declared.standing.Verdict.{Verdict}
use Rattle.tally.specs.declared.standing.Verdict.TheVariants.{Barred, Open, Unshown, OtherSum, Least}

-- 1 least, 2 open, 3 unshown, 4 othersum; no plan comes to a standing that is barred
abbrev pub kind_of : Verdict → ℕ
kind_of (Barred e) = 0
kind_of (Least claim) = 1
kind_of (Open branches) = 2
kind_of (Unshown carts) = 3
kind_of (OtherSum sum) = 4

-- which of the four it is, its number in two bytes, no layer and no offset
abbrev pub standing_bytes : Standing → List ℕ
standing_bytes s = kind_of s.verdict ∷ (bytes_high_first 2 (number_in s.verdict) ++ (0 ∷ bytes_high_first 4 0))

-- refused, the number in two bytes, the layer, and the offset in four bytes
abbrev pub fault_bytes : Fault → List ℕ
fault_bytes f = 0 ∷ (bytes_high_first 2 (number_of f) ++ (layer_number (layer_of f) ∷ bytes_high_first 4 (offset_of f)))

abbrev pub outcome_bytes : Result Standing Fault → List ℕ
outcome_bytes (Ok s) = standing_bytes s
outcome_bytes (Err f) = fault_bytes f
