-- Rows of places and a table of rows, as the lists of numbers that they stand for.
use Rattle.std.specs.Prelude.{ℕ, List, [], map, slice_index_or}
use Rattle.arrayvec.specs.ArrayVec.{ArrayVec}
use Rattle.floor.specs.Numbers.{numbers}
use Rattle.floor.specs.declared.Place.{Place}

-- the places of a row, as their numbers
abbrev pub numbers_in : ArrayVec Place → List ℕ
numbers_in r = numbers r.items

-- the row of place p, empty past the table's end
abbrev pub row_of : List (ArrayVec Place) → ℕ → List ℕ
row_of rows p = slice_index_or (map numbers_in rows) p []
