-- Reading a map file of either layout: a first byte `P` means a list, any other beginning a grid.
use Rattle.std.specs.Prelude.{◌≡◌, ℕ, Bool, true, false, ◌↔◌, List, [], ◌∷◌, Ok, Err, Result, ◌==◌}
use Rattle.floor.specs.Checks.{◌>>=◌}
use Rattle.maps.specs.AnyMaps.{Hall, listed, gridded}
use Rattle.maps.specs.Grids.{Sized}
use Rattle.maps.specs.Networks.{Proper}
use Rattle.maps.specs.declared.refusal.MapRefusal.{MapRefusal}
use Rattle.mapfile.specs.GridFiles.{grid_reading}
use Rattle.mapfile.specs.GridLayout.{GridText, GridFault}
use Rattle.mapfile.specs.ListFiles.{list_reading}
use Rattle.mapfile.specs.ListLayout.{list_text, ListFault}
use Rattle.mapfile.specs.declared.fault.Fault.{Fault}

abbrev pub is_list : List ℕ → Bool
is_list [] = false
is_list (b ∷ bytes) = b == 80

abbrev pub reading_as : Bool → List ℕ → Result Hall Fault
reading_as true bytes = do
  network ← list_reading bytes
  Ok (listed network)
reading_as false bytes = do
  grid ← grid_reading bytes
  Ok (gridded grid)

unfoldable pub map_reading : List ℕ → Result Hall Fault
map_reading bytes = reading_as (is_list bytes) bytes

-- the bytes are the text of the hall, which is within the limits
abbrev pub MapText : Hall → List ℕ → Type 0
MapText (listed n) bytes = Proper n × (bytes ≡ list_text n)
MapText (gridded g) bytes = Sized g × GridText g bytes

-- a hall is read exactly when the bytes are its text
abbrev pub MapReadExactly : List ℕ → Type 0
MapReadExactly bytes = (h : Hall) → (map_reading bytes ≡ Ok h) ↔ MapText h bytes

abbrev pub FaultAs : Bool → List ℕ → MapRefusal → ℕ → Type 0
FaultAs true bytes e k = ListFault bytes e k
FaultAs false bytes e k = GridFault bytes e k

-- a fault is told exactly when it is the first one of the layout that the bytes begin as, and stands where it says
abbrev pub MapFaultsExactly : List ℕ → Type 0
MapFaultsExactly bytes = (f : Fault) → (map_reading bytes ≡ Err f) ↔ FaultAs (is_list bytes) bytes f.refusal f.offset
