-- What the fields of a grid map give.
use Rattle.std.specs.Prelude.{◌*◌, ◌≤◌}
use Rattle.std.proofs.Common.{arith}
use Rattle.std.proofs.lemmas.Nat.{mul-le}
use Rattle.maps.specs.Grids.{Sized}
use Rattle.maps.specs.GridCells.{grid_in}
use Rattle.maps.specs.GridMaps.{grid_of}
use Rattle.maps.specs.declared.grid.GridMap.{GridMap}
use Rattle.maps.specs.declared.grid.cells.Cells.{Cells}

pub cells_sized : (cells : Cells) → Sized (grid_in cells)
cells_sized cells =
    record { some_rows = cells.rows.0; most_rows = cells.rows.1; some_columns = cells.columns.0; most_columns = cells.columns.1; filled = omega arith }

-- its rows have room for it
pub cells_fit : (cells : Cells) → cells.height * cells.width ≤ 1024
cells_fit cells = mul-le _ _ 32 32 cells.rows.1 cells.columns.1

pub map_sized : (m : GridMap) → Sized (grid_of m)
map_sized m = cells_sized m.cells
