-- What the cells of a grid map mean.
use Rattle.std.specs.Prelude.{vec_items}
use Rattle.maps.specs.Grids.{Grid}
use Rattle.maps.specs.declared.grid.cells.Cells.{Cells}

abbrev pub grid_in : Cells → Grid
grid_in cells = record { height = cells.height; width = cells.width; free = vec_items cells.free }
