-- What a grid map means.
use Rattle.maps.specs.GridCells.{grid_in}
use Rattle.maps.specs.Grids.{Grid}
use Rattle.maps.specs.declared.grid.GridMap.{GridMap}

abbrev pub grid_of : GridMap → Grid
grid_of m = grid_in m.cells
