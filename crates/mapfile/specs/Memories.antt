-- The memory for maps as it is made.
use Rattle.std.specs.Prelude.{◌≡◌, [], vec_items}
use Rattle.maps.specs.GridMaps.{grid_of}
use Rattle.maps.specs.Grids.{one_cell}
use Rattle.maps.specs.ListMaps.{network_of}
use Rattle.maps.specs.Networks.{bare}
use Rattle.mapfile.specs.declared.memory.MapMemory.{MapMemory}

-- the smallest map of either kind, and no cells
abbrev pub Fresh : MapMemory → Type 0
Fresh m = (network_of m.list ≡ bare 1) × (grid_of m.grid ≡ one_cell) × (vec_items m.cells ≡ [])
