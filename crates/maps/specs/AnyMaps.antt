-- What a map of either kind means.
use Rattle.floor.specs.Floor.{Floor}
use Rattle.maps.specs.Grids.{Grid, grid_floor}
use Rattle.maps.specs.GridMaps.{grid_of}
use Rattle.maps.specs.ListMaps.{network_of}
use Rattle.maps.specs.Networks.{Network, network_floor}
use Rattle.maps.specs.declared.any.AnyMap.{AnyMap}
use Rattle.maps.specs.declared.any.AnyMap.TheVariants.{List as ListKind, Grid as GridKind}

pub data Hall : Type 0 where
  listed : Network → Hall
  gridded : Grid → Hall

abbrev pub hall_of : AnyMap → Hall
hall_of (ListKind m) = listed (network_of m.now)
hall_of (GridKind m) = gridded (grid_of m.now)

abbrev pub hall_floor : Hall → Floor
hall_floor (listed n) = network_floor n
hall_floor (gridded g) = grid_floor g
