use Rattle.maps.specs.GridMaps.{grid_of}
use Rattle.maps.specs.GridsLemmas.{neighbours_are_beside}
use Rattle.maps.specs.GridMapsLemmas.{map_sized}
use Rattle.maps.proofs.grid.GridMap.is_free.Goals as goal

pub returns-clause-beside : goal.returns-clause-beside
returns-clause-beside c = neighbours_are_beside (grid_of c.args.self.now) (map_sized c.args.self.now)
