use Rattle.std.proofs.Common.{rules, length, ◌∙◌, arith}
use Rattle.std.proofs.lemmas.Iterator.{YieldsList-from_range}
use Rattle.std.proofs.lemmas.Iterator.Consumers.{YieldsList-from_filter, count_from_yields_List}
use Rattle.maps.specs.GridMaps.{grid_of}
use Rattle.maps.specs.GridMapsLemmas.{map_sized}
use Rattle.maps.specs.Grids.{free_at}
use Rattle.halls.proofs.Free.{free_cells}
use Rattle.halls.proofs.survey.free_cells.Goals as goal

pub returns : goal.returns
returns c =
    let grid = grid_of c.args.grid.now in
    let filled = (map_sized c.args.grid.now).filled in
    count_from_yields_List c.filter.result _ c.count.ensures.ran (YieldsList-from_filter _ (free_at grid) (YieldsList-from_range 0 c.places.result (length grid.free) (cc) (omega arith)) c.filter.ensures.closure (λ x r q k. search rules)) ∙ free_cells grid _ (omega arith)
