use Rattle.std.proofs.Common.{◌≡◌, Ok, Err, MatchResult, sym, refl, arith}
use Rattle.maps.specs.AnyMaps.{listed, gridded}
use Rattle.maps.specs.GridMaps.{grid_of}
use Rattle.maps.specs.ListMaps.{network_of}
use Rattle.maps.specs.declared.any.AnyMap.TheVariants.{List as ListKind, Grid as GridKind}
use Rattle.mapfile.specs.GridFiles.{grid_reading}
use Rattle.mapfile.specs.ListFiles.{list_reading}
use Rattle.mapfile.proofs.MapFiles.{read_as_list, read_as_grid, kind_answers, list_exactly, grid_exactly, list_faults, grid_faults}
use Rattle.mapfile.proofs.any.read_map.Goals as goal

pub returns-then-is_list : goal.returns-then-is_list
returns-then-is_list c =
    let bytes = c.args.bytes.now in
    let is = sym c.if-is_list.ensures in
    let tells : MatchResult c.read_list.result (λ m. c.map.result ≡ Ok (ListKind m)) (λ e. c.map.result ≡ Err e) = grind arith in
    record {
      is_the_reading = kind_answers bytes listed (list_reading bytes) (read_as_list bytes is) (λ m. network_of m.now) ListKind (λ m. refl) c.read_list.result c.read_list.ensures.is_the_reading c.map.result tells;
      read_exactly = list_exactly bytes is c.read_list.ensures.read_exactly;
      refused_exactly = list_faults bytes is c.read_list.ensures.refused_exactly;
    }

pub returns-else-is_list : goal.returns-else-is_list
returns-else-is_list c =
    let bytes = c.args.bytes.now in
    let is = sym c.if-is_list.ensures in
    let tells : MatchResult c.read_grid.result (λ m. c.map-else-is_list.result ≡ Ok (GridKind m)) (λ e. c.map-else-is_list.result ≡ Err e) = grind arith in
    record {
      is_the_reading = kind_answers bytes gridded (grid_reading bytes) (read_as_grid bytes is) (λ m. grid_of m.now) GridKind (λ m. refl) c.read_grid.result c.read_grid.ensures.is_the_reading c.map-else-is_list.result tells;
      read_exactly = grid_exactly bytes is c.read_grid.ensures.read_exactly;
      refused_exactly = grid_faults bytes is c.read_grid.ensures.refused_exactly;
    }
