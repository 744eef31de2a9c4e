use Rattle.std.proofs.Common.{vec_items}
use Rattle.maps.specs.GridMaps.{grid_of}
use Rattle.mapfile.proofs.FaultAnswers.{passed_on}
use Rattle.mapfile.proofs.GridLayout.{grid_read_exactly, grid_faults_exactly}
use Rattle.mapfile.proofs.GridsMade.{never_refused, not_filled, read_as_made}
use Rattle.mapfile.proofs.grid.read_grid.Goals as goal

pub returns-in_err-heading : goal.returns-in_err-heading
returns-in_err-heading c = record {
  is_the_reading = passed_on (λ map. grid_of map.now) _ c.from_residual.result c.in_err-heading.field-0.0 c.in_err-heading.ensures.is_the_reading c.from_residual.ensures.1;
  read_exactly = grid_read_exactly c.args.bytes.now;
  refused_exactly = grid_faults_exactly c.args.bytes.now;
}

pub returns-in_err-read_cells : goal.returns-in_err-read_cells
returns-in_err-read_cells c = record {
  is_the_reading = passed_on (λ map. grid_of map.now) _ c.from_residual-in_err-read_cells.result c.in_err-read_cells.field-0.0 (not_filled c.args.bytes.now c.in_ok-heading.heading c.in_ok-heading.ensures.is_the_reading c.in_err-read_cells.field-0.0 c.in_err-read_cells.ensures.is_the_reading) c.from_residual-in_err-read_cells.ensures.1;
  read_exactly = grid_read_exactly c.args.bytes.now;
  refused_exactly = grid_faults_exactly c.args.bytes.now;
}

pub unreachable-requires : goal.unreachable-requires
unreachable-requires c =
    let at_lay = c.in-Err.ensures in
    never_refused c.args.bytes.now c.in_ok-heading.heading c.in_ok-heading.ensures.is_the_reading (vec_items c.read_cells.new.cells) c.in_ok-read_cells.ensures.is_the_reading c.in-Err.field-0 (rw c.deref.ensures.value at at_lay.change.0)

pub returns : goal.returns
returns c = record {
  is_the_reading = read_as_made c.args.bytes.now c.in_ok-heading.heading c.in_ok-heading.ensures.is_the_reading (vec_items c.read_cells.new.cells) c.in_ok-read_cells.ensures.is_the_reading (grid_of c.lay.new.self) (rw c.deref.ensures.value at c.in-Ok.ensures.change);
  read_exactly = grid_read_exactly c.args.bytes.now;
  refused_exactly = grid_faults_exactly c.args.bytes.now;
}
