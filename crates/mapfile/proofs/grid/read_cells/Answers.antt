use Rattle.std.proofs.Common.{vec_items, add-mul, one-mul, arith}
use Rattle.std.proofs.lemmas.Bool.Decides.{nat_tests}
use Rattle.mapfile.proofs.FaultAnswers.{passed_on}
use Rattle.mapfile.proofs.RowSteps.{row_read, row_stops, rows_end}
use Rattle.mapfile.proofs.grid.read_cells.Goals as goal

pub returns-in_err-rest-clause-is_the_reading : goal.returns-in_err-rest-clause-is_the_reading
returns-in_err-rest-clause-is_the_reading c =
    let stops = row_stops _ c.args.heading.height c.loop.counter c.args.heading.width c.loop.rest (vec_items c.loop.cells) c.loop.invariant.0 (omega arith) (vec_items c.read_row.new.cells) c.in_err-rest.field-0.0 c.in_err-rest.ensures.is_the_reading in
    passed_on _ _ c.from_residual.result c.in_err-rest.field-0.0 stops c.from_residual.ensures.1

pub loop-preserved : goal.loop-preserved
loop-preserved c =
    let more = c.in_ok-rest.ensures in (
      row_read _ c.args.heading.height c.loop.counter c.args.heading.width c.loop.rest (vec_items c.loop.cells) c.loop.invariant.0 (omega arith) (vec_items c.read_row.new.cells) c.in_ok-rest.rest more.is_the_reading,
      omega (arith, more.few, c.loop.invariant.1, add-mul c.loop.counter 1 c.args.heading.width, one-mul c.args.heading.width),
      omega (arith, more.room, c.loop.invariant.2),
    )

pub returns-clause-is_the_reading : goal.returns-clause-is_the_reading
returns-clause-is_the_reading c = rows_end _ c.args.heading.height c.loop.counter c.args.heading.width c.loop.rest (vec_items c.loop.cells) c.loop.invariant.0 (omega arith) (grind (arith, nat_tests))
