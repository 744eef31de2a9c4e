use Rattle.std.proofs.Common.{vec_items, refl, arith}
use Rattle.maps.specs.GridCells.{grid_in}
use Rattle.maps.specs.GridMapsLemmas.{cells_fit}
use Rattle.maps.proofs.GridRows.{rows_more, rows_all}
use Rattle.maps.proofs.grid.cells.Cells.fill_rows.Goals as goal

pub loop-p-init : goal.loop-p-init
loop-p-init c = let none = c.clear.ensures in (λ p h. absurd (omega arith), none.len, omega (arith, none.capacity, cells_fit c.args.self.now), refl)

pub push_reserved-requires : goal.push_reserved-requires
push_reserved-requires c = omega (arith, c.loop-p.invariant.1, c.loop-p.invariant.2)

pub loop-p-preserved : goal.loop-p-preserved
loop-p-preserved c =
    let more = c.push_reserved.ensures in (
      rw more.items (rows_more (grid_in c.args.self.now) (vec_items c.loop-p.rows) c.loop-p.p c.loop-p.invariant.0 (omega (arith, c.loop-p.invariant.1)) c.around.result c.around.ensures),
      omega (arith, more.len, c.loop-p.invariant.1),
      omega (arith, more.capacity, c.loop-p.invariant.2),
      omega (arith, more.capacity, c.loop-p.invariant.3),
    )

pub returns-clause-tied : goal.returns-clause-tied
returns-clause-tied c =
    rows_all (grid_in c.args.self.now) (vec_items c.loop-p.rows) c.loop-p.p c.loop-p.invariant.0 (omega (arith, c.loop-p.invariant.1)) (omega (arith, c.args.self.now.filled))
