use Rattle.std.proofs.Common.{◌≡◌, ◌*◌, ◌≤◌, vec_items, vec_len, vec_capacity}
use Rattle.maps.specs.GridCells.{grid_in}
use Rattle.maps.proofs.GridRows.{FirstRows}
use Rattle.maps.proofs.grid.cells.Cells.fill_rows.Given as goal

-- the rows so far, and room for all, as there was
abbrev pub invariant-loop-p : goal.invariant-loop-p
invariant-loop-p l =
    FirstRows (grid_in l.self) l.p (vec_items l.rows) × (vec_len l.rows ≡ l.p) × (l.self.height * l.self.width ≤ vec_capacity l.rows) × (vec_capacity l.rows ≡ vec_capacity l.initial.rows)
