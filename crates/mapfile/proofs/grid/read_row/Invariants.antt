use Rattle.std.proofs.Common.{◌≡◌, ℕ, suc, ◌+◌, ◌-◌, drop, vec_capacity, vec_items, vec_len}
use Rattle.mapfile.specs.GridFiles.{body}
use Rattle.mapfile.specs.GridReads.{after_cells}
use Rattle.mapfile.proofs.grid.read_row.Given as goal

-- the cells so far, and what is left behind them
abbrev pub invariant-loop-i : goal.invariant-loop-i
invariant-loop-i l =
    ((rows : ℕ) → after_cells (vec_items l.initial.cells) (body (suc rows) l.width l.width l.row.at l.row.bytes.now) ≡ after_cells (vec_items l.cells) (body (suc rows) (l.width - l.i) l.width (l.row.at + l.i) (drop l.i l.row.bytes.now)))
    × (vec_len l.cells ≡ vec_len l.initial.cells + l.i) × (vec_capacity l.cells ≡ vec_capacity l.initial.cells)
