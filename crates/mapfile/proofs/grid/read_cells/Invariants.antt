use Rattle.std.proofs.Common.{◌≡◌, ◌-◌, ◌*◌, ◌≤◌, vec_capacity, vec_items, vec_len}
use Rattle.mapfile.specs.GridFiles.{body}
use Rattle.mapfile.specs.GridReads.{after_cells}
use Rattle.mapfile.proofs.grid.read_cells.Given as goal

-- the cells so far, and what is left behind them
abbrev pub invariant-loop : goal.invariant-loop
invariant-loop l =
    (body l.heading.height l.heading.width l.heading.width l.heading.rows.at l.heading.rows.bytes.now
    ≡ after_cells (vec_items l.cells) (body (l.heading.height - l.counter) l.heading.width l.heading.width l.rest.at l.rest.bytes.now))
    × (vec_len l.cells ≤ l.counter * l.heading.width) × (vec_capacity l.cells ≡ vec_capacity l.initial.cells)
