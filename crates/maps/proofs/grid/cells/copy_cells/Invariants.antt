use Rattle.std.proofs.Common.{◌≡◌, take, vec_items, vec_capacity}
use Rattle.maps.proofs.grid.cells.copy_cells.Given as goal

-- the cells so far
abbrev pub invariant-loop-cell : goal.invariant-loop-cell
invariant-loop-cell l = (vec_items l.cells ≡ take l.cell-index l.free) × (vec_capacity l.cells ≡ vec_capacity l.initial.cells)
