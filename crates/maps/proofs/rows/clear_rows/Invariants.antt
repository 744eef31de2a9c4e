use Rattle.std.proofs.Common.{◌≡◌, ℕ, [], vec_items, vec_len, vec_capacity}
use Rattle.maps.specs.Tables.{row_of}
use Rattle.maps.proofs.rows.clear_rows.Given as goal

-- the rows so far, all empty
abbrev pub invariant-loop : goal.invariant-loop
invariant-loop g l = ((p : ℕ) → row_of (vec_items l.rows) p ≡ []) × (vec_len l.rows ≡ l.counter) × (vec_capacity l.rows ≡ vec_capacity l.initial.rows)
