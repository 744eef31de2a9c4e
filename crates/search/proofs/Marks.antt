-- The marks of a row.
use Rattle.std.proofs.Common.{◌≡◌, ℕ, ◌<◌, Bool, true, false, map, Decides, arith}
use Rattle.std.proofs.lemmas.Grind.{common_steps}
use Rattle.std.specs.List.{range_with_len}
use Rattle.std.proofs.lemmas.List.FromFn.{length-map-range_with_len, get_or-map-range_with_len}
use Rattle.std.proofs.lemmas.List.{get_or_past}
use Rattle.search.specs.Rows.{marked}

-- a row that is made place by place
pub marked_made : (g : ℕ → Bool) (n q : ℕ) → Decides (marked (map g (range_with_len 0 n)) q) ((q < n) × (g q ≡ true))
marked_made g n q = grind (arith, common_steps, get_or-map-range_with_len g 0 n q q false, length-map-range_with_len g 0 n, get_or_past (map g (range_with_len 0 n)) q false)
