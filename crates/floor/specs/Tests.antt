-- Tests over lists, which are the library's, and over the numbers below a bound.
use Rattle.std.specs.Prelude.{ℕ, Bool}
use Rattle.std.specs.List.{range_with_len}
pub use Rattle.std.specs.List.{list_all as every, list_any as some}

-- each number below the bound passes
abbrev pub every_below : (ℕ → Bool) → ℕ → Bool
every_below passes n = every passes (range_with_len 0 n)

-- some number below the bound passes
abbrev pub some_below : (ℕ → Bool) → ℕ → Bool
some_below passes n = some passes (range_with_len 0 n)
