-- How much of a list of bytes passes, from the front on.
use Rattle.std.specs.Prelude.{ℕ, List, take, zip, ◌==◌}
use Rattle.std.specs.List.{prefix_len}
use Rattle.mapfile.specs.GridFiles.{is_digit}

-- how many bytes are as in the text
abbrev pub common_len : List ℕ → List ℕ → ℕ
common_len text bytes = prefix_len (λ p. p.0 == p.1) (zip text bytes)

-- how many of at most so many are digits
abbrev pub digit_count : ℕ → List ℕ → ℕ
digit_count most bytes = prefix_len is_digit (take most bytes)
