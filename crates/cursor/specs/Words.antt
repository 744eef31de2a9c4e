-- Numbers in two bytes, the most significant one first.
use Rattle.std.specs.Prelude.{ℕ, ◌+◌, ◌*◌, ◌/◌, ◌%◌, ◌<◌, List, [], ◌∷◌, All, slice_index}

abbrev pub Bytes : List ℕ → Type 0
Bytes = All (λ b. b < 256)

-- the number that bytes i and i + 1 come to
abbrev pub word : List ℕ → ℕ → ℕ
word bytes i = slice_index bytes i * 256 + slice_index bytes (i + 1)

-- and the bytes of one
abbrev pub two_bytes : ℕ → List ℕ
two_bytes n = n / 256 ∷ n % 256 ∷ []
