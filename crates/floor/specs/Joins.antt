-- The test of whether two places are joined.
use Rattle.std.specs.Prelude.{ℕ, Bool, nat_eq}
use Rattle.floor.specs.Floor.{Floor}
use Rattle.floor.specs.Tests.{some}

-- q is listed among the neighbours of p
abbrev pub is_joined : Floor → ℕ → ℕ → Bool
is_joined f p q = some (λ n. nat_eq n q) (f.next p)
