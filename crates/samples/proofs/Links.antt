-- The first of the connections in a line.
use Rattle.std.proofs.Common.{◌≡◌, ℕ, suc, ◌+◌, ◌-◌, ◌<◌, ◌∷◌, refl, arith}
use Rattle.samples.specs.Floors.{between, links}

pub links_first : (p n : ℕ) → p < n → links p (n - p) ≡ between (p - 1) p ∷ links (p + 1) (n - (p + 1))
links_first p n lt = let more : n - p ≡ suc (n - (p + 1)) = omega arith in rw more refl
