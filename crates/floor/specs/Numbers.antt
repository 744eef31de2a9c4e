-- Places as their numbers.
use Rattle.std.specs.Prelude.{ℕ, List, map}
use Rattle.floor.specs.declared.Place.{Place}

-- the number of each place of a list
abbrev pub numbers : List Place → List ℕ
numbers ps = map (λ p. p.0) ps
