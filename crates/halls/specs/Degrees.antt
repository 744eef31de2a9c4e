-- How many neighbours the places of a floor have in all.
use Rattle.std.specs.Prelude.{ℕ, length}
use Rattle.floor.specs.Floor.{Floor}
use Rattle.motion.specs.Routes.{total}

-- each connection counts at both of its ends
abbrev pub degrees : Floor → ℕ
degrees f = total f.count (λ p. length (f.next p))
