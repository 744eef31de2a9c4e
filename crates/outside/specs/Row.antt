-- Places in a row, numbered along it: each is joined to the one before it and to the one after it.
use Rattle.std.specs.Prelude.{◌≡◌, ℕ, ◌+◌, ◌-◌, ◌<◌, cond, ◌&&◌, ◌⊎◌, ◌↔◌, ◌++◌, Some, None, Option, nat_lt}
use Rattle.std.specs.Option.{option_to_list}
use Rattle.floor.specs.Floor.{Floor, Joined}

-- ---- the meaning

-- two places among n, of which one has the number after the other's
abbrev pub NextInRow : ℕ → ℕ → ℕ → Type 0
NextInRow n p q = (p < n) × (q < n) × ((p + 1 ≡ q) ⊎ (q + 1 ≡ p))

-- ---- the neighbours in their order

-- the place before p, among n
abbrev pub before : ℕ → ℕ → Option ℕ
before n p = cond (nat_lt 0 p && nat_lt p n) (Some (p - 1)) None

-- the place after p, among n
abbrev pub after : ℕ → ℕ → Option ℕ
after n p = cond (nat_lt (p + 1) n) (Some (p + 1)) None

abbrev pub row_floor : ℕ → Floor
row_floor n = record { count = n; next = λ p. option_to_list (before n p) ++ option_to_list (after n p) }

-- ---- what ties the two

-- q is a neighbour of p exactly when the two are next to one another
abbrev pub NeighboursAreNext : ℕ → Type 0
NeighboursAreNext n = (p q : ℕ) → Joined (row_floor n) p q ↔ NextInRow n p q
