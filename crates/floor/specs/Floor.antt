-- What a floor is, and what every floor map shows of the floor that it means.
use Rattle.std.specs.Prelude.{ℕ, ◌<◌, ◌≤◌, List, length, Contains, ◌≢◌}
use Rattle.std.specs.List.{AllPairs}

-- A floor: how many places it has, numbered from 0, and the neighbours of each in their order.
pub record Floor : Type 0 where
  pub count : ℕ
  pub next : ℕ → List ℕ

-- q is listed among the neighbours of p
abbrev pub Joined : Floor → ℕ → ℕ → Type 0
Joined f p q = Contains (f.next p) q

-- what every map shows of its floor
pub record Lawful (f : Floor) : Type 0 where
  -- it has a place, and at most 1,024
  pub has_a_place : 1 ≤ f.count
  pub at_most_1024 : f.count ≤ 1024
  -- no place has more than 8 neighbours
  pub at_most_8_neighbours : (p : ℕ) → length (f.next p) ≤ 8
  -- neighbours are places of the floor, and a place off the floor has none
  pub on_floor : (p q : ℕ) → Joined f p q → (p < f.count) × (q < f.count)
  -- no place is its own neighbour
  pub not_its_own : (p : ℕ) → Joined f p p → ⊥
  -- no place is listed twice among the neighbours of another
  pub once : (p : ℕ) → AllPairs (λ q r. q ≢ r) (f.next p)
  -- q is listed at p exactly where p is listed at q
  pub both_ways : (p q : ℕ) → Joined f p q → Joined f q p
