-- The small floors, and how floors are built of connections joined in turn.
use Rattle.std.specs.Prelude.{ℕ, ◌-◌, List, [], ◌∷◌, ◌++◌, map, Ok, Result}
use Rattle.std.specs.List.{range_with_len}
use Rattle.floor.specs.Checks.{◌>>=◌}
use Rattle.maps.specs.Networks.{Network, founding, joining}
use Rattle.maps.specs.declared.connection.Connection.{Connection}
use Rattle.maps.specs.declared.refusal.MapRefusal.{MapRefusal}

abbrev pub between : ℕ → ℕ → Connection
between p q = record { first = record { 0 = p }; second = record { 0 = q } }

-- each pair of numbers as a connection
abbrev pub connections_of : List (ℕ × ℕ) → List Connection
connections_of pairs = map (λ p. between p.0 p.1) pairs

-- five places: four in a row, and one beside the third
abbrev pub small_floor : Network
small_floor = record { places = 5; connections = between 0 1 ∷ between 1 2 ∷ between 2 3 ∷ between 2 4 ∷ [] }

-- six places in a line
abbrev pub line : Network
line = record { places = 6; connections = between 0 1 ∷ between 1 2 ∷ between 2 3 ∷ between 3 4 ∷ between 4 5 ∷ [] }

-- a network with more connections, joined in turn
abbrev pub joining_all : Network → List Connection → Result Network MapRefusal
joining_all n [] = Ok n
joining_all n (c ∷ cs) = joining n c >>= λ m. joining_all m cs

-- the connections of n places, from p on, each to the place before it
abbrev pub links : ℕ → ℕ → List Connection
links p n = map (λ q. between (q - 1) q) (range_with_len p n)

-- so many places in a line, with more connections
abbrev pub lining : ℕ → List Connection → Result Network MapRefusal
lining places more = founding places >>= λ n. joining_all n (links 1 (places - 1) ++ more)
