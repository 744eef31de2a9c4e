-- The places that a cart can stand at, tick by tick.
use Rattle.std.specs.Prelude.{ℕ, zero, suc, Bool, false, ◌&&◌, ◌||◌, List, map, length, ◌==◌, nat_lt, slice_index_or}
use Rattle.std.specs.List.{range_with_len}
use Rattle.floor.specs.Floor.{Floor}
use Rattle.floor.specs.Tests.{every, some, some_below}
use Rattle.motion.specs.Routes.{start_of}
use Rattle.motion.specs.declared.trip.Trip.{Trip}
use Rattle.motion.specs.declared.ban.Ban.{Ban}
use Rattle.search.specs.Lets.{lets_be, lets_go}

-- the bans let the cart a be at p at tick t
abbrev pub can_be : List Trip → List Ban → ℕ → ℕ → ℕ → Bool
can_be trips bans a t p = every (lets_be trips a t p) bans

-- the bans let the cart a go from p to q, or wait where they are one place, arriving at tick t
abbrev pub can_go : List Ban → ℕ → ℕ → ℕ → ℕ → Bool
can_go bans a t p q = every (lets_go a t p q) bans

-- the row marks the place p; a row marks no place past its end
abbrev pub marked : List Bool → ℕ → Bool
marked row p = slice_index_or row p false

-- from a neighbour that the row marks to q, arriving at tick t
abbrev pub from_next : Floor → List Ban → ℕ → ℕ → List Bool → ℕ → Bool
from_next f bans a t row q = some (λ p. marked row p && can_go bans a t p q) (f.next q)

-- the row of tick 0, over n places
abbrev pub first_row : List Trip → List Ban → ℕ → ℕ → List Bool
first_row trips bans a n = map (λ p. (p == start_of trips a) && can_be trips bans a 0 p) (range_with_len 0 n)

module _ (f : Floor) (trips : List Trip) (bans : List Ban) (a : ℕ) where
  -- q at tick t, by waiting there or from a neighbour, out of the row of the tick before
  abbrev pub reached : ℕ → List Bool → ℕ → Bool
  reached t row q = can_be trips bans a t q && ((marked row q && can_go bans a t q q) || from_next f bans a t row q)

  -- the row of tick t, from the row of the tick before
  abbrev pub next_row : ℕ → List Bool → List Bool
  next_row t row = map (reached t row) (range_with_len 0 f.count)

  -- the row of tick u: the places that the cart a can stand at then
  abbrev pub row_at : ℕ → List Bool
  row_at zero = first_row trips bans a f.count
  row_at (suc u) = next_row (suc u) (row_at u)

  -- the cart is there, and the row of tick u marks p: no row marks a place off the floor
  abbrev pub can_stand : ℕ → ℕ → Bool
  can_stand u p = nat_lt a (length trips) && marked (row_at u) p

  -- the cart can stand at p at some tick before n
  abbrev pub stands_before : ℕ → ℕ → Bool
  stands_before n p = some_below (λ u. can_stand u p) n
