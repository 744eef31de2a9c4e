-- The least length of a cart below a limit, and whether the least lengths sum below a claim.
use Rattle.std.specs.Prelude.{ℕ, zero, suc, Bool, cond, ◌&&◌, List, length, None, Option, ◌==◌, nat_lt}
use Rattle.floor.specs.Floor.{Floor}
use Rattle.floor.specs.Tests.{every}
use Rattle.motion.specs.Routes.{start_of, target_of}
use Rattle.motion.specs.declared.trip.Trip.{Trip}
use Rattle.motion.specs.declared.ban.Ban.{Ban}
use Rattle.search.specs.Lets.{lets_rest, lets_end}
use Rattle.search.specs.Rows.{from_next, row_at}
use Rattle.search.specs.Sums.{first_below, sum_below, is_below}

-- the bans let the cart a have the length n
abbrev pub can_end : List Trip → List Ban → ℕ → ℕ → Bool
can_end trips bans a n = every (lets_end a n) bans && every (lets_rest trips a n (target_of trips a)) bans

module _ (f : Floor) (trips : List Trip) (bans : List Ban) where
  -- the cart a can enter its target at tick t from a neighbour that the row marks
  abbrev pub enters_target : ℕ → ℕ → List Bool → Bool
  enters_target a t row = from_next f bans a t row (target_of trips a)

  -- the cart a can be at its target at tick n, and elsewhere the tick before if there is one
  abbrev pub arrives : ℕ → ℕ → Bool
  arrives a zero = start_of trips a == target_of trips a
  arrives a (suc n) = enters_target a (suc n) (row_at f trips bans a n)

  -- some route of the cart a of length n keeps the bans
  abbrev pub possible : ℕ → ℕ → Bool
  possible a n = can_end trips bans a n && arrives a n

  -- the least length of the cart a, if it is below the limit
  abbrev pub least_below : ℕ → ℕ → Option ℕ
  least_below a limit = first_below (possible a) limit

  -- the same of a cart that may not be there
  abbrev pub least_length : ℕ → ℕ → Option ℕ
  least_length a limit = cond (nat_lt a (length trips)) (least_below a limit) None

  -- each cart has a least length below the claim, and they sum below it
  abbrev pub cheaper : ℕ → Bool
  cheaper claim = is_below claim (sum_below (λ a. least_below a claim) (length trips))
