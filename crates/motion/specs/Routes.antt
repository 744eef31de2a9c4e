-- Routes, their lengths, sets of them and their conflicts.
use Rattle.std.specs.Prelude.{◌≡◌, ℕ, suc, ◌<◌, ◌≤◌, ◌⊎◌, List, length, map, ◌≢◌, slice_index_or}
use Rattle.std.specs.List.{range_with_len, sum}
use Rattle.floor.specs.Floor.{Floor, Joined}
use Rattle.motion.specs.declared.trip.Trip.{Trip}

-- one step: stay, or go to a neighbour
abbrev pub Step : Floor → ℕ → ℕ → Type 0
Step f p q = (q ≡ p) ⊎ Joined f p q

-- stands for the trip of a cart that is not there: a question about a cart looks first whether it is
abbrev pub nowhere : Trip
nowhere = record { start = record { 0 = 0 }; target = record { 0 = 0 } }

-- where the cart a starts
abbrev pub start_of : List Trip → ℕ → ℕ
start_of trips a = (slice_index_or trips a nowhere).start.0

-- where the cart a has to be in the end
abbrev pub target_of : List Trip → ℕ → ℕ
target_of trips a = (slice_index_or trips a nowhere).target.0

-- always at the target from n on
abbrev pub AtTargetFrom : ℕ → (ℕ → ℕ) → ℕ → Type 0
AtTargetFrom target r n = (t : ℕ) → n ≤ t → r t ≡ target

-- a route: a place for every tick, from the start, step by step, at the target for ever from its length on,
-- and from no tick before
pub record Route (f : Floor) (start target : ℕ) (r : ℕ → ℕ) (len : ℕ) : Type 0 where
  pub begins : r 0 ≡ start
  pub steps : (t : ℕ) → Step f (r t) (r (suc t))
  pub arrived : AtTargetFrom target r len
  pub least : (n : ℕ) → AtTargetFrom target r n → len ≤ n

-- the sum of what f gives below n
abbrev pub total : ℕ → (ℕ → ℕ) → ℕ
total n f = sum (map f (range_with_len 0 n))

-- a set: one route for each cart
pub record RouteSet (f : Floor) (trips : List Trip) : Type 0 where
  pub at : ℕ → ℕ → ℕ
  pub len : ℕ → ℕ
  pub route : (a : ℕ) → a < length trips → Route f (start_of trips a) (target_of trips a) (at a) (len a)

-- the lengths of all routes of a set, added up
abbrev pub sum_of : {f : Floor} {trips : List Trip} → RouteSet f trips → ℕ
sum_of {f} {trips} s = total (length trips) s.len

-- at the same place at some tick, or between the same two places, each the other's way, in some step
abbrev pub Conflict : (ℕ → ℕ) → (ℕ → ℕ) → Type 0
Conflict r s = (t : ℕ) × ((r t ≡ s t) ⊎ ((r t ≡ s (suc t)) × (r (suc t) ≡ s t)))

-- no two carts of the set are in conflict
abbrev pub ConflictFree : {f : Floor} {trips : List Trip} → RouteSet f trips → Type 0
ConflictFree {f} {trips} s = (a b : ℕ) → a < length trips → b < length trips → (a ≢ b) → Conflict (s.at a) (s.at b) → ⊥
