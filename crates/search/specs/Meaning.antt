-- What the computed answers mean.
use Rattle.std.specs.Prelude.{◌≡◌, ℕ, ◌<◌, ◌≤◌, ◌⊎◌, ◌↔◌, List, length, Some, None, Option}
use Rattle.floor.specs.Floor.{Floor}
use Rattle.motion.specs.Stands.{Walk, Keeping, LeastLength}
use Rattle.motion.specs.declared.trip.Trip.{Trip}
use Rattle.motion.specs.declared.ban.Ban.{Ban}

module _ (f : Floor) (trips : List Trip) (bans : List Ban) (a : ℕ) where
  -- the cart a is there, and a walk of it of u steps ends at p, which is on the floor
  abbrev pub CanStand : ℕ → ℕ → Type 0
  CanStand u p = (a < length trips) × (p < f.count) × Walk f trips bans a u p

  -- the cart a can stand at p at some tick before n
  abbrev pub StandsBefore : ℕ → ℕ → Type 0
  StandsBefore n p = (u : ℕ) × (u < n) × CanStand u p

  -- no route of the cart a of a length below the limit keeps the bans
  abbrev pub NoneBelow : ℕ → Type 0
  NoneBelow limit = (n : ℕ) → n < limit → Keeping f trips bans a n → ⊥

  -- the cart a is there, and n is its least length and below the limit
  abbrev pub LeastBelow : ℕ → ℕ → Type 0
  LeastBelow limit n = (a < length trips) × LeastLength f trips bans a n × (n < limit)

  -- o is the least length of the cart a, where the cart is there and that is below the limit
  abbrev pub IsLeast : ℕ → Option ℕ → Type 0
  IsLeast limit o =
      ((n : ℕ) → (o ≡ Some n) ↔ LeastBelow limit n) × ((o ≡ None) ↔ ((length trips ≤ a) ⊎ NoneBelow limit))
