-- What the trips of the carts have to be for a check to be opened on them.
use Rattle.std.specs.Prelude.{ℕ, ◌<◌, ◌≤◌, List, length, ◌≢◌}
use Rattle.floor.specs.Floor.{Floor}
use Rattle.motion.specs.Routes.{start_of, target_of}
use Rattle.motion.specs.declared.trip.Trip.{Trip}

-- a check has 1 to 16 carts
abbrev pub FewCarts : ℕ → Type 0
FewCarts n = (1 ≤ n) × (n ≤ 16)

-- every start and every target is on the floor
abbrev pub OnFloor : Floor → List Trip → Type 0
OnFloor f trips = (a : ℕ) → a < length trips → (start_of trips a < f.count) × (target_of trips a < f.count)

-- no two carts share a start, and no two share a target
abbrev pub Apart : List Trip → Type 0
Apart trips =
    (a b : ℕ) → a < length trips → b < length trips → (a ≢ b)
    → (start_of trips a ≢ start_of trips b) × (target_of trips a ≢ target_of trips b)
