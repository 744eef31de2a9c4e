-- Where a cart can stand, and its least length under bans.
use Rattle.std.specs.Prelude.{◌≡◌, ℕ, suc, ◌<◌, ◌≤◌, List, All, ◌≢◌}
use Rattle.floor.specs.Floor.{Floor}
use Rattle.motion.specs.Routes.{Step, Route, RouteSet, start_of, target_of, sum_of}
use Rattle.motion.specs.Bans.{Within, Bears, KeepsAll}
use Rattle.motion.specs.declared.trip.Trip.{Trip}
use Rattle.motion.specs.declared.ban.Ban.{Ban}
use Rattle.motion.specs.declared.ban.Ban.TheVariants.{Stand, Move, Late, By}

-- a ban that speaks of being at p at tick t, as it bears on the cart a
abbrev pub Bars : List Trip → ℕ → ℕ → ℕ → Ban → Type 0
Bars trips a t p (Stand c q f l) = (c.0 ≡ a) × Within f.0 l.0 t × (q.0 ≡ p)
Bars trips a t p (Move c q r f l) = ⊥
Bars trips a t p (Late c u) = ⊥
Bars trips a t p (By c u) = (c.0 ≢ a) × (u.0 ≤ t) × (target_of trips c.0 ≡ p)

-- a ban that speaks of going from p to q arriving at tick t
abbrev pub BarsMove : ℕ → ℕ → ℕ → ℕ → Ban → Type 0
BarsMove a t p q (Stand c r f l) = ⊥
BarsMove a t p q (Move c r s f l) = (c.0 ≡ a) × Within f.0 l.0 t × (r.0 ≡ p) × (s.0 ≡ q)
BarsMove a t p q (Late c u) = ⊥
BarsMove a t p q (By c u) = ⊥

-- a walk of u steps of the cart a that ends at p
pub record Walk (f : Floor) (trips : List Trip) (bans : List Ban) (a u p : ℕ) : Type 0 where
  pub at : ℕ → ℕ
  pub begins : at 0 ≡ start_of trips a
  pub ends : at u ≡ p
  pub steps : (t : ℕ) → t < u → Step f (at t) (at (suc t))
  pub stands : (t : ℕ) → t ≤ u → All (λ b. Bars trips a t (at t) b → ⊥) bans
  pub moves : (t : ℕ) → t < u → All (λ b. BarsMove a (suc t) (at t) (at (suc t)) b → ⊥) bans

-- a route of the cart a, of length n, that keeps the bans
pub record Keeping (f : Floor) (trips : List Trip) (bans : List Ban) (a n : ℕ) : Type 0 where
  pub at : ℕ → ℕ
  pub route : Route f (start_of trips a) (target_of trips a) at n
  pub keeps : All (Bears trips a at n) bans

-- the least length of the cart a under the bans
pub record LeastLength (f : Floor) (trips : List Trip) (bans : List Ban) (a n : ℕ) : Type 0 where
  pub some : Keeping f trips bans a n
  pub least : (m : ℕ) → Keeping f trips bans a m → n ≤ m

-- a set that keeps the bans and sums below the claim
pub record Cheaper (f : Floor) (trips : List Trip) (bans : List Ban) (claim : ℕ) : Type 0 where
  pub set : RouteSet f trips
  pub keeps : KeepsAll set bans
  pub below : sum_of set < claim
