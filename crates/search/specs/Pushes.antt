-- A row as it is worked out by pushing: each place that is marked gives its marks to where a step leads.
use Rattle.std.specs.Prelude.{ℕ, Bool, ◌&&◌, List}
use Rattle.floor.specs.Floor.{Floor}
use Rattle.floor.specs.Tests.{some_below}
use Rattle.motion.specs.Listed.{may_step}
use Rattle.motion.specs.declared.trip.Trip.{Trip}
use Rattle.motion.specs.declared.ban.Ban.{Ban}
use Rattle.search.specs.Rows.{marked, can_be, can_go}

-- enter q from p at tick t
abbrev pub can_enter : List Trip → List Ban → ℕ → ℕ → ℕ → ℕ → Bool
can_enter trips bans a t p q = can_go bans a t p q && can_be trips bans a t q

module _ (f : Floor) (trips : List Trip) (bans : List Ban) (a : ℕ) where
  -- step from p to q, arriving at tick t
  abbrev pub can_step : ℕ → ℕ → ℕ → Bool
  can_step t p q = may_step f p q && can_enter trips bans a t p q

  -- step from some place below n that the row marks to q, arriving at tick t
  abbrev pub pushed : ℕ → List Bool → ℕ → ℕ → Bool
  pushed t row n q = some_below (λ p. marked row p && can_step t p q) n
