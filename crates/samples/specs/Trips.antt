-- Trips by their numbers.
use Rattle.std.specs.Prelude.{ℕ}
use Rattle.motion.specs.declared.trip.Trip.{Trip}

abbrev pub trip : ℕ → ℕ → Trip
trip p q = record { start = record { 0 = p }; target = record { 0 = q } }
