-- What a plan file begins with: the claim and the carts' trips.
use Rattle.std.specs.Prelude.{ℕ, zero, suc, not, ◌&&◌, List, [], ◌∷◌, ◌++◌, Ok, Err, Result, nat_le}
use Rattle.cursor.specs.Commands.{operands, told}
use Rattle.cursor.specs.Rests.{Rest, rest}
use Rattle.cursor.specs.declared.missing.Missing.{Missing}
use Rattle.floor.specs.Checks.{refuse, ◌>>=◌, ◌>>◌}
use Rattle.motion.specs.declared.trip.Trip.{Trip}
use Rattle.splits.specs.Operands.{byte, place_in, word}
use Rattle.plan.specs.Faults.{call_fault, missing_fault}
use Rattle.plan.specs.declared.fault.Fault.{Fault}
use Rattle.tally.specs.declared.refusal.Refusal.TheVariants.{Carts}

abbrev pub trip_of : List ℕ → Trip
trip_of ops = record { start = place_in ops 0; target = place_in ops 2 }

-- so many `C` commands
abbrev pub trips_at : ℕ → Rest → Result (List Trip × Rest) Missing
trips_at zero left = Ok ([], left)
trips_at (suc n) left = do
  first ← operands 67 4 left
  others ← trips_at n first.1
  Ok (trip_of first.0 ∷ others.0, others.1)

-- trips that were read, before those that are left
abbrev pub after_trips : List Trip → Result (List Trip × Rest) Missing → Result (List Trip × Rest) Missing
after_trips trips (Ok others) = Ok (trips ++ others.0, others.1)
after_trips trips (Err m) = Err m

pub record Heading : Type 0 where
  pub claim : ℕ
  pub trips : List Trip
  pub behind : Rest

-- the `O` command, and as many `C` as it has carts
unfoldable pub heading : List ℕ → Result Heading Fault
heading bytes = do
  opening ← told missing_fault (operands 79 3 (rest 0 bytes))
  refuse (not (nat_le 1 (byte opening.0 2) && nat_le (byte opening.0 2) 16)) (call_fault Carts 0)
  trips ← told missing_fault (trips_at (byte opening.0 2) opening.1)
  Ok (record { claim = word opening.0 0; trips = trips.0; behind = trips.1 })
