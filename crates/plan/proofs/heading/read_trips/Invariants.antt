use Rattle.std.proofs.Common.{◌≡◌, ◌-◌, length}
use Rattle.cursor.specs.Rests.{rest_of}
use Rattle.plan.specs.Headings.{after_trips, trips_at}
use Rattle.plan.proofs.heading.read_trips.Given as goal

-- the trips so far stand before those that are left
abbrev pub invariant-loop : goal.invariant-loop
invariant-loop l =
    (trips_at l.carts (rest_of l.fn.rest) ≡ after_trips l.trips.items (trips_at (l.carts - l.counter) (rest_of l.rest))) × (length l.trips.items ≡ l.counter)
