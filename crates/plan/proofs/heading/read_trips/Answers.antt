use Rattle.std.proofs.Common.{◌≡◌, suc, ◌+◌, ◌-◌, [], ◌∷◌, ◌++◌, length, Ok, ◌∙◌, ap, sym, refl, length-append, arith}
use Rattle.std.specs.Result.{result_map_both}
use Rattle.cursor.specs.Commands.{operands}
use Rattle.cursor.specs.Rests.{before_rest, rest_of}
use Rattle.plan.specs.Headings.{after_trips, trip_of, trips_at}
use Rattle.plan.proofs.Trips.{trips_on}
use Rattle.plan.proofs.heading.read_trips.Goals as goal

pub loop-preserved : goal.loop-preserved
loop-preserved c =
    let ops = c.in_ok-a.field-0-0 in
    let trips = c.loop.trips.items in
    let left = c.args.carts - (c.loop.counter + 1) in
    let next : c.args.carts - c.loop.counter ≡ suc left = omega arith in
    let read : operands 67 4 (rest_of c.loop.rest) ≡ Ok (ops, rest_of c.in_ok-a.behind) = c.operands.ensures.is_the_reading ∙ ap (result_map_both before_rest (λ m. m)) c.in_ok-a.was in
    let more : c.push.new.self.items ≡ trips ++ (trip_of ops ∷ []) = c.push.ensures.items ∙ rw (c.from_be_bytes.ensures, c.from_be_bytes-in-loop.ensures) refl in
    let long = length-append trips (trip_of ops ∷ []) in
    let is = ap length more in
    (c.loop.invariant.0 ∙ ap (λ n. after_trips trips (trips_at n (rest_of c.loop.rest))) next ∙ trips_on left (rest_of c.loop.rest) (rest_of c.in_ok-a.behind) trips ops read ∙ ap (λ ts. after_trips ts (trips_at left (rest_of c.in_ok-a.behind))) (sym more), omega (arith, is, long))
