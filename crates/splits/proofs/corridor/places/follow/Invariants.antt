use Rattle.std.proofs.Common.{◌≡◌, length}
use Rattle.splits.specs.CorridorTests.{along}
use Rattle.splits.proofs.Listing.{written_and_left}
use Rattle.splits.proofs.corridor.places.follow.Given as goal

abbrev pub invariant-loop-place : goal.invariant-loop-place
invariant-loop-place g l =
    let f = g.M.FloorMap.floor l.map in
    written_and_left f l.places l.place-index l.at l.next ≡ along f l.initial.at.0 l.initial.next.0 (length l.initial.places)
