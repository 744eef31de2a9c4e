use Rattle.std.proofs.Common.{arith}
use Rattle.splits.proofs.Listing.{along_more}
use Rattle.splits.proofs.corridor.places.follow.Goals as goal

pub loop-place-preserved : goal.loop-place-preserved
loop-place-preserved g c =
    along_more (g.M.FloorMap.floor c.args.map.now) c.loop-place.places c.loop-place.place-index c.loop-place.at c.loop-place.next _ c.loop-place.invariant c.onward.result
    (omega arith) c.onward.ensures
