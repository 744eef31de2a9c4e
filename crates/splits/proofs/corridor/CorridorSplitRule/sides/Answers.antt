use Rattle.std.proofs.Common.{rules, ◌≡◌, Ok, Err, ap, ◌∙◌}
use Rattle.splits.specs.CorridorTests.{corridor_sides}
use Rattle.splits.proofs.CorridorSides.{corridor_answer}
use Rattle.splits.proofs.corridor.CorridorSplitRule.sides.Goals as goal

pub returns-in_err-ensure : goal.returns-in_err-ensure
returns-in_err-ensure g c =
    let f = g.M.FloorMap.floor c.args.branch.now.map.now in
    let told : c.from_residual-in_err-ensure.result ≡ Err c.in_err-ensure.field-0.0 = search rules in
    told ∙
    corridor_answer f c.args.branch.now.trips.now c.args.branch.now.bans.now c.read-o.result c.in_ok-check_two_carts.ensures c.in_ok-check_place.ensures
    c.in_ok-check_place-2.ensures c.in_ok-check_tick.ensures c.in_ok-check_tick-2.ensures c.in_ok-chain.chain (rw c.in_ok-chain.ensures.ok_part at c.led.ensures.same)
    (rw c.in_ok-chain.ensures.ok_part at c.led.ensures.led) c.is_corridor_for.result c.is_corridor_for.ensures _ c.in_err-ensure.ensures ∙
    ap (corridor_sides f c.args.branch.now.trips.now c.args.branch.now.bans.now) c.read-o.ensures

pub returns : goal.returns
returns g c =
    let f = g.M.FloorMap.floor c.args.branch.now.map.now in
    ap Ok c.bans.ensures ∙
    corridor_answer f c.args.branch.now.trips.now c.args.branch.now.bans.now c.read-o.result c.in_ok-check_two_carts.ensures c.in_ok-check_place.ensures
    c.in_ok-check_place-2.ensures c.in_ok-check_tick.ensures c.in_ok-check_tick-2.ensures c.in_ok-chain.chain (rw c.in_ok-chain.ensures.ok_part at c.led.ensures.same)
    (rw c.in_ok-chain.ensures.ok_part at c.led.ensures.led) c.is_corridor_for.result c.is_corridor_for.ensures _ c.in_ok-ensure.ensures ∙
    ap (corridor_sides f c.args.branch.now.trips.now c.args.branch.now.bans.now) c.read-o.ensures
