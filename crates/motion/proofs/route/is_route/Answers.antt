use Rattle.std.proofs.Common.{◌≡◌, rules, arith, refl, ◌-◌, length}
use Rattle.floor.specs.Tests.{every_below}
use Rattle.std.proofs.lemmas.Bool.Decides.{nat_tests}
use Rattle.std.proofs.lemmas.Iterator.{YieldsList-from_range}
use Rattle.std.proofs.lemmas.Iterator.Search.{all_from_yields_List}
use Rattle.floor.specs.Numbers.{numbers}
use Rattle.motion.specs.Listed.{goes_on}
use Rattle.motion.proofs.Reading.{route_read}
use Rattle.motion.proofs.route.is_route.Goals as goal

pub returns-then-ends : goal.returns-then-ends
returns-then-ends g c =
    let goes = goes_on (g.M.FloorMap.floor c.args.map.now) (numbers c.args.places.now) in
    let each : c.all.result ≡ every_below goes (length c.args.places.now - 1) =
    all_from_yields_List goes _ _ _ c.all.ensures.ran (YieldsList-from_range 0 _ _ refl (omega arith)) (λ t b q k. search rules)
    in
    search (rules, nat_tests, route_read)

pub returns-else-ends : goal.returns-else-ends
returns-else-ends g c = search (rules, nat_tests, route_read)
