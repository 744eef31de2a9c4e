use Rattle.std.proofs.Common.{◌≡◌, ℕ, true, rules, sym, arith}
use Rattle.std.proofs.lemmas.Bool.Decides.{Decides-at}
use Rattle.floor.proofs.Deciding.{some_below_holds, some_below_more}
use Rattle.search.specs.BanLists.{with_one}
use Rattle.search.specs.Rows.{can_stand}
use Rattle.search.proofs.Standing.{decides_stands_before, gone_never_before}
use Rattle.search.proofs.branch.Branch.stands_before.Goals as goal

pub returns-in_default-clause-computed : goal.returns-in_default-clause-computed
returns-in_default-clause-computed g c =
    let s = c.args.self.now in
    gone_never_before _ s.trips.now (with_one c.args.more s.bans.now) c.args.cart.0 (g.met.M.FloorMap.lawful s.map.now) c.in_default.ensures.gone c.args.tick.0 _

pub returns-then-marks : goal.returns-then-marks
returns-then-marks g c =
    let s = c.args.self.now in
    let stands = λ (u : ℕ). can_stand (g.M.FloorMap.floor s.map.now) s.trips.now (with_one c.args.more s.bans.now) c.args.cart.0 u c.args.place.0 in
    let here : stands c.loop-u.u ≡ true = search rules in
    let is = sym (some_below_holds stands c.loop-u.u c.args.tick.0 (omega (arith, c.in-Some.ensures)) here) in
    record { computed = is; means = Decides-at _ _ is (decides_stands_before _ _ _ _ (g.met.M.FloorMap.lawful _) _ _) }

pub returns-clause-computed : goal.returns-clause-computed
returns-clause-computed g c = search (rules, some_below_more)

pub returns-clause-means : goal.returns-clause-means
returns-clause-means g c = Decides-at _ _ (search (rules, some_below_more)) (decides_stands_before _ _ _ _ (g.met.M.FloorMap.lawful _) _ _)
