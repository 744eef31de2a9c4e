use Rattle.std.proofs.Common.{◌≡◌, ◌+◌, true, rules, sym, refl, add-one, arith}
use Rattle.search.specs.BanLists.{all_bans}
use Rattle.search.specs.Least.{possible}
use Rattle.search.proofs.Firsts.{first_found}
use Rattle.search.proofs.cart_search.CartSearch.least.Goals as goal

pub returns-then-starts_at_target : goal.returns-then-starts_at_target
returns-then-starts_at_target g c =
    let s = c.args.self.now in
    let can = possible (g.M.FloorMap.floor s.map.now) s.trips.now (all_bans s.bans) s.cart.0 in
    let here : can 0 ≡ true = search rules in
    first_found can 0 c.args.limit.0.0 (omega (arith, c.in_ok-last.ensures)) refl here

pub returns-then-ends_at : goal.returns-then-ends_at
returns-then-ends_at g c =
    let s = c.args.self.now in
    let can = possible (g.M.FloorMap.floor s.map.now) s.trips.now (all_bans s.bans) s.cart.0 in
    let ends = rw (add-one, c.loop-u.invariant.0) at c.if-ends_at.ensures in
    let here : can (c.loop-u.u + 1) ≡ true = rw add-one (sym ends) in
    first_found can (c.loop-u.u + 1) c.args.limit.0.0 (omega (arith, c.in_ok-last.ensures)) c.loop-u.invariant.1 here
