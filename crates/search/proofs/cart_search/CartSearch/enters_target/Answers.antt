use Rattle.std.proofs.Common.{◌&&◌, ℕ, rules, ap, ◌∙◌}
use Rattle.std.proofs.lemmas.Iterator.Consumers.{YieldsList-from_first}
use Rattle.std.proofs.lemmas.Iterator.Search.{any_from_yields_List}
use Rattle.floor.specs.Tests.{some}
use Rattle.motion.specs.declared.trip.Trip.{Trip}
use Rattle.search.specs.BanLists.{all_bans}
use Rattle.search.specs.Rows.{marked, can_go}
use Rattle.search.proofs.cart_search.CartSearch.enters_target.Goals as goal

pub returns : goal.returns
returns g c =
    let s = c.args.self.now in
    let f = g.M.FloorMap.floor s.map.now in
    let leads = λ (trip : Trip) (p : ℕ). marked c.args.row.now p && can_go (all_bans s.bans) s.cart.0 c.args.t.0 p trip.target.0 in
    any_from_yields_List (leads c.trip_of.result) _ _ _ c.any.ensures.ran (YieldsList-from_first _ _ _ c.neighbours_of.ensures) (λ x b f k. search rules)
    ∙ ap (λ (trip : Trip). some (leads trip) (f.next trip.target.0)) c.trip_of.ensures
