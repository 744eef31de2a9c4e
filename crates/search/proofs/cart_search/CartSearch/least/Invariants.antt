use Rattle.std.proofs.Common.{◌≡◌, ◌+◌, None}
use Rattle.search.specs.BanLists.{all_bans}
use Rattle.search.specs.Rows.{row_at}
use Rattle.search.specs.Least.{least_below}
use Rattle.search.specs.Workspaces.{marks_in}
use Rattle.search.proofs.cart_search.CartSearch.least.Given as goal

-- the row is that of tick u, and no length up to u is possible
abbrev pub invariant-loop-u : goal.invariant-loop-u
invariant-loop-u g l =
    let s = l.self in
    let f = g.M.FloorMap.floor s.map.now in
    (marks_in f.count l.work ≡ row_at f s.trips.now (all_bans s.bans) s.cart.0 l.u) × (least_below f s.trips.now (all_bans s.bans) s.cart.0 (l.u + 1) ≡ None)
