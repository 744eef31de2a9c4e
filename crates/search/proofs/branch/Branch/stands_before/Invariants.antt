use Rattle.std.proofs.Common.{◌≡◌, false}
use Rattle.search.specs.BanLists.{all_bans}
use Rattle.search.specs.Rows.{row_at, stands_before}
use Rattle.search.specs.Workspaces.{marks_in}
use Rattle.search.proofs.branch.Branch.stands_before.Given as goal

-- the row is that of tick u, and no row before it marks the place
abbrev pub invariant-loop-u : goal.invariant-loop-u
invariant-loop-u g l =
    let s = l.search in
    let f = g.M.FloorMap.floor s.map.now in
    (marks_in f.count l.work ≡ row_at f s.trips.now (all_bans s.bans) s.cart.0 l.u) × (stands_before f s.trips.now (all_bans s.bans) s.cart.0 l.u l.place.0 ≡ false)
