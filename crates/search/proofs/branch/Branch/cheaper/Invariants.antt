use Rattle.std.proofs.Common.{◌≡◌}
use Rattle.search.specs.Least.{least_below}
use Rattle.search.specs.Sums.{sum_below, capped}
use Rattle.search.proofs.branch.Branch.cheaper.Given as goal

abbrev pub invariant-loop-a : goal.invariant-loop-a
invariant-loop-a g l =
    let s = l.self in
    l.sum ≡ capped l.claim (sum_below (λ a. least_below (g.M.FloorMap.floor s.map.now) s.trips.now s.bans.now a l.claim) l.a)
