use Rattle.std.proofs.Common.{◌≡◌, ℕ}
use Rattle.search.specs.BanLists.{all_bans}
use Rattle.search.specs.Pushes.{pushed}
use Rattle.search.specs.Rows.{marked}
use Rattle.search.proofs.cart_search.CartSearch.step.Given as goal

abbrev pub invariant-loop-p : goal.invariant-loop-p
invariant-loop-p g l =
    (k : ℕ) → marked l.next k ≡ pushed (g.M.FloorMap.floor l.self.map.now) l.self.trips.now (all_bans l.self.bans) l.self.cart.0 l.t.0 l.row l.p k
