use Rattle.std.proofs.Common.{◌≡◌, ℕ, ◌<◌, ◌&&◌, eqb}
use Rattle.motion.specs.Routes.{start_of}
use Rattle.search.specs.BanLists.{all_bans}
use Rattle.search.specs.Rows.{marked, can_be}
use Rattle.search.proofs.cart_search.CartSearch.begin.Given as goal

abbrev pub invariant-loop-p : goal.invariant-loop-p
invariant-loop-p g l =
    let s = l.self in
    (k : ℕ) → k < l.p → marked l.row k ≡ (eqb k (start_of s.trips.now s.cart.0) && can_be s.trips.now (all_bans s.bans) s.cart.0 0 k)
