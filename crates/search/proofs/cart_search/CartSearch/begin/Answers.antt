use Rattle.std.proofs.Common.{false, ◌&&◌, eqb, arith}
use Rattle.std.proofs.lemmas.List.FromFn.{fill_by_all}
use Rattle.motion.specs.Routes.{start_of}
use Rattle.search.specs.BanLists.{all_bans}
use Rattle.search.specs.Rows.{can_be}
use Rattle.search.proofs.cart_search.CartSearch.begin.Goals as goal

pub returns : goal.returns
returns g c =
    let s = c.args.self.now in
    fill_by_all (λ k. eqb k (start_of s.trips.now s.cart.0) && can_be s.trips.now (all_bans s.bans) s.cart.0 0 k) c.loop-p.row _ false (omega arith)
    (λ k h. c.loop-p.invariant k (omega arith))
