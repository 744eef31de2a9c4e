use Rattle.std.proofs.Common.{◌≡◌, ℕ, ◌<◌, ◌&&◌, ◌||◌, eqb, All}
use Rattle.floor.specs.Tests.{some}
use Rattle.search.specs.BanLists.{all_bans}
use Rattle.search.specs.Pushes.{can_enter}
use Rattle.search.specs.Rows.{marked}
use Rattle.search.proofs.cart_search.CartSearch.push_from.Given as goal

-- the neighbours that are left are on the floor, and make of this row what all of them make of the first
abbrev pub invariant-loop-q : goal.invariant-loop-q
invariant-loop-q g l =
    let f = g.M.FloorMap.floor l.self.map.now in
    let enters = λ (k : ℕ). can_enter l.self.trips.now (all_bans l.self.bans) l.self.cart.0 l.t.0 l.p.0 k in
    All (λ x. x < f.count) l.q-iterator
    × ((k : ℕ) → ((some (λ x. eqb x k) l.q-iterator && enters k) || marked l.next k)
    ≡ ((some (λ x. eqb x k) (f.next l.p.0) && enters k) || marked l.initial.next k))
