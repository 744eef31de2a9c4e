use Rattle.std.proofs.Common.{◌≡◌, ◌<◌, ◌∷◌, ℕ, All, refl, arith}
use Rattle.std.proofs.lemmas.Grind.{common_steps}
use Rattle.std.proofs.lemmas.List.Elements.{All-tail, Contains-get_or}
use Rattle.floor.specs.Floor.{Floor, Lawful}
use Rattle.search.proofs.cart_search.CartSearch.push_from.Goals as goal

neighbours_on_floor : (f : Floor) → Lawful f → (p : ℕ) → All (λ q. q < f.count) (f.next p)
neighbours_on_floor f law p = λ k d lt. (law.on_floor p _ (Contains-get_or (f.next p) k d lt)).1

pub loop-q-init : goal.loop-q-init
loop-q-init g c =
    let f = g.M.FloorMap.floor c.args.self.now.map.now in
    let all : c.into_iter-q-iterator.result ≡ f.next c.args.p.0 = cc in
    rw all (neighbours_on_floor f (g.met.M.FloorMap.lawful c.args.self.now.map.now) c.args.p.0, λ k. refl)

pub loop-q-preserved : goal.loop-q-preserved
loop-q-preserved g c =
    let f = g.M.FloorMap.floor c.args.self.now.map.now in
    let left : c.loop-q.q-iterator ≡ c.in-Some.q.0 ∷ c.next.new.self = c.in-Some.ensures.steps in
    let inv = rw left at c.loop-q.invariant in
    (All-tail (λ (x : ℕ). x < f.count) c.in-Some.q.0 c.next.new.self inv.0, λ k. let before = inv.1 k in let now = c.enter-in-loop-q.ensures k in grind (arith, common_steps))
