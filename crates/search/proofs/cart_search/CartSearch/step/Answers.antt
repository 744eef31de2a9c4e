use Rattle.std.proofs.Common.{◌≡◌, false, ap, ◌∙◌, arith}
use Rattle.std.proofs.lemmas.List.FromFn.{fill_by_all}
use Rattle.search.specs.BanLists.{all_bans}
use Rattle.search.specs.Pushes.{pushed}
use Rattle.search.specs.Rows.{reached}
use Rattle.search.proofs.Pushed.{pushed_all}
use Rattle.search.proofs.cart_search.CartSearch.step.Goals as goal

pub returns : goal.returns
returns g c =
    let s = c.args.self.now in
    let f = g.M.FloorMap.floor s.map.now in
    let bans = all_bans s.bans in
    let end : c.loop-p.p ≡ f.count = omega arith in
    fill_by_all (reached f s.trips.now bans s.cart.0 c.args.t.0 c.args.row.now) c.loop-p.next _ false (omega arith)
    (λ k h. c.loop-p.invariant k ∙ ap (λ n. pushed f s.trips.now bans s.cart.0 c.args.t.0 c.args.row.now n k) end
    ∙ pushed_all f s.trips.now bans s.cart.0 c.args.t.0 c.args.row.now (g.met.M.FloorMap.lawful s.map.now) k h)
