use Rattle.std.proofs.Common.{rules, nat_eq, not, unwrap_or, ap, ◌∙◌}
use Rattle.std.proofs.lemmas.Iterator.Consumers.{YieldsList-from_first}
use Rattle.std.proofs.lemmas.Iterator.Search.{find_from_yields_List}
use Rattle.splits.proofs.Listing.{first_other, or_place_0}
use Rattle.splits.proofs.corridor.places.onward.Goals as goal

pub returns : goal.returns
returns g c =
    let found = find_from_yields_List (λ n. not (nat_eq n c.args.p.0)) _ _ c.find.result c.find.ensures.ran (YieldsList-from_first _ _ _ c.neighbours_of.ensures) (λ x b f k. search rules) in
    let law = g.met.M.FloorMap.lawful c.args.map.now in
    ap (λ q. q.0) c.unwrap_or.ensures ∙ or_place_0 c.find.result ∙ ap (λ o. unwrap_or o 0) found ∙ first_other _ c.args.p.0 (law.once c.args.q.0)
