use Rattle.std.proofs.Common.{rules, nat_lt, sym, ◌∙◌}
use Rattle.std.proofs.lemmas.Iterator.{YieldsList-from_slice}
use Rattle.std.proofs.lemmas.Iterator.Search.{all_from_yields_List}
use Rattle.std.proofs.lemmas.List.Folds.{list_all-map}
use Rattle.motion.proofs.route.on_floor.Goals as goal

pub returns : goal.returns
returns g c =
    let count = (g.M.FloorMap.floor c.args.map.now).count in
    all_from_yields_List (λ p. nat_lt p.0 count) _ _ _ c.all.ensures.ran (YieldsList-from_slice c.args.places.now cc) (λ x b f k. search rules)
    ∙ sym (list_all-map (λ p. nat_lt p count) (λ p. p.0) c.args.places.now)
