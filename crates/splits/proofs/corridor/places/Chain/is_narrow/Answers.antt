use Rattle.std.proofs.Common.{rules, length, nat_eq, refl, ◌∙◌, arith}
use Rattle.std.proofs.lemmas.Iterator.{YieldsList-from_slice}
use Rattle.std.proofs.lemmas.Iterator.Search.{all_from_yields_List}
use Rattle.splits.proofs.Listing.{every_inner}
use Rattle.splits.proofs.corridor.places.Chain.is_narrow.Goals as goal

pub returns : goal.returns
returns g c =
    let f = g.M.FloorMap.floor c.args.map.now in
    all_from_yields_List (λ p. nat_eq (length (f.next p.0)) 2) _ _ _ c.all.ensures.ran (YieldsList-from_slice _ (c.iter.ensures.rest ∙ c.inner.ensures)) (λ x b q k. search rules)
    ∙ every_inner _ (λ p. nat_eq (length (f.next p)) 2) (λ p. refl) c.args.self.now.places c.args.self.now.passage.k (omega arith) (omega arith)
