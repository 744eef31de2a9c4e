use Rattle.std.proofs.Common.{rules, not, nat_eq, take, ap, ◌+◌, ◌∙◌, arith}
use Rattle.std.specs.List.{list_any}
use Rattle.std.proofs.lemmas.Iterator.{YieldsList-from_slice}
use Rattle.std.proofs.lemmas.Iterator.Consumers.{YieldsList-from_enumerate}
use Rattle.std.proofs.lemmas.Iterator.Search.{all_from_yields_List}
use Rattle.splits.proofs.Listing.{all_new}
use Rattle.splits.proofs.corridor.places.Chain.all_differ.Goals as goal

pub returns : goal.returns
returns c =
    let ps = c.args.self.now.places in
    let n = c.args.self.now.passage.k + 1 in
    all_from_yields_List (λ e. not (list_any (λ y. nat_eq y.0 e.1.0) (take e.0 (take n ps)))) _ _ _ c.all.ensures.ran
    (YieldsList-from_enumerate (YieldsList-from_slice (take n ps) (ap (λ i. i.rest.now) c.enumerate.ensures.source ∙ c.iter.ensures.rest ∙ ap (λ k. take (k + 1) ps) c.end.ensures)) c.enumerate.ensures.count) (λ x b q k. search rules)
    ∙ all_new ps n (omega arith)
