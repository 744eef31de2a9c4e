use Rattle.std.proofs.Common.{not, nat_eq, ap, ◌∙◌, arith}
use Rattle.std.specs.List.{list_any}
use Rattle.splits.proofs.Listing.{not_inner}
use Rattle.splits.proofs.corridor.places.Chain.is_outside.Goals as goal

pub returns : goal.returns
returns c =
    ap not (c.contains.ensures.value ∙ ap (list_any (λ p. nat_eq p.0 c.args.trip.start.0)) c.inner.ensures) ∙
    not_inner c.args.trip.start.0 c.args.self.now.places c.args.self.now.passage.k (omega arith) (omega arith)
