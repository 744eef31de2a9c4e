use Rattle.std.proofs.Common.{Ok, ap, ◌∙◌}
use Rattle.tally.specs.Standings.{verdict_of}
use Rattle.checking.proofs.Calling.{few_carts, verdict_told}
use Rattle.checking.proofs.check.Check.verdict.Goals as goal

pub unshown-requires : goal.unshown-requires
unshown-requires g c = few_carts _ c.in_default.ensures

pub shown_sum-requires : goal.shown_sum-requires
shown_sum-requires g c = few_carts _ c.in_default.ensures

pub returns : goal.returns
returns g c =
    c.of.ensures ∙ ap (verdict_of (Ok tt) c.args.branches c.unshown.result c.shown_sum.result) c.from.ensures
    ∙ verdict_told _ c.args.self.now.book c.in_default.ensures _ _ _ c.requires c.unshown.ensures c.shown_sum.ensures
