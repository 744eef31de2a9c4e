use Rattle.std.proofs.Common.{not, ◌∙◌, refl, arith, rules}
use borrow.Author.Tests.{tests}
use Rattle.std.proofs.lemmas.Iterator.Consumers.{YieldsList-at, YieldsList-from_filter, count_from_yields_List}
use Rattle.std.proofs.lemmas.Iterator.{YieldsList-from_range}
use Rattle.tally.specs.Tallies.{is_shown}
use Rattle.checking.specs.ShownRoutes.{shown_in}
use Rattle.tally.proofs.Totals.{count_below}
use Rattle.checking.proofs.sums.unshown.Goals as goal

pub returns : goal.returns
returns c =
    let n = c.args.carts in
    let shown = is_shown (shown_in c.args.routes.now) in
    count_from_yields_List c.filter.result _ c.count.ensures.ran
    (YieldsList-from_filter _ (λ a. not (shown a)) (YieldsList-at c.filter.ensures.source (YieldsList-from_range 0 n n refl (omega arith))) c.filter.ensures.closure (λ a b q called. search (rules, tests)))
    ∙ count_below shown n
