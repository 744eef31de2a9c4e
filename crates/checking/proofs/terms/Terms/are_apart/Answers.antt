use Rattle.std.proofs.Common.{arith, rules, length}
use borrow.Author.Tests.{tests}
use Rattle.floor.specs.Tests.{every_below}
use Rattle.std.proofs.lemmas.Iterator.Search.{all_from_yields_List}
use Rattle.std.proofs.lemmas.Iterator.{YieldsList-from_range}
use Rattle.tally.specs.Openings.{are_apart}
use Rattle.checking.specs.Checks.{opening_of}
use Rattle.checking.proofs.terms.Terms.are_apart.Goals as goal

pub returns : goal.returns
returns g c =
    let o = opening_of g.M.FloorMap.floor g.R.SplitRule.rules c.args.self.now in
    let n = length o.trips in
    all_from_yields_List (λ a. every_below (are_apart o a) a) _ _ _ c.all.ensures.ran (YieldsList-from_range 0 n n (cc) (omega arith)) (λ t b q called. search (rules, tests))
