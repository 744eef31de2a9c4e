use Rattle.std.proofs.Common.{rules, eqb}
use borrow.Author.Tests.{tests}
use Rattle.std.proofs.lemmas.Iterator.Search.{any_from_yields_List}
use Rattle.std.proofs.lemmas.Iterator.{YieldsList-from_slice}
use Rattle.checking.proofs.KeptRoutes.{some_shown}
use Rattle.checking.proofs.routes.Routes.has.Goals as goal

pub returns : goal.returns
returns c =
    let kept = c.args.self.now.kept.items in
    some_shown (λ s. eqb s.cart c.args.cart.0) kept _
    (any_from_yields_List (λ k. eqb k.cart.0 c.args.cart.0) _ _ _ c.any.ensures.ran (YieldsList-from_slice kept (cc)) (λ k b q called. search (rules, tests)))
