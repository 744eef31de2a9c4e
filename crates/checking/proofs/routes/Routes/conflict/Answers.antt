use Rattle.std.proofs.Common.{rules}
use borrow.Author.Tests.{tests}
use Rattle.floor.specs.Numbers.{numbers}
use Rattle.motion.specs.Listed.{in_conflict}
use Rattle.std.proofs.lemmas.Iterator.Search.{any_from_yields_List}
use Rattle.std.proofs.lemmas.Iterator.{YieldsList-from_slice}
use Rattle.checking.proofs.KeptRoutes.{some_shown}
use Rattle.checking.proofs.routes.Routes.conflict.Goals as goal

pub returns : goal.returns
returns c =
    let kept = c.args.self.now.kept.items in
    some_shown (λ s. in_conflict (numbers c.args.places.now) s.places) kept _
    (any_from_yields_List (λ k. in_conflict (numbers c.args.places.now) (numbers k.places.items)) _ _ _ c.any.ensures.ran (YieldsList-from_slice kept (cc)) (λ k b q called. search (rules, tests)))
