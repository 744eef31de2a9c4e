use Rattle.std.proofs.Common.{◌≡◌, rules, arith, refl, max, length}
use Rattle.floor.specs.Tests.{some_below}
use Rattle.std.proofs.lemmas.Bool.Decides.{nat_tests}
use Rattle.std.proofs.lemmas.Iterator.{YieldsList-from_range}
use Rattle.std.proofs.lemmas.Iterator.Search.{any_from_yields_List}
use Rattle.floor.specs.Numbers.{numbers}
use Rattle.motion.specs.Listed.{clash, place_at}
use Rattle.motion.proofs.Conflicting.{conflict_test_tells}
use Rattle.motion.proofs.Reading.{conflict_read}
use Rattle.motion.proofs.route.in_conflict.Goals as goal

pub returns-then-not-is_empty-2-clause-is_the_conflict_test : goal.returns-then-not-is_empty-2-clause-is_the_conflict_test
returns-then-not-is_empty-2-clause-is_the_conflict_test c =
    let clashes = clash (place_at (numbers c.args.a.now)) (place_at (numbers c.args.b.now)) in
    let some : c.any.result ≡ some_below clashes (max (length c.args.a.now) (length c.args.b.now)) =
    any_from_yields_List clashes _ _ _ c.any.ensures.ran (YieldsList-from_range 0 _ _ refl (omega arith)) (λ t b q k. search rules)
    in
    search (rules, nat_tests, conflict_read)

pub returns-then-not-is_empty-2-clause-conflict_exactly : goal.returns-then-not-is_empty-2-clause-conflict_exactly
returns-then-not-is_empty-2-clause-conflict_exactly c = conflict_test_tells _ _

pub returns-else-not-is_empty-2-clause-is_the_conflict_test : goal.returns-else-not-is_empty-2-clause-is_the_conflict_test
returns-else-not-is_empty-2-clause-is_the_conflict_test c = search (rules, nat_tests, conflict_read)
