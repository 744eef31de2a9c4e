use Rattle.std.proofs.Common.{true, false, refl, arith}
use Rattle.std.proofs.lemmas.Bool.Decides.{nat_tests}
use Rattle.checking.proofs.OpeningTests.{opened_by}
use Rattle.checking.proofs.terms.Terms.opened.Goals as goal

pub returns-then-not-contains : goal.returns-then-not-contains
returns-then-not-contains g c = opened_by _ false _ _ _ (grind (arith, nat_tests)) refl refl refl

pub returns-then-self-gt-MOST_CLAIM : goal.returns-then-self-gt-MOST_CLAIM
returns-then-self-gt-MOST_CLAIM g c = opened_by _ true false _ _ (grind (arith, nat_tests)) (grind (arith, nat_tests)) refl refl

pub returns-then-not-are_on_floor : goal.returns-then-not-are_on_floor
returns-then-not-are_on_floor g c = opened_by _ true true false _ (grind (arith, nat_tests)) (grind (arith, nat_tests)) c.if-not-are_on_floor.ensures refl

pub returns-then-not-are_apart : goal.returns-then-not-are_apart
returns-then-not-are_apart g c =
    opened_by _ true true true false (grind (arith, nat_tests)) (grind (arith, nat_tests)) c.if-not-are_on_floor.ensures c.if-not-are_apart.ensures

pub returns : goal.returns
returns g c = opened_by _ true true true true (grind (arith, nat_tests)) (grind (arith, nat_tests)) c.if-not-are_on_floor.ensures c.if-not-are_apart.ensures
