use Rattle.std.proofs.Common.{◌≡◌, ◌+◌, ◌∙◌, Ok, ap, sym, refl, arith}
use Rattle.plan.specs.Cursors.{as_found, items_left}
use Rattle.plan.proofs.Passing.{found_within, read_on, read_end, read_fault}
use Rattle.plan.proofs.commands.CommandsIterator.next.Goals as goal

pub returns-in-Ok-Some-clause-steps : goal.returns-in-Ok-Some-clause-steps
returns-in-Ok-Some-clause-steps g c =
    let r = g.R.SplitRule.rules c.self.inside.rules.now in
    let law = g.met.R.SplitRule.lawful c.self.inside.rules.now in
    let here = c.in_ok-here.here in
    let found = c.command_at.ensures ∙ ap as_found c.in-Ok-Some.is ∙ ap (λ x. as_found (Ok x)) c.in-Ok-Some.field-0-is in
    let within = found_within r law here.at here.bytes.now _ _ found in
    let ends : c.behind.result.at ≡ here.at + (1 + c.in-Ok-Some.width) = omega (arith, within) in
    sym c.self.view_is ∙ ap (items_left r) (sym c.take.ensures.value ∙ c.in_ok-here.was) ∙ read_on r law here.at here.bytes.now _ _ found ∙ rw (ends, c.behind.ensures.bytes) refl

pub returns-in-Ok-Some-clause-goes : goal.returns-in-Ok-Some-clause-goes
returns-in-Ok-Some-clause-goes g c = let steps = returns-in-Ok-Some-clause-steps g c in record { on = λ _. (tt, tt, grind (arith, steps)); keeps = tt; rests = λ _. tt }

pub returns-in-Ok-None-clause-steps : goal.returns-in-Ok-None-clause-steps
returns-in-Ok-None-clause-steps g c =
    let r = g.R.SplitRule.rules c.self.inside.rules.now in
    let here = c.in_ok-here.here in
    let reads = read_end r here.at here.bytes.now (c.command_at.ensures ∙ ap as_found c.in-Ok-None.is ∙ ap (λ x. as_found (Ok x)) c.in-Ok-None.field-0-is) in
    (sym c.self.view_is ∙ ap (items_left r) (sym c.take.ensures.value ∙ c.in_ok-here.was) ∙ reads, rw c.take.ensures.after refl)

pub returns-in-Err-clause-steps : goal.returns-in-Err-clause-steps
returns-in-Err-clause-steps g c =
    let r = g.R.SplitRule.rules c.self.inside.rules.now in
    let here = c.in_ok-here.here in
    let reads = read_fault r here.at here.bytes.now _ (c.command_at.ensures ∙ ap as_found c.in-Err.is) in
    sym c.self.view_is ∙ ap (items_left r) (sym c.take.ensures.value ∙ c.in_ok-here.was) ∙ reads ∙ rw c.take.ensures.after refl

pub returns-in-Err-clause-goes : goal.returns-in-Err-clause-goes
returns-in-Err-clause-goes g c = let steps = returns-in-Err-clause-steps g c in record { on = λ _. (tt, tt, grind (arith, steps)); keeps = tt; rests = λ _. tt }
