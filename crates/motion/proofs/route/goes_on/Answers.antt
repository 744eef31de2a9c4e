use Rattle.std.proofs.Common.{rules}
use Rattle.std.proofs.lemmas.Bool.Decides.{nat_tests}
use Rattle.motion.proofs.Reading.{step_read}
use Rattle.motion.proofs.route.goes_on.Goals as goal

pub returns-then-t-places : goal.returns-then-t-places
returns-then-t-places g c = search (rules, nat_tests, step_read)

pub returns-else-t-places : goal.returns-else-t-places
returns-else-t-places g c = search (rules, nat_tests, step_read)

pub returns-else-may_step : goal.returns-else-may_step
returns-else-may_step g c = search (rules, nat_tests, step_read)
