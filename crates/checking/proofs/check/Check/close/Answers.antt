use Rattle.checking.proofs.Calling.{cheaper_found, branch_closed}
use Rattle.checking.proofs.check.Check.close.Goals as goal

pub returns-then-cheaper-clause-answers : goal.returns-then-cheaper-clause-answers
returns-then-cheaper-clause-answers g c = cheaper_found c.in_ok-branch.ensures.found c.if-cheaper.ensures.computed

pub returns-clause-answers : goal.returns-clause-answers
returns-clause-answers g c = branch_closed c.in_ok-branch.ensures.found _ c.if-cheaper.ensures.computed c.close.ensures
