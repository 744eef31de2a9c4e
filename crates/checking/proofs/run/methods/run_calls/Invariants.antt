use Rattle.std.proofs.Common.{◌≡◌}
use Rattle.checking.specs.Checks.{opening_of}
use Rattle.tally.specs.Standings.{standing}
use Rattle.tally.specs.Tallies.{at_start}
use Rattle.checking.proofs.Running.{RunsTo}
use Rattle.checking.proofs.run.methods.run_calls.Given as goal

-- the calls made so far have led to the check and to their steps
abbrev pub invariant-loop-call : goal.invariant-loop-call
invariant-loop-call g l =
    let o = opening_of g.M.FloorMap.floor g.R.SplitRule.rules l.fn.terms in
    RunsTo o l.fn.calls l.call-index (opening_of g.M.FloorMap.floor g.R.SplitRule.rules l.check.terms) l.check.book l.calls × (l.start ≡ standing o at_start) × (l.card.number ≡ o.card)
