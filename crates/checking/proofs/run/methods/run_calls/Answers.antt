use Rattle.std.proofs.Common.{ap}
use Rattle.checking.specs.Checks.{opening_of}
use Rattle.checking.proofs.Running.{runs_more}
use Rattle.checking.proofs.SoundAndComplete.{sound_and_complete}
use Rattle.checking.proofs.run.methods.run_calls.Goals as goal

pub loop-call-preserved : goal.loop-call-preserved
loop-call-preserved g c =
    let stays = ap (opening_of g.M.FloorMap.floor g.R.SplitRule.rules) c.call-answer.ensures.still in (
      runs_more _ _ _ _ _ _ c.loop-call.invariant.0 _ c.loop-call-test.true _ _ _ _ c.call-answer.ensures.answers stays c.standing-standing.ensures,
      c.loop-call.invariant.1,
      c.loop-call.invariant.2,
    )

pub returns-clause-sound_and_complete : goal.returns-clause-sound_and_complete
returns-clause-sound_and_complete g c =
    sound_and_complete _ (record { floor = g.met.M.FloorMap.lawful c.args.terms.map.now; rules = g.met.R.SplitRule.lawful c.args.terms.rules.now }) _
