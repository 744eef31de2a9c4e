use Rattle.cursor.proofs.Words.{bytes_fit}
use Rattle.plan.proofs.SoundAndComplete.{plan_sound_and_complete}
use Rattle.plan.proofs.check.check_plan.Goals as goal

pub returns-in_err-heading-clause-sound_and_complete : goal.returns-in_err-heading-clause-sound_and_complete
returns-in_err-heading-clause-sound_and_complete g c =
    plan_sound_and_complete _ _ (g.met.M.FloorMap.lawful c.args.map.now) (g.met.R.SplitRule.lawful c.args.rules.now) _ (bytes_fit _ c.type_inv.bytes)

pub returns-clause-sound_and_complete : goal.returns-clause-sound_and_complete
returns-clause-sound_and_complete g c =
    plan_sound_and_complete _ _ (g.met.M.FloorMap.lawful c.args.map.now) (g.met.R.SplitRule.lawful c.args.rules.now) _ (bytes_fit _ c.type_inv.bytes)
