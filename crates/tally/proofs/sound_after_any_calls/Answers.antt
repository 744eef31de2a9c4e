use Rattle.tally.proofs.Holding.{sound_after_any_calls}
use Rattle.tally.proofs.sound_after_any_calls.Goals as goal

pub returns : goal.returns
returns c = sound_after_any_calls
