use Rattle.tally.proofs.Honest.{honest_succeeds}
use Rattle.tally.proofs.honest_succeeds.Goals as goal

pub returns : goal.returns
returns c = honest_succeeds
