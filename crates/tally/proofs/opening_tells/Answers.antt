use Rattle.tally.proofs.Opening.{opening_tells}
use Rattle.tally.proofs.opening_tells.Goals as goal

pub returns : goal.returns
returns c = opening_tells
