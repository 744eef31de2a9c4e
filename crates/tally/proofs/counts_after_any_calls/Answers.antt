use Rattle.tally.proofs.Counting.{counts_taken}
use Rattle.tally.proofs.counts_after_any_calls.Goals as goal

pub returns : goal.returns
returns c = counts_taken
