-- What holds of every list of calls.
use Rattle.std.proofs.Common.{List, refl}
use Rattle.tally.specs.Calls.{Call}
use Rattle.tally.specs.Openings.{Opening, LawfulOpening}
use Rattle.tally.proofs.Counting.{counts_taken}
use Rattle.tally.proofs.Holding.{sound_after_any_calls}
use Rattle.tally.proofs.Honest.{honest_succeeds}
use Rattle.checking.specs.Runs.{SoundAndComplete}

pub sound_and_complete : (o : Opening) → LawfulOpening o → (calls : List Call) → SoundAndComplete o calls
sound_and_complete o sound calls = record {
  sound_after_every_call = λ before rest _. sound_after_any_calls o sound _ (before, refl);
  counts_after_every_call = λ before rest _. counts_taken o sound before;
  honest_plans_succeed = λ openable plan merged. honest_succeeds o sound openable plan calls merged;
}
