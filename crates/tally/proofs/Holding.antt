-- What holds at the start and after every list of calls.
use Rattle.std.proofs.Common.{arith}
use Rattle.tally.specs.Laws.{SoundAfterAnyCalls}
use Rattle.tally.specs.StandsAs.{ShownIn}
use Rattle.tally.proofs.Barring.{barred_standing, passes_with_none_open}
use Rattle.tally.proofs.Completing.{shown_least, shown_not_below}
use Rattle.tally.proofs.Counting.{counts_agree}
use Rattle.tally.proofs.Covering.{none_open_no_rival, rivals_covered}
use Rattle.tally.proofs.Limiting.{within_limits}
use Rattle.tally.proofs.Naming.{bans_named}
use Rattle.tally.proofs.Reaching.{filled}
use Rattle.tally.proofs.Settling.{complete_from_least, least_from_complete, other_from_settled}
use Rattle.tally.proofs.Showing.{shown_exactly, shown_well}
use Rattle.tally.proofs.Verdicts.{stands_exactly}
use Rattle.tally.proofs.Taking.{call_exactly, refusal_exactly}

pub sound_after_any_calls : SoundAfterAnyCalls
sound_after_any_calls o sound t reached = record {
  taken_exactly = call_exactly o sound t (filled o sound t reached);
  refused_exactly = refusal_exactly o sound t (filled o sound t reached);
  barred_stands = barred_standing o sound t reached;
  stands_exactly = stands_exactly o t (ShownIn t) (shown_exactly o sound t reached);
  counts_agree = counts_agree o sound t reached;
  limits = within_limits o sound t reached;
  bans_named = bans_named o sound t reached;
  rivals_covered = rivals_covered o sound t reached;
  none_open_no_rival = none_open_no_rival o sound t reached;
  least_exactly = (complete_from_least o t, λ complete. least_from_complete o t (passes_with_none_open o sound t reached complete.none_open) complete);
  least_shown = λ says. let complete = complete_from_least o t says in
      shown_least o t (shown_well o sound t reached) complete.all_shown (none_open_no_rival o sound t reached complete.none_open) complete.sums;
  other_sum_is_above = λ s says.
      let other = other_from_settled o t s says in
      let least = shown_not_below o t (shown_well o sound t reached) other.all_shown (none_open_no_rival o sound t reached other.none_open) in
      let sums = other.sums in
      omega (arith, least, sums, other.not_claim);
}
