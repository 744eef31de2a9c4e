use Rattle.std.proofs.Common.{◌≤◌}
use Rattle.account.proofs.picture.tell_picture.Given as goal

abbrev pub invariant-loop-p : goal.invariant-loop-p
invariant-loop-p l = 1 ≤ l.width
