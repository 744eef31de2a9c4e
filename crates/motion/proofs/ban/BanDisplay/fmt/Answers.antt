-- At the other three bans the check finds the equation by itself.
use Rattle.motion.proofs.ban.BanDisplay.fmt.Goals as goal

pub returns-in-Late-clause-writes : goal.returns-in-Late-clause-writes
returns-in-Late-clause-writes g c = rw c.in-Late.is c.write-in-Late.ensures.writes
