-- The bans that are kept, as one list.
use Rattle.std.specs.Prelude.{List, ◌∷◌, Some, None, Option}
use Rattle.motion.specs.declared.ban.Ban.{Ban}
use Rattle.search.specs.declared.bans.Bans.{Bans}

-- one ban more, where there is one
abbrev pub with_one : Option Ban → List Ban → List Ban
with_one None bans = bans
with_one (Some b) bans = b ∷ bans

-- the bans of a branch, and one more where there is one
abbrev pub all_bans : Bans → List Ban
all_bans b = with_one b.more b.branch.now
