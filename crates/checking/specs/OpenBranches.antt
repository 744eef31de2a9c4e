-- The branches that are open, from the way down to the current one.
use Rattle.std.specs.Prelude.{ℕ, zero, suc, cond, List, [], ◌∷◌, ◌++◌, length, take, Some, None, Option, slice_index_or}
use Rattle.arrayvec.specs.ArrayVec.{array_vec_len}
use Rattle.motion.specs.declared.ban.Ban.{Ban}
use Rattle.tally.specs.Tallies.{Branch}
use Rattle.checking.specs.declared.branches.Branches.{Branches}

-- a branch with these bans, one from each split that it lies under
abbrev pub branch : List Ban → Branch
branch bans = record { bans = bans; depth = length bans }

-- a right side that is still to come, at a split under which these bans lie
abbrev pub to_come : List Ban → Option Ban → List Branch
to_come bans None = []
to_come bans (Some right) = branch (bans ++ (right ∷ [])) ∷ []

-- the right sides still to come at the first d splits, the deepest first
abbrev pub rights : List Ban → List (Option Ban) → ℕ → List Branch
rights bans others zero = []
rights bans others (suc d) = to_come (take d bans) (slice_index_or others d None) ++ rights bans others d

abbrev pub current_bans : Branches → List Ban
current_bans b = take (array_vec_len b.others) b.bans

abbrev pub current : Branches → Branch
current b = branch (current_bans b)

abbrev pub branches_of : Branches → List Branch
branches_of b = cond b.open (current b ∷ rights b.bans b.others.items (array_vec_len b.others)) []
