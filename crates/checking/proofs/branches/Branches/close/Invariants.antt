use Rattle.std.proofs.Common.{◌≡◌, true, length}
use Rattle.checking.specs.OpenBranches.{rights}
use Rattle.checking.proofs.branches.Branches.close.Given as goal

-- the right sides still to come are those that the loop began with
abbrev pub invariant-loop-other : goal.invariant-loop-other
invariant-loop-other l =
    (rights l.self.bans l.self.others.items (length l.self.others.items) ≡ rights l.initial.self.bans l.initial.self.others.items (length l.initial.self.others.items))
    × (l.self.open ≡ true)

abbrev pub decreases-loop-other : goal.decreases-loop-other
decreases-loop-other l = length l.self.others.items
