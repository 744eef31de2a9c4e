use Rattle.std.proofs.Common.{◌≡◌, suc, ◌≤◌, is_some, take}
use Rattle.std.specs.List.{count_by}
use Rattle.checking.proofs.branches.Branches.count.Given as goal

-- the current branch, and those to come at the splits that were looked at
abbrev pub invariant-loop-other : goal.invariant-loop-other
invariant-loop-other l = (l.count ≡ suc (count_by is_some (take l.other-index l.self.others.items))) × (l.count ≤ suc l.other-index)
