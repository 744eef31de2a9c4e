use Rattle.exhaust.proofs.tree.TreeSearch.+close_branch.Given as goal

abbrev pub decreases-close_branch : goal.decreases-close_branch
decreases-close_branch l = l.depth
