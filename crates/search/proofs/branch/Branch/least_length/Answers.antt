use Rattle.std.proofs.Common.{rules}
use Rattle.search.proofs.Leasts.{least_length_is}
use Rattle.search.proofs.branch.Branch.least_length.Goals as goal

pub returns-clause-means : goal.returns-clause-means
returns-clause-means g c = least_length_is _ (g.met.M.FloorMap.lawful _) _ _ _ _ _ (search rules)
