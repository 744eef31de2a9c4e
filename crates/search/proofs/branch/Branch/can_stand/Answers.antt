use Rattle.std.proofs.Common.{rules}
use Rattle.std.proofs.lemmas.Bool.Decides.{Decides-at}
use Rattle.search.proofs.Standing.{decides_can_stand}
use Rattle.search.proofs.branch.Branch.can_stand.Goals as goal

pub returns-clause-means : goal.returns-clause-means
returns-clause-means g c = Decides-at _ _ (search rules) (decides_can_stand _ _ _ _ (g.met.M.FloorMap.lawful _) _ _)
