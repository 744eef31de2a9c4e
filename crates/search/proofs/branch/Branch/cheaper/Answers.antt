use Rattle.std.proofs.Common.{rules}
use Rattle.std.proofs.lemmas.Bool.Decides.{Decides-at}
use Rattle.search.proofs.Sets.{decides_cheaper}
use Rattle.search.proofs.branch.Branch.cheaper.Goals as goal

pub returns-clause-means : goal.returns-clause-means
returns-clause-means g c = Decides-at _ _ (search rules) (decides_cheaper _ (g.met.M.FloorMap.lawful _) _ _ _)
