-- A neighbour is what the list of neighbours has.
use Rattle.std.proofs.Common.{ℕ, Decides}
use Rattle.floor.specs.Floor.{Floor, Joined}
use Rattle.floor.specs.Joins.{is_joined}
use Rattle.floor.proofs.Deciding.{decides_some}
use Rattle.std.proofs.lemmas.List.Elements.{Decides-contains}
use Rattle.std.proofs.lemmas.Bool.Decides.{Decides-eqb}

pub decides_joined : (f : Floor) (p q : ℕ) → Decides (is_joined f p q) (Joined f p q)
decides_joined f p q = Decides-contains _ q _ (decides_some _ _ (λ n. Decides-eqb n q) (f.next p))
