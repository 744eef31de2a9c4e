use Rattle.std.proofs.Common.{arith}
use Rattle.std.proofs.lemmas.Grind.{common_steps}
use Rattle.search.proofs.cart_search.CartSearch.enter.Goals as goal

pub returns-else-can_enter : goal.returns-else-can_enter
returns-else-can_enter g c = λ k. let no = c.if-can_enter.ensures in grind (arith, common_steps)
