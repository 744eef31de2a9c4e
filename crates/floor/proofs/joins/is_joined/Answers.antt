use Rattle.std.proofs.Common.{rules, nat_eq}
use Rattle.std.proofs.lemmas.Iterator.Consumers.{YieldsList-from_first}
use Rattle.std.proofs.lemmas.Iterator.Search.{any_from_yields_List}
use Rattle.floor.proofs.joins.is_joined.Goals as goal

pub returns-clause-computed : goal.returns-clause-computed
returns-clause-computed g c =
    any_from_yields_List (λ n. nat_eq n c.args.q.0) _ _ _ c.any.ensures.ran (YieldsList-from_first _ _ _ c.neighbours_of.ensures) (λ x b f k. search rules)
