use Rattle.std.proofs.Common.{refl}
use Rattle.outside.specs.SingleLemmas.{single_lawful}
use Rattle.outside.proofs.NotForAll.{not_lawful_for_all}
use Rattle.outside.proofs.single.single_rule.Goals as goal

pub returns : goal.returns
returns c = record { means_its_rules = refl; lawful_in_a_check = single_lawful; not_lawful_for_all_carts = not_lawful_for_all }
