use Rattle.std.proofs.Common.{refl}
use Rattle.splits.proofs.OwnLetters.{own_letters, own_lawful_for_all}
use Rattle.splits.proofs.own.own_rules.Goals as goal

pub returns : goal.returns
returns c = record { are_our_own = refl; answer_as_their_conditions_tell = own_letters; lawful_for_all_carts_and_bans = own_lawful_for_all }
