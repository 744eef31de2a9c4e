use Rattle.std.specs.Prelude.{◌≡◌, Bool, true, false, cond}
use Rattle.std.proofs.Common.{⊎_elim}
use Rattle.std.proofs.lemmas.Bool.{or_cases}
use Rattle.splits.specs.Beside.{beside}
use Rattle.splits.specs.Rules.{Rules, LawfulRules}

-- what follows from either of two values being w follows from the chosen one being w
pub either_way : {A Q : Type 0} {x y w : A} (first : Bool) → (x ≡ w → Q) → (y ≡ w → Q) → cond first x y ≡ w → Q
either_way true p q = p
either_way false p q = q

pub beside_lawful : (a b : Rules) → LawfulRules a → LawfulRules b → LawfulRules (beside a b)
beside_lawful a b la lb = record {
  fresh = λ l known reserved. ⊎_elim (λ e. la.fresh l e reserved) (λ e. lb.fresh l e reserved) (or_cases _ _ known);
  fits = λ l bytes n. either_way (a.knows l) (la.fits l bytes n) (lb.fits l bytes n);
  names = λ f trips bans l ops left right asked. either_way (a.knows l) (la.names f trips bans l ops left right asked) (lb.names f trips bans l ops left right asked);
  covers = λ f trips bans l ops left right asked. either_way (a.knows l) (la.covers f trips bans l ops left right asked) (lb.covers f trips bans l ops left right asked);
}
