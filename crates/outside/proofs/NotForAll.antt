-- For all carts letter S is not lawful: in a row of one place it names the target of a cart that has to be elsewhere.
use Rattle.std.proofs.Common.{[], ◌∷◌, refl, arith}
use Rattle.splits.specs.Rules.{LawfulForAll}
use Rattle.outside.specs.Row.{row_floor}
use Rattle.outside.specs.RowLemmas.{row_lawful}
use Rattle.outside.specs.Single.{single_letter, single_rules}

pub not_lawful_for_all : LawfulForAll single_rules → ⊥
not_lawful_for_all lawful =
    let sides = lawful (row_floor 1) (row_lawful 1 (omega arith, omega arith)) (record { start = record { 0 = 0 }; target = record { 0 = 1 } } ∷ []) [] single_letter (0 ∷ 0 ∷ 0 ∷ []) _ refl in
    omega (arith, sides.0.1)
