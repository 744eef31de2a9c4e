-- The number and the word of each refusal.
use Rattle.std.specs.Prelude.{ℕ, List, codes}
use Rattle.splits.specs.declared.refusal.SplitRefusal.{SplitRefusal}
use Rattle.splits.specs.declared.refusal.SplitRefusal.TheVariants.{NoCart, NoPlace, BadTick, Unlawful}

-- the number by which a refusal is told
abbrev pub number_of : SplitRefusal → ℕ
number_of NoCart = 12
number_of NoPlace = 6
number_of BadTick = 18
number_of Unlawful = 19

-- the word by which it is told
abbrev pub word_of : SplitRefusal → List ℕ
word_of NoCart = codes "no cart"
word_of NoPlace = codes "no place"
word_of BadTick = codes "tick"
word_of Unlawful = codes "unlawful"
