-- The number and the word of each refusal.
use Rattle.std.specs.Prelude.{ℕ, List, codes}
use Rattle.motion.specs.declared.route.RouteRefusal.{RouteRefusal}
use Rattle.motion.specs.declared.route.RouteRefusal.TheVariants.{NoPlace, NoRoute}

-- the number by which a refusal is told
abbrev pub number_of : RouteRefusal → ℕ
number_of NoPlace = 6
number_of NoRoute = 14

-- the word by which it is told
abbrev pub word_of : RouteRefusal → List ℕ
word_of NoPlace = codes "no place"
word_of NoRoute = codes "route"
