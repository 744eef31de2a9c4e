-- The number and the word of each refusal, and what a call answers where one of its parts refuses.
use Rattle.std.specs.Prelude.{ℕ, List, codes}
use Rattle.motion.specs.declared.route.RouteRefusal.{RouteRefusal}
use Rattle.motion.specs.declared.route.RouteRefusal.TheVariants.{NoPlace as RouteNoPlace, NoRoute}
use Rattle.splits.specs.declared.refusal.SplitRefusal.{SplitRefusal}
use Rattle.splits.specs.declared.refusal.SplitRefusal.TheVariants.{NoCart as RuleNoCart, NoPlace as RuleNoPlace, BadTick as RuleBadTick, Unlawful as RuleUnlawful}
use Rattle.tally.specs.declared.refusal.Refusal.{Refusal}
use Rattle.tally.specs.declared.refusal.Refusal.TheVariants.{NoPlace, Carts, Shared, Claim, NoCart, Shown, BadRoute, InConflict, NothingOpen, Full, BadTick, Unlawful, CheaperSet, Letter, CutShort}

abbrev pub number_of : Refusal → ℕ
number_of NoPlace = 6
number_of Carts = 9
number_of Shared = 10
number_of Claim = 11
number_of NoCart = 12
number_of Shown = 13
number_of BadRoute = 14
number_of InConflict = 15
number_of NothingOpen = 16
number_of Full = 17
number_of BadTick = 18
number_of Unlawful = 19
number_of CheaperSet = 20
number_of Letter = 21
number_of CutShort = 22

abbrev pub word_of : Refusal → List ℕ
word_of NoPlace = codes "no place"
word_of Carts = codes "carts"
word_of Shared = codes "shared"
word_of Claim = codes "claim"
word_of NoCart = codes "no cart"
word_of Shown = codes "shown"
word_of BadRoute = codes "route"
word_of InConflict = codes "conflict"
word_of NothingOpen = codes "nothing open"
word_of Full = codes "full"
word_of BadTick = codes "tick"
word_of Unlawful = codes "unlawful"
word_of CheaperSet = codes "cheaper"
word_of Letter = codes "letter"
word_of CutShort = codes "cut short"

-- the refusal of the route test
abbrev pub from_route : RouteRefusal → Refusal
from_route RouteNoPlace = NoPlace
from_route NoRoute = BadRoute

-- the refusal of a split rule
abbrev pub from_rule : SplitRefusal → Refusal
from_rule RuleNoCart = NoCart
from_rule RuleNoPlace = NoPlace
from_rule RuleBadTick = BadTick
from_rule RuleUnlawful = Unlawful
