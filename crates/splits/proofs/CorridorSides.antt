-- The corridor's answer, from the tests that were passed and the chain that was followed.
use Rattle.std.proofs.Common.{◌≡◌, Bool, true, not, ◌&&◌, List, Ok, Result, refl, sym, ap, ◌∙◌, ap₂}
use Rattle.floor.specs.Checks.{refuse, ◌>>◌}
use Rattle.floor.specs.Floor.{Floor}
use Rattle.floor.proofs.Chains.{not_refused}
use Rattle.floor.specs.Numbers.{numbers}
use Rattle.motion.specs.declared.trip.Trip.{Trip}
use Rattle.motion.specs.declared.ban.Ban.{Ban}
use Rattle.splits.specs.Conditions.{is_two, is_place, is_in_time, judge}
use Rattle.splits.specs.Corridor.{corridor_bans}
use Rattle.splits.specs.CorridorTests.{along, listed_at, is_corridor_for, led_to, corridor_sides}
use Rattle.splits.specs.declared.corridor.passage.Passage.{Passage}
use Rattle.splits.specs.declared.corridor.places.Chain.{Chain}
use Rattle.splits.specs.declared.refusal.SplitRefusal.{SplitRefusal}
use Rattle.splits.specs.declared.refusal.SplitRefusal.TheVariants.{NoCart, NoPlace, BadTick, Unlawful}

all_passed : (carts p q m n : Bool) → carts ≡ true → p ≡ true → q ≡ true → m ≡ true → n ≡ true → judge carts (p && q) (m && n) ≡ Ok tt
all_passed carts p q m n c_yes p_yes q_yes m_yes n_yes = rw (c_yes, p_yes, q_yes, m_yes, n_yes) refl

module _ (f : Floor) (trips : List Trip) (bans : List Ban) (o : Passage) (two : Ok tt ≡ refuse (not (is_two trips o.a o.b)) NoCart)
    (p_on : Ok tt ≡ refuse (not (is_place f o.p)) NoPlace) (q_on : Ok tt ≡ refuse (not (is_place f o.q)) NoPlace)
    (m_in : Ok tt ≡ refuse (not (is_in_time o.m)) BadTick) (n_in : Ok tt ≡ refuse (not (is_in_time o.n)) BadTick)
    (chain : Chain) (same : chain.passage ≡ o) (led : numbers chain.places ≡ along f o.p.0 o.q.0 64) where
  conditions_hold : judge (is_two trips o.a o.b) (is_place f o.p && is_place f o.q) (is_in_time o.m && is_in_time o.n) ≡ Ok tt
  conditions_hold = all_passed _ _ _ _ _ (not_refused _ _ two) (not_refused _ _ p_on) (not_refused _ _ q_on) (not_refused _ _ m_in) (not_refused _ _ n_in)

  by_the_chain : (asked : Bool) → asked ≡ is_corridor_for f trips bans chain.passage (listed_at (numbers chain.places)) →
      corridor_sides f trips bans o ≡ (refuse (not asked) Unlawful >> Ok (corridor_bans chain.passage (listed_at (numbers chain.places))))
  by_the_chain asked is =
      ap₂ (λ j w. j >> (refuse (not w) Unlawful >> Ok (corridor_bans o (led_to f o)))) conditions_hold
      (sym (is ∙ ap₂ (λ w ps. is_corridor_for f trips bans w (listed_at ps)) same led)) ∙
      ap₂ (λ w ps. refuse (not asked) Unlawful >> Ok (corridor_bans w (listed_at ps))) (sym same) (sym led)

  -- from what the last test answered
  pub corridor_answer : (asked : Bool) → asked ≡ is_corridor_for f trips bans chain.passage (listed_at (numbers chain.places)) →
      (tested : Result (Unit {0}) SplitRefusal) → tested ≡ refuse (not asked) Unlawful →
      (tested >> Ok (corridor_bans chain.passage (listed_at (numbers chain.places)))) ≡ corridor_sides f trips bans o
  corridor_answer asked is tested told = ap (λ r. r >> Ok (corridor_bans chain.passage (listed_at (numbers chain.places)))) told ∙ sym (by_the_chain asked is)
