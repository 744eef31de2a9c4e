-- The rule tells what is so, and keeps the laws of a split rule.
use Rattle.std.specs.Prelude.{◌≡◌, ◌⊎◌, List, length, Ok, ◌≢◌, refl}
use Rattle.std.proofs.Common.{inl, inr, sym, subst, arith}
use Rattle.std.proofs.Math.Decide.{ℕ_discrete}
use Rattle.std.proofs.lemmas.Bool.Decides.{Decides-eqb, Decides-like, Decides-ltb, Decides-not}
use Rattle.floor.specs.Floor.{Floor}
use Rattle.motion.specs.Bans.{Keeps}
use Rattle.motion.specs.declared.trip.Trip.{Trip}
use Rattle.motion.specs.declared.ban.Ban.{Ban}
use Rattle.splits.specs.Rules.{Askable, Covered, LawfulRules, LawfulSides}
use Rattle.splits.specs.JudgingLemmas.{decides_in_time, judged_tells}
use Rattle.splits.specs.LetteredLemmas.{lettered_lawful}
use Rattle.outside.specs.Single.{doubling, single_bans, single_letter, single_sides, single_rules, target, SingleTells}
use Rattle.outside.specs.declared.single.Doubling.{Doubling}

module _ (f : Floor) (trips : List Trip) (d : Doubling) where
  single_tells : SingleTells f trips d (single_sides f trips d)
  single_tells = judged_tells _ _ _ _ _
      (Decides-ltb d.cart.0 (length trips))
      (Decides-ltb d.place.0 f.count)
      (decides_in_time d.tick)
      (Decides-like _ (λ apart. (apart, refl)) (λ h. h.0) (Decides-not _ (Decides-eqb d.place.0 (target trips d).0))) (λ _ h. (h.0, refl))

  module _ (bans : List Ban) where
    -- the cart is not at its target, or it is there and so not at the place
    single_covers : (d.place.0 ≢ (target trips d).0) → Covered f trips bans (single_bans trips d).0 (single_bans trips d).1
    single_covers apart s free keeps = go (ℕ_discrete (s.at d.cart.0 d.tick.0) (target trips d).0)
      where
        go : Dec (s.at d.cart.0 d.tick.0 ≡ (target trips d).0) → Keeps s (single_bans trips d).0 ⊎ Keeps s (single_bans trips d).1
        go (no away) = inl λ i below same t w at. let now : t ≡ d.tick.0 = omega arith in away (cc)
        go (yes there) = inr λ i below same t w at. let now : t ≡ d.tick.0 = omega arith in apart (cc)

    -- in a check the target is on the floor
    single_sides_lawful : (sides : Ban × Ban) → Askable f trips bans → SingleTells f trips d (Ok sides) → LawfulSides f trips bans sides
    single_sides_lawful sides asked h =
        subst (LawfulSides f trips bans) (sym h.3.1) ((h.0, (asked.on_floor d.cart.0 h.0).1, h.2, h.2), (h.0, h.1, h.2, h.2), single_covers h.3.0)

pub single_lawful : LawfulRules single_rules
single_lawful = lettered_lawful single_letter 3 (λ f trips bans ops. single_sides f trips (doubling ops)) (λ f trips bans ops. SingleTells f trips (doubling ops)) (λ reserved. omega arith)
    (λ f _ trips bans ops. single_tells f trips (doubling ops)) (λ f trips bans ops. single_sides_lawful f trips (doubling ops) bans)
