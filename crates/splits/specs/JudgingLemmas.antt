-- What the four tests of a letter tell, from what each of them decides.
use Rattle.std.specs.Prelude.{Bool, true, false, List, length, Decides, refl}
use Rattle.std.proofs.lemmas.Bool.Decides.{Decides-eqb, Decides-ltb, Decides-not, not_from_Decides}
use Rattle.floor.specs.declared.Cart.{Cart}
use Rattle.floor.specs.declared.Tick.{Tick}
use Rattle.floor.proofs.Deciding.{decides_and3, decides_leb}
use Rattle.motion.specs.declared.trip.Trip.{Trip}
use Rattle.motion.specs.declared.ban.Ban.{Ban}
use Rattle.splits.specs.Conditions.{Two, Tells, is_two, is_in_time, judged}
use Rattle.splits.specs.Rules.{InTime}

pub decides_two : (trips : List Trip) (a b : Cart) → Decides (is_two trips a b) (Two trips a b)
decides_two trips a b = decides_and3 _ _ _ (Decides-ltb a.0 (length trips)) (Decides-ltb b.0 (length trips)) (Decides-not _ (Decides-eqb a.0 b.0))

pub decides_in_time : (t : Tick) → Decides (is_in_time t) (InTime t.0)
decides_in_time t = decides_leb t.0 4000

-- the letter's own test passes for the sides given, or for no sides
module _ {C P T : Type 0} {Own : Ban × Ban → Type 0} (carts places ticks own : Bool) (sides : Ban × Ban) where
  -- it need decide only where the other tests pass
  pub judged_tells_in_turn : Decides carts C → Decides places P → Decides ticks T → (C → P → T → Decides own (Own sides)) →
      ((other : Ban × Ban) → Own other → Own sides) → Tells C P T Own (judged carts places ticks own sides)
  judged_tells_in_turn dc dp dt do' only = carts_first carts dc
    where
      own_last : (o : Bool) → Decides o (Own sides) → C → P → T → Tells C P T Own (judged true true true o sides)
      own_last true d c p t = (c, p, t, d.0 refl)
      own_last false d c p t = (c, p, t, λ other h. not_from_Decides false d refl (only other h))

      then_ticks : (t : Bool) → Decides t T → C → P → Tells C P T Own (judged true true t own sides)
      then_ticks true d c p = let t = d.0 refl in own_last own (do' c p t) c p t
      then_ticks false d c p = (c, p, not_from_Decides false d refl)

      then_places : (p : Bool) → Decides p P → C → Tells C P T Own (judged true p ticks own sides)
      then_places true d c = then_ticks ticks dt c (d.0 refl)
      then_places false d c = (c, not_from_Decides false d refl)

      carts_first : (c : Bool) → Decides c C → Tells C P T Own (judged c places ticks own sides)
      carts_first true d = then_places places dp (d.0 refl)
      carts_first false d = not_from_Decides false d refl

  pub judged_tells : Decides carts C → Decides places P → Decides ticks T → Decides own (Own sides) → ((other : Ban × Ban) → Own other → Own sides) →
      Tells C P T Own (judged carts places ticks own sides)
  judged_tells dc dp dt do' only = judged_tells_in_turn dc dp dt (λ _ _ _. do') only
