-- What every letter asks of its carts, places and ticks, and how an answer tells what was so.
use Rattle.std.specs.Prelude.{◌<◌, Bool, not, ◌&&◌, List, length, Ok, Err, Result, ◌==◌, ◌≢◌, nat_le, nat_lt}
use Rattle.floor.specs.Checks.{refuse, ◌>>◌}
use Rattle.floor.specs.Floor.{Floor}
use Rattle.floor.specs.declared.Cart.{Cart}
use Rattle.floor.specs.declared.Place.{Place}
use Rattle.floor.specs.declared.Tick.{Tick}
use Rattle.motion.specs.declared.trip.Trip.{Trip}
use Rattle.motion.specs.declared.ban.Ban.{Ban}
use Rattle.splits.specs.Rules.{Sides}
use Rattle.splits.specs.declared.refusal.SplitRefusal.{SplitRefusal}
use Rattle.splits.specs.declared.refusal.SplitRefusal.TheVariants.{NoCart, NoPlace, BadTick, Unlawful}

-- ---- the meaning

-- two carts of the check
abbrev pub Two : List Trip → Cart → Cart → Type 0
Two trips a b = (a.0 < length trips) × (b.0 < length trips) × (a.0 ≢ b.0)

-- a place of the floor
abbrev pub IsPlace : Floor → Place → Type 0
IsPlace f p = p.0 < f.count

-- What an answer says, where own is the letter's own condition and the sides that it gives: the first condition that
-- fails is the one told, and with none the sides are given. So each answer is given exactly when it says what is so.
abbrev pub Tells : (carts places ticks : Type 0) → (Ban × Ban → Type 0) → Sides → Type 0
Tells carts places ticks own (Err NoCart) = carts → ⊥
Tells carts places ticks own (Err NoPlace) = carts × (places → ⊥)
Tells carts places ticks own (Err BadTick) = carts × places × (ticks → ⊥)
Tells carts places ticks own (Err Unlawful) = carts × places × ticks × ((sides : Ban × Ban) → own sides → ⊥)
Tells carts places ticks own (Ok sides) = carts × places × ticks × own sides

-- ---- the tests

-- they are two carts of the check
abbrev pub is_two : List Trip → Cart → Cart → Bool
is_two trips a b = nat_lt a.0 (length trips) && (nat_lt b.0 (length trips) && not (a.0 == b.0))

-- it is a place of the floor
abbrev pub is_place : Floor → Place → Bool
is_place f p = nat_lt p.0 f.count

-- no split names a tick above 4,000
abbrev pub is_in_time : Tick → Bool
is_in_time t = nat_le t.0 4000

-- the tests that every letter has, in their order
abbrev pub judge : Bool → Bool → Bool → Result (Unit {0}) SplitRefusal
judge carts places ticks = do
  refuse (not carts) NoCart
  refuse (not places) NoPlace
  refuse (not ticks) BadTick

-- and the letter's own, with the sides where all are passed
abbrev pub judged : Bool → Bool → Bool → Bool → Ban × Ban → Sides
judged carts places ticks own sides = do
  judge carts places ticks
  refuse (not own) Unlawful
  Ok sides
