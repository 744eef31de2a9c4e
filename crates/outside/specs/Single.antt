-- Letter S, a rule of this crate: a cart is not at its target and at another place at one tick.
use Rattle.std.specs.Prelude.{◌≡◌, ℕ, ◌<◌, not, List, length, ◌==◌, ◌≢◌, nat_lt, slice_index_or}
use Rattle.floor.specs.Floor.{Floor}
use Rattle.floor.specs.declared.Place.{Place}
use Rattle.motion.specs.Routes.{nowhere}
use Rattle.motion.specs.declared.trip.Trip.{Trip}
use Rattle.motion.specs.declared.ban.Ban.{Ban}
use Rattle.motion.specs.declared.ban.Ban.TheVariants.{Stand}
use Rattle.splits.specs.Conditions.{IsPlace, Tells, is_place, is_in_time, judged}
use Rattle.splits.specs.Operands.{byte, cart_in, of_width}
use Rattle.splits.specs.Rules.{Rules, Sides, InTime}
use Rattle.outside.specs.declared.single.Doubling.{Doubling}

-- what the operands name: a cart, a place and a tick, each of one byte
abbrev pub doubling : List ℕ → Doubling
doubling ops = record { cart = cart_in ops 0; place = record { 0 = byte ops 1 }; tick = record { 0 = byte ops 2 } }

-- the target of the cart: no operand, and not tested, since in a check every target is on the floor
abbrev pub target : List Trip → Doubling → Place
target trips d = (slice_index_or trips d.cart.0 nowhere).target

-- the cart is not at its target then, or not at the place
abbrev pub single_bans : List Trip → Doubling → Ban × Ban
single_bans trips d = (Stand d.cart (target trips d) d.tick d.tick, Stand d.cart d.place d.tick d.tick)

-- the sides that the operands give, or the first refusal that fits
abbrev pub single_sides : Floor → List Trip → Doubling → Sides
single_sides f trips d = judged (nat_lt d.cart.0 (length trips)) (is_place f d.place) (is_in_time d.tick) (not (d.place.0 == (target trips d).0)) (single_bans trips d)

-- the byte of the letter S
abbrev pub single_letter : ℕ
single_letter = 83

-- the rule: one letter, with 3 bytes of operands
abbrev pub single_rules : Rules
single_rules = record {
  knows = λ l. (l == single_letter);
  width = λ l bytes. of_width 3 bytes;
  sides = λ f trips bans l ops. single_sides f trips (doubling ops);
}

-- what an answer says: the sides are given exactly where the place is not the cart's target
abbrev pub SingleTells : Floor → List Trip → Doubling → Sides → Type 0
SingleTells f trips d = Tells (d.cart.0 < length trips) (IsPlace f d.place) (InTime d.tick.0) (λ sides. (d.place.0 ≢ (target trips d).0) × (sides ≡ single_bans trips d))
