-- Letter T: a cart's length is more than a tick, or at most that and no other cart is at its target from that tick on.
use Rattle.std.specs.Prelude.{◌≡◌, ℕ, ◌<◌, true, List, length, ◌==◌, nat_lt}
use Rattle.motion.specs.declared.trip.Trip.{Trip}
use Rattle.motion.specs.declared.ban.Ban.{Ban}
use Rattle.motion.specs.declared.ban.Ban.TheVariants.{Late, By}
use Rattle.splits.specs.Conditions.{Tells, is_in_time, judged}
use Rattle.splits.specs.Operands.{cart_in, tick_in, of_width}
use Rattle.splits.specs.Rules.{Rules, Sides, InTime}
use Rattle.splits.specs.declared.target.Arrival.{Arrival}

-- what the operands name: a cart and a tick
abbrev pub arrival : List ℕ → Arrival
arrival ops = record { cart = cart_in ops 0; tick = tick_in ops 1 }

-- the cart's length is more than the tick, or at most that and its target its own from then on
abbrev pub target_bans : Arrival → Ban × Ban
target_bans h = (Late h.cart h.tick, By h.cart h.tick)

-- the sides that the operands give, or the first refusal that fits
abbrev pub target_sides : List Trip → Arrival → Sides
target_sides trips h = judged (nat_lt h.cart.0 (length trips)) true (is_in_time h.tick) true (target_bans h)

-- the byte of the letter T
abbrev pub target_letter : ℕ
target_letter = 84

-- the rule: one letter, with 3 bytes of operands
abbrev pub target_rules : Rules
target_rules = record {
  knows = λ l. (l == target_letter);
  width = λ l bytes. of_width 3 bytes;
  sides = λ f trips bans l ops. target_sides trips (arrival ops);
}

-- it names no place
abbrev pub TargetTells : List Trip → Arrival → Sides → Type 0
TargetTells trips h = Tells (h.cart.0 < length trips) (Unit {0}) (InTime h.tick.0) (λ sides. sides ≡ target_bans h)
