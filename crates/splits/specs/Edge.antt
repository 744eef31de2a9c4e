-- Letter E: two carts do not change places in one step.
use Rattle.std.specs.Prelude.{◌≡◌, ℕ, ◌≤◌, ◌&&◌, List, ◌==◌, nat_le}
use Rattle.floor.specs.Floor.{Floor, Joined}
use Rattle.floor.specs.Joins.{is_joined}
use Rattle.motion.specs.declared.trip.Trip.{Trip}
use Rattle.motion.specs.declared.ban.Ban.{Ban}
use Rattle.motion.specs.declared.ban.Ban.TheVariants.{Move}
use Rattle.splits.specs.Conditions.{Two, IsPlace, Tells, is_two, is_place, is_in_time, judged}
use Rattle.splits.specs.Operands.{cart_in, place_in, tick_in, of_width}
use Rattle.splits.specs.Rules.{Rules, Sides, InTime}
use Rattle.splits.specs.declared.edge.Crossing.{Crossing}

-- what the operands name: two carts, two places and a tick
abbrev pub crossing : List ℕ → Crossing
crossing ops = record { a = cart_in ops 0; b = cart_in ops 1; from = place_in ops 2; to = place_in ops 4; tick = tick_in ops 6 }

-- a does not go from the one place to the other then, or b not back
abbrev pub edge_bans : Crossing → Ban × Ban
edge_bans e = (Move e.a e.from e.to e.tick e.tick, Move e.b e.to e.from e.tick e.tick)

-- a move arrives at tick 1 at the earliest
abbrev pub edge_sides : Floor → List Trip → Crossing → Sides
edge_sides f trips e = judged (is_two trips e.a e.b) (is_place f e.from && is_place f e.to) (nat_le 1 e.tick.0 && is_in_time e.tick)
    (is_joined f e.from.0 e.to.0) (edge_bans e)

-- the byte of the letter E
abbrev pub edge_letter : ℕ
edge_letter = 69

-- the rule: one letter, with 8 bytes of operands
abbrev pub edge_rules : Rules
edge_rules = record {
  knows = λ l. (l == edge_letter);
  width = λ l bytes. of_width 8 bytes;
  sides = λ f trips bans l ops. edge_sides f trips (crossing ops);
}

-- what an answer says: the sides are given exactly where the two places are neighbours
abbrev pub EdgeTells : Floor → List Trip → Crossing → Sides → Type 0
EdgeTells f trips e = Tells (Two trips e.a e.b) (IsPlace f e.from × IsPlace f e.to) ((1 ≤ e.tick.0) × InTime e.tick.0)
    (λ sides. Joined f e.from.0 e.to.0 × (sides ≡ edge_bans e))
