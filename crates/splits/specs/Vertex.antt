-- Letter V: two carts are not at one place at one tick.
use Rattle.std.specs.Prelude.{◌≡◌, ℕ, true, List, ◌==◌}
use Rattle.floor.specs.Floor.{Floor}
use Rattle.motion.specs.declared.trip.Trip.{Trip}
use Rattle.motion.specs.declared.ban.Ban.{Ban}
use Rattle.motion.specs.declared.ban.Ban.TheVariants.{Stand}
use Rattle.splits.specs.Conditions.{Two, IsPlace, Tells, is_two, is_place, is_in_time, judged}
use Rattle.splits.specs.Operands.{cart_in, place_in, tick_in, of_width}
use Rattle.splits.specs.Rules.{Rules, Sides, InTime}
use Rattle.splits.specs.declared.vertex.Meeting.{Meeting}

-- what the operands name: two carts, a place and a tick
abbrev pub meeting : List ℕ → Meeting
meeting ops = record { a = cart_in ops 0; b = cart_in ops 1; place = place_in ops 2; tick = tick_in ops 4 }

-- a is not at the place then, or b is not
abbrev pub vertex_bans : Meeting → Ban × Ban
vertex_bans v = (Stand v.a v.place v.tick v.tick, Stand v.b v.place v.tick v.tick)

-- the sides that the operands give, or the first refusal that fits
abbrev pub vertex_sides : Floor → List Trip → Meeting → Sides
vertex_sides f trips v = judged (is_two trips v.a v.b) (is_place f v.place) (is_in_time v.tick) true (vertex_bans v)

-- the byte of the letter V
abbrev pub vertex_letter : ℕ
vertex_letter = 86

-- the rule: one letter, with 6 bytes of operands
abbrev pub vertex_rules : Rules
vertex_rules = record {
  knows = λ l. (l == vertex_letter);
  width = λ l bytes. of_width 6 bytes;
  sides = λ f trips bans l ops. vertex_sides f trips (meeting ops);
}

-- what an answer says: the letter has no condition of its own
abbrev pub VertexTells : Floor → List Trip → Meeting → Sides → Type 0
VertexTells f trips v = Tells (Two trips v.a v.b) (IsPlace f v.place) (InTime v.tick.0) (λ sides. sides ≡ vertex_bans v)
