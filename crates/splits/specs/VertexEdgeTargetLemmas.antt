-- Letters V, E and T: the answers say what is so, and the rules are lawful.
use Rattle.std.specs.Prelude.{List, length, Ok, refl}
use Rattle.std.proofs.Common.{sym, subst, arith}
use Rattle.std.proofs.lemmas.Bool.Decides.{Decides-ltb, Decides-and, Decides-like}
use Rattle.floor.specs.Floor.{Floor}
use Rattle.floor.proofs.Deciding.{decides_leb, decides_yes}
use Rattle.floor.proofs.Neighbours.{decides_joined}
use Rattle.motion.specs.declared.trip.Trip.{Trip}
use Rattle.motion.specs.declared.ban.Ban.{Ban}
use Rattle.splits.specs.Edge.{crossing, edge_letter, edge_sides, edge_rules, EdgeTells}
use Rattle.splits.specs.Rules.{LawfulSides, LawfulRules}
use Rattle.splits.specs.Target.{arrival, target_letter, target_sides, target_rules, TargetTells}
use Rattle.splits.specs.Vertex.{meeting, vertex_letter, vertex_sides, vertex_rules, VertexTells}
use Rattle.splits.specs.declared.edge.Crossing.{Crossing}
use Rattle.splits.specs.declared.target.Arrival.{Arrival}
use Rattle.splits.specs.declared.vertex.Meeting.{Meeting}
use Rattle.splits.specs.CoversLemmas.{vertex_covers, edge_covers, target_covers}
use Rattle.splits.specs.JudgingLemmas.{decides_two, decides_in_time, judged_tells}
use Rattle.splits.specs.LetteredLemmas.{lettered_lawful}

pub vertex_tells : (f : Floor) (trips : List Trip) (v : Meeting) → VertexTells f trips v (vertex_sides f trips v)
vertex_tells f trips v = judged_tells _ _ _ _ _
    (decides_two trips v.a v.b) (Decides-ltb v.place.0 f.count) (decides_in_time v.tick) (decides_yes refl) (λ _ _. refl)

pub edge_tells : (f : Floor) (trips : List Trip) (e : Crossing) → EdgeTells f trips e (edge_sides f trips e)
edge_tells f trips e = judged_tells _ _ _ _ _
    (decides_two trips e.a e.b)
    (Decides-and _ _ (Decides-ltb e.from.0 f.count) (Decides-ltb e.to.0 f.count))
    (Decides-and _ _ (decides_leb 1 e.tick.0) (decides_in_time e.tick))
    (Decides-like _ (λ joined. (joined, refl)) (λ h. h.0) (decides_joined f e.from.0 e.to.0)) (λ _ h. (h.0, refl))

pub target_tells : (trips : List Trip) (h : Arrival) → TargetTells trips h (target_sides trips h)
target_tells trips h = judged_tells _ _ _ _ _
    (Decides-ltb h.cart.0 (length trips)) (decides_yes tt) (decides_in_time h.tick) (decides_yes refl) (λ _ _. refl)

-- the sides that are given keep what the laws ask, whatever the carts and the bans are: h is what the answer says of the
-- carts, the places and the ticks, and last which sides they are
module _ (f : Floor) (trips : List Trip) (bans : List Ban) where
  pub vertex_sides_lawful : (v : Meeting) (sides : Ban × Ban) → VertexTells f trips v (Ok sides) → LawfulSides f trips bans sides
  vertex_sides_lawful v sides h = subst (LawfulSides f trips bans) (sym h.3) (
    (h.0.0, h.1, h.2, h.2),
    (h.0.1, h.1, h.2, h.2),
    vertex_covers f trips bans _ _ _ _ h.0,
  )

  pub edge_sides_lawful : (e : Crossing) (sides : Ban × Ban) → EdgeTells f trips e (Ok sides) → LawfulSides f trips bans sides
  edge_sides_lawful e sides h = subst (LawfulSides f trips bans) (sym h.3.1) (
    (h.0.0, h.1.0, h.1.1, h.2.1, h.2.1),
    (h.0.1, h.1.1, h.1.0, h.2.1, h.2.1),
    edge_covers f trips bans _ _ _ _ _ h.0,
  )

  pub target_sides_lawful : (a : Arrival) (sides : Ban × Ban) → TargetTells trips a (Ok sides) → LawfulSides f trips bans sides
  target_sides_lawful a sides h = subst (LawfulSides f trips bans) (sym h.3) ((h.0, h.2), (h.0, h.2), target_covers f trips bans _ _ h.0)

pub vertex_lawful : LawfulRules vertex_rules
vertex_lawful = lettered_lawful vertex_letter 6 (λ f trips bans ops. vertex_sides f trips (meeting ops)) (λ f trips bans ops. VertexTells f trips (meeting ops)) (λ reserved. omega arith)
    (λ f _ trips bans ops. vertex_tells f trips (meeting ops)) (λ f trips bans ops given _. vertex_sides_lawful f trips bans (meeting ops) given)

pub edge_lawful : LawfulRules edge_rules
edge_lawful = lettered_lawful edge_letter 8 (λ f trips bans ops. edge_sides f trips (crossing ops)) (λ f trips bans ops. EdgeTells f trips (crossing ops)) (λ reserved. omega arith)
    (λ f _ trips bans ops. edge_tells f trips (crossing ops)) (λ f trips bans ops given _. edge_sides_lawful f trips bans (crossing ops) given)

pub target_lawful : LawfulRules target_rules
target_lawful = lettered_lawful target_letter 3 (λ f trips bans ops. target_sides trips (arrival ops)) (λ f trips bans ops. TargetTells trips (arrival ops)) (λ reserved. omega arith)
    (λ f _ trips bans ops. target_tells trips (arrival ops)) (λ f trips bans ops given _. target_sides_lawful f trips bans (arrival ops) given)
