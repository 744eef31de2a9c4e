-- The four letters of our own answer as their conditions tell, and their sides are lawful for all carts and bans.
use Rattle.std.proofs.Common.{eqb, subst}
use Rattle.std.proofs.lemmas.Bool.Decides.{Decides-eqb, Decides-or}
use Rattle.splits.specs.CorridorTests.{passage, corridor_letter, CorridorTells}
use Rattle.splits.specs.Edge.{crossing, edge_letter, EdgeTells}
use Rattle.splits.specs.Own.{OwnLetters, own}
use Rattle.splits.specs.Rules.{LawfulForAll}
use Rattle.splits.specs.Target.{arrival, target_letter, TargetTells}
use Rattle.splits.specs.Vertex.{meeting, vertex_letter, VertexTells}
use Rattle.splits.specs.BesideRuleLemmas.{either_way}
use Rattle.splits.specs.CorridorLemmas.{corridor_tells, corridor_sides_lawful}
use Rattle.splits.specs.LetteredLemmas.{width_given}
use Rattle.splits.specs.VertexEdgeTargetLemmas.{vertex_tells, edge_tells, target_tells, vertex_sides_lawful, edge_sides_lawful, target_sides_lawful}

pub own_letters : OwnLetters
own_letters = record {
  letters = λ l. Decides-or _ _ (Decides-eqb l vertex_letter) (Decides-or _ _ (Decides-eqb l edge_letter) (Decides-or _ _ (Decides-eqb l target_letter) (Decides-eqb l corridor_letter)));
  widths = (width_given 6, width_given 8, width_given 3, width_given 11);
  vertex = λ f _ trips bans ops. vertex_tells f trips (meeting ops);
  edge = λ f _ trips bans ops. edge_tells f trips (crossing ops);
  target = λ f _ trips bans ops. target_tells trips (arrival ops);
  corridor = λ f law trips bans ops. corridor_tells f law trips bans (passage ops);
}

pub own_lawful_for_all : LawfulForAll own
own_lawful_for_all f law trips bans l ops sides =
    either_way (eqb l vertex_letter) (λ e. vertex_sides_lawful f trips bans (meeting ops) sides (subst (VertexTells f trips (meeting ops)) e (vertex_tells f trips (meeting ops))))
    (either_way (eqb l edge_letter) (λ e. edge_sides_lawful f trips bans (crossing ops) sides (subst (EdgeTells f trips (crossing ops)) e (edge_tells f trips (crossing ops))))
    (either_way (eqb l target_letter) (λ e. target_sides_lawful f trips bans (arrival ops) sides (subst (TargetTells trips (arrival ops)) e (target_tells trips (arrival ops))))
    (λ e. corridor_sides_lawful f law trips bans (passage ops) sides (subst (CorridorTells f trips bans (passage ops)) e (corridor_tells f law trips bans (passage ops))))))
