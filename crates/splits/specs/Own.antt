-- Our own four letters side by side, and what they answer.
use Rattle.std.specs.Prelude.{◌≡◌, ℕ, ◌≤◌, true, ◌⊎◌, ◌↔◌, List, length, Some}
use Rattle.floor.specs.Floor.{Floor, Lawful}
use Rattle.motion.specs.declared.trip.Trip.{Trip}
use Rattle.motion.specs.declared.ban.Ban.{Ban}
use Rattle.splits.specs.Beside.{beside}
use Rattle.splits.specs.CorridorTests.{passage, corridor_letter, corridor_rules, CorridorTells}
use Rattle.splits.specs.Edge.{crossing, edge_letter, edge_rules, EdgeTells}
use Rattle.splits.specs.Rules.{Rules}
use Rattle.splits.specs.Target.{arrival, target_letter, target_rules, TargetTells}
use Rattle.splits.specs.Vertex.{meeting, vertex_letter, vertex_rules, VertexTells}

-- the rules of the four letters, in the order in which the code asks them
abbrev pub own : Rules
own = beside vertex_rules (beside edge_rules (beside target_rules corridor_rules))

-- the letter has operands of n bytes, cut short where there are fewer
abbrev pub HasOperands : ℕ → ℕ → Type 0
HasOperands letter n = (bytes : List ℕ) (w : ℕ) → (own.width letter bytes ≡ Some w) ↔ ((w ≡ n) × (n ≤ length bytes))

-- V, E, T and K are known, take 6, 8, 3 and 11 bytes, and answer on every floor what their conditions tell
pub record OwnLetters : Type 0 where
  pub letters : (l : ℕ) → (own.knows l ≡ true) ↔ ((l ≡ vertex_letter) ⊎ ((l ≡ edge_letter) ⊎ ((l ≡ target_letter) ⊎ (l ≡ corridor_letter))))
  pub widths : HasOperands vertex_letter 6 × HasOperands edge_letter 8 × HasOperands target_letter 3 × HasOperands corridor_letter 11
  pub vertex : (f : Floor) → Lawful f → (trips : List Trip) (bans : List Ban) (ops : List ℕ) → VertexTells f trips (meeting ops) (own.sides f trips bans vertex_letter ops)
  pub edge : (f : Floor) → Lawful f → (trips : List Trip) (bans : List Ban) (ops : List ℕ) → EdgeTells f trips (crossing ops) (own.sides f trips bans edge_letter ops)
  pub target : (f : Floor) → Lawful f → (trips : List Trip) (bans : List Ban) (ops : List ℕ) → TargetTells trips (arrival ops) (own.sides f trips bans target_letter ops)
  pub corridor : (f : Floor) → Lawful f → (trips : List Trip) (bans : List Ban) (ops : List ℕ) → CorridorTells f trips bans (passage ops) (own.sides f trips bans corridor_letter ops)
