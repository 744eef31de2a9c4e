-- A rule of one letter, with operands of one width, keeps the laws of a split rule where the sides that it gives do.
use Rattle.std.specs.Prelude.{◌≡◌, ℕ, ◌≤◌, ◌↔◌, List, length, Some, Ok, ◌==◌}
use Rattle.std.proofs.Common.{subst, arith}
use Rattle.std.proofs.lemmas.Bool.{eqb-true}
use Rattle.std.proofs.lemmas.Bool.Decides.{nat_tests}
use Rattle.floor.specs.Floor.{Floor, Lawful}
use Rattle.motion.specs.declared.trip.Trip.{Trip}
use Rattle.motion.specs.declared.ban.Ban.{Ban}
use Rattle.splits.specs.Operands.{of_width}
use Rattle.splits.specs.Rules.{Sides, LawfulSides, Askable, Reserved, LawfulRules}

pub width_given : (n : ℕ) (bytes : List ℕ) (w : ℕ) → (of_width n bytes ≡ Some w) ↔ ((w ≡ n) × (n ≤ length bytes))
width_given n bytes w = (λ e. (grind (arith, nat_tests), grind (arith, nat_tests)), λ h. grind (arith, nat_tests))

-- Says is what an answer says: each answer says what is so, and where two sides are given to a check, that makes them lawful
module _ (letter width : ℕ) (sides : Floor → List Trip → List Ban → List ℕ → Sides) (Says : Floor → List Trip → List Ban → List ℕ → Sides → Type 0) where
  pub lettered_lawful : (Reserved letter → ⊥) →
      ((f : Floor) → Lawful f → (trips : List Trip) (bans : List Ban) (ops : List ℕ) → Says f trips bans ops (sides f trips bans ops)) →
      ((f : Floor) (trips : List Trip) (bans : List Ban) (ops : List ℕ) (given : Ban × Ban) → Askable f trips bans → Says f trips bans ops (Ok given) → LawfulSides f trips bans given) →
      LawfulRules (record { knows = λ l. (l == letter); width = λ l bytes. of_width width bytes; sides = λ f trips bans l ops. sides f trips bans ops })
  lettered_lawful free says lawful = record {
    fresh = λ l known reserved. free (subst Reserved (eqb-true l letter known) reserved);
    fits = λ l bytes n e. let h = (width_given width bytes n).0 e in omega arith;
    names = λ f trips bans l ops left right asked e. let h = as_said f trips bans ops (left, right) asked e in (h.0, h.1);
    covers = λ f trips bans l ops left right asked e. (as_said f trips bans ops (left, right) asked e).2;
  }
    where
      as_said : (f : Floor) (trips : List Trip) (bans : List Ban) (ops : List ℕ) (given : Ban × Ban) → Askable f trips bans → sides f trips bans ops ≡ Ok given → LawfulSides f trips bans given
      as_said f trips bans ops given asked e = lawful f trips bans ops given asked (subst (Says f trips bans ops) e (says f asked.floor trips bans ops))
