-- What a split rule means, and the laws that it shows.
use Rattle.std.specs.Prelude.{◌≡◌, ℕ, ◌<◌, ◌≤◌, Bool, true, ◌⊎◌, List, length, Some, Ok, All, Option, Result}
use Rattle.floor.specs.Floor.{Floor, Lawful}
use Rattle.motion.specs.Routes.{RouteSet, ConflictFree}
use Rattle.motion.specs.Trips.{FewCarts, OnFloor, Apart}
use Rattle.motion.specs.Bans.{Keeps, KeepsAll}
use Rattle.motion.specs.declared.trip.Trip.{Trip}
use Rattle.motion.specs.declared.ban.Ban.{Ban}
use Rattle.motion.specs.declared.ban.Ban.TheVariants.{Stand, Move, Late, By}
use Rattle.splits.specs.declared.refusal.SplitRefusal.{SplitRefusal}

-- the left ban and the right ban, or why there are none
abbrev pub Sides : Type 0
Sides = Result (Ban × Ban) SplitRefusal

-- Which letters are known; how many of the bytes after a letter are its operands, none where they are cut short; and,
-- on a floor, for the trips of carts, under the bans of a branch, the two sides that a letter and its operands give.
pub record Rules : Type 0 where
  pub knows : ℕ → Bool
  pub width : ℕ → List ℕ → Option ℕ
  pub sides : Floor → List Trip → List Ban → ℕ → List ℕ → Sides

-- no split names a tick above 4,000
abbrev pub InTime : ℕ → Type 0
InTime t = t ≤ 4000

-- the carts that the ban names are there, its places are on the floor, and its ticks are in time
abbrev pub Names : Floor → List Trip → Ban → Type 0
Names f trips (Stand c p first last) = (c.0 < length trips) × (p.0 < f.count) × InTime first.0 × InTime last.0
Names f trips (Move c p q first last) = (c.0 < length trips) × (p.0 < f.count) × (q.0 < f.count) × InTime first.0 × InTime last.0
Names f trips (Late c t) = (c.0 < length trips) × InTime t.0
Names f trips (By c t) = (c.0 < length trips) × InTime t.0

-- a conflict-free set that keeps the bans also keeps one of the two
abbrev pub Covered : Floor → List Trip → List Ban → Ban → Ban → Type 0
Covered f trips bans left right = (s : RouteSet f trips) → ConflictFree s → KeepsAll s bans → Keeps s left ⊎ Keeps s right

-- what two sides owe the branch: both name what is there, and no conflict-free set of it is lost
abbrev pub LawfulSides : Floor → List Trip → List Ban → Ban × Ban → Type 0
LawfulSides f trips bans sides = Names f trips sides.0 × Names f trips sides.1 × Covered f trips bans sides.0 sides.1

-- What a check can ask a rule about: on a lawful floor, trips on which a check may be opened, and the bans of a branch,
-- at most 64, each of which names what is there.
pub record Askable (f : Floor) (trips : List Trip) (bans : List Ban) : Type 0 where
  pub floor : Lawful f
  pub few_carts : FewCarts (length trips)
  pub on_floor : OnFloor f trips
  pub apart : Apart trips
  pub few_bans : length bans ≤ 64
  pub named : All (Names f trips) bans

-- the letters that a plan uses otherwise: O, C, R, X and Z
abbrev pub Reserved : ℕ → Type 0
Reserved l = (l ≡ 79) ⊎ ((l ≡ 67) ⊎ ((l ≡ 82) ⊎ ((l ≡ 88) ⊎ (l ≡ 90))))

-- what every split rule shows of its rules; of its sides only where a check can ask for them
pub record LawfulRules (r : Rules) : Type 0 where
  -- no letter that a plan uses otherwise is known
  pub fresh : (l : ℕ) → r.knows l ≡ true → Reserved l → ⊥
  -- the operands are among the bytes
  pub fits : (l : ℕ) (bytes : List ℕ) (n : ℕ) → r.width l bytes ≡ Some n → n ≤ length bytes
  -- both bans name what is there
  pub names : (f : Floor) (trips : List Trip) (bans : List Ban) (l : ℕ) (ops : List ℕ) (left right : Ban) → Askable f trips bans →
      r.sides f trips bans l ops ≡ Ok (left, right) → Names f trips left × Names f trips right
  -- no conflict-free set of the branch is lost
  pub covers : (f : Floor) (trips : List Trip) (bans : List Ban) (l : ℕ) (ops : List ℕ) (left right : Ban) → Askable f trips bans →
      r.sides f trips bans l ops ≡ Ok (left, right) → Covered f trips bans left right

-- more than the laws ask: whatever the carts and the bans are, the sides are lawful
abbrev pub LawfulForAll : Rules → Type 0
LawfulForAll r =
    (f : Floor) → Lawful f → (trips : List Trip) (bans : List Ban) (l : ℕ) (ops : List ℕ) (sides : Ban × Ban) → r.sides f trips bans l ops ≡ Ok sides
    → LawfulSides f trips bans sides
