-- A grid of free and blocked cells. It means a floor: cells are places, counted row by row, and free cells that
-- lie side by side are neighbours.
use Rattle.std.specs.Prelude.{◌≡◌, ℕ, ◌+◌, ◌-◌, ◌*◌, ◌/◌, ◌%◌, ◌≤◌, Bool, true, false, cond, not, ◌&&◌, ◌⊎◌, ◌↔◌, List, [], ◌∷◌, ◌++◌, length, Ok, Err, filter, Result, ◌==◌, ◌≢◌, nat_le, nat_lt, slice_index_or}
use Rattle.floor.specs.Checks.{refuse, ◌>>◌}
use Rattle.floor.specs.Floor.{Floor, Joined}
use Rattle.maps.specs.declared.refusal.MapRefusal.{MapRefusal}
use Rattle.maps.specs.declared.refusal.MapRefusal.TheVariants.{Gauge, Ragged}

pub record Grid : Type 0 where
  pub height : ℕ
  pub width : ℕ
  -- cell by cell, the rows one after the other
  pub free : List Bool

-- the limits of a grid
pub record Sized (g : Grid) : Type 0 where
  pub some_rows : 1 ≤ g.height
  pub most_rows : g.height ≤ 32
  pub some_columns : 1 ≤ g.width
  pub most_columns : g.width ≤ 32
  pub filled : length g.free ≡ g.height * g.width

-- ---- the meaning

abbrev pub free_at : Grid → ℕ → Bool
free_at g p = slice_index_or g.free p false

-- one more, either way round
abbrev pub NextTo : ℕ → ℕ → Type 0
NextTo a b = (a + 1 ≡ b) ⊎ (b + 1 ≡ a)

-- in one row and neighbouring columns, or in one column and neighbouring rows
abbrev pub SideBySide : ℕ → ℕ → ℕ → Type 0
SideBySide width p q = ((p / width ≡ q / width) × NextTo (p % width) (q % width)) ⊎ ((p % width ≡ q % width) × NextTo (p / width) (q / width))

-- ---- the neighbours in their order

abbrev pub above : ℕ → ℕ → List ℕ
above width p = cond (nat_lt p width) [] ((p - width) ∷ [])

abbrev pub left : ℕ → ℕ → List ℕ
left width p = cond (p % width == 0) [] ((p - 1) ∷ [])

abbrev pub right : ℕ → ℕ → List ℕ
right width p = cond (p % width + 1 == width) [] ((p + 1) ∷ [])

abbrev pub below : ℕ → ℕ → List ℕ
below width p = (p + width) ∷ []

abbrev pub beside : ℕ → ℕ → List ℕ
beside width p = above width p ++ (left width p ++ (right width p ++ below width p))

unfoldable pub around : Grid → ℕ → List ℕ
around g p = cond (free_at g p) (filter (free_at g) (beside g.width p)) []

abbrev pub grid_floor : Grid → Floor
grid_floor g = record { count = g.height * g.width; next = around g }

-- q is a neighbour of p exactly when both are free and side by side
abbrev pub NeighboursAreBeside : Grid → Type 0
NeighboursAreBeside g = (p q : ℕ) → Joined (grid_floor g) p q ↔ (free_at g p ≡ true) × (free_at g q ≡ true) × SideBySide g.width p q

-- ---- how one is made

-- the smallest grid
abbrev pub one_cell : Grid
one_cell = record { height = 1; width = 1; free = true ∷ [] }

-- cells for so many rows and columns
unfoldable pub gridding : ℕ → ℕ → List Bool → Result Grid MapRefusal
gridding height width free = do
  refuse (not (nat_le 1 height && nat_le height 32)) Gauge
  refuse (not (nat_le 1 width && nat_le width 32)) Gauge
  refuse (not (length free == height * width)) Ragged
  Ok (record { height = height; width = width; free = free })

-- ---- why one is refused

-- as many rows, or columns, as a grid may have
abbrev pub InGauge : ℕ → Type 0
InGauge n = (1 ≤ n) × (n ≤ 32)

-- why no grid is made: of the two the first that fails
pub data NotGridded (g : Grid) : MapRefusal → Type 0 where
  off_gauge : (InGauge g.height × InGauge g.width → ⊥) → NotGridded g Gauge
  not_filled : InGauge g.height → InGauge g.width → (length g.free ≢ g.height * g.width) → NotGridded g Ragged

-- ---- what the tests tell

-- the tests refuse exactly what is beyond the limits
abbrev pub GriddingIsSized : Type 0
GriddingIsSized = (g : Grid) → (gridding g.height g.width g.free ≡ Ok g) ↔ Sized g

-- each answer, and when it is given
pub record GriddingTells : Type 0 where
  pub taken : GriddingIsSized
  pub refused : (g : Grid) (e : MapRefusal) → (gridding g.height g.width g.free ≡ Err e) ↔ NotGridded g e
