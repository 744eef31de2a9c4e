-- Reading a grid file, front to back, to the grid or the first fault.
use Rattle.std.specs.Prelude.{ℕ, zero, suc, ◌+◌, ◌-◌, ◌*◌, Bool, true, false, cond, not, ◌&&◌, List, [], ◌∷◌, Ok, Err, codes, Result, ◌==◌, nat_le}
use Rattle.floor.specs.Checks.{refuse, ◌>>=◌, ◌>>◌}
use Rattle.cursor.specs.Rests.{Rest}
use Rattle.maps.specs.Grids.{Grid}
use Rattle.maps.specs.Signs.{sign_of}
use Rattle.maps.specs.declared.refusal.MapRefusal.TheVariants.{Headless, Gauge, Ragged, StrangeSign}
use Rattle.maps.specs.declared.sign.Sign.{Sign}
use Rattle.maps.specs.declared.sign.Sign.TheVariants.{Free, Blocked, Strange}
use Rattle.mapfile.specs.Faults.{fault}
use Rattle.mapfile.specs.declared.fault.Fault.{Fault}

-- a number that was read, and what is left behind its line
pub record Number : Type 0 where
  pub value : ℕ
  pub behind : Rest

-- ---- the heading

abbrev pub opening_text : List ℕ
opening_text = codes "type octile\nheight "

abbrev pub width_text : List ℕ
width_text = codes "width "

abbrev pub map_text : List ℕ
map_text = codes "map\n"

-- what is left behind a fixed text
abbrev pub after_text : List ℕ → ℕ → List ℕ → Result Rest Fault
after_text [] at bytes = Ok (record { at = at; bytes = bytes })
after_text (t ∷ ts) at [] = Err (fault Headless at)
after_text (t ∷ ts) at (b ∷ bs) = cond (b == t) (after_text ts (at + 1) bs) (Err (fault Headless at))

abbrev pub is_digit : ℕ → Bool
is_digit b = nat_le 48 b && nat_le b 57

-- up to so many digits more behind those that come to `value`, and the line's end
abbrev pub more_digits : ℕ → ℕ → ℕ → List ℕ → Result Number Fault
more_digits most value at [] = Err (fault Headless at)
more_digits zero value at (b ∷ bs) =
    cond (b == 10) (Ok (record { value = value; behind = record { at = at + 1; bytes = bs } })) (Err (fault Headless at))
more_digits (suc most) value at (b ∷ bs) =
    cond (is_digit b) (more_digits most (value * 10 + (b - 48)) (at + 1) bs)
    (cond (b == 10) (Ok (record { value = value; behind = record { at = at + 1; bytes = bs } })) (Err (fault Headless at)))

-- one to three digits, and the line's end
abbrev pub number_line : ℕ → List ℕ → Result Number Fault
number_line at [] = Err (fault Headless at)
number_line at (b ∷ bs) = cond (is_digit b) (more_digits 2 (b - 48) (at + 1) bs) (Err (fault Headless at))

-- the same, and the number is 1 to 32
abbrev pub size_line : ℕ → List ℕ → Result Number Fault
size_line at bytes = do
  n ← number_line at bytes
  refuse (not (nat_le 1 n.value && nat_le n.value 32)) (fault Gauge at)
  Ok n

-- ---- the rows

abbrev pub before_cells : Bool → Result (List Bool) Fault → Result (List Bool) Fault
before_cells free (Ok cells) = Ok (free ∷ cells)
before_cells free (Err f) = Err f

abbrev pub cell : Sign → Bool → ℕ → Result (List Bool) Fault → Result (List Bool) Fault
cell Free ends at others = before_cells true others
cell Blocked ends at others = before_cells false others
cell Strange ends at others = Err (fault (cond ends Ragged StrangeSign) at)

-- the cells of so many rows more, of the first of which so many signs are left
abbrev pub body : ℕ → ℕ → ℕ → ℕ → List ℕ → Result (List Bool) Fault
body zero columns width at [] = Ok []
body zero columns width at (b ∷ bs) = Err (fault Ragged at)
body (suc rows) columns width at [] = Err (fault Ragged at)
body (suc rows) zero width at (b ∷ bs) = cond (b == 10) (body rows width width (at + 1) bs) (Err (fault Ragged at))
body (suc rows) (suc columns) width at (b ∷ bs) = cell (sign_of b) (b == 10) at (body (suc rows) columns width (at + 1) bs)

-- ---- the file

unfoldable pub grid_reading : List ℕ → Result Grid Fault
grid_reading bytes = do
  opened ← after_text opening_text 0 bytes
  height ← size_line opened.at opened.bytes
  named ← after_text width_text height.behind.at height.behind.bytes
  width ← size_line named.at named.bytes
  headed ← after_text map_text width.behind.at width.behind.bytes
  free ← body height.value width.value width.value headed.at headed.bytes
  Ok (record { height = height.value; width = width.value; free = free })
