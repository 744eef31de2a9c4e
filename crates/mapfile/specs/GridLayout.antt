-- The layout of a grid file, and what its first fault is.
use Rattle.std.specs.Prelude.{◌≡◌, ℕ, ◌+◌, ◌-◌, ◌*◌, ◌<◌, ◌≤◌, true, ◌||◌, ◌↔◌, List, [], ◌∷◌, ◌++◌, map, length, take, IfSome, Ok, Err, fold, All, ◌≢◌}
use Rattle.maps.specs.Grids.{Grid, InGauge, Sized}
use Rattle.maps.specs.Signs.{is_free, is_blocked}
use Rattle.maps.specs.declared.refusal.MapRefusal.{MapRefusal}
use Rattle.maps.specs.declared.refusal.MapRefusal.TheVariants.{Headless, Gauge, Ragged, StrangeSign}
use Rattle.mapfile.specs.GridFiles.{opening_text, width_text, map_text, grid_reading}
use Rattle.mapfile.specs.declared.fault.Fault.{Fault}
use Rattle.std.specs.List.{slice_get, flat_map}

-- ---- the layout

abbrev pub Digit : ℕ → Type 0
Digit b = (48 ≤ b) × (b ≤ 57)

-- one to three decimal digits that come to n
pub record Numeral (digits : List ℕ) (n : ℕ) : Type 0 where
  pub some : 1 ≤ length digits
  pub most : length digits ≤ 3
  pub decimal : All Digit digits
  pub value : n ≡ fold (λ v b. v * 10 + (b - 48)) 0 digits

abbrev pub IsSign : ℕ → Type 0
IsSign b = (is_free b || is_blocked b) ≡ true

-- every line is ended by byte 10
abbrev pub lines : List (List ℕ) → List ℕ
lines rows = flat_map (λ row. row ++ 10 ∷ []) rows

-- rows of so many signs each
abbrev pub RowsOf : ℕ → List (List ℕ) → Type 0
RowsOf width rows = All (λ row. (length row ≡ width) × All IsSign row) rows

-- the bytes are the text of the grid
pub record GridText (g : Grid) (bytes : List ℕ) : Type 0 where
  pub height_digits : List ℕ
  pub width_digits : List ℕ
  pub rows : List (List ℕ)
  pub height : Numeral height_digits g.height
  pub width : Numeral width_digits g.width
  pub tall : length rows ≡ g.height
  pub wide : RowsOf g.width rows
  pub cells : g.free ≡ flat_map (map is_free) rows
  pub text : bytes ≡ opening_text ++ (height_digits ++ 10 ∷ (width_text ++ (width_digits ++ 10 ∷ (map_text ++ lines rows))))

-- a grid is read exactly when the bytes are its text
abbrev pub GridReadExactly : List ℕ → Type 0
GridReadExactly bytes = (g : Grid) → (grid_reading bytes ≡ Ok g) ↔ Sized g × GridText g bytes

-- ---- the first fault

-- the bytes are as the text up to k, and not at k
pub record Departs (text bytes : List ℕ) (k : ℕ) : Type 0 where
  pub within : k < length text
  pub there : k ≤ length bytes
  pub same : take k bytes ≡ take k text
  pub departs : slice_get bytes k ≡ slice_get text k → ⊥

-- at most three digits up to k, and at k neither a digit that may come nor the end of a line with a digit
pub record NoNumber (bytes : List ℕ) (k : ℕ) : Type 0 where
  pub most : k ≤ 3
  pub there : k ≤ length bytes
  pub digits : All Digit (take k bytes)
  pub departs : IfSome (slice_get bytes k) (λ b. (k < 3 → Digit b → ⊥) × (1 ≤ k → b ≢ 10))

-- the heading up to the end of the height's line
pub record ToHeight (height : ℕ) (front : List ℕ) : Type 0 where
  pub digits : List ℕ
  pub numeral : Numeral digits height
  pub gauged : InGauge height
  pub text : front ≡ opening_text ++ (digits ++ 10 ∷ [])

-- the heading up to the end of the width's line
pub record ToWidth (height width : ℕ) (front : List ℕ) : Type 0 where
  pub upper : List ℕ
  pub headed : ToHeight height upper
  pub digits : List ℕ
  pub numeral : Numeral digits width
  pub gauged : InGauge width
  pub text : front ≡ upper ++ (width_text ++ (digits ++ 10 ∷ []))

-- what stands where row number `row` has had `column` signs is not what is due there
pub data Wrong (height width row column : ℕ) : List ℕ → MapRefusal → Type 0 where
  behind_last_row : {b : ℕ} {rest : List ℕ} → row ≡ height → column ≡ 0 → Wrong height width row column (b ∷ rest) Ragged
  file_ends : row < height → column ≤ width → Wrong height width row column [] Ragged
  row_too_long : {b : ℕ} {rest : List ℕ} → row < height → column ≡ width → (b ≢ 10) → Wrong height width row column (b ∷ rest) Ragged
  row_too_short : {b : ℕ} {rest : List ℕ} → row < height → column < width → b ≡ 10 → Wrong height width row column (b ∷ rest) Ragged
  strange_sign : {b : ℕ} {rest : List ℕ} → row < height → column < width → (b ≢ 10) → (IsSign b → ⊥) → Wrong height width row column (b ∷ rest) StrangeSign

-- some rows, a part of the next, and then what is wrong
pub record WrongBody (height width : ℕ) (bytes : List ℕ) (e : MapRefusal) (k : ℕ) : Type 0 where
  pub rows : List (List ℕ)
  pub part : List ℕ
  pub rest : List ℕ
  pub wide : RowsOf width rows
  pub signs : All IsSign part
  pub text : bytes ≡ lines rows ++ (part ++ rest)
  pub place : k ≡ length (lines rows ++ part)
  pub wrong : Wrong height width (length rows) (length part) rest e

-- all before the offset is as laid down, and what stands there is not
pub data GridFault (bytes : List ℕ) : MapRefusal → ℕ → Type 0 where
  not_opened : (k : ℕ) → Departs opening_text bytes k → GridFault bytes Headless k
  no_height : (rest : List ℕ) (k : ℕ) → bytes ≡ opening_text ++ rest → NoNumber rest k → GridFault bytes Headless (length opening_text + k)
  height_off_gauge : (digits rest : List ℕ) (n : ℕ) → bytes ≡ opening_text ++ (digits ++ 10 ∷ rest) → Numeral digits n → (InGauge n → ⊥) → GridFault bytes Gauge (length opening_text)
  no_width_label : (height : ℕ) (front rest : List ℕ) (k : ℕ) → bytes ≡ front ++ rest → ToHeight height front → Departs width_text rest k → GridFault bytes Headless (length front + k)
  no_width : (height : ℕ) (front rest : List ℕ) (k : ℕ) → bytes ≡ front ++ (width_text ++ rest) → ToHeight height front → NoNumber rest k → GridFault bytes Headless (length (front ++ width_text) + k)
  width_off_gauge : (height : ℕ) (front digits rest : List ℕ) (n : ℕ) → bytes ≡ front ++ (width_text ++ (digits ++ 10 ∷ rest)) → ToHeight height front → Numeral digits n → (InGauge n → ⊥) → GridFault bytes Gauge (length (front ++ width_text))
  no_map_line : (height width : ℕ) (front rest : List ℕ) (k : ℕ) → bytes ≡ front ++ rest → ToWidth height width front → Departs map_text rest k → GridFault bytes Headless (length front + k)
  wrong_rows : (height width : ℕ) (front rest : List ℕ) (e : MapRefusal) (k : ℕ) → bytes ≡ front ++ (map_text ++ rest) → ToWidth height width front → WrongBody height width rest e k → GridFault bytes e (length (front ++ map_text) + k)

-- a fault is told exactly when it is the first one, and stands where it says
abbrev pub GridFaultsExactly : List ℕ → Type 0
GridFaultsExactly bytes = (f : Fault) → (grid_reading bytes ≡ Err f) ↔ GridFault bytes f.refusal f.offset
