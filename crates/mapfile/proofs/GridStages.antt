-- The reading of a grid file from each of its stages on, and the beginnings that lead there.
use Rattle.std.proofs.Common.{◌≡◌, ℕ, List, ◌∷◌, ◌++◌, length, Ok, Result, sym, ap, ◌∙◌, append_assoc, length-append, arith}
use Rattle.floor.proofs.Chains.{bind_at}
use Rattle.cursor.specs.Rests.{Rest}
use Rattle.floor.specs.Checks.{◌>>=◌}
use Rattle.maps.specs.Grids.{Grid}
use Rattle.mapfile.proofs.Numerals.{size_read}
use Rattle.mapfile.proofs.Texts.{text_passed}
use Rattle.mapfile.specs.GridFiles.{opening_text, width_text, map_text, after_text, size_line, body, grid_reading}
use Rattle.mapfile.specs.GridLayout.{ToHeight, ToWidth}
use Rattle.mapfile.specs.declared.fault.Fault.{Fault}

abbrev pub behind_map : ℕ → ℕ → Rest → Result Grid Fault
behind_map height width rest = do
  free ← body height width width rest.at rest.bytes
  Ok (record { height = height; width = width; free = free })

abbrev pub from_map : ℕ → ℕ → Rest → Result Grid Fault
from_map height width rest = after_text map_text rest.at rest.bytes >>= behind_map height width

abbrev pub behind_width : ℕ → Rest → Result Grid Fault
behind_width height rest = do
  width ← size_line rest.at rest.bytes
  from_map height width.value width.behind

abbrev pub from_width : ℕ → Rest → Result Grid Fault
from_width height rest = after_text width_text rest.at rest.bytes >>= behind_width height

abbrev pub behind_opening : Rest → Result Grid Fault
behind_opening rest = do
  height ← size_line rest.at rest.bytes
  from_width height.value height.behind

-- ---- what leads to each

pub opened : (rest : List ℕ) → grid_reading (opening_text ++ rest) ≡ behind_opening (record { at = length opening_text; bytes = rest })
unfolding grid_reading
opened rest = bind_at (after_text opening_text 0 (opening_text ++ rest)) behind_opening _ (text_passed opening_text 0 rest)

module _ (height : ℕ) (front rest : List ℕ) (t : ToHeight height front) where
  pub height_read : grid_reading (front ++ rest) ≡ from_width height (record { at = length front; bytes = rest })
  height_read =
      let text : front ++ rest ≡ opening_text ++ (t.digits ++ 10 ∷ rest) = simp append_assoc at (ap (λ l. l ++ rest) t.text) in
      let long = simp length-append at (ap length t.text) in
      ap grid_reading text ∙ opened (t.digits ++ 10 ∷ rest)
      ∙ bind_at (size_line (length opening_text) (t.digits ++ 10 ∷ rest)) _ _ (size_read (length opening_text) t.digits rest height t.numeral t.gauged)
      ∙ ap (λ m. from_width height (record { at = m; bytes = rest })) (omega (arith, long))

pub width_named : (height : ℕ) (front rest : List ℕ) → ToHeight height front → grid_reading (front ++ (width_text ++ rest)) ≡ behind_width height (record { at = length (front ++ width_text); bytes = rest })
width_named height front rest t =
    height_read height front (width_text ++ rest) t
    ∙ bind_at (after_text width_text (length front) (width_text ++ rest)) (behind_width height) _ (text_passed width_text (length front) rest)
    ∙ ap (λ m. behind_width height (record { at = m; bytes = rest })) (sym (length-append front width_text))

module _ (height width : ℕ) (front rest : List ℕ) (t : ToWidth height width front) where
  pub width_read : grid_reading (front ++ rest) ≡ from_map height width (record { at = length front; bytes = rest })
  width_read =
      let text : front ++ rest ≡ t.upper ++ (width_text ++ (t.digits ++ 10 ∷ rest)) = simp append_assoc at (ap (λ l. l ++ rest) t.text) in
      let long = simp length-append at (ap length t.text) in
      let at = length (t.upper ++ width_text) in
      ap grid_reading text ∙ width_named height t.upper (t.digits ++ 10 ∷ rest) t.headed
      ∙ bind_at (size_line at (t.digits ++ 10 ∷ rest)) _ _ (size_read at t.digits rest width t.numeral t.gauged)
      ∙ ap (λ m. from_map height width (record { at = m; bytes = rest })) (simp length-append (omega (arith, long)))

pub map_named : (height width : ℕ) (front rest : List ℕ) → ToWidth height width front → grid_reading (front ++ (map_text ++ rest)) ≡ behind_map height width (record { at = length (front ++ map_text); bytes = rest })
map_named height width front rest t =
    width_read height width front (map_text ++ rest) t
    ∙ bind_at (after_text map_text (length front) (map_text ++ rest)) (behind_map height width) _ (text_passed map_text (length front) rest)
    ∙ ap (λ m. behind_map height width (record { at = m; bytes = rest })) (sym (length-append front map_text))
