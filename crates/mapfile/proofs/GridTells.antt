-- What the reading of a grid file tells: a grid that is laid out in the bytes, or the first fault.
use Rattle.std.proofs.Common.{◌≡◌, ℕ, ◌*◌, List, [], ◌∷◌, ◌++◌, length, refl, ap, ◌∙◌, append_assoc, arith, length-append, MatchResult}
use Rattle.maps.specs.Grids.{Grid, Sized}
use Rattle.maps.specs.declared.refusal.MapRefusal.{MapRefusal}
use Rattle.mapfile.proofs.Bodies.{cells_of, rows_tell, length_cells}
use Rattle.floor.proofs.Chains.{then_tells}
use Rattle.mapfile.proofs.GridStages.{behind_map, from_map, behind_width, from_width, behind_opening}
use Rattle.mapfile.proofs.Numerals.{size_tells}
use Rattle.mapfile.proofs.Texts.{text_tells}
use Rattle.mapfile.specs.GridFiles.{opening_text, width_text, map_text, after_text, size_line, body, grid_reading}
use Rattle.mapfile.specs.GridLayout.{RowsOf, lines, GridText, ToHeight, ToWidth, GridFault, not_opened, no_height, height_off_gauge, no_width_label, no_width, width_off_gauge, no_map_line, wrong_rows}
use Rattle.mapfile.specs.declared.fault.Fault.{Fault}

module _ (bytes : List ℕ) where
  abbrev pub Laid : Grid → Type 0
  Laid g = Sized g × GridText g bytes

  abbrev pub Faulty : Fault → Type 0
  Faulty f = GridFault bytes f.refusal f.offset

  faulty_at : {e : MapRefusal} {n : ℕ} (m : ℕ) → GridFault bytes e n → m ≡ n → GridFault bytes e m
  faulty_at m h is = rw is h

  laid : (height width : ℕ) (front : List ℕ) (rows : List (List ℕ)) → ToWidth height width front → length rows ≡ height → RowsOf width rows → bytes ≡ front ++ (map_text ++ lines rows) →
      Laid (record { height = height; width = width; free = cells_of rows })
  laid height width front rows headed tall wide text = (
    record {
      some_rows = headed.headed.gauged.0;
      most_rows = headed.headed.gauged.1;
      some_columns = headed.gauged.0;
      most_columns = headed.gauged.1;
      filled = length_cells width rows wide ∙ ap (λ n. n * width) tall;
    },
    record {
      height_digits = headed.headed.digits;
      width_digits = headed.digits;
      rows = rows;
      height = headed.headed.numeral;
      width = headed.numeral;
      tall = tall;
      wide = wide;
      cells = refl;
      text = simp (headed.text, headed.headed.text, append_assoc) at text;
    },
  )

  behind_map_tells : (height width at : ℕ) (front rest : List ℕ) → at ≡ length (front ++ map_text) → bytes ≡ front ++ (map_text ++ rest) → ToWidth height width front →
      MatchResult (behind_map height width (record { at = at; bytes = rest })) Laid Faulty
  behind_map_tells height width at front rest is text headed = then_tells Laid Faulty (body height width width at rest) _ (rows_tell at height width rest Faulty
      (λ k m e wrong is_m. faulty_at m (wrong_rows height width front rest e k text headed wrong) (omega arith))
      _ (λ rows tall wide text_m. laid height width front rows headed tall wide (text ∙ ap (λ l. front ++ (map_text ++ l)) text_m)))

  from_map_tells : (height width at : ℕ) (front rest : List ℕ) → at ≡ length front → bytes ≡ front ++ rest → ToWidth height width front →
      MatchResult (from_map height width (record { at = at; bytes = rest })) Laid Faulty
  from_map_tells height width at front rest is text headed = then_tells Laid Faulty (after_text map_text at rest) _ (text_tells _ Faulty map_text at rest
      (λ below m is_m text_m. behind_map_tells height width m front below (simp length-append (omega arith)) (text ∙ ap (λ l. front ++ l) text_m) headed)
      (λ k m is_m departs. faulty_at m (no_map_line height width front rest k text headed departs) (omega arith)))

  behind_width_tells : (height at : ℕ) (front rest : List ℕ) → at ≡ length (front ++ width_text) → bytes ≡ front ++ (width_text ++ rest) → ToHeight height front →
      MatchResult (behind_width height (record { at = at; bytes = rest })) Laid Faulty
  behind_width_tells height at front rest is text headed =
      let at_end = simp length-append at is in
      then_tells Laid Faulty (size_line at rest) _ (size_tells _ Faulty at rest
      (λ digits below width m size is_m text_m. from_map_tells height width m (front ++ (width_text ++ (digits ++ 10 ∷ []))) below
      (simp length-append (omega arith)) (simp append_assoc (text ∙ ap (λ l. front ++ (width_text ++ l)) text_m))
      (record { upper = front; headed = headed; digits = digits; numeral = size.0; gauged = size.1; text = refl }))
      (λ k m none is_m. faulty_at m (no_width height front rest k text headed none) (omega arith))
      (λ digits below width numeral off text_m. faulty_at at (width_off_gauge height front digits below width (text ∙ ap (λ l. front ++ (width_text ++ l)) text_m) headed numeral off) is))

  from_width_tells : (height at : ℕ) (front rest : List ℕ) → at ≡ length front → bytes ≡ front ++ rest → ToHeight height front →
      MatchResult (from_width height (record { at = at; bytes = rest })) Laid Faulty
  from_width_tells height at front rest is text headed = then_tells Laid Faulty (after_text width_text at rest) _ (text_tells _ Faulty width_text at rest
      (λ below m is_m text_m. behind_width_tells height m front below (simp length-append (omega arith)) (text ∙ ap (λ l. front ++ l) text_m) headed)
      (λ k m is_m departs. faulty_at m (no_width_label height front rest k text headed departs) (omega arith)))

  behind_opening_tells : (at : ℕ) (rest : List ℕ) → at ≡ length opening_text → bytes ≡ opening_text ++ rest → MatchResult (behind_opening (record { at = at; bytes = rest })) Laid Faulty
  behind_opening_tells at rest is text = then_tells Laid Faulty (size_line at rest) _ (size_tells _ Faulty at rest
      (λ digits below height m size is_m text_m. from_width_tells height m (opening_text ++ (digits ++ 10 ∷ [])) below
      (simp length-append (omega arith)) (simp append_assoc (text ∙ ap (λ l. opening_text ++ l) text_m))
      (record { digits = digits; numeral = size.0; gauged = size.1; text = refl }))
      (λ k m none is_m. faulty_at m (no_height rest k text none) (omega arith))
      (λ digits below height numeral off text_m. faulty_at at (height_off_gauge digits below height (text ∙ ap (λ l. opening_text ++ l) text_m) numeral off) is))

  pub grid_reading_tells : MatchResult (grid_reading bytes) Laid Faulty
  unfolding grid_reading
  grid_reading_tells = then_tells Laid Faulty (after_text opening_text 0 bytes) _ (text_tells _ Faulty opening_text 0 bytes
      (λ below m is_m text_m. behind_opening_tells m below (omega arith) text_m)
      (λ k m is_m departs. faulty_at m (not_opened k departs) (omega arith)))
