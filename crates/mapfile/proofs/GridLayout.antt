-- A grid file is read exactly when it is laid out as one, and has a fault exactly where it is the first.
use Rattle.std.proofs.Common.{◌≡◌, ℕ, List, [], ◌∷◌, ◌++◌, length, Ok, Err, refl, sym, ap, ◌∙◌, append_assoc, zero-add}
use Rattle.maps.specs.Grids.{Grid, Sized}
use Rattle.maps.specs.declared.refusal.MapRefusal.{MapRefusal}
use Rattle.maps.specs.declared.refusal.MapRefusal.TheVariants.{Headless}
use Rattle.floor.proofs.Chains.{bind_at}
use Rattle.mapfile.proofs.Bodies.{body_fails, rows_read}
use Rattle.mapfile.proofs.FaultAnswers.{stage_fault}
use Rattle.mapfile.proofs.GridStages.{behind_opening, height_read, map_named, opened, width_named, width_read}
use Rattle.mapfile.proofs.GridTells.{Laid, Faulty, grid_reading_tells}
use Rattle.mapfile.proofs.Numerals.{size_fails, size_refused}
use Rattle.mapfile.proofs.Texts.{text_fails}
use Rattle.mapfile.specs.Faults.{fault}
use Rattle.mapfile.specs.GridFiles.{opening_text, width_text, map_text, after_text, size_line, body, grid_reading}
use Rattle.mapfile.specs.GridLayout.{lines, GridFault, GridFaultsExactly, GridReadExactly, GridText, ToHeight, ToWidth, height_off_gauge, no_height, no_map_line, no_width, no_width_label, not_opened, width_off_gauge, wrong_rows}
use Rattle.std.proofs.lemmas.Result.{MatchResult-at_ok, MatchResult-at_err}

module _ (bytes : List ℕ) (g : Grid) (sized : Sized g) (t : GridText g bytes) where
  abbrev upper : List ℕ
  upper = opening_text ++ (t.height_digits ++ 10 ∷ [])

  abbrev front : List ℕ
  front = upper ++ (width_text ++ (t.width_digits ++ 10 ∷ []))

  to_height : ToHeight g.height upper
  to_height = record { digits = t.height_digits; numeral = t.height; gauged = (sized.some_rows, sized.most_rows); text = refl }

  to_width : ToWidth g.height g.width front
  to_width = record { upper = upper; headed = to_height; digits = t.width_digits; numeral = t.width; gauged = (sized.some_columns, sized.most_columns); text = refl }

  laid_is_read : grid_reading bytes ≡ Ok g
  laid_is_read =
      let text : bytes ≡ front ++ (map_text ++ lines t.rows) = simp append_assoc t.text in
      let at = length (front ++ map_text) in
      ap grid_reading text ∙ map_named g.height g.width front (lines t.rows) to_width
      ∙ bind_at (body g.height g.width g.width at (lines t.rows)) _ _ (ap (λ n. body n g.width g.width at (lines t.rows)) (sym t.tall) ∙ rows_read g.width at t.rows t.wide)
      ∙ ap (λ free. Ok (record { height = g.height; width = g.width; free = free })) (sym t.cells)

pub grid_read_exactly : (bytes : List ℕ) → GridReadExactly bytes
grid_read_exactly bytes g =
    (λ e. MatchResult-at_ok (Laid bytes) (Faulty bytes) g e (grid_reading_tells bytes), λ h. laid_is_read bytes g h.0 h.1)

-- ---- the first fault

fault_found : (bytes : List ℕ) (e : MapRefusal) (k : ℕ) → GridFault bytes e k → grid_reading bytes ≡ Err (fault e k)
unfolding grid_reading
fault_found bytes e k (not_opened at departs) =
    stage_fault (after_text opening_text 0 bytes) behind_opening _ (text_fails opening_text 0 bytes at departs ∙ ap (λ m. Err (fault Headless m)) (zero-add at))
fault_found bytes e k (no_height rest at text none) =
    ap grid_reading text ∙ opened rest ∙ stage_fault (size_line (length opening_text) rest) _ _ (size_fails (length opening_text) rest at none)
fault_found bytes e k (height_off_gauge digits rest n text numeral off) =
    ap grid_reading text ∙ opened (digits ++ 10 ∷ rest)
    ∙ stage_fault (size_line (length opening_text) (digits ++ 10 ∷ rest)) _ _ (size_refused (length opening_text) digits rest n numeral off)
fault_found bytes e k (no_width_label height front rest at text headed departs) =
    ap grid_reading text ∙ height_read height front rest headed ∙ stage_fault (after_text width_text (length front) rest) _ _ (text_fails width_text (length front) rest at departs)
fault_found bytes e k (no_width height front rest at text headed none) =
    ap grid_reading text ∙ width_named height front rest headed ∙ stage_fault (size_line (length (front ++ width_text)) rest) _ _ (size_fails (length (front ++ width_text)) rest at none)
fault_found bytes e k (width_off_gauge height front digits rest n text headed numeral off) =
    ap grid_reading text ∙ width_named height front (digits ++ 10 ∷ rest) headed
    ∙ stage_fault (size_line (length (front ++ width_text)) (digits ++ 10 ∷ rest)) _ _ (size_refused (length (front ++ width_text)) digits rest n numeral off)
fault_found bytes e k (no_map_line height width front rest at text headed departs) =
    ap grid_reading text ∙ width_read height width front rest headed ∙ stage_fault (after_text map_text (length front) rest) _ _ (text_fails map_text (length front) rest at departs)
fault_found bytes e k (wrong_rows height width front rest d at text headed wrong) =
    ap grid_reading text ∙ map_named height width front rest headed
    ∙ stage_fault (body height width width (length (front ++ map_text)) rest) _ _ (body_fails width height (length (front ++ map_text)) rest d at wrong)

pub grid_faults_exactly : (bytes : List ℕ) → GridFaultsExactly bytes
grid_faults_exactly bytes f =
    (λ e. MatchResult-at_err (Laid bytes) (Faulty bytes) f e (grid_reading_tells bytes), fault_found bytes f.refusal f.offset)
