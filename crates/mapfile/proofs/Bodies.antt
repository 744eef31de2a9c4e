-- The rows of a grid are read exactly where they stand as they are due, and a fault is where they first do not.
use Rattle.std.proofs.Common.{◌≡◌, ℕ, zero, suc, ◌+◌, ◌-◌, ◌*◌, ◌≤◌, Bool, true, false, cond, ◌||◌, eqb, List, [], ◌∷◌, ◌++◌, map, length, Ok, Err, All, Result, sym, refl, ap, ap₂, ◌∙◌, add-zero, zero-add, append_assoc, suc-mul, arith, length-append, MatchResult}
use Rattle.maps.specs.Signs.{is_free, is_blocked, sign_of}
use Rattle.maps.specs.declared.refusal.MapRefusal.{MapRefusal}
use Rattle.maps.specs.declared.refusal.MapRefusal.TheVariants.{Ragged, StrangeSign}
use Rattle.maps.specs.declared.sign.Sign.TheVariants.{Free, Blocked, Strange}
use Rattle.floor.proofs.Chains.{cond_tells}
use Rattle.mapfile.specs.Faults.{fault}
use Rattle.mapfile.specs.GridFiles.{before_cells, cell, body}
use Rattle.mapfile.specs.GridReads.{after_cells}
use Rattle.mapfile.proofs.RowSteps.{after_none}
use Rattle.mapfile.specs.GridLayout.{IsSign, lines, RowsOf, Wrong, behind_last_row, file_ends, row_too_long, row_too_short, strange_sign, WrongBody}
use Rattle.mapfile.specs.declared.fault.Fault.{Fault}
use Rattle.std.proofs.lemmas.List.Elements.{All-head, All-nil, All-push, All-tail}
use Rattle.std.proofs.lemmas.List.{append-nil, flat_map_more, length-map, length_push, map_push}
use Rattle.std.proofs.lemmas.Bool.{cond-false, cond_both, eqb-true, eqb-false, false≢true, ne_eqb}
use Rattle.std.proofs.lemmas.Bool.Decides.{Decides-eqb}
use Rattle.std.specs.List.{flat_map}

-- one of the rows that `RowsOf` speaks of
abbrev RowOf : ℕ → List ℕ → Type 0
RowOf width row = (length row ≡ width) × All IsSign row

abbrev pub cells_of : List (List ℕ) → List Bool
cells_of rows = flat_map (map is_free) rows

module _ (Q : Fault → Type 0) where
  before_tells : (P : List Bool → Type 0) (free : Bool) (others : Result (List Bool) Fault) → MatchResult others (λ cells. P (free ∷ cells)) Q → MatchResult (before_cells free others) P Q
  before_tells P free (Ok cells) h = h
  before_tells P free (Err f) h = h

  cell_tells : (P : List Bool → Type 0) (free blocked ends : Bool) (at : ℕ) (others : Result (List Bool) Fault) → ((free || blocked) ≡ true → MatchResult others (λ cells. P (free ∷ cells)) Q) →
      (((free || blocked) ≡ true → ⊥) → Q (fault (cond ends Ragged StrangeSign) at)) → MatchResult (cell (cond free Free (cond blocked Blocked Strange)) ends at others) P Q
  cell_tells P true blocked ends at others sign strange = before_tells P true others (sign refl)
  cell_tells P false true ends at others sign strange = before_tells P false others (sign refl)
  cell_tells P false false ends at others sign strange = strange false≢true

joined_push : {X A : Type 0} (f : X → List A) (xs : List X) (x : X) → flat_map f (xs ++ x ∷ []) ≡ flat_map f xs ++ f x
joined_push f xs x = sym (flat_map_more f [] xs x)

module _ (start height width : ℕ) (bytes : List ℕ) where
  -- some rows and a part of the next are read; so many rows are left, and so many signs of the next
  record Reached (done : List (List ℕ)) (part : List ℕ) (left columns at : ℕ) (bs : List ℕ) : Type 0 where
    wide : RowsOf width done
    signs : All IsSign part
    text : bytes ≡ lines done ++ (part ++ bs)
    place : at ≡ start + length (lines done ++ part)
    tall : length done + left ≡ height
    broad : length part + columns ≡ width
    closed : left ≡ 0 → part ≡ []

  sign_read : {done : List (List ℕ)} {part : List ℕ} {left columns at b : ℕ} {bs : List ℕ} → IsSign b → Reached done part (suc left) (suc columns) at (b ∷ bs) →
      Reached done (part ++ b ∷ []) (suc left) columns (at + 1) bs
  sign_read {part} {b} sign r = record {
    wide = r.wide;
    signs = All-push IsSign part b r.signs sign;
    text = rw append_assoc r.text;
    place = let p = simp length-append at r.place in simp length-append (omega arith);
    tall = r.tall;
    broad = omega (arith, r.broad, length_push part b);
    closed = λ e. absurd (omega arith);
  }

  row_read : {done : List (List ℕ)} {part : List ℕ} {left at b : ℕ} {bs : List ℕ} → b ≡ 10 → Reached done part (suc left) 0 at (b ∷ bs) → Reached (done ++ part ∷ []) [] left width (at + 1) bs
  row_read {done} {part} {bs} e r = record {
    wide = All-push (RowOf width) done part r.wide (omega (arith, r.broad), r.signs);
    signs = All-nil IsSign;
    text = simp (joined_push, append_assoc) (r.text ∙ ap (λ c. lines done ++ (part ++ c ∷ bs)) e);
    place = let p = simp length-append at r.place in simp (joined_push, length-append) (omega arith);
    tall = omega (arith, r.tall, length_push done part);
    broad = omega arith;
    closed = λ _. refl;
  }

  -- what is done with the cells that are still read, if they fill the rows up
  abbrev Reads : (List Bool → Type 0) → List (List ℕ) → List ℕ → Type 0
  Reads P done part =
      (rows : List (List ℕ)) (cells : List Bool) → length rows ≡ height → RowsOf width rows → bytes ≡ lines rows → cells_of done ++ (map is_free part ++ cells) ≡ cells_of rows → P cells

  module _ (Q : Fault → Type 0) (stop : (k m : ℕ) (e : MapRefusal) → WrongBody height width bytes e k → m ≡ start + k → Q (fault e m)) where
    stops : {done : List (List ℕ)} {part : List ℕ} {left columns at : ℕ} {bs : List ℕ} {e : MapRefusal} → Reached done part left columns at bs →
        Wrong height width (length done) (length part) bs e → Q (fault e at)
    stops {done} {part} {at} {bs} {e} r wrong =
        stop (length (lines done ++ part)) at e (record { rows = done; part = part; rest = bs; wide = r.wide; signs = r.signs; text = r.text; place = refl; wrong = wrong }) r.place

    strange_stops : {done : List (List ℕ)} {part : List ℕ} {left columns at b : ℕ} {bs : List ℕ} → Reached done part (suc left) (suc columns) at (b ∷ bs) → (IsSign b → ⊥) →
        Q (fault (cond (eqb b 10) Ragged StrangeSign) at)
    strange_stops {at} {b} r strange = cond_both (eqb b 10) _ _ (λ e. Q (fault e at))
        (λ end. stops r (row_too_short (omega (arith, r.tall)) (omega (arith, r.broad)) (eqb-true b 10 end)))
        (λ other. stops r (strange_sign (omega (arith, r.tall)) (omega (arith, r.broad)) (eqb-false b 10 other) strange))

    rows_left_tell : (P : List Bool → Type 0) (left columns at : ℕ) (bs : List ℕ) (done : List (List ℕ)) (part : List ℕ) → Reached done part left columns at bs → Reads P done part →
        MatchResult (body left columns width at bs) P Q
    rows_left_tell P zero columns at [] done part r read =
        let none = r.closed refl in read done [] (omega (arith, r.tall)) r.wide (simp (none, append-nil) at r.text) (simp (none, append-nil))
    rows_left_tell P zero columns at (b ∷ bs) done part r read = stops r (behind_last_row (omega (arith, r.tall)) (ap length (r.closed refl)))
    rows_left_tell P (suc left) columns at [] done part r read = stops r (file_ends (omega (arith, r.tall)) (omega (arith, r.broad)))
    rows_left_tell P (suc left) zero at (b ∷ bs) done part r read =
        let further = rows_left_tell P left width (at + 1) bs (done ++ part ∷ []) [] in
        cond_tells P Q _ _ _ (Decides-eqb b 10)
        (λ end. further (row_read end r) (λ rows cells tall wide text all. read rows cells tall wide text (simp (joined_push, append_assoc) at all)))
        (λ other. stops r (row_too_long (omega (arith, r.tall)) (omega (arith, r.broad)) other))
    rows_left_tell P (suc left) (suc columns) at (b ∷ bs) done part r read =
        let further = rows_left_tell (λ cells. P (is_free b ∷ cells)) (suc left) columns (at + 1) bs done (part ++ b ∷ []) in
        cell_tells Q P (is_free b) (is_blocked b) (eqb b 10) at _
        (λ sign. further (sign_read sign r) (λ rows cells tall wide text all. read rows (is_free b ∷ cells) tall wide text (simp (map_push, append_assoc) at all)))
        (strange_stops r)

    pub rows_tell : (P : List Bool → Type 0) → ((rows : List (List ℕ)) → length rows ≡ height → RowsOf width rows → bytes ≡ lines rows → P (cells_of rows)) →
        MatchResult (body height width width start bytes) P Q
    rows_tell P read = rows_left_tell P height width start bytes [] [] (record { wide = All-nil (RowOf width); signs = All-nil IsSign; text = refl; place = omega arith; tall = omega arith; broad = omega arith; closed = λ _. refl })
        (λ rows cells tall wide text all. rw all (read rows tall wide text))

-- ---- what rows give, and where they fail

after_both : (before cells : List Bool) (r : Result (List Bool) Fault) → after_cells before (after_cells cells r) ≡ after_cells (before ++ cells) r
after_both before cells (Ok others) = ap Ok (sym (append_assoc before cells others))
after_both before cells (Err f) = refl

after_first : (free : Bool) (cells : List Bool) (r : Result (List Bool) Fault) → before_cells free (after_cells cells r) ≡ after_cells (free ∷ cells) r
after_first free cells (Ok others) = refl
after_first free cells (Err f) = refl

sign_gives : (free blocked ends : Bool) (at : ℕ) (others : Result (List Bool) Fault) → (free || blocked) ≡ true → cell (cond free Free (cond blocked Blocked Strange)) ends at others ≡ before_cells free others
sign_gives true blocked ends at others sign = refl
sign_gives false true ends at others sign = refl
sign_gives false false ends at others sign = absurd (false≢true sign)

strange_fails : (free blocked ends : Bool) (at : ℕ) (others : Result (List Bool) Fault) → ((free || blocked) ≡ true → ⊥) → cell (cond free Free (cond blocked Blocked Strange)) ends at others ≡ Err (fault (cond ends Ragged StrangeSign) at)
strange_fails true blocked ends at others strange = absurd (strange refl)
strange_fails false true ends at others strange = absurd (strange refl)
strange_fails false false ends at others strange = refl

module _ (width : ℕ) where
  -- a part of a row
  part_read : (left columns due at : ℕ) (part rest : List ℕ) → All IsSign part → due ≡ length part + columns →
      body (suc left) due width at (part ++ rest) ≡ after_cells (map is_free part) (body (suc left) columns width (at + length part) rest)
  part_read left columns due at [] rest signs is =
      ap₂ (λ c m. body (suc left) c width m rest) (is ∙ zero-add columns) (sym (add-zero at)) ∙ after_none [] _ refl
  part_read left columns zero at (b ∷ bs) rest signs is = absurd (omega arith)
  part_read left columns (suc due) at (b ∷ bs) rest signs is =
      sign_gives (is_free b) (is_blocked b) (eqb b 10) at _ (All-head IsSign b bs signs)
      ∙ ap (before_cells (is_free b)) (part_read left columns due (at + 1) bs rest (All-tail IsSign b bs signs) (omega arith))
      ∙ after_first (is_free b) (map is_free bs) _
      ∙ ap (λ m. after_cells (map is_free (b ∷ bs)) (body (suc left) columns width m rest)) (omega arith)

  row_read_on : (left at : ℕ) (row rest : List ℕ) → RowOf width row → body (suc left) width width at (row ++ 10 ∷ rest) ≡ after_cells (map is_free row) (body left width width (at + length row + 1) rest)
  row_read_on left at row rest signs = part_read left 0 width at row (10 ∷ rest) signs.1 (omega (arith, signs.0))

  rows_read_on : (left due at : ℕ) (rows : List (List ℕ)) (rest : List ℕ) → RowsOf width rows → due ≡ length rows + left →
      body due width width at (lines rows ++ rest) ≡ after_cells (cells_of rows) (body left width width (at + length (lines rows)) rest)
  rows_read_on left due at [] rest wide is =
      ap₂ (λ n m. body n width width m rest) (is ∙ zero-add left) (sym (add-zero at)) ∙ after_none [] _ refl
  rows_read_on left zero at (row ∷ rows) rest wide is = absurd (omega arith)
  rows_read_on left (suc due) at (row ∷ rows) rest wide is =
      let others = rows_read_on left due (at + length row + 1) rows rest (All-tail (RowOf width) row rows wide) (omega arith) in
      ap (body (suc due) width width at) (simp append_assoc)
      ∙ row_read_on due at row (lines rows ++ rest) (All-head (RowOf width) row rows wide)
      ∙ ap (after_cells (map is_free row)) others
      ∙ after_both (map is_free row) (cells_of rows) _
      ∙ ap (λ m. after_cells (cells_of (row ∷ rows)) (body left width width m rest)) (simp length-append (omega arith))

  pub rows_read : (at : ℕ) (rows : List (List ℕ)) → RowsOf width rows → body (length rows) width width at (lines rows) ≡ Ok (cells_of rows)
  rows_read at rows wide =
      ap (body (length rows) width width at) (sym (append-nil (lines rows))) ∙ rows_read_on 0 (length rows) at rows [] wide (omega arith) ∙ ap Ok (append-nil (cells_of rows))

  -- within a row
  in_row : (left columns due at : ℕ) (part rest : List ℕ) (f : Fault) → All IsSign part → due ≡ suc left → width ≡ length part + columns → body (suc left) columns width (at + length part) rest ≡ Err f →
      body due width width at (part ++ rest) ≡ Err f
  in_row left columns due at part rest f signs is broad fails =
      ap (λ n. body n width width at (part ++ rest)) is ∙ part_read left columns width at part rest signs broad ∙ ap (after_cells (map is_free part)) fails

  part_fails : (height row at : ℕ) (part rest : List ℕ) (e : MapRefusal) → All IsSign part → Wrong height width row (length part) rest e → body (height - row) width width at (part ++ rest) ≡ Err (fault e (at + length part))
  part_fails height row at [] rest e signs (behind_last_row {b} {rest = others} last start) =
      let none : height - row ≡ 0 = omega arith in ap₂ (λ n m. body n width width m (b ∷ others)) none (sym (add-zero at))
  part_fails height row at (p ∷ ps) rest e signs (behind_last_row last start) = absurd (omega arith)
  part_fails height row at part rest e signs (file_ends down across) =
      in_row (height - row - 1) (width - length part) (height - row) at part [] _ signs (omega arith) (omega arith) refl
  part_fails height row at part rest e signs (row_too_long {b} {rest = others} down full other) =
      in_row (height - row - 1) 0 (height - row) at part (b ∷ others) _ signs (omega arith) (omega arith) (cond-false _ _ _ (ne_eqb b 10 other))
  part_fails height row at part rest e signs (row_too_short {b} {rest = others} down across end) =
      in_row (height - row - 1) (suc (width - length part - 1)) (height - row) at part (b ∷ others) _ signs (omega arith) (omega arith)
      (ap (λ c. cell (sign_of c) (eqb c 10) (at + length part) (body (suc (height - row - 1)) (width - length part - 1) width (at + length part + 1) others)) end)
  part_fails height row at part rest e signs (strange_sign {b} {rest = others} down across other strange) =
      in_row (height - row - 1) (suc (width - length part - 1)) (height - row) at part (b ∷ others) _ signs (omega arith) (omega arith)
      (strange_fails (is_free b) (is_blocked b) (eqb b 10) (at + length part) _ strange
      ∙ ap (λ end. Err (fault (cond end Ragged StrangeSign) (at + length part))) (ne_eqb b 10 other))

  row_within : (height row column : ℕ) (rest : List ℕ) (e : MapRefusal) → Wrong height width row column rest e → row ≤ height
  row_within height row column rest e (behind_last_row last start) = omega arith
  row_within height row column rest e (file_ends down across) = omega arith
  row_within height row column rest e (row_too_long down full other) = omega arith
  row_within height row column rest e (row_too_short down across end) = omega arith
  row_within height row column rest e (strange_sign down across other strange) = omega arith

  pub body_fails : (height at : ℕ) (bytes : List ℕ) (e : MapRefusal) (k : ℕ) → WrongBody height width bytes e k → body height width width at bytes ≡ Err (fault e (at + k))
  body_fails height at bytes e k w =
      let down = row_within height (length w.rows) (length w.part) w.rest e w.wrong in
      let place = simp length-append at w.place in
      ap (body height width width at) w.text
      ∙ rows_read_on (height - length w.rows) height at w.rows (w.part ++ w.rest) w.wide (omega arith)
      ∙ ap (after_cells (cells_of w.rows)) (part_fails height (length w.rows) (at + length (lines w.rows)) w.part w.rest e w.signs w.wrong)
      ∙ ap (λ m. Err (fault e m)) (omega arith)

pub length_cells : (width : ℕ) (rows : List (List ℕ)) → RowsOf width rows → length (cells_of rows) ≡ length rows * width
length_cells width [] wide = omega arith
length_cells width (row ∷ rows) wide =
    let first = All-head (RowOf width) row rows wide in
    let others = length_cells width rows (All-tail (RowOf width) row rows wide) in
    simp (length-append, length-map, suc-mul) (omega (arith, first.0))
