-- The rows of a grid, read sign by sign.
use Rattle.std.proofs.Common.{◌≡◌, ℕ, zero, suc, ◌+◌, ◌-◌, ◌<◌, ◌≤◌, eqb, Bool, List, [], ◌∷◌, ◌++◌, length, get_or, drop, Ok, Err, Result, sym, refl, ap, ◌∙◌, append_assoc, append-nil, sub-one, arith}
use Rattle.maps.specs.Signs.{sign_of}
use Rattle.mapfile.specs.GridFiles.{before_cells, body, cell}
use Rattle.mapfile.specs.GridReads.{ReadsCell, ReadsRow, after_cells}
use Rattle.cursor.specs.declared.reader.Cursor.{Cursor}
use Rattle.mapfile.specs.declared.fault.Fault.{Fault}
use Rattle.std.proofs.lemmas.List.{at_drop_more, at_drop_all}

pub after_none : (cells : List Bool) (r : Result (List Bool) Fault) → cells ≡ [] → r ≡ after_cells cells r
after_none cells (Ok others) none = rw none
after_none cells (Err f) none = refl

after_push : (cells : List Bool) (free : Bool) (r : Result (List Bool) Fault) → after_cells cells (before_cells free r) ≡ after_cells (cells ++ free ∷ []) r
after_push cells free (Ok others) = ap Ok (sym (append_assoc cells (free ∷ []) others))
after_push cells free (Err f) = refl

sign_due : (rows columns width at i : ℕ) (bytes : List ℕ) → 0 < columns → i < length bytes
    → body (suc rows) columns width at (drop i bytes) ≡ cell (sign_of (get_or bytes i 0)) (eqb (get_or bytes i 0) 10) at (body (suc rows) (columns - 1) width (at + 1) (drop (i + 1) bytes))
sign_due rows zero width at i bytes due there = absurd (omega arith)
sign_due rows (suc columns) width at i bytes due there = rw sub-one (at_drop_more (body (suc rows) (suc columns) width at) bytes i 0 there)

-- the reading of all rows, by the cells so far and by what is left of a row and of those behind it
module _ (all : Result (List Bool) Fault) (cells : List Bool) (rows width at i : ℕ) (bytes : List ℕ)
    (inv : all ≡ after_cells cells (body (suc rows) (width - i) width (at + i) (drop i bytes))) where
  all_from : {left : Result (List Bool) Fault} → body (suc rows) (width - i) width (at + i) (drop i bytes) ≡ left → all ≡ after_cells cells left
  all_from e = inv ∙ ap (after_cells cells) e

  module _ (due : i < width) (there : i < length bytes) where
    pub sign_read : (free : Bool) → ReadsCell (get_or bytes i 0) (at + i) (Ok free) → all ≡ after_cells (cells ++ free ∷ []) (body (suc rows) (width - (i + 1)) width (at + (i + 1)) (drop (i + 1) bytes))
    sign_read free reads =
        let columns : width - i - 1 ≡ width - (i + 1) = omega arith in let on : at + i + 1 ≡ at + (i + 1) = omega arith in
        rw (columns, on) at (all_from (sign_due rows (width - i) width (at + i) i bytes (omega arith) there ∙ reads _) ∙ after_push cells free _)

    pub sign_faulty : (f : Fault) → ReadsCell (get_or bytes i 0) (at + i) (Err f) → all ≡ Err f
    sign_faulty f reads = all_from (sign_due rows (width - i) width (at + i) i bytes (omega arith) there ∙ reads _)

-- from row to row
module _ (all : Result (List Bool) Fault) (height count width : ℕ) (row : Cursor) (cells : List Bool) (inv : all ≡ after_cells cells (body (height - count) width width row.at row.bytes.now)) where
  module _ (due : count < height) where
    due_row : all ≡ after_cells cells (body (suc (height - (count + 1))) width width row.at row.bytes.now)
    due_row = let next : height - count ≡ suc (height - (count + 1)) = omega arith in rw next at inv

    pub row_read : (more : List Bool) (rest : Cursor) → ReadsRow width row cells more (Ok rest) → all ≡ after_cells more (body (height - (count + 1)) width width rest.at rest.bytes.now)
    row_read more rest reads = due_row ∙ reads (height - (count + 1))

    pub row_stops : (more : List Bool) (f : Fault) → ReadsRow width row cells more (Err f) → all ≡ Err f
    row_stops more f reads = due_row ∙ reads (height - (count + 1))

  module _ (done : height ≤ count) where
    last_read : all ≡ after_cells cells (body 0 width width row.at row.bytes.now)
    last_read = let none : height - count ≡ 0 = omega arith in rw none at inv

    pub rows_end : length row.bytes.now ≡ 0 → all ≡ Ok cells
    rows_end empty = last_read ∙ ap (after_cells cells) (at_drop_all (body 0 width width row.at) row.bytes.now 0 (omega arith)) ∙ ap Ok (append-nil cells)
