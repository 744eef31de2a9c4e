-- What the parts of the grid reader answer, in the terms of the reading that is defined.
use Rattle.std.specs.Prelude.{◌≡◌, ℕ, suc, Bool, List, ◌++◌, Ok, Err, Result, ◌==◌}
use Rattle.floor.specs.Checks.{◌>>=◌}
use Rattle.cursor.specs.Rests.{rest_of}
use Rattle.cursor.specs.declared.reader.Cursor.{Cursor}
use Rattle.maps.specs.Grids.{Grid}
use Rattle.maps.specs.Signs.{sign_of}
use Rattle.mapfile.specs.GridFiles.{Number, before_cells, body, cell}
use Rattle.mapfile.specs.declared.fault.Fault.{Fault}
use Rattle.mapfile.specs.declared.grid.Heading.{Heading}

-- a number that was read, and what is left behind its line
abbrev pub sized : ℕ × Cursor → Number
sized n = record { value = n.0; behind = rest_of n.1 }

-- what comes of the file once its heading is read
abbrev pub behind_heading : Result Heading Fault → Result Grid Fault
behind_heading (Ok h) = do
  free ← body h.height h.width h.width h.rows.at h.rows.bytes.now
  Ok (record { height = h.height; width = h.width; free = free })
behind_heading (Err f) = Err f

-- cells that are read, before those that are left
abbrev pub after_cells : List Bool → Result (List Bool) Fault → Result (List Bool) Fault
after_cells cells (Ok others) = Ok (cells ++ others)
after_cells cells (Err f) = Err f

-- one row leads from the cells so far to more, whatever rows are to follow, or is refused
abbrev pub ReadsRow : ℕ → Cursor → List Bool → List Bool → Result Cursor Fault → Type 0
ReadsRow width row before after (Ok rest) = (rows : ℕ) → after_cells before (body (suc rows) width width row.at row.bytes.now) ≡ after_cells after (body rows width width rest.at rest.bytes.now)
ReadsRow width row before after (Err f) = (rows : ℕ) → after_cells before (body (suc rows) width width row.at row.bytes.now) ≡ Err f

-- a cell that was read, before the cells behind it
abbrev pub before_others : Result Bool Fault → Result (List Bool) Fault → Result (List Bool) Fault
before_others (Ok free) others = before_cells free others
before_others (Err f) others = Err f

-- the sign at the offset says what was read of it, whatever the cells behind it
abbrev pub ReadsCell : ℕ → ℕ → Result Bool Fault → Type 0
ReadsCell sign at free = (others : Result (List Bool) Fault) → cell (sign_of sign) (sign == 10) at others ≡ before_others free others
