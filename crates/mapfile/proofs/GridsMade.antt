-- A grid that is read is within its limits, so that a map is made of it.
use Rattle.std.proofs.Common.{◌≡◌, ℕ, Bool, List, Ok, Err, sym, ap, ◌∙◌}
use Rattle.floor.proofs.Chains.{ok_no_err, ok_same}
use Rattle.floor.specs.Checks.{◌>>=◌}
use Rattle.maps.proofs.Gridding.{gridding_is_sized}
use Rattle.maps.specs.Grids.{Grid, gridding}
use Rattle.maps.specs.declared.refusal.MapRefusal.{MapRefusal}
use Rattle.mapfile.proofs.FaultAnswers.{stage_fault}
use Rattle.mapfile.proofs.GridLayout.{grid_read_exactly}
use Rattle.mapfile.specs.GridFiles.{body, grid_reading}
use Rattle.mapfile.specs.GridReads.{behind_heading}
use Rattle.mapfile.specs.declared.fault.Fault.{Fault}
use Rattle.mapfile.specs.declared.grid.Heading.{Heading}

module _ (bytes : List ℕ) (h : Heading) (headed : grid_reading bytes ≡ behind_heading (Ok h)) where
  pub not_filled : (f : Fault) → body h.height h.width h.width h.rows.at h.rows.bytes.now ≡ Err f → grid_reading bytes ≡ Err f
  not_filled f faulty = headed ∙ stage_fault (body h.height h.width h.width h.rows.at h.rows.bytes.now) (λ cells. Ok (record { height = h.height; width = h.width; free = cells })) f faulty

  module _ (free : List Bool) (filled : body h.height h.width h.width h.rows.at h.rows.bytes.now ≡ Ok free) where
    abbrev grid : Grid
    grid = record { height = h.height; width = h.width; free = free }

    read : grid_reading bytes ≡ Ok grid
    read = headed ∙ ap (λ x. x >>= λ cells. Ok (record { height = h.height; width = h.width; free = cells })) filled

    made : gridding h.height h.width free ≡ Ok grid
    made = (gridding_is_sized grid).1 ((grid_read_exactly bytes grid).0 read).0

    pub never_refused : (e : MapRefusal) → gridding h.height h.width free ≡ Err e → ⊥
    never_refused e is = ok_no_err (sym made ∙ is)

    pub read_as_made : (g : Grid) → gridding h.height h.width free ≡ Ok g → grid_reading bytes ≡ Ok g
    read_as_made g is = read ∙ ap Ok (ok_same (sym made ∙ is))
