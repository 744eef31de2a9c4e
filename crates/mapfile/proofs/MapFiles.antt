-- A map file is read exactly when it is laid out as a list or as a grid: the first byte tells the two apart.
use Rattle.std.proofs.Common.{◌≡◌, ℕ, Bool, true, false, ◌↔◌, List, Ok, Err, Result, MatchResult, sym, ap, ◌∙◌, subst, ⊎_elim}
use Rattle.std.specs.Result.{result_map_both}
use Rattle.floor.specs.Checks.{◌>>=◌}
use Rattle.floor.proofs.Chains.{ok_no_err, ok_same, bind_ok, bind_err, bind_at}
use Rattle.maps.specs.AnyMaps.{Hall, hall_of, listed, gridded}
use Rattle.maps.specs.Grids.{Grid}
use Rattle.maps.specs.Networks.{Network}
use Rattle.mapfile.specs.GridFiles.{grid_reading}
use Rattle.mapfile.specs.GridLayout.{GridText, GridReadExactly, GridFaultsExactly}
use Rattle.mapfile.specs.ListFiles.{list_reading}
use Rattle.mapfile.specs.ListLayout.{list_text, ListReadExactly, ListFaultsExactly}
use Rattle.mapfile.specs.MapFiles.{is_list, reading_as, map_reading, MapText, MapReadExactly, FaultAs, MapFaultsExactly}
use Rattle.mapfile.specs.declared.fault.Fault.{Fault}
use Rattle.mapfile.proofs.FaultAnswers.{stage_fault}
use Rattle.maps.specs.declared.any.AnyMap.{AnyMap}
use Rattle.std.proofs.lemmas.Bool.{both_ways}

list_begins : (bytes : List ℕ) (n : Network) → bytes ≡ list_text n → is_list bytes ≡ true
list_begins bytes n e = ap is_list e

grid_begins : (bytes : List ℕ) (g : Grid) → GridText g bytes → is_list bytes ≡ false
grid_begins bytes g t = ap is_list t.text

module _ (bytes : List ℕ) where
  pub read_as_list : is_list bytes ≡ true → map_reading bytes ≡ (list_reading bytes >>= (λ n. Ok (listed n)))
  unfolding map_reading
  read_as_list is = ap (λ b. reading_as b bytes) is

  pub read_as_grid : is_list bytes ≡ false → map_reading bytes ≡ (grid_reading bytes >>= (λ g. Ok (gridded g)))
  unfolding map_reading
  read_as_grid is = ap (λ b. reading_as b bytes) is

  -- what is read as one kind is what that kind's reading gives
  module _ {X : Type 0} (kind : X → Hall) (reading : Result X Fault) (is : map_reading bytes ≡ (reading >>= (λ x. Ok (kind x)))) where
    kind_read : (h : Hall) → ((x : X) → reading ≡ Ok x → MapText (kind x) bytes) → map_reading bytes ≡ Ok h → MapText h bytes
    kind_read h text e =
        let read = bind_ok reading (λ x. Ok (kind x)) h (sym is ∙ e) in subst (λ h. MapText h bytes) (ok_same read.2) (text read.0 read.1)

    kind_reads : (x : X) → reading ≡ Ok x → map_reading bytes ≡ Ok (kind x)
    kind_reads x e = is ∙ bind_at reading (λ x. Ok (kind x)) x e

    -- and what is made of an answer of that kind is an answer of either
    pub kind_answers : {T : Type 0} (means : T → X) (wrap : T → AnyMap) → ((t : T) → hall_of (wrap t) ≡ kind (means t)) → (r : Result T Fault) → reading ≡ result_map_both means (λ f. f) r → (told : Result AnyMap Fault)
        → MatchResult r (λ t. told ≡ Ok (wrap t)) (λ f. told ≡ Err f) → map_reading bytes ≡ result_map_both hall_of (λ f. f) told
    kind_answers means wrap wraps (Ok t) answer told tells = rw (tells, wraps t) (kind_reads (means t) answer)
    kind_answers means wrap wraps (Err f) answer told tells = rw tells (is ∙ stage_fault reading (λ x. Ok (kind x)) f answer)

    kind_fails : (f : Fault) → (map_reading bytes ≡ Err f) ↔ (reading ≡ Err f)
    kind_fails f = (
      λ e. ⊎_elim (λ h. h) (λ h. absurd (ok_no_err h.2)) (bind_err reading (λ x. Ok (kind x)) f (sym is ∙ e)),
      λ e. is ∙ stage_fault reading (λ x. Ok (kind x)) f e,
    )

    -- a fault of that kind's layout, where the bytes begin as it
    kind_faults : (list : Bool) → is_list bytes ≡ list → ((f : Fault) → (reading ≡ Err f) ↔ FaultAs list bytes f.refusal f.offset) → MapFaultsExactly bytes
    kind_faults list begins exactly f = (
      λ e. subst (λ b. FaultAs b bytes f.refusal f.offset) (sym begins) ((exactly f).0 ((kind_fails f).0 e)),
      λ h. (kind_fails f).1 ((exactly f).1 (subst (λ b. FaultAs b bytes f.refusal f.offset) begins h)),
    )

  pub list_exactly : is_list bytes ≡ true → ListReadExactly bytes → MapReadExactly bytes
  list_exactly is exactly h = (kind_read listed (list_reading bytes) (read_as_list is) h (λ n. (exactly n).0), to_reading h)
    where
      to_reading : (h : Hall) → MapText h bytes → map_reading bytes ≡ Ok h
      to_reading (listed n) t = kind_reads listed (list_reading bytes) (read_as_list is) n ((exactly n).1 t)
      to_reading (gridded g) t = absurd (both_ways _ (grid_begins bytes g t.1) is)

  pub grid_exactly : is_list bytes ≡ false → GridReadExactly bytes → MapReadExactly bytes
  grid_exactly is exactly h = (kind_read gridded (grid_reading bytes) (read_as_grid is) h (λ g. (exactly g).0), to_reading h)
    where
      to_reading : (h : Hall) → MapText h bytes → map_reading bytes ≡ Ok h
      to_reading (listed n) t = absurd (both_ways _ is (list_begins bytes n t.1))
      to_reading (gridded g) t = kind_reads gridded (grid_reading bytes) (read_as_grid is) g ((exactly g).1 t)

  pub list_faults : is_list bytes ≡ true → ListFaultsExactly bytes → MapFaultsExactly bytes
  list_faults is = kind_faults listed (list_reading bytes) (read_as_list is) true is

  pub grid_faults : is_list bytes ≡ false → GridFaultsExactly bytes → MapFaultsExactly bytes
  grid_faults is = kind_faults gridded (grid_reading bytes) (read_as_grid is) false is
