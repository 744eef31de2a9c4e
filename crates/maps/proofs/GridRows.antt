-- The rows of neighbours of a grid, made one after the other.
use Rattle.std.proofs.Common.{◌≡◌, ℕ, ◌+◌, ◌<◌, ◌≤◌, false, List, [], ◌∷◌, ◌++◌, length, map, get_or, ⊎_elim, sym, ap, ◌∙◌, arith}
use Rattle.std.proofs.lemmas.Bool.{cases_lt}
use Rattle.std.proofs.lemmas.List.{length-map, map_push, get_or_append_left, get_or_push, get_or_past}
use Rattle.arrayvec.specs.ArrayVec.{ArrayVec}
use Rattle.floor.specs.declared.Place.{Place}
use Rattle.maps.specs.Grids.{Grid, around}
use Rattle.maps.specs.Tables.{numbers_in, row_of}
use Rattle.maps.specs.TablesLemmas.{row_past}

module _ (g : Grid) where
  none_past : (p : ℕ) → length g.free ≤ p → around g p ≡ []
  unfolding around
  none_past p past = rw (get_or_past g.free p false past)

  -- the rows of so many places are right
  abbrev pub FirstRows : ℕ → List (ArrayVec Place) → Type 0
  FirstRows n rows = (p : ℕ) → p < n → row_of rows p ≡ around g p

  module _ (rows : List (ArrayVec Place)) (n : ℕ) (first : FirstRows n rows) (long : length rows ≡ n) where
    pub rows_more : (r : ArrayVec Place) → numbers_in r ≡ around g n → FirstRows (n + 1) (rows ++ r ∷ [])
    rows_more r is p h =
        let as_long = length-map rows numbers_in in
        ap (λ xs. get_or xs p []) (map_push numbers_in rows r)
        ∙ ⊎_elim (λ lt. get_or_append_left (map numbers_in rows) (numbers_in r ∷ []) [] p (omega arith) ∙ first p lt)
        (λ ge. let last : p ≡ n = omega arith in get_or_push (map numbers_in rows) (numbers_in r) [] p (omega arith) ∙ is ∙ ap (around g) (sym last)) (cases_lt p n)

    pub rows_all : length g.free ≡ n → (p : ℕ) → row_of rows p ≡ around g p
    rows_all all p =
        ⊎_elim (first p) (λ ge. row_past rows p (omega arith) ∙ sym (none_past p (omega arith))) (cases_lt p n)
