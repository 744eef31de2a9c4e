-- The rows of a table, after a read and after a write.
use Rattle.std.specs.Prelude.{◌≡◌, ℕ, ◌<◌, ◌≤◌, List, [], ◌∷◌, ◌++◌, map, length, get_or, ◌≢◌, slice_index_or, slice_set, refl}
use Rattle.std.proofs.Common.{inl, inr, ⊎_elim, sym, ap, subst, ◌∙◌, arith}
use Rattle.std.proofs.lemmas.List.{length-map, length-set, get_or-map, get_or_past, get_or-set_same, get_or-set_other, map-set, map_push}
use Rattle.std.proofs.lemmas.Bool.{cases_eq}
use Rattle.maps.specs.Networks.{partners}
use Rattle.floor.specs.Numbers.{numbers}
use Rattle.maps.specs.Tables.{numbers_in, row_of}
use Rattle.maps.specs.declared.connection.Connection.{Connection}
use Rattle.arrayvec.specs.ArrayVec.{ArrayVec, array_vec_len}
use Rattle.floor.specs.declared.Place.{Place}
use Rattle.maps.specs.PartnersLemmas.{leads_from_links, passes_from_apart, partners_push, partners_past}

pub length_numbers_in : (r : ArrayVec Place) → length (numbers_in r) ≡ array_vec_len r
length_numbers_in r = length-map r.items (λ p. p.0)

pub row_push : (r more : ArrayVec Place) (q : Place) → more.items ≡ r.items ++ q ∷ [] → numbers_in more ≡ numbers_in r ++ q.0 ∷ []
row_push r more q e = ap numbers e ∙ map_push (λ p. p.0) r.items q

pub row_read : (rows : List (ArrayVec Place)) (p : ℕ) (r : ArrayVec Place) → p < length rows → r ≡ slice_index_or rows p r → numbers_in r ≡ row_of rows p
row_read rows p r h e = ap numbers_in e ∙ sym (get_or-map numbers_in rows p r [] h)

pub row_past : (rows : List (ArrayVec Place)) (p : ℕ) → length rows ≤ p → row_of rows p ≡ []
row_past rows p h = let long = length-map rows numbers_in in get_or_past (map numbers_in rows) p [] (omega arith)

pub row_of_set : (rows : List (ArrayVec Place)) (i : ℕ) (r : ArrayVec Place) → i < length rows → row_of (slice_set rows i r) i ≡ numbers_in r
row_of_set rows i r h =
    let long = length-map rows numbers_in in ap (λ xs. get_or xs i []) (map-set numbers_in rows i r) ∙ get_or-set_same (map numbers_in rows) i (numbers_in r) [] (omega arith)

pub row_of_set_other : (rows : List (ArrayVec Place)) (i p : ℕ) (r : ArrayVec Place) → (p ≢ i) → row_of (slice_set rows i r) p ≡ row_of rows p
row_of_set_other rows i p r ne = ap (λ xs. get_or xs p []) (map-set numbers_in rows i r) ∙ get_or-set_other (map numbers_in rows) i p (numbers_in r) [] ne

-- the rows of both ends of a new connection each have one place more
module _ (rows : List (ArrayVec Place)) (cs : List Connection) (c : Connection) (near far : ArrayVec Place) where
  abbrev one : ℕ
  one = c.first.0

  abbrev other : ℕ
  other = c.second.0

  pub tied_push : ((p : ℕ) → row_of rows p ≡ partners p cs) → one < length rows → other < length rows → (one ≢ other) → numbers_in near ≡ partners one cs ++ other ∷ [] → numbers_in far ≡ partners other cs ++ one ∷ [] →
      (p : ℕ) → row_of (slice_set (slice_set rows one near) other far) p ≡ partners p (cs ++ c ∷ [])
  tied_push tied on on' apart near_is far_is p =
      ⊎_elim (λ e. subst Tied (sym e) at_other) (λ off'. ⊎_elim (λ e. subst Tied (sym e) at_one) (λ off. past off off') (cases_eq p one)) (cases_eq p other)
    where
      Tied : ℕ → Type 0
      Tied x = row_of (slice_set (slice_set rows one near) other far) x ≡ partners x (cs ++ c ∷ [])

      at_other : Tied other
      at_other =
          let long = length-set rows one near in
          row_of_set (slice_set rows one near) other far (omega arith) ∙ far_is ∙ sym (partners_push other cs c one (leads_from_links other one c (inr (refl, refl))))

      at_one : Tied one
      at_one =
          row_of_set_other (slice_set rows one near) other one far apart ∙ row_of_set rows one near on ∙ near_is
          ∙ sym (partners_push one cs c other (leads_from_links one other c (inl (refl, refl))))

      past : (p ≢ one) → (p ≢ other) → Tied p
      past off off' =
          row_of_set_other (slice_set rows one near) other p far off' ∙ row_of_set_other rows one p near off ∙ tied p
          ∙ sym (partners_past p cs c (passes_from_apart p c (λ e. off (sym e)) (λ e. off' (sym e))))
