-- The route of a cart is found among those shown exactly when it is one of them.
use Rattle.std.proofs.Common.{◌≡◌, ℕ, zero, suc, Bool, true, false, cond, ◌||◌, eqb, ◌↔◌, List, [], ◌∷◌, Some, Decides, Contains, Option, sym, refl, ap, ap₂, ◌∙◌, subst, arith}
use Rattle.std.specs.List.{AllPairs}
use Rattle.floor.proofs.Deciding.{decides_no, decides_yes}
use Rattle.std.proofs.lemmas.Bool.{cond-false, cond-true, eq-eqb, eqb-true, ne_eqb}
use Rattle.tally.specs.Tallies.{Shown, is_shown, places_of}
use Rattle.tally.proofs.Lists.{Among, among_first, among_later, has_none}

-- no cart is shown twice
abbrev pub OnceShown : List Shown → Type 0
OnceShown shown = AllPairs (λ s u. s.cart ≡ u.cart → ⊥) shown

module _ (a : ℕ) where
  -- the places are shown as the route of the cart a
  abbrev pub ShownAs : List ℕ → Shown → Type 0
  ShownAs ps s = (s.cart ≡ a) × (s.places ≡ ps)

  found_next : (s : Shown) (shown : List Shown) (ps : List ℕ) (b : Bool) → eqb s.cart a ≡ b → (places_of shown a ≡ Some ps → Among (ShownAs ps) shown)
      → cond b (Some s.places) (places_of shown a) ≡ Some ps → Among (ShownAs ps) (s ∷ shown)
  found_next s shown ps true is later e = among_first (ShownAs ps) s shown (eqb-true _ _ is, cc)
  found_next s shown ps false is later e = among_later (ShownAs ps) s shown (later e)

  pub found : (shown : List Shown) (ps : List ℕ) → places_of shown a ≡ Some ps → Among (ShownAs ps) shown
  found [] ps e = let z : ◌≡◌ {A = ℕ} 0 1 = cc in absurd (omega arith)
  found (s ∷ shown) ps e = found_next s shown ps (eqb s.cart a) refl (found shown ps) e

  -- where each cart is shown once
  pub found_exactly : (shown : List Shown) → OnceShown shown → (ps : List ℕ) → (places_of shown a ≡ Some ps) ↔ Contains shown (record { cart = a; places = ps })
  found_exactly shown once ps = (
    λ is. let w = found shown ps is in subst (Contains shown) (ap₂ (λ c qs. record { cart = c; places = qs }) w.2.0 w.2.1) w.1,
    there shown once,
  )
    where
      there : (shown : List Shown) → OnceShown shown → Contains shown (record { cart = a; places = ps }) → places_of shown a ≡ Some ps
      there [] once has = absurd (has_none _ has)
      there (s ∷ shown) once (zero, lt, is) = cond-true (eqb s.cart a) (Some s.places) (places_of shown a) (eq-eqb s.cart a (ap (λ u. u.cart) is)) ∙ ap (λ u. Some u.places) is
      there (s ∷ shown) once (suc k, lt, is) =
          cond-false (eqb s.cart a) (Some s.places) (places_of shown a) (ne_eqb s.cart a (λ e. once 0 (suc k) (record { cart = a; places = ps }) (omega arith) lt (e ∙ sym (ap (λ u. u.cart) is))))
          ∙ there shown (λ i j d before within. once (suc i) (suc j) d (omega arith) (omega arith)) (k, omega arith, is)

  shown_next : (s : Shown) (x : Bool) (later : Option (List ℕ)) (b : Bool) → Decides x ((ps : List ℕ) × (later ≡ Some ps))
      → Decides (b || x) ((ps : List ℕ) × (cond b (Some s.places) later ≡ Some ps))
  shown_next s x later true decides = decides_yes (s.places, refl)
  shown_next s x later false decides = decides

  pub decides_shown : (shown : List Shown) → Decides (is_shown shown a) ((ps : List ℕ) × (places_of shown a ≡ Some ps))
  decides_shown [] = decides_no (λ w. let e = w.1 in let z : ◌≡◌ {A = ℕ} 0 1 = cc in absurd (omega arith))
  decides_shown (s ∷ shown) = shown_next s _ _ (eqb s.cart a) (decides_shown shown)
