-- What is found among the routes kept, and the room left for another.
use Rattle.std.proofs.Common.{◌≡◌, ℕ, ◌<◌, Bool, true, false, cond, ◌||◌, eqb, List, [], ◌∷◌, ◌++◌, map, length, slice_index_or, unwrap_or, ◌-◌, Some, None, Option, All, option_map, sym, refl, ap, ◌∙◌, subst, ap₂, arith}
use Rattle.floor.specs.Tests.{some}
use Rattle.motion.specs.Listed.{steps}
use Rattle.std.specs.Cmp.{nat_eq_equiv}
use Rattle.std.specs.List.{IsDistinct, find, list_any}
use Rattle.std.proofs.lemmas.Bool.{eqb-true}
use Rattle.std.proofs.lemmas.List.Elements.{All-append}
use Rattle.std.proofs.lemmas.List.Folds.{Any-from_list_any}
use Rattle.std.proofs.lemmas.List.{length-map, length_push}
use Rattle.std.proofs.lemmas.Map.Keys.{IsDistinct-push}
use Rattle.std.proofs.lemmas.Map.Steps.{length-le_from_distinct_below}
use Rattle.tally.specs.Tallies.{Shown, is_shown, places_of}
use Rattle.checking.specs.Kept.{carts_in}
use Rattle.checking.specs.ShownRoutes.{shown_as}
use Rattle.checking.specs.declared.routes.Kept.{Kept}

any_shown : (p : Shown → Bool) (kept : List Kept) → list_any (λ k. p (shown_as k)) kept ≡ some p (map shown_as kept)
any_shown p [] = refl
any_shown p (k ∷ kept) = ap (λ b. p (shown_as k) || b) (any_shown p kept)

-- what `any` finds
pub some_shown : (p : Shown → Bool) (kept : List Kept) (found : Bool) → found ≡ list_any (λ k. p (shown_as k)) kept → found ≡ some p (map shown_as kept)
some_shown p kept found is = is ∙ any_shown p kept

found_first : (here : Bool) (k : Kept) (later : Option Kept) (others : Option (List ℕ)) → option_map (λ x. (shown_as x).places) later ≡ others →
    option_map (λ x. (shown_as x).places) (cond here (Some k) later) ≡ cond here (Some (shown_as k).places) others
found_first true k later others is = refl
found_first false k later others is = is

places_found : (a : ℕ) (kept : List Kept) → option_map (λ k. (shown_as k).places) (find (λ k. eqb k.cart.0 a) kept) ≡ places_of (map shown_as kept) a
places_found a [] = refl
places_found a (k ∷ kept) = found_first (eqb k.cart.0 a) k _ _ (places_found a kept)

-- what `find` gives
module _ (a : ℕ) (kept : List Kept) where
  pub steps_found : (k : Kept) → Some k ≡ find (λ x. eqb x.cart.0 a) kept → length k.places.items - 1 ≡ steps (unwrap_or (places_of (map shown_as kept) a) [])
  steps_found k is =
      ap (λ n. n - 1) (sym (length-map k.places.items (λ p. p.0))) ∙ ap (λ o. steps (unwrap_or o [])) (ap (option_map (λ x. (shown_as x).places)) is ∙ places_found a kept)

  pub steps_none : None ≡ find (λ x. eqb x.cart.0 a) kept → 0 ≡ steps (unwrap_or (places_of (map shown_as kept) a) [])
  steps_none is = ap (λ o. steps (unwrap_or o [])) (ap (option_map (λ x. (shown_as x).places)) is ∙ places_found a kept)

module _ (kept : List Kept) (a : ℕ) (unshown : is_shown (map shown_as kept) a ≡ false) (apart : IsDistinct eqb (carts_in kept)) (known : All (λ b. b < 16) (carts_in kept)) (low : a < 16) where
  absent : (ks : List Kept) → list_any (eqb a) (carts_in ks) ≡ is_shown (map shown_as ks) a
  absent [] = refl
  absent (k ∷ ks) = ap₂ ◌||◌ (nat_eq_equiv.symm a k.cart.0) (absent ks)

  pub apart_push : IsDistinct eqb (carts_in kept ++ (a ∷ []))
  apart_push = IsDistinct-push nat_eq_equiv (carts_in kept) a apart (absent kept ∙ unshown)

  pub known_push : All (λ b. b < 16) (carts_in kept ++ (a ∷ []))
  known_push = All-append (λ b. b < 16) (carts_in kept) (a ∷ []) known (λ k d lt. let first : 0 ≡ k = omega arith in subst (λ i. slice_index_or (a ∷ []) i d < 16) first low)

  pub room_left : length kept < 16
  room_left =
      let few = length-le_from_distinct_below _ 16 apart_push
      (λ q there. let found = Any-from_list_any (eqb q) _ there in subst (λ x. x < 16) (sym (eqb-true q _ found.4)) (subst (λ x. x < 16) found.3 (known_push found.0 found.1 found.2))) in
      omega (arith, few, length_push (carts_in kept) a, length-map kept (λ k. k.cart.0))
