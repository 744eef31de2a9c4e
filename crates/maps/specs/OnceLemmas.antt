-- Lists in which nothing stands twice, and membership in them.
use Rattle.std.specs.Prelude.{ℕ, List, [], ◌∷◌, ◌++◌, Contains, ◌≢◌, refl}
use Rattle.std.proofs.Common.{sym, ◌∙◌, subst, arith, length}
use Rattle.std.specs.List.{AllPairs}
use Rattle.std.proofs.lemmas.List.Elements.{Contains-get_or}
use Rattle.std.proofs.lemmas.List.Quantifiers.{all_pairs_push}
use Rattle.std.proofs.lemmas.List.{length-append, length_push, get_or_append_left, get_or_push}

abbrev pub Once : List ℕ → Type 0
Once = AllPairs (λ x y. x ≢ y)

pub once_nil : Once []
once_nil i j d before within = absurd (omega arith)

pub once_front : (xs ys : List ℕ) → Once (xs ++ ys) → Once xs
once_front xs ys once i j d before within e =
    let long = length-append xs ys in
    once i j d before (omega arith) (get_or_append_left xs ys d i (omega arith) ∙ e ∙ sym (get_or_append_left xs ys d j within))

module _ (xs : List ℕ) (y : ℕ) where
  pub once_push : Once xs → (Contains xs y → ⊥) → Once (xs ++ y ∷ [])
  once_push once new = all_pairs_push (λ a b. a ≢ b) xs y once (λ k d lt e. new (subst (Contains xs) e (Contains-get_or xs k d lt)))

  pub once_new : Once (xs ++ y ∷ []) → Contains xs y → ⊥
  once_new once h =
      let long = length_push xs y in let lt = h.1 in
      once h.0 (length xs) y lt (omega arith) (get_or_append_left xs (y ∷ []) y h.0 lt ∙ h.2 ∙ sym (get_or_push xs y y (length xs) refl))
