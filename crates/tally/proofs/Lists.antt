-- Elements of lists, and tests that none of them passes.
use Rattle.std.proofs.Common.{◌≡◌, zero, suc, Bool, true, false, not, ◌&&◌, ◌||◌, ◌⊎◌, List, [], ◌∷◌, Decides, All, Contains, sym, refl, subst, inl, inr, arith}
use Rattle.floor.specs.Tests.{some}
use Rattle.std.proofs.lemmas.Bool.Decides.{Decides-by_and, Decides-not}

module _ {A : Type 0} where
  pub has_none : (x : A) → Contains [] x → ⊥
  has_none x (k, lt, is) = omega arith

-- some element with P
module _ {A : Type 0} (P : A → Type 0) where
  abbrev pub Among : List A → Type 0
  Among xs = (x : A) × Contains xs x × P x

  pub among_first : (x : A) (xs : List A) → P x → Among (x ∷ xs)
  among_first x xs h = (x, (0, omega arith, refl), h)

  pub among_later : (y : A) (xs : List A) → Among xs → Among (y ∷ xs)
  among_later y xs (x, (k, lt, is), h) = (x, (suc k, omega arith, is), h)

  pub among_cases : (y : A) (xs : List A) → Among (y ∷ xs) → P y ⊎ Among xs
  among_cases y xs (x, (zero, lt, is), h) = inl (subst P (sym is) h)
  among_cases y xs (x, (suc k, lt, is), h) = inr (x, (k, omega arith, is), h)

not_or : (x y : Bool) → not (x || y) ≡ (not x && not y)
not_or true y = refl
not_or false y = refl

module _ {A : Type 0} (p : A → Bool) (P : A → Type 0) (each : (x : A) → Decides (p x) (P x)) where
  pub decides_none : (xs : List A) → Decides (not (some p xs)) (All (λ x. P x → ⊥) xs)
  decides_none = Decides-by_and (λ x. not (p x)) (λ x. P x → ⊥) (λ xs. not (some p xs)) (λ x. Decides-not (p x) (each x)) refl (λ x xs. not_or (p x) (some p xs))
