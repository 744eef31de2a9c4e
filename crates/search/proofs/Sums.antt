-- Sums of what may be absent. Speaks of no floor.
use Rattle.std.proofs.Common.{◌≡◌, ℕ, zero, suc, ◌+◌, ◌*◌, ◌<◌, ◌≤◌, Some, None, Option, unwrap_or, sym, refl, ap, ◌∙◌, ap₂, arith, zero-add, add-one, MatchOption}
use Rattle.std.proofs.lemmas.List.FromFn.{sum_by-map-range_with_len_more}
use Rattle.motion.specs.Routes.{total}
use Rattle.search.specs.Sums.{plus, sum_below}
use Rattle.search.proofs.Firsts.{below_suc}

pub total_more : (x : ℕ → ℕ) (n : ℕ) → total (suc n) x ≡ total n x + x n
total_more x n = ap (λ m. total m x) (sym (add-one n)) ∙ sum_by-map-range_with_len_more (λ m. m) x 0 n n (zero-add n)

module _ (g : ℕ → Option ℕ) where
  abbrev pub given : ℕ → ℕ
  given a = unwrap_or (g a) 0

  abbrev pub Lacks : ℕ → Type 0
  Lacks n = (a : ℕ) × (a < n) × (g a ≡ None)

  abbrev pub Sums : ℕ → ℕ → Type 0
  Sums n s = ((a : ℕ) → a < n → g a ≡ Some (given a)) × (s ≡ total n given)

  sum_more : (n : ℕ) (o x : Option ℕ) → g n ≡ x → MatchOption o (Lacks n) (Sums n) → MatchOption (plus o x) (Lacks (suc n)) (Sums (suc n))
  sum_more n None x e h = let lt = h.1 in (h.0, omega arith, h.2)
  sum_more n (Some s) None e h = (n, omega arith, e)
  sum_more n (Some s) (Some m) e h =
      let is : given n ≡ m = ap (λ o. unwrap_or o 0) e in
      (below_suc (λ a. g a ≡ Some (given a)) n h.0 (e ∙ ap Some (sym is)), ap₂ (λ x y. x + y) h.1 (sym is) ∙ sym (total_more given n))

  pub sum_is : (n : ℕ) → MatchOption (sum_below g n) (Lacks n) (Sums n)
  sum_is zero = (λ a h. absurd (omega arith), refl)
  sum_is (suc n) = sum_more n (sum_below g n) (g n) refl (sum_is n)

pub total_mono : (x y : ℕ → ℕ) (n : ℕ) → ((a : ℕ) → a < n → x a ≤ y a) → total n x ≤ total n y
total_mono x y zero h = omega arith
total_mono x y (suc n) h = grind (arith, total_more x n, total_more y n, total_mono x y n)

pub total_part : (x : ℕ → ℕ) (n a : ℕ) → a < n → x a ≤ total n x
total_part x zero a h = absurd (omega arith)
total_part x (suc n) a h = grind (arith, total_more x n, total_part x n a)

pub total_most : (x : ℕ → ℕ) (most : ℕ) → ((a : ℕ) → x a ≤ most) → (n : ℕ) → total n x ≤ most * n
total_most x most each zero = omega arith
total_most x most each (suc n) = let rest = total_most x most each n in let last = each n in omega (arith, total_more x n)
