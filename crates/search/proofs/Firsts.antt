-- The first number that passes a test. Speaks of no floor.
use Rattle.std.proofs.Common.{◌≡◌, ℕ, zero, suc, ◌<◌, Bool, true, false, cond, Some, None, Option, sym, refl, ap, ap₂, arith, MatchOption}
use native.Mathlib.Decide.{le_ind}
use Rattle.std.specs.Option.{option_or}
use Rattle.search.specs.Sums.{first_below}

-- what holds below n and at n
pub below_suc : (P : ℕ → Type 0) (n : ℕ) → ((k : ℕ) → k < n → P k) → P n → (k : ℕ) → k < suc n → P k
below_suc P n below here k h = grind arith

module _ (P : ℕ → Bool) where
  abbrev pub NonePasses : ℕ → Type 0
  NonePasses n = (k : ℕ) → k < n → P k ≡ false

  abbrev pub IsFirst : ℕ → ℕ → Type 0
  IsFirst n m = (m < n) × (P m ≡ true) × NonePasses m

  first_more : (n : ℕ) (o : Option ℕ) (b : Bool) → P n ≡ b → MatchOption o (NonePasses n) (IsFirst n)
      → MatchOption (option_or o (cond b (Some n) None)) (NonePasses (suc n)) (IsFirst (suc n))
  first_more n None true e h = (omega arith, e, h)
  first_more n None false e h = below_suc (λ k. P k ≡ false) n h e
  first_more n (Some m) b e h = let lt = h.0 in (omega arith, h.1, h.2)

  pub first_is : (n : ℕ) → MatchOption (first_below P n) (NonePasses n) (IsFirst n)
  first_is zero = λ k h. absurd (omega arith)
  first_is (suc n) = first_more n (first_below P n) (P n) refl (first_is n)

  pub first_found : (n limit : ℕ) → n < limit → first_below P n ≡ None → P n ≡ true → Some n ≡ first_below P limit
  first_found n limit h e t =
      sym (le_ind (λ m. first_below P m ≡ Some n) (ap₂ (λ o b. option_or o (cond b (Some n) None)) e t) (λ m _ k. ap (λ o. option_or o (cond (P m) (Some m) None)) k) limit h)
