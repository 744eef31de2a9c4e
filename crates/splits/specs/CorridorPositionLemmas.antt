-- The position of a place along a corridor.
use Rattle.std.specs.Prelude.{◌≡◌, ℕ, suc, ◌≤◌}
use Rattle.std.proofs.Common.{inl, inr, sym, ◌∙◌, arith}
use Rattle.std.proofs.lemmas.Bool.Decides.{Decides-eqb}
use Rattle.floor.specs.Floor.{Floor}
use Rattle.splits.specs.Corridor.{Corridor}
use Rattle.splits.specs.TicksLemmas.{FirstOrNever, first}

number : {P : ℕ → Type 0} {n : ℕ} → FirstOrNever P n → ℕ
number (inl found) = found.at
number (inr never) = 0

-- the number of p among c 0 to c k, and 0 where it is none of them
pub position : (ℕ → ℕ) → ℕ → ℕ → ℕ
position c k p = number (first (λ i. p ≡ c i) (λ i. Decides-eqb p (c i)) (suc k))

pub position_most : (c : ℕ → ℕ) (k p : ℕ) → position c k p ≤ k
unfolding position number
position_most c k p = most (first (λ i. p ≡ c i) (λ i. Decides-eqb p (c i)) (suc k))
  where
    most : (o : FirstOrNever (λ i. p ≡ c i) (suc k)) → number o ≤ k
    most (inl found) = omega (arith, found.within)
    most (inr never) = omega arith

pub position_is : (f : Floor) (c : ℕ → ℕ) (k : ℕ) → Corridor f c k → (p i : ℕ) → i ≤ k → p ≡ c i → position c k p ≡ i
unfolding position number
position_is f c k way p i h at = is (first (λ j. p ≡ c j) (λ j. Decides-eqb p (c j)) (suc k))
  where
    is : (o : FirstOrNever (λ j. p ≡ c j) (suc k)) → number o ≡ i
    is (inl found) = way.differ found.at i (omega (arith, found.within)) h (sym found.holds ∙ at)
    is (inr never) = absurd (never i (omega arith) at)
