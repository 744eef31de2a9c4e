-- The first tick with a property, and two numbers that change by at most one a tick. Speaks of no floor.
use Rattle.std.specs.Prelude.{◌≡◌, ℕ, suc, pred, ◌<◌, ◌≤◌, Bool, ◌⊎◌, Some, None, Decides, Option, MatchOption}
use Rattle.std.proofs.Common.{inl, inr, ⊎_elim, arith}
use Rattle.std.proofs.lemmas.Bool.{cases_eq, cases_lt}
use Rattle.std.proofs.lemmas.Bool.Decides.{Decides-and, not_from_Decides}
use Rattle.floor.proofs.Deciding.{decides_leb}
use Rattle.search.specs.Sums.{first_below}
use Rattle.search.proofs.Firsts.{NonePasses, IsFirst, first_is}

-- the first tick before n at which P holds
pub record First (P : ℕ → Type 0) (n : ℕ) : Type 0 where
  pub at : ℕ
  pub within : at < n
  pub holds : P at
  pub before : (t : ℕ) → t < at → P t → ⊥

abbrev pub Never : (ℕ → Type 0) → ℕ → Type 0
Never P n = (t : ℕ) → t < n → P t → ⊥

abbrev pub FirstOrNever : (ℕ → Type 0) → ℕ → Type 0
FirstOrNever P n = First P n ⊎ Never P n

pub first : (P : ℕ → Type 0) {p : ℕ → Bool} → ((t : ℕ) → Decides (p t) (P t)) → (n : ℕ) → FirstOrNever P n
first P {p} decides n = by_cases (first_below p n) (first_is p n)
  where
    by_cases : (o : Option ℕ) → MatchOption o (NonePasses p n) (IsFirst p n) → FirstOrNever P n
    by_cases None none = inr (λ t h. not_from_Decides (p t) (decides t) (none t h))
    by_cases (Some m) found =
        inl (record { at = m; within = found.0; holds = (decides m).0 found.1; before = λ t h. not_from_Decides (p t) (decides t) (found.2 t h) })

-- two numbers that differ by at most one
abbrev pub Near : ℕ → ℕ → Type 0
Near m n = (m ≤ suc n) × (n ≤ suc m)

-- from lo to hi, x changes by at most one a tick
abbrev pub Slow : (ℕ → ℕ) → ℕ → ℕ → Type 0
Slow x lo hi = (t : ℕ) → t < hi → lo ≤ t → Near (x t) (x (suc t))

-- x and y are equal at a tick from lo to hi, or each takes the other's value in a step between them
pub record Meet (x y : ℕ → ℕ) (lo hi : ℕ) : Type 0 where
  pub at : ℕ
  pub from : lo ≤ at
  pub to : at ≤ hi
  pub how : (x at ≡ y at) ⊎ ((at < hi) × (x at ≡ y (suc at)) × (x (suc at) ≡ y at))

-- Where x begins at most y and ends at least y, they meet: at the first tick from lo on at which x is at least y, or in
-- the step to it.
pub meeting : (x y : ℕ → ℕ) (lo hi : ℕ) → lo ≤ hi → Slow x lo hi → Slow y lo hi → x lo ≤ y lo → y hi ≤ x hi → Meet x y lo hi
meeting x y lo hi some sx sy low high = by_first (first Passed (λ t. Decides-and _ _ (decides_leb lo t) (decides_leb (y t) (x t))) (suc hi))
  where
    Passed : ℕ → Type 0
    Passed t = (lo ≤ t) × (y t ≤ x t)

    at_lo : y lo ≤ x lo → Meet x y lo hi
    at_lo passed = record { at = lo; from = omega arith; to = some; how = inl (omega arith) }

    -- x is below y at t, and not a tick later
    in_step : (t : ℕ) → lo ≤ t → t < hi → (y t ≤ x t → ⊥) → y (suc t) ≤ x (suc t) → Meet x y lo hi
    in_step t from to below passed = ⊎_elim
        (λ e. record { at = suc t; from = omega arith; to = to; how = inl e })
        (λ ne. record { at = t; from = from; to = omega arith; how = inr (omega (arith, sx t to from, sy t to from)) })
        (cases_eq (x (suc t)) (y (suc t)))

    by_first : FirstOrNever Passed (suc hi) → Meet x y lo hi
    by_first (inr never) = absurd (never hi (omega arith) (some, high))
    by_first (inl found) = ⊎_elim
        (λ lt. let e : found.at ≡ suc (pred found.at) = omega arith in
        in_step (pred found.at) (omega arith) (omega (arith, found.within)) (λ h. found.before (pred found.at) (omega arith) (omega arith, h)) (rw e at found.holds.1))
        (λ le. let e : found.at ≡ lo = omega (arith, found.holds.0) in at_lo (rw e at found.holds.1))
        (cases_lt lo found.at)
