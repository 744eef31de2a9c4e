-- The first number that passes a test, and sums of what may be absent.
use Rattle.std.specs.Prelude.{ℕ, zero, suc, ◌+◌, min, Bool, false, cond, Some, None, Option, nat_lt}
use Rattle.std.specs.Option.{option_or}

-- the first number below a limit that passes a test
abbrev pub first_below : (ℕ → Bool) → ℕ → Option ℕ
first_below P zero = None
first_below P (suc n) = option_or (first_below P n) (cond (P n) (Some n) None)

-- the sum of two numbers that may be absent: absent where either is
abbrev pub plus : Option ℕ → Option ℕ → Option ℕ
plus None o = None
plus (Some m) None = None
plus (Some m) (Some n) = Some (m + n)

-- the sum of what g gives below n, if it gives something for each
abbrev pub sum_below : (ℕ → Option ℕ) → ℕ → Option ℕ
sum_below g zero = Some 0
sum_below g (suc n) = plus (sum_below g n) (g n)

-- what is there, and at most the claim
abbrev pub capped : ℕ → Option ℕ → Option ℕ
capped claim None = None
capped claim (Some n) = Some (min n claim)

-- the sum is there, and below the claim
abbrev pub is_below : ℕ → Option ℕ → Bool
is_below claim None = false
is_below claim (Some n) = nat_lt n claim
