-- What a cell's sign says, by the sign's code.
use Rattle.std.specs.Prelude.{ℕ, Bool, cond, ◌||◌, ◌==◌}
use Rattle.maps.specs.declared.sign.Sign.{Sign}
use Rattle.maps.specs.declared.sign.Sign.TheVariants.{Free, Blocked, Strange}

-- `.` and `G`
abbrev pub is_free : ℕ → Bool
is_free c = c == 46 || c == 71

-- `@`, `O`, `T`, `S` and `W`
abbrev pub is_blocked : ℕ → Bool
is_blocked c = c == 64 || (c == 79 || (c == 84 || (c == 83 || c == 87)))

abbrev pub sign_of : ℕ → Sign
sign_of c = cond (is_free c) Free (cond (is_blocked c) Blocked Strange)
