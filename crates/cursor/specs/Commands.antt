-- Reading a command that is due: a letter, and so many operand bytes behind it.
use Rattle.std.specs.Prelude.{ℕ, ◌+◌, List, [], ◌∷◌, length, take, drop, Ok, Err, Result, ◌==◌, nat_le, if◌then◌else◌}
use Rattle.cursor.specs.Rests.{Rest, rest}
use Rattle.cursor.specs.declared.missing.Lack.{Lack}
use Rattle.cursor.specs.declared.missing.Lack.TheVariants.{Letter, CutShort}
use Rattle.cursor.specs.declared.missing.Missing.{Missing}

abbrev pub missing : Lack → ℕ → Missing
missing lack at = record { lack = lack; offset = at }

-- the operands, and what is left behind them
abbrev pub operands : ℕ → ℕ → Rest → Result (List ℕ × Rest) Missing
operands due n left = from left.at left.bytes
  where
    from : ℕ → List ℕ → Result (List ℕ × Rest) Missing
    from at [] = Err (missing CutShort at)
    from at (letter ∷ bytes) =
        if letter == due then
        (if nat_le n (length bytes) then Ok (take n bytes, rest (at + 1 + n) (drop n bytes))
        else Err (missing CutShort (at + 1 + length bytes)))
        else Err (missing Letter at)

-- a missing command is told as a fault of what the file is
abbrev pub told : {A Fault : Type 0} → (Missing → Fault) → Result A Missing → Result A Fault
told fault (Ok x) = Ok x
told fault (Err m) = Err (fault m)
