-- When a command that is due is read, and when it is missing.
use Rattle.std.specs.Prelude.{◌≡◌, ℕ, ◌+◌, ◌<◌, ◌↔◌, List, [], ◌∷◌, ◌++◌, length, Ok, Err, ◌≢◌}
use Rattle.cursor.specs.Commands.{operands}
use Rattle.cursor.specs.Rests.{Rest}
use Rattle.cursor.specs.declared.missing.Lack.{Lack}
use Rattle.cursor.specs.declared.missing.Lack.TheVariants.{Letter, CutShort}
use Rattle.cursor.specs.declared.missing.Missing.{Missing}

-- the letter, n operand bytes and what is left behind them stand there
pub record Stands (due n : ℕ) (rest : Rest) (ops : List ℕ) (left : Rest) : Type 0 where
  pub text : rest.bytes ≡ due ∷ (ops ++ left.bytes)
  pub whole : length ops ≡ n
  pub place : left.at ≡ rest.at + 1 + n

-- the letter and n operand bytes do not stand at the front of the bytes: why, and where in them
pub data NoCommand (due n : ℕ) : List ℕ → Lack → ℕ → Type 0 where
  file_ends : NoCommand due n [] CutShort 0
  other_letter : {letter : ℕ} {bytes : List ℕ} → (letter ≢ due) → NoCommand due n (letter ∷ bytes) Letter 0
  operands_cut : {bytes : List ℕ} → length bytes < n → NoCommand due n (due ∷ bytes) CutShort (length (due ∷ bytes))

-- it is missing for that, at that offset of the file
pub record Misses (due n : ℕ) (rest : Rest) (m : Missing) : Type 0 where
  pub into : ℕ
  pub place : m.offset ≡ rest.at + into
  pub wrong : NoCommand due n rest.bytes m.lack into

-- operands are read exactly when they stand there
abbrev pub ReadExactly : ℕ → ℕ → Rest → Type 0
ReadExactly due n rest = (ops : List ℕ) (left : Rest) → (operands due n rest ≡ Ok (ops, left)) ↔ Stands due n rest ops left

-- and a command is told to be missing exactly when it is, with what is wrong first
abbrev pub MissedExactly : ℕ → ℕ → Rest → Type 0
MissedExactly due n rest = (m : Missing) → (operands due n rest ≡ Err m) ↔ Misses due n rest m
