-- What is left to read of a file.
use Rattle.std.specs.Prelude.{ℕ, List}
use Rattle.cursor.specs.declared.reader.Cursor.{Cursor}

-- the bytes that are left, and the offset where they begin
pub record Rest : Type 0 where
  pub at : ℕ
  pub bytes : List ℕ

abbrev pub rest : ℕ → List ℕ → Rest
rest at bytes = record { at = at; bytes = bytes }

abbrev pub rest_of : Cursor → Rest
rest_of c = rest c.at c.bytes.now

-- what was read, and what is left behind it
abbrev pub before_rest : {X : Type 0} → X × Cursor → X × Rest
before_rest p = (p.0, rest_of p.1)
