-- A command that is due is read exactly when it stands there, and missing exactly for what is wrong first.
use Rattle.std.proofs.Common.{◌≡◌, ℕ, ◌+◌, ◌<◌, ◌≤◌, List, [], ◌∷◌, ◌++◌, length, take, drop, true, nat_le, ◌==◌, Ok, Err, Result, MatchResult, refl, sym, ap, ap₂, ◌∙◌, subst, arith, length-append, length-take}
use Rattle.std.proofs.Math.Seq.{drop-append_seam, take-append_seam}
use Rattle.std.proofs.lemmas.Bool.{cond_both, cond-true, eq-eqb, eqb-true, eqb-false, ne_eqb}
use Rattle.std.proofs.lemmas.Bool.Decides.{nat_tests}
use Rattle.std.proofs.lemmas.List.{take-append-drop}
use Rattle.std.proofs.lemmas.List.Elements.{All-drop, All-rest, All-take}
use Rattle.std.proofs.lemmas.Result.{MatchResult-at_ok, MatchResult-at_err}
use Rattle.std.specs.Prelude.{if◌then◌else◌}
use Rattle.cursor.specs.Commands.{missing, operands}
use Rattle.cursor.specs.Exactly.{Misses, MissedExactly, NoCommand, ReadExactly, Stands, file_ends, operands_cut, other_letter}
use Rattle.cursor.specs.Rests.{Rest, rest}
use Rattle.cursor.specs.Words.{Bytes}
use Rattle.cursor.specs.declared.missing.Lack.{Lack}
use Rattle.cursor.specs.declared.missing.Lack.TheVariants.{CutShort}
use Rattle.cursor.specs.declared.missing.Missing.{Missing}

module _ (due n at : ℕ) where
  abbrev Tells : List ℕ → Result (List ℕ × Rest) Missing → Type 0
  Tells bytes told = MatchResult told (λ read. Stands due n (rest at bytes) read.0 read.1) (Misses due n (rest at bytes))

  missing_at : (bytes : List ℕ) (m : Missing) (into : ℕ) → NoCommand due n bytes m.lack into → m.offset ≡ at + into → Misses due n (rest at bytes) m
  missing_at bytes m into wrong place = record { into = into; place = place; wrong = wrong }

  standing : (bytes : List ℕ) → n ≤ length bytes → Stands due n (rest at (due ∷ bytes)) (take n bytes) (rest (at + 1 + n) (drop n bytes))
  standing bytes enough = record { text = ap (λ bs. due ∷ bs) (sym (take-append-drop n bytes)); whole = omega (arith, length-take {A = ℕ}); place = omega arith }

  -- what the bytes behind the letter come to
  abbrev behind_letter : List ℕ → Result (List ℕ × Rest) Missing
  behind_letter bytes =
      if nat_le n (length bytes) then Ok (take n bytes, rest (at + 1 + n) (drop n bytes)) else Err (missing CutShort (at + 1 + length bytes))

  behind_letter_tells : (bytes : List ℕ) → Tells (due ∷ bytes) (behind_letter bytes)
  behind_letter_tells bytes =
      cond_both (nat_le n (length bytes)) _ _ (Tells (due ∷ bytes))
      (λ enough. standing bytes (grind (arith, nat_tests, enough)))
      (λ few. missing_at (due ∷ bytes) _ _ (operands_cut (grind (arith, nat_tests, few))) (omega arith))

  tells : (bytes : List ℕ) → Tells bytes (operands due n (rest at bytes))
  tells [] = missing_at [] _ 0 file_ends (omega arith)
  tells (letter ∷ bytes) =
      cond_both (letter == due) _ _ (Tells (letter ∷ bytes))
      (λ is. subst (λ l. Tells (l ∷ bytes) (behind_letter bytes)) (sym (eqb-true letter due is)) (behind_letter_tells bytes))
      (λ other. missing_at (letter ∷ bytes) _ 0 (other_letter (eqb-false letter due other)) (omega arith))

  written : (ops bytes : List ℕ) → length ops ≡ n → operands due n (rest at (due ∷ (ops ++ bytes))) ≡ Ok (ops, rest (at + 1 + n) bytes)
  written ops bytes whole =
      let enough : nat_le (length ops) (length (ops ++ bytes)) ≡ true = grind (arith, nat_tests, length-append ops bytes) in
      subst (λ k. operands due k (rest at (due ∷ (ops ++ bytes))) ≡ Ok (ops, rest (at + 1 + k) bytes)) whole
      (cond-true _ _ _ (eq-eqb due due refl) ∙ cond-true _ _ _ enough ∙ ap₂ (λ o bs. Ok (o, rest (at + 1 + length ops) bs)) (take-append_seam ops bytes) (drop-append_seam ops bytes))

  missed : (bytes : List ℕ) (lack : Lack) (into : ℕ) → NoCommand due n bytes lack into → operands due n (rest at bytes) ≡ Err (missing lack (at + into))
  missed bytes lack into file_ends = grind arith
  missed bytes lack into (other_letter {letter = letter} {bytes = behind} other) = grind (arith, ne_eqb letter due other)
  missed bytes lack into (operands_cut {bytes = behind} short) = grind (arith, nat_tests, short)

pub operands_tell : (due n : ℕ) (r : Rest) → MatchResult (operands due n r) (λ read. Stands due n r read.0 read.1) (Misses due n r)
operands_tell due n r = tells due n r.at r.bytes

-- ---- and back

pub operands_read : (due n : ℕ) (r : Rest) (ops : List ℕ) (left : Rest) → Stands due n r ops left → operands due n r ≡ Ok (ops, left)
operands_read due n r ops left stands =
    ap (λ bs. operands due n (rest r.at bs)) stands.text ∙ written due n r.at ops left.bytes stands.whole ∙ ap (λ k. Ok (ops, rest k left.bytes)) (sym stands.place)

pub operands_missed : (due n : ℕ) (r : Rest) (m : Missing) → Misses due n r m → operands due n r ≡ Err m
operands_missed due n r m misses = missed due n r.at r.bytes m.lack misses.into misses.wrong ∙ ap (λ k. Err (missing m.lack k)) (sym misses.place)

-- where what is left of a file is bytes, so are the operands and what is left behind them
pub bytes_behind : (due n : ℕ) (r : Rest) (ops : List ℕ) (left : Rest) → Stands due n r ops left → Bytes r.bytes → Bytes ops × Bytes left.bytes
bytes_behind due n r ops left stands low =
    let behind : Bytes (ops ++ left.bytes) = All-rest (λ b. b < 256) due (ops ++ left.bytes) r.bytes stands.text low in (
      subst Bytes (take-append_seam ops left.bytes) (All-take (λ b. b < 256) (length ops) (ops ++ left.bytes) behind),
      subst Bytes (drop-append_seam ops left.bytes) (All-drop (λ b. b < 256) (length ops) (ops ++ left.bytes) behind),
    )

-- what is missing is so within what is left, or at its end
pub missing_within : (due n : ℕ) (bytes : List ℕ) (lack : Lack) (k : ℕ) → NoCommand due n bytes lack k → k ≤ length bytes
missing_within due n bytes lack k wrong = grind (arith, wrong)

-- ---- exactly

pub read_exactly : (due n : ℕ) (r : Rest) → ReadExactly due n r
read_exactly due n r ops left = (λ e. MatchResult-at_ok (λ read. Stands due n r read.0 read.1) (Misses due n r) (ops, left) e (operands_tell due n r), operands_read due n r ops left)

pub missed_exactly : (due n : ℕ) (r : Rest) → MissedExactly due n r
missed_exactly due n r m = (λ e. MatchResult-at_err (λ read. Stands due n r read.0 read.1) (Misses due n r) m e (operands_tell due n r), operands_missed due n r m)
