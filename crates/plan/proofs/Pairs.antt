-- The numbers that bytes hold two by two: by the pairs that the bytes are cut into, and written out again.
use Rattle.std.proofs.Common.{◌≡◌, ℕ, zero, suc, ◌+◌, ◌*◌, ◌<◌, ◌≤◌, List, [], ◌∷◌, length, map, refl, ap, ap₂, arith}
use Rattle.std.proofs.lemmas.List.Elements.{All-head, All-tail}
use Rattle.std.specs.List.{flat_map}
use Rattle.std.specs.Simd.{first_chunks}
use Rattle.cursor.specs.Words.{Bytes, two_bytes}
use Rattle.cursor.proofs.Words.{word_back, word_high, word_low}
use Rattle.splits.specs.Operands.{word}
use Rattle.plan.specs.Commands.{words}

abbrev pub numbers_of : List (List ℕ) → List ℕ
numbers_of pairs = map (λ p. word p 0) pairs

pub words_by_pairs : (k : ℕ) (bytes : List ℕ) → 2 * k ≤ length bytes → length bytes < 2 * k + 2 → numbers_of (first_chunks 2 k bytes) ≡ words bytes
words_by_pairs zero [] enough most = refl
words_by_pairs zero (b ∷ []) enough most = refl
words_by_pairs zero (a ∷ b ∷ bytes) enough most = absurd (omega (arith, most))
words_by_pairs (suc k) [] enough most = absurd (omega (arith, enough))
words_by_pairs (suc k) (b ∷ []) enough most = absurd (omega (arith, enough))
words_by_pairs (suc k) (a ∷ b ∷ bytes) enough most = ap (λ ns. (a * 256 + b) ∷ ns) (words_by_pairs k bytes (omega arith) (omega arith))

pub length_words : (k : ℕ) (bytes : List ℕ) → length bytes ≡ 2 * k → length (words bytes) ≡ k
length_words zero [] long = refl
length_words zero (b ∷ bytes) long = absurd (omega (arith, long))
length_words (suc k) [] long = absurd (omega (arith, long))
length_words (suc k) (b ∷ []) long = absurd (omega (arith, long))
length_words (suc k) (a ∷ b ∷ bytes) long = ap (λ n. suc n) (length_words k bytes (omega arith))

pub words_written : (ns : List ℕ) → words (flat_map two_bytes ns) ≡ ns
words_written [] = refl
words_written (n ∷ ns) = ap₂ (λ m ms. m ∷ ms) (word_back n) (words_written ns)

pub length_written : (ns : List ℕ) → length (flat_map two_bytes ns) ≡ 2 * length ns
length_written [] = refl
length_written (n ∷ ns) = let rest = length_written ns in omega arith

pub written_words : (k : ℕ) (bytes : List ℕ) → Bytes bytes → length bytes ≡ 2 * k → flat_map two_bytes (words bytes) ≡ bytes
written_words zero [] fit long = refl
written_words zero (b ∷ bytes) fit long = absurd (omega (arith, long))
written_words (suc k) [] fit long = absurd (omega (arith, long))
written_words (suc k) (b ∷ []) fit long = absurd (omega (arith, long))
written_words (suc k) (a ∷ b ∷ bytes) fit long =
    let low = All-head (λ x. x < 256) b bytes (All-tail (λ x. x < 256) a (b ∷ bytes) fit) in
    let rest = All-tail (λ x. x < 256) b bytes (All-tail (λ x. x < 256) a (b ∷ bytes) fit) in
    ap₂ (λ h t. h ∷ t) (word_high a b low) (ap₂ (λ l t. l ∷ t) (word_low a b low) (written_words k bytes rest (omega arith)))
