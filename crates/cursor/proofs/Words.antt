-- A number in two bytes and back.
use Rattle.std.proofs.Common.{◌≡◌, ℕ, ◌+◌, ◌*◌, ◌/◌, ◌%◌, ◌<◌, List, [], ◌∷◌, ◌++◌, length, get_or, ap₂, arith, w8, Fits}
use Rattle.std.proofs.lemmas.List.Elements.{All-from_get_or}
use Rattle.cursor.specs.Words.{Bytes, two_bytes, word}

pub word_back : (n : ℕ) → n / 256 * 256 + n % 256 ≡ n
word_back n = omega arith

pub word_high : (high low : ℕ) → low < 256 → (high * 256 + low) / 256 ≡ high
word_high high low h = omega arith

pub word_low : (high low : ℕ) → low < 256 → (high * 256 + low) % 256 ≡ low
word_low high low h = omega arith

pub two_back : (high low : ℕ) → low < 256 → two_bytes (high * 256 + low) ≡ high ∷ low ∷ []
two_back high low fit = ap₂ (λ h l. h ∷ l ∷ []) (word_high high low fit) (word_low high low fit)

-- two bytes are those of the number that they come to
pub pair_back : (ops : List ℕ) → Bytes ops → length ops ≡ 2 → two_bytes (word ops 0) ≡ ops
pair_back (a ∷ b ∷ []) low long = two_back a b (low 1 0 (omega arith))
pair_back ops low long = absurd (omega (arith, long))

-- and four bytes those of the two numbers
pub words_back : (ops : List ℕ) → Bytes ops → length ops ≡ 4 → two_bytes (word ops 0) ++ two_bytes (word ops 2) ≡ ops
words_back (a ∷ b ∷ c ∷ d ∷ []) low long = ap₂ (λ s t. s ++ t) (two_back a b (low 1 0 (omega arith))) (two_back c d (low 3 0 (omega arith)))
words_back ops low long = absurd (omega (arith, long))

-- every element of a slice of bytes is one
pub bytes_fit : (bytes : List ℕ) → ((i : ℕ) → Fits w8 (get_or bytes i 0)) → Bytes bytes
bytes_fit bytes typed = All-from_get_or (λ b. b < 256) bytes 0 (λ i h. (typed i).fits)
