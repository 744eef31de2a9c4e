-- A line with a number is read exactly where a numeral and the line's end stand, and a fault is where neither a digit
-- that may come nor the line's end stands.
use Rattle.std.proofs.Common.{◌≡◌, ℕ, zero, suc, ◌+◌, ◌-◌, ◌*◌, ◌<◌, ◌≤◌, true, false, cond, ◌&&◌, eqb, leb, List, [], ◌∷◌, ◌++◌, length, take, IfSome, Some, None, Ok, Err, Decides, fold, All, Option, refl, sym, ap, ap₂, ◌∙◌, not, add-zero, zero-add, arith, MatchResult}
use Rattle.maps.specs.Grids.{InGauge}
use Rattle.maps.specs.declared.refusal.MapRefusal.TheVariants.{Headless, Gauge}
use Rattle.floor.proofs.Chains.{bind_at, cond_tells, passes, refused, then_tells, unless_tells}
use Rattle.floor.proofs.Deciding.{false_from_decides}
use Rattle.mapfile.proofs.FaultAnswers.{stage_fault}
use Rattle.mapfile.specs.Faults.{fault}
use Rattle.mapfile.specs.GridFiles.{Number, is_digit, more_digits, number_line, size_line}
use Rattle.mapfile.specs.GridLayout.{Digit, Numeral, NoNumber}
use Rattle.mapfile.specs.declared.fault.Fault.{Fault}
use Rattle.std.proofs.lemmas.Bool.{cond-false, cond-true, le-leb, leb-true, ne_eqb}
use Rattle.std.proofs.lemmas.Bool.Decides.{Decides-and, Decides-eqb}
use Rattle.std.proofs.lemmas.List.Elements.{All-cons, All-head, All-nil, All-tail}
use Rattle.std.specs.List.{slice_get}

decides_between : (low high n : ℕ) → Decides (leb low n && leb n high) ((low ≤ n) × (n ≤ high))
decides_between low high n = Decides-and _ _ (leb-true low n, le-leb low n) (leb-true n high, le-leb n high)

some_weaker : {A : Type 0} (o : Option A) (Q R : A → Type 0) → ((a : A) → Q a → R a) → IfSome o Q → IfSome o R
some_weaker None Q R f h = tt
some_weaker (Some a) Q R f h = f a h

-- at most so many digits more, behind those that come to `value`, come to n
record More (most value : ℕ) (digits : List ℕ) (n : ℕ) : Type 0 where
  few : length digits ≤ most
  decimal : All Digit digits
  comes : n ≡ fold (λ v b. v * 10 + (b - 48)) value digits

more_further : {most value b : ℕ} {digits : List ℕ} {n : ℕ} → Digit b → More most (value * 10 + (b - 48)) digits n → More (suc most) value (b ∷ digits) n
more_further {b} {digits} digit more = record { few = omega (arith, more.few); decimal = All-cons Digit b digits digit more.decimal; comes = more.comes }

numeral_from_more : {b : ℕ} {digits : List ℕ} {n : ℕ} → Digit b → More 2 (b - 48) digits n → Numeral (b ∷ digits) n
numeral_from_more {b} {digits} digit more = record { some = omega arith; most = omega (arith, more.few); decimal = All-cons Digit b digits digit more.decimal; value = rw zero-add more.comes }

-- at most so many digits up to k, and at k neither a digit that may come nor the line's end
record NoMore (most : ℕ) (bytes : List ℕ) (k : ℕ) : Type 0 where
  few : k ≤ most
  there : k ≤ length bytes
  digits : All Digit (take k bytes)
  departs : IfSome (slice_get bytes k) (λ b. (k < most → Digit b → ⊥) × (b ≡ 10 → ⊥))

no_more_further : {most b : ℕ} {bytes : List ℕ} {k : ℕ} → Digit b → NoMore most bytes k → NoMore (suc most) (b ∷ bytes) (suc k)
no_more_further {b} {bytes} {k} digit none = record {
  few = omega (arith, none.few);
  there = omega (arith, none.there);
  digits = All-cons Digit b (take k bytes) digit none.digits;
  departs = some_weaker (slice_get bytes k) _ _ (λ c h. (λ fewer. h.0 (omega arith), h.1)) none.departs;
}

no_number_from_more : {b : ℕ} {bytes : List ℕ} {k : ℕ} → Digit b → NoMore 2 bytes k → NoNumber (b ∷ bytes) (suc k)
no_number_from_more {b} {bytes} {k} digit none = record {
  most = omega (arith, none.few);
  there = omega (arith, none.there);
  digits = All-cons Digit b (take k bytes) digit none.digits;
  departs = some_weaker (slice_get bytes k) _ _ (λ c h. (λ fewer. h.0 (omega arith), λ _. h.1)) none.departs;
}

-- a number, and what is left behind its line
abbrev pub number_and_rest : ℕ → ℕ → List ℕ → Number
number_and_rest n at rest = record { value = n; behind = record { at = at; bytes = rest } }

-- what is done with a number that is read, and where none is
abbrev Reads : (Number → Type 0) → (List ℕ → ℕ → Type 0) → ℕ → List ℕ → Type 0
Reads P Is at bytes =
    (digits rest : List ℕ) (n m : ℕ) → Is digits n → m ≡ at + length digits + 1 → bytes ≡ digits ++ 10 ∷ rest → P (number_and_rest n m rest)

abbrev Stops : (Fault → Type 0) → (ℕ → Type 0) → ℕ → Type 0
Stops Q IsNone at = (k m : ℕ) → IsNone k → m ≡ at + k → Q (fault Headless m)

module _ (P : Number → Type 0) (Q : Fault → Type 0) where
  line_end_tells : (most value at b : ℕ) (bs : List ℕ) → (0 < most → Digit b → ⊥) → Reads P (More most value) at (b ∷ bs) → Stops Q (NoMore most (b ∷ bs)) at →
      MatchResult (cond (eqb b 10) (Ok (record { value = value; behind = record { at = at + 1; bytes = bs } })) (Err (fault Headless at))) P Q
  line_end_tells most value at b bs no_digit read stop = cond_tells P Q _ _ _ (Decides-eqb b 10)
      (λ end. read [] bs value (at + 1) (record { few = omega arith; decimal = All-nil Digit; comes = refl }) (omega arith) (ap (λ c. c ∷ bs) end))
      (λ other. stop 0 at (record { few = omega arith; there = omega arith; digits = All-nil Digit; departs = (no_digit, other) }) (omega arith))

  more_digits_tell : (most value at : ℕ) (bytes : List ℕ) → Reads P (More most value) at bytes → Stops Q (NoMore most bytes) at → MatchResult (more_digits most value at bytes) P Q
  more_digits_tell most value at [] read stop = stop 0 at (record { few = omega arith; there = omega arith; digits = All-nil Digit; departs = tt }) (omega arith)
  more_digits_tell zero value at (b ∷ bs) read stop = line_end_tells zero value at b bs (λ none _. omega arith) read stop
  more_digits_tell (suc most) value at (b ∷ bs) read stop =
      let further = more_digits_tell most (value * 10 + (b - 48)) (at + 1) bs in
      cond_tells P Q _ _ _ (decides_between 48 57 b)
      (λ digit. further (λ digits rest n m more is text. read (b ∷ digits) rest n m (more_further digit more) (omega arith) (ap (λ l. b ∷ l) text))
      (λ k m none is. stop (suc k) m (no_more_further digit none) (omega arith)))
      (λ strange. line_end_tells (suc most) value at b bs (λ _. strange) read stop)

  number_tells : (at : ℕ) (bytes : List ℕ) → Reads P Numeral at bytes → Stops Q (NoNumber bytes) at → MatchResult (number_line at bytes) P Q
  number_tells at [] read stop = stop 0 at (record { most = omega arith; there = omega arith; digits = All-nil Digit; departs = tt }) (omega arith)
  number_tells at (b ∷ bs) read stop =
      let further = more_digits_tell 2 (b - 48) (at + 1) bs in
      cond_tells P Q _ _ _ (decides_between 48 57 b)
      (λ digit. further (λ digits rest n m more is text. read (b ∷ digits) rest n m (numeral_from_more digit more) (omega arith) (ap (λ l. b ∷ l) text))
      (λ k m none is. stop (suc k) m (no_number_from_more digit none) (omega arith)))
      (λ strange. stop 0 at (record { most = omega arith; there = omega arith; digits = All-nil Digit; departs = (λ _. strange, λ some. absurd (omega arith)) }) (omega arith))

module _ (P : Number → Type 0) (Q : Fault → Type 0) where
  pub size_tells : (at : ℕ) (bytes : List ℕ) → Reads P (λ digits n. Numeral digits n × InGauge n) at bytes → Stops Q (NoNumber bytes) at →
      ((digits rest : List ℕ) (n : ℕ) → Numeral digits n → (InGauge n → ⊥) → bytes ≡ digits ++ 10 ∷ rest → Q (fault Gauge at)) → MatchResult (size_line at bytes) P Q
  size_tells at bytes read stop refused =
      then_tells P Q (number_line at bytes) _ (number_tells _ Q at bytes
      (λ digits rest n m numeral is text. unless_tells P Q _ _ _ (decides_between 1 32 n) (λ gauged. read digits rest n m (numeral, gauged) is text) (λ off. refused digits rest n numeral off text))
      stop)

-- ---- what a line gives, and where it fails

is_digit_when : (b : ℕ) → Digit b → is_digit b ≡ true
is_digit_when b digit = (decides_between 48 57 b).1 digit

no_digit_when : (b : ℕ) → (Digit b → ⊥) → is_digit b ≡ false
no_digit_when b other = false_from_decides _ (decides_between 48 57 b) other

more_digits_read : (most value at : ℕ) (digits rest : List ℕ) (n : ℕ) → More most value digits n → more_digits most value at (digits ++ 10 ∷ rest) ≡ Ok (number_and_rest n (at + length digits + 1) rest)
more_digits_read zero value at [] rest n more = ap₂ (λ v m. Ok (number_and_rest v m rest)) (sym more.comes) (omega arith)
more_digits_read (suc most) value at [] rest n more = ap₂ (λ v m. Ok (number_and_rest v m rest)) (sym more.comes) (omega arith)
more_digits_read zero value at (d ∷ ds) rest n more = absurd (omega (arith, more.few))
more_digits_read (suc most) value at (d ∷ ds) rest n more =
    let fewer : More most (value * 10 + (d - 48)) ds n = record { few = omega (arith, more.few); decimal = All-tail Digit d ds more.decimal; comes = more.comes } in
    cond-true _ _ _ (is_digit_when d (All-head Digit d ds more.decimal)) ∙ more_digits_read most (value * 10 + (d - 48)) (at + 1) ds rest n fewer
    ∙ ap (λ m. Ok (number_and_rest n m rest)) (omega arith)

number_read : (at : ℕ) (digits rest : List ℕ) (n : ℕ) → Numeral digits n → number_line at (digits ++ 10 ∷ rest) ≡ Ok (number_and_rest n (at + length digits + 1) rest)
number_read at [] rest n numeral = absurd (omega (arith, numeral.some))
number_read at (d ∷ ds) rest n numeral =
    let more : More 2 (d - 48) ds n = record { few = omega (arith, numeral.most); decimal = All-tail Digit d ds numeral.decimal; comes = rw zero-add at numeral.value } in
    cond-true _ _ _ (is_digit_when d (All-head Digit d ds numeral.decimal)) ∙ more_digits_read 2 (d - 48) (at + 1) ds rest n more
    ∙ ap (λ m. Ok (number_and_rest n m rest)) (omega arith)

more_digits_fail : (most value at : ℕ) (bytes : List ℕ) (k : ℕ) → NoMore most bytes k → more_digits most value at bytes ≡ Err (fault Headless (at + k))
more_digits_fail most value at [] k none = let there = none.there in ap (λ m. Err (fault Headless m)) (omega arith)
more_digits_fail zero value at (b ∷ bs) zero none =
    cond-false _ _ _ (ne_eqb b 10 none.departs.1) ∙ ap (λ m. Err (fault Headless m)) (sym (add-zero at))
more_digits_fail zero value at (b ∷ bs) (suc k) none = absurd (omega (arith, none.few))
more_digits_fail (suc most) value at (b ∷ bs) zero none =
    cond-false _ _ _ (no_digit_when b (none.departs.0 (omega arith))) ∙ cond-false _ _ _ (ne_eqb b 10 none.departs.1) ∙ ap (λ m. Err (fault Headless m)) (sym (add-zero at))
more_digits_fail (suc most) value at (b ∷ bs) (suc k) none =
    let further : NoMore most bs k = record {
      few = omega (arith, none.few);
      there = omega (arith, none.there);
      digits = All-tail Digit b (take k bs) none.digits;
      departs = some_weaker (slice_get bs k) _ _ (λ c h. (λ fewer. h.0 (omega arith), h.1)) none.departs;
    } in
    cond-true _ _ _ (is_digit_when b (All-head Digit b (take k bs) none.digits)) ∙ more_digits_fail most (value * 10 + (b - 48)) (at + 1) bs k further
    ∙ ap (λ m. Err (fault Headless m)) (omega arith)

number_fails : (at : ℕ) (bytes : List ℕ) (k : ℕ) → NoNumber bytes k → number_line at bytes ≡ Err (fault Headless (at + k))
number_fails at [] k none = let there = none.there in ap (λ m. Err (fault Headless m)) (omega arith)
number_fails at (b ∷ bs) zero none =
    cond-false _ _ _ (no_digit_when b (none.departs.0 (omega arith))) ∙ ap (λ m. Err (fault Headless m)) (sym (add-zero at))
number_fails at (b ∷ bs) (suc k) none =
    let further : NoMore 2 bs k = record {
      few = omega (arith, none.most);
      there = omega (arith, none.there);
      digits = All-tail Digit b (take k bs) none.digits;
      departs = some_weaker (slice_get bs k) _ _ (λ c h. (λ fewer. h.0 (omega arith), h.1 (omega arith))) none.departs;
    } in
    cond-true _ _ _ (is_digit_when b (All-head Digit b (take k bs) none.digits)) ∙ more_digits_fail 2 (b - 48) (at + 1) bs k further
    ∙ ap (λ m. Err (fault Headless m)) (omega arith)

module _ (at : ℕ) (digits rest : List ℕ) (n : ℕ) (numeral : Numeral digits n) where
  pub size_read : InGauge n → size_line at (digits ++ 10 ∷ rest) ≡ Ok (number_and_rest n (at + length digits + 1) rest)
  size_read gauged =
      bind_at (number_line at (digits ++ 10 ∷ rest)) _ _ (number_read at digits rest n numeral) ∙ passes _ _ _ _ (ap not ((decides_between 1 32 n).1 gauged)) refl

  pub size_refused : (InGauge n → ⊥) → size_line at (digits ++ 10 ∷ rest) ≡ Err (fault Gauge at)
  size_refused off =
      bind_at (number_line at (digits ++ 10 ∷ rest)) _ _ (number_read at digits rest n numeral) ∙ refused _ _ _ (ap not (false_from_decides _ (decides_between 1 32 n) off))

pub size_fails : (at : ℕ) (bytes : List ℕ) (k : ℕ) → NoNumber bytes k → size_line at bytes ≡ Err (fault Headless (at + k))
size_fails at bytes k none = stage_fault (number_line at bytes) _ _ (number_fails at bytes k none)
