-- A list file is read exactly when it is laid out as one, and has a fault exactly where it is the first.
use Rattle.std.proofs.Common.{◌≡◌, ℕ, ◌+◌, List, [], ◌∷◌, ◌++◌, length, Ok, Err, Result, MatchResult, refl, sym, ap, ◌∙◌, subst, zero-add, arith}
use Rattle.std.proofs.lemmas.List.{append-nil}
use Rattle.std.proofs.lemmas.Result.{MatchResult-at_ok, MatchResult-at_err, MatchResult-weaker}
use Rattle.cursor.proofs.Commands.{bytes_behind, operands_missed, operands_read, operands_tell}
use Rattle.cursor.proofs.Words.{pair_back, word_back}
use Rattle.cursor.specs.Commands.{missing, operands, told}
use Rattle.cursor.specs.Exactly.{Misses, Stands}
use Rattle.cursor.specs.Rests.{Rest, rest}
use Rattle.cursor.specs.Words.{Bytes, two_bytes, word}
use Rattle.cursor.specs.declared.missing.Missing.{Missing}
use Rattle.floor.specs.Checks.{◌>>=◌}
use Rattle.floor.proofs.Chains.{bind_at}
use Rattle.maps.specs.Networks.{Network, Proper, bare, founding}
use Rattle.maps.proofs.Founding.{founding_ok, founding_gives, founding_tells}
use Rattle.maps.specs.declared.refusal.MapRefusal.{MapRefusal}
use Rattle.mapfile.specs.Faults.{fault, missing_fault}
use Rattle.mapfile.specs.ListFiles.{blame, connecting, list_reading}
use Rattle.mapfile.specs.ListLayout.{count_text, list_text, ListReadExactly, ListFault, at_beginning, at_command, NoBeginning, NoContinuing, no_count, count_refused, ListFaultsExactly}
use Rattle.mapfile.specs.declared.fault.Fault.{Fault}
use Rattle.mapfile.proofs.ListCommands.{extended, texts, connecting_halts, connecting_on, connecting_tells}

-- what comes of the operands of `P`
abbrev numbered : Result (List ℕ × Rest) Missing → Result (ℕ × Rest) Fault
numbered read = told missing_fault read >>= λ r. Ok (word r.0 0, r.1)

abbrev behind_count : Result (List ℕ × Rest) Missing → Result Network Fault
behind_count read = do
  count ← numbered read
  founded ← blame 0 (founding count.0)
  connecting founded 0 count.1.at count.1.bytes

-- ---- what the reading tells

abbrev Laid : List ℕ → Network → Type 0
Laid bytes n = Proper n × (bytes ≡ list_text n)

abbrev Faulty : List ℕ → Fault → Type 0
Faulty bytes f = ListFault bytes f.refusal f.offset

faulty_at : (bytes : List ℕ) (f : Fault) (k : ℕ) → f.offset ≡ k → ListFault bytes f.refusal k → Faulty bytes f
faulty_at bytes f k is h = subst (ListFault bytes f.refusal) (sym is) h

module _ (places : ℕ) (left : Rest) (place : left.at ≡ 3) (low : Bytes left.bytes) where
  whole : List ℕ
  whole = count_text places ++ left.bytes

  founding_told : (x : Result Network MapRefusal) → founding places ≡ x → MatchResult (blame 0 x >>= λ n. connecting n 0 left.at left.bytes) (Laid whole) (Faulty whole)
  unfolding whole
  founding_told (Err e) is = at_beginning (count_refused places ((founding_tells.refused places e).0 is))
  founding_told (Ok n) is =
      let founded = founding_gives places n is in
      let bare_n = sym founded.0 in
      MatchResult-weaker (connecting n 0 left.at left.bytes) (connecting_tells (length left.bytes) n left.at left.bytes (omega arith) low (subst Proper bare_n founded.1))
      (λ m reads. (reads.proper, ap (λ bs. count_text places ++ bs) reads.text ∙ ap list_text (ap (λ n. extended n reads.more) bare_n ∙ sym reads.whole)))
      (λ f stops. let there = stops.place in
      let same = ap (λ n. extended n stops.more) (sym bare_n) in
      faulty_at whole f (length (list_text (extended (bare places) stops.more)) + stops.into) (omega arith)
      (at_command (extended (bare places) stops.more) stops.behind stops.into (subst Proper same stops.proper) (ap (λ bs. count_text places ++ bs) stops.text)
      (subst (λ m. NoContinuing m stops.behind f.refusal stops.into) same stops.wrong)))

list_tells : (bytes : List ℕ) → Bytes bytes → MatchResult (list_reading bytes) (Laid bytes) (Faulty bytes)
unfolding list_reading whole
list_tells bytes low = by (operands 80 2 (rest 0 bytes)) (operands_tell 80 2 (rest 0 bytes))
  where
    by : (x : Result (List ℕ × Rest) Missing) → MatchResult x (λ r. Stands 80 2 (rest 0 bytes) r.0 r.1) (Misses 80 2 (rest 0 bytes)) → MatchResult (behind_count x) (Laid bytes) (Faulty bytes)
    by (Err m) misses = faulty_at bytes _ misses.into (misses.place ∙ zero-add misses.into) (at_beginning (no_count misses.wrong))
    by (Ok read) stands =
        let low = bytes_behind 80 2 (rest 0 bytes) read.0 read.1 stands low in
        let place = stands.place in
        subst (λ bs. MatchResult (behind_count (Ok read)) (Laid bs) (Faulty bs)) (sym (stands.text ∙ ap (λ ops. 80 ∷ (ops ++ read.1.bytes)) (sym (pair_back read.0 low.0 stands.whole))))
        (founding_told (word read.0 0) read.1 (omega arith) low.1 (founding (word read.0 0)) refl)

-- ---- and back

-- the count is read, and then what stands behind it
count_read : (places : ℕ) (behind : List ℕ) → list_reading (count_text places ++ behind) ≡ (blame 0 (founding places) >>= λ n. connecting n 0 3 behind)
unfolding list_reading
count_read places behind =
    ap behind_count (operands_read 80 2 (rest 0 (count_text places ++ behind)) (two_bytes places) (rest 3 behind) (record { text = refl; whole = refl; place = refl }))
    ∙ ap (λ k. blame 0 (founding k) >>= λ n. connecting n 0 3 behind) (word_back places)

-- a network's text is read, and then what stands behind it
text_read : (n : Network) (behind : List ℕ) → Proper n → list_reading (list_text n ++ behind) ≡ connecting n 0 (length (list_text n)) behind
text_read n behind proper =
    let founded = founding_ok n.places proper.lawful.has_a_place proper.lawful.at_most_1024 in
    count_read n.places (texts n.connections ++ behind) ∙ bind_at (blame 0 (founding n.places)) (λ j. connecting j 0 3 (texts n.connections ++ behind)) (bare n.places) (ap (blame 0) founded)
    ∙ connecting_on n.connections (bare n.places) 3 behind proper ∙ ap (λ k. connecting n 0 k behind) (omega arith)

laid_is_read : (n : Network) → Proper n → list_reading (list_text n) ≡ Ok n
laid_is_read n proper = ap list_reading (sym (append-nil (list_text n))) ∙ text_read n [] proper

pub list_read_exactly : (bytes : List ℕ) → Bytes bytes → ListReadExactly bytes
list_read_exactly bytes low n =
    (λ e. MatchResult-at_ok (Laid bytes) (Faulty bytes) n e (list_tells bytes low), λ h. ap list_reading h.1 ∙ laid_is_read n h.0)

beginning_refused : (bytes : List ℕ) (e : MapRefusal) (k : ℕ) → NoBeginning bytes e k → list_reading bytes ≡ Err (fault e k)
unfolding list_reading
beginning_refused bytes e k (no_count {lack = lack} wrong) = ap behind_count (operands_missed 80 2 (rest 0 bytes) (missing lack k) (record { into = k; place = sym (zero-add k); wrong = wrong }))
beginning_refused bytes e k (count_refused {bytes = behind} places why) =
    count_read places behind ∙ ap (λ x. blame 0 x >>= λ n. connecting n 0 3 behind) ((founding_tells.refused places e).1 why)

fault_found : (bytes : List ℕ) (e : MapRefusal) (k : ℕ) → ListFault bytes e k → list_reading bytes ≡ Err (fault e k)
fault_found bytes e k (at_beginning wrong) = beginning_refused bytes e k wrong
fault_found bytes e k (at_command n behind into proper text wrong) =
    ap list_reading text ∙ text_read n behind proper ∙ connecting_halts n (length (list_text n)) behind e into wrong

pub list_faults_exactly : (bytes : List ℕ) → Bytes bytes → ListFaultsExactly bytes
list_faults_exactly bytes low f =
    (λ e. MatchResult-at_err (Laid bytes) (Faulty bytes) f e (list_tells bytes low), fault_found bytes f.refusal f.offset)
