-- The trips of a plan's heading: read exactly where their texts stand, and missing where one does not.
use Rattle.std.proofs.Common.{◌≡◌, ℕ, zero, suc, ◌+◌, ◌*◌, ◌<◌, List, [], ◌∷◌, ◌++◌, length, Ok, Err, Result, MatchResult, refl, ap, ap₂, ◌∙◌, sym, append_assoc, arith}
use Rattle.std.specs.List.{flat_map}
use Rattle.std.proofs.lemmas.Result.{MatchResult-weaker}
use Rattle.cursor.proofs.Commands.{bytes_behind, operands_missed, operands_read, operands_tell}
use Rattle.cursor.proofs.Words.{word_back, words_back}
use Rattle.cursor.specs.Commands.{missing, operands}
use Rattle.cursor.specs.Exactly.{Misses, NoCommand, Stands}
use Rattle.cursor.specs.Rests.{Rest, rest}
use Rattle.cursor.specs.Words.{Bytes, two_bytes}
use Rattle.cursor.specs.declared.missing.Lack.{Lack}
use Rattle.cursor.specs.declared.missing.Missing.{Missing}
use Rattle.floor.proofs.Chains.{then_tells}
use Rattle.floor.specs.Checks.{◌>>=◌}
use Rattle.motion.specs.declared.trip.Trip.{Trip}
use Rattle.plan.specs.Headings.{after_trips, trip_of, trips_at}
use Rattle.plan.specs.Layout.{trip_text}

-- a trip that was read, before those that are left
abbrev before_trips : Trip → Result (List Trip × Rest) Missing → Result (List Trip × Rest) Missing
before_trips t others = others >>= λ us. Ok (t ∷ us.0, us.1)

-- from one trip to the next
pub trips_on : (n : ℕ) (left next : Rest) (trips : List Trip) (ops : List ℕ) → operands 67 4 left ≡ Ok (ops, next)
    → after_trips trips (trips_at (suc n) left) ≡ after_trips (trips ++ (trip_of ops ∷ [])) (trips_at n next)
trips_on n left next trips ops e = ap (λ x. after_trips trips (x >>= λ first. before_trips (trip_of first.0) (trips_at n first.1))) e ∙ joined (trips_at n next)
  where
    joined : (others : Result (List Trip × Rest) Missing) → after_trips trips (before_trips (trip_of ops) others) ≡ after_trips (trips ++ (trip_of ops ∷ [])) others
    joined (Ok us) = ap (λ ts. Ok (ts, us.1)) (sym (append_assoc trips (trip_of ops ∷ []) us.0))
    joined (Err m) = refl

-- ---- what reading them tells

-- the texts of n trips stand there
pub record Reads (n at : ℕ) (bytes : List ℕ) (trips : List Trip) (left : Rest) : Type 0 where
  pub many : length trips ≡ n
  pub text : bytes ≡ flat_map trip_text trips ++ left.bytes
  pub place : left.at ≡ at + 5 * length trips

-- those of fewer do, and then none
pub record Lacks (n at : ℕ) (bytes : List ℕ) (m : Missing) : Type 0 where
  pub front : List Trip
  pub behind : List ℕ
  pub into : ℕ
  pub fewer : length front < n
  pub text : bytes ≡ flat_map trip_text front ++ behind
  pub place : m.offset ≡ at + 5 * length front + into
  pub wrong : NoCommand 67 4 behind m.lack into

module _ (n at : ℕ) (bytes : List ℕ) (t : Trip) (left : Rest) (text : bytes ≡ trip_text t ++ left.bytes) (place : left.at ≡ at + 5) where
  reads_more : (others : List Trip × Rest) → Reads n left.at left.bytes others.0 others.1 → Reads (suc n) at bytes (t ∷ others.0) others.1
  reads_more others r = let there = r.place in record { many = ap (λ k. suc k) r.many; text = text ∙ ap (λ bs. trip_text t ++ bs) r.text; place = omega arith }

  lacks_later : (m : Missing) → Lacks n left.at left.bytes m → Lacks (suc n) at bytes m
  lacks_later m l =
      let there = l.place in
      let fewer = l.fewer in
      record { front = t ∷ l.front; behind = l.behind; into = l.into; fewer = omega arith; text = text ∙ ap (λ bs. trip_text t ++ bs) l.text; place = omega arith; wrong = l.wrong }

pub trips_tell : (n at : ℕ) (bytes : List ℕ) → Bytes bytes → MatchResult (trips_at n (rest at bytes)) (λ r. Reads n at bytes r.0 r.1) (Lacks n at bytes)
trips_tell zero at bytes low = record { many = refl; text = refl; place = omega arith }
trips_tell (suc n) at bytes low = by (trips_tell n) (operands 67 4 (rest at bytes)) (operands_tell 67 4 (rest at bytes))
  where
    by : ((k : ℕ) (bs : List ℕ) → Bytes bs → MatchResult (trips_at n (rest k bs)) (λ r. Reads n k bs r.0 r.1) (Lacks n k bs))
        → (x : Result (List ℕ × Rest) Missing) → MatchResult x (λ r. Stands 67 4 (rest at bytes) r.0 r.1) (Misses 67 4 (rest at bytes))
        → MatchResult (x >>= λ first. before_trips (trip_of first.0) (trips_at n first.1)) (λ r. Reads (suc n) at bytes r.0 r.1) (Lacks (suc n) at bytes)
    by later (Err m) misses =
        let place = misses.place in
        record { front = []; behind = bytes; into = misses.into; fewer = omega arith; text = refl; place = omega arith; wrong = misses.wrong }
    by later (Ok first) stands =
        let lows = bytes_behind 67 4 (rest at bytes) first.0 first.1 stands low in
        let place = stands.place in
        let there : first.1.at ≡ at + 5 = omega arith in
        let text : bytes ≡ trip_text (trip_of first.0) ++ first.1.bytes = stands.text ∙ ap (λ ops. 67 ∷ (ops ++ first.1.bytes)) (sym (words_back first.0 lows.0 stands.whole)) in
        then_tells (λ r. Reads (suc n) at bytes r.0 r.1) (Lacks (suc n) at bytes) (trips_at n first.1) (λ us. Ok (trip_of first.0 ∷ us.0, us.1))
        (MatchResult-weaker (trips_at n first.1) (later first.1.at first.1.bytes lows.1)
        (reads_more n at bytes (trip_of first.0) first.1 text there) (lacks_later n at bytes (trip_of first.0) first.1 text there))

-- ---- and back

trip_written : (t : Trip) → trip_of (two_bytes t.start.0 ++ two_bytes t.target.0) ≡ t
trip_written t = ap₂ (λ p q. record { start = record { 0 = p }; target = record { 0 = q } }) (word_back t.start.0) (word_back t.target.0)

-- a trip's text is read as it was, before those behind it
trip_due : (t : Trip) (n at : ℕ) (more : List ℕ) → trips_at (suc n) (rest at (trip_text t ++ more)) ≡ before_trips t (trips_at n (rest (at + 1 + 4) more))
trip_due t n at more =
    let ops = two_bytes t.start.0 ++ two_bytes t.target.0 in
    ap (λ x. x >>= λ first. before_trips (trip_of first.0) (trips_at n first.1)) (operands_read 67 4 (rest at (67 ∷ (ops ++ more))) ops (rest (at + 1 + 4) more) (record { text = refl; whole = refl; place = refl }))
    ∙ ap (λ u. before_trips u (trips_at n (rest (at + 1 + 4) more))) (trip_written t)

pub trips_written : (trips : List Trip) (at : ℕ) (bytes : List ℕ) → trips_at (length trips) (rest at (flat_map trip_text trips ++ bytes)) ≡ Ok (trips, rest (at + 5 * length trips) bytes)
trips_written [] at bytes = let same : at ≡ at + 5 * 0 = omega arith in ap (λ k. Ok ([], rest k bytes)) same
trips_written (t ∷ trips) at bytes =
    let place : at + 1 + 4 + 5 * length trips ≡ at + 5 * suc (length trips) = omega arith in
    trip_due t (length trips) at (flat_map trip_text trips ++ bytes) ∙ ap (before_trips t) (trips_written trips (at + 1 + 4) bytes) ∙ ap (λ k. Ok (t ∷ trips, rest k bytes)) place

pub trips_missing : (front : List Trip) (n at : ℕ) (bytes : List ℕ) (lack : Lack) (k : ℕ) → length front < n → NoCommand 67 4 bytes lack k
    → trips_at n (rest at (flat_map trip_text front ++ bytes)) ≡ Err (missing lack (at + 5 * length front + k))
trips_missing front zero at bytes lack k fewer wrong = absurd (omega (arith, fewer))
trips_missing [] (suc n) at bytes lack k fewer wrong =
    let same : at + 5 * 0 + k ≡ at + k = omega arith in
    ap (λ x. x >>= λ first. before_trips (trip_of first.0) (trips_at n first.1)) (operands_missed 67 4 (rest at bytes) (missing lack (at + 5 * 0 + k)) (record { into = k; place = same; wrong = wrong }))
trips_missing (t ∷ front) (suc n) at bytes lack k fewer wrong =
    let place : at + 1 + 4 + 5 * length front + k ≡ at + 5 * suc (length front) + k = omega arith in
    trip_due t n at (flat_map trip_text front ++ bytes) ∙ ap (before_trips t) (trips_missing front n (at + 1 + 4) bytes lack k (omega (arith, fewer)) wrong) ∙ ap (λ j. Err (missing lack j)) place
