-- A heading is read exactly when it is laid out as one, and its fault is the first.
use Rattle.std.proofs.Common.{◌≡◌, ℕ, ◌+◌, ◌*◌, List, [], ◌∷◌, ◌++◌, length, ◌&&◌, nat_le, not, Decides, Ok, Err, Result, MatchResult, refl, ap, ◌∙◌, sym, subst, zero-add, arith}
use Rattle.std.specs.List.{flat_map}
use Rattle.std.proofs.lemmas.Bool.Decides.{Decides-and}
use Rattle.std.proofs.lemmas.Result.{MatchResult-at_ok, MatchResult-at_err}
use Rattle.cursor.proofs.Commands.{bytes_behind, operands_missed, operands_read, operands_tell}
use Rattle.cursor.proofs.Words.{two_back, word_back}
use Rattle.cursor.specs.Commands.{missing, operands, told}
use Rattle.cursor.specs.Exactly.{Misses, Stands}
use Rattle.cursor.specs.Rests.{Rest, rest}
use Rattle.cursor.specs.Words.{Bytes, two_bytes}
use Rattle.cursor.specs.declared.missing.Missing.{Missing}
use Rattle.floor.proofs.Chains.{unless_tells}
use Rattle.floor.proofs.Deciding.{decides_leb, false_from_decides}
use Rattle.floor.specs.Checks.{refuse, ◌>>=◌, ◌>>◌}
use Rattle.motion.specs.Trips.{FewCarts}
use Rattle.motion.specs.declared.trip.Trip.{Trip}
use Rattle.splits.specs.Operands.{byte, word}
use Rattle.plan.specs.Faults.{call_fault, missing_fault, refusal_of}
use Rattle.plan.specs.FirstFault.{HeadingFault, HeadingFaultsExactly, no_opening, no_trip, not_carts}
use Rattle.plan.specs.Headings.{Heading, heading, trips_at}
use Rattle.plan.specs.Layout.{HeadingReadExactly, heading_text, opening_text, trip_text}
use Rattle.plan.specs.declared.fault.Fault.{Fault}
use Rattle.plan.specs.declared.fault.PlanRefusal.{PlanRefusal}
use Rattle.plan.specs.declared.fault.PlanRefusal.TheVariants.{File}
use Rattle.plan.proofs.Trips.{Lacks, Reads, trips_missing, trips_tell, trips_written}
use Rattle.tally.specs.declared.refusal.Refusal.TheVariants.{Carts}

-- what follows the claim and n carts, by the trips that were read
abbrev with_trips : ℕ → Result (List Trip × Rest) Missing → Result Heading Fault
with_trips claim trips = told missing_fault trips >>= λ ts. Ok (record { claim = claim; trips = ts.0; behind = ts.1 })

abbrev after_opening : ℕ → ℕ → Rest → Result Heading Fault
after_opening claim carts left = refuse (not (nat_le 1 carts && nat_le carts 16)) (call_fault Carts 0) >> with_trips claim (trips_at carts left)

-- what comes of the operands of `O`
abbrev behind_opening : Result (List ℕ × Rest) Missing → Result Heading Fault
behind_opening read = told missing_fault read >>= λ opening. after_opening (word opening.0 0) (byte opening.0 2) opening.1

decides_few : (n : ℕ) → Decides (nat_le 1 n && nat_le n 16) (FewCarts n)
decides_few n = Decides-and _ _ (decides_leb 1 n) (decides_leb n 16)

-- ---- what the reading tells

abbrev pub IsHeading : List ℕ → Heading → Type 0
IsHeading bytes h = FewCarts (length h.trips) × (bytes ≡ heading_text h.claim h.trips ++ h.behind.bytes) × (h.behind.at ≡ 4 + 5 * length h.trips)

abbrev pub Faulty : List ℕ → Fault → Type 0
Faulty bytes f = HeadingFault bytes f.refusal f.offset

opening_back : (ops : List ℕ) → Bytes ops → length ops ≡ 3 → two_bytes (word ops 0) ++ (byte ops 2 ∷ []) ≡ ops
opening_back (h ∷ l ∷ c ∷ []) low three = ap (λ s. s ++ (c ∷ [])) (two_back h l (low 1 0 (omega arith)))
opening_back ops low three = absurd (omega (arith, three))

module _ (claim carts : ℕ) (left : Rest) (place : left.at ≡ 4) (low : Bytes left.bytes) where
  whole : List ℕ
  whole = opening_text claim carts ++ left.bytes

  trips_told : FewCarts carts → MatchResult (with_trips claim (trips_at carts left)) (IsHeading whole) (Faulty whole)
  unfolding whole
  trips_told few = by (trips_at carts left) (trips_tell carts left.at left.bytes low)
    where
      by : (x : Result (List Trip × Rest) Missing) → MatchResult x (λ r. Reads carts left.at left.bytes r.0 r.1) (Lacks carts left.at left.bytes) → MatchResult (with_trips claim x) (IsHeading whole) (Faulty whole)
      by (Ok ts) r =
          let there = r.place in (
            subst FewCarts (sym r.many) few,
            ap (λ bs. opening_text claim carts ++ bs) r.text ∙ ap (λ n. opening_text claim n ++ (flat_map trip_text ts.0 ++ ts.1.bytes)) (sym r.many),
            omega arith,
          )
      by (Err m) l =
          let there = l.place in
          let at : m.offset ≡ 4 + 5 * length l.front + l.into = omega arith in
          subst (HeadingFault whole (File (refusal_of m.lack))) (sym at) (no_trip claim carts l.front l.behind few l.fewer (ap (λ bs. opening_text claim carts ++ bs) l.text) l.wrong)

  opening_told : MatchResult (after_opening claim carts left) (IsHeading whole) (Faulty whole)
  unfolding whole
  opening_told = unless_tells (IsHeading whole) (Faulty whole) _ _ _ (decides_few carts) trips_told (λ many. not_carts claim carts left.bytes refl many)

pub heading_tells : (bytes : List ℕ) → Bytes bytes → MatchResult (heading bytes) (IsHeading bytes) (Faulty bytes)
unfolding heading whole
heading_tells bytes low = by (operands 79 3 (rest 0 bytes)) (operands_tell 79 3 (rest 0 bytes))
  where
    by : (x : Result (List ℕ × Rest) Missing) → MatchResult x (λ r. Stands 79 3 (rest 0 bytes) r.0 r.1) (Misses 79 3 (rest 0 bytes)) → MatchResult (behind_opening x) (IsHeading bytes) (Faulty bytes)
    by (Err m) misses = subst (HeadingFault bytes (File (refusal_of m.lack))) (sym (misses.place ∙ zero-add misses.into)) (no_opening misses.wrong)
    by (Ok read) stands =
        let lows = bytes_behind 79 3 (rest 0 bytes) read.0 read.1 stands low in
        let place = stands.place in
        subst (λ bs. MatchResult (behind_opening (Ok read)) (IsHeading bs) (Faulty bs)) (sym (stands.text ∙ ap (λ ops. 79 ∷ (ops ++ read.1.bytes)) (sym (opening_back read.0 lows.0 stands.whole))))
        (opening_told (word read.0 0) (byte read.0 2) read.1 (omega arith) lows.1)

-- ---- and back

opening_written : (claim n : ℕ) (behind : List ℕ) → heading (opening_text claim n ++ behind) ≡ after_opening claim n (rest 4 behind)
unfolding heading
opening_written claim n behind =
    let ops = two_bytes claim ++ (n ∷ []) in
    ap behind_opening (operands_read 79 3 (rest 0 (79 ∷ (ops ++ behind))) ops (rest 4 behind) (record { text = refl; whole = refl; place = refl })) ∙ ap (λ c. after_opening c n (rest 4 behind)) (word_back claim)

few_written : (claim n : ℕ) (behind : List ℕ) → FewCarts n → heading (opening_text claim n ++ behind) ≡ with_trips claim (trips_at n (rest 4 behind))
few_written claim n behind few =
    opening_written claim n behind ∙ ap (λ b. refuse (not b) (call_fault Carts 0) >> with_trips claim (trips_at n (rest 4 behind))) ((decides_few n).1 few)

pub heading_written : (claim : ℕ) (trips : List Trip) (behind : List ℕ) → FewCarts (length trips)
    → heading (heading_text claim trips ++ behind) ≡ Ok (record { claim = claim; trips = trips; behind = rest (4 + 5 * length trips) behind })
heading_written claim trips behind few = few_written claim (length trips) (flat_map trip_text trips ++ behind) few ∙ ap (with_trips claim) (trips_written trips 4 behind)

pub carts_refused : (claim n : ℕ) (behind : List ℕ) → (FewCarts n → ⊥) → heading (opening_text claim n ++ behind) ≡ Err (call_fault Carts 0)
carts_refused claim n behind many =
    opening_written claim n behind ∙ ap (λ b. refuse (not b) (call_fault Carts 0) >> with_trips claim (trips_at n (rest 4 behind))) (false_from_decides _ (decides_few n) many)

pub heading_refuses : (bytes : List ℕ) (e : PlanRefusal) (k : ℕ) → HeadingFault bytes e k → heading bytes ≡ Err (record { refusal = e; offset = k })
unfolding heading
heading_refuses bytes e k (no_opening {lack = lack} wrong) = ap behind_opening (operands_missed 79 3 (rest 0 bytes) (missing lack k) (record { into = k; place = sym (zero-add k); wrong = wrong }))
heading_refuses bytes e k (not_carts claim carts behind text many) = ap heading text ∙ carts_refused claim carts behind many
heading_refuses bytes e k (no_trip {lack = lack} {k = at} claim carts front behind few fewer text wrong) =
    ap heading text ∙ few_written claim carts (flat_map trip_text front ++ behind) few ∙ ap (with_trips claim) (trips_missing front carts 4 behind lack at fewer wrong)

module _ (bytes : List ℕ) (low : Bytes bytes) where
  pub heading_read_exactly : HeadingReadExactly bytes
  heading_read_exactly h = (λ is. MatchResult-at_ok (IsHeading bytes) (Faulty bytes) h is (heading_tells bytes low), written)
    where
      written : IsHeading bytes h → heading bytes ≡ Ok h
      written is =
          ap heading is.1 ∙ heading_written h.claim h.trips h.behind.bytes is.0
          ∙ ap (λ at. Ok (record { claim = h.claim; trips = h.trips; behind = rest at h.behind.bytes })) (sym is.2)

  pub heading_faults_exactly : HeadingFaultsExactly bytes
  heading_faults_exactly fault =
      (λ is. MatchResult-at_err (IsHeading bytes) (Faulty bytes) fault is (heading_tells bytes low), heading_refuses bytes fault.refusal fault.offset)
