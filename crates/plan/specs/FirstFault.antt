-- What the first fault of a plan file is.
use Rattle.std.specs.Prelude.{◌≡◌, ℕ, ◌+◌, ◌-◌, ◌*◌, ◌<◌, true, false, ◌↔◌, List, [], ◌∷◌, ◌++◌, length, None, Err, ◌≢◌}
use Rattle.std.specs.List.{flat_map}
use Rattle.cursor.specs.Exactly.{NoCommand}
use Rattle.cursor.specs.declared.missing.Lack.{Lack}
use Rattle.floor.specs.Floor.{Floor}
use Rattle.motion.specs.Trips.{FewCarts}
use Rattle.motion.specs.declared.trip.Trip.{Trip}
use Rattle.splits.specs.Rules.{Rules}
use Rattle.plan.specs.Faults.{refusal_of}
use Rattle.plan.specs.Headings.{heading}
use Rattle.plan.specs.Layout.{AllTaken, CallsText, heading_text, opening_text, trip_text}
use Rattle.plan.specs.Reading.{opening, plan_reading}
use Rattle.plan.specs.declared.fault.Fault.{Fault}
use Rattle.plan.specs.declared.fault.FileRefusal.{FileRefusal}
use Rattle.plan.specs.declared.fault.FileRefusal.TheVariants.{Letter, CutShort, Trailing}
use Rattle.plan.specs.declared.fault.PlanRefusal.{PlanRefusal}
use Rattle.plan.specs.declared.fault.PlanRefusal.TheVariants.{File, Call as ByCheck}
use Rattle.tally.specs.CallAnswers.{after_all}
use Rattle.tally.specs.CallRefusals.{RefusedBy}
use Rattle.tally.specs.Calls.{Call}
use Rattle.tally.specs.Openings.{Opening, BarredBy}
use Rattle.tally.specs.Tallies.{Tally, at_start}
use Rattle.tally.specs.declared.refusal.Refusal.{Refusal}
use Rattle.tally.specs.declared.refusal.Refusal.TheVariants.{Carts}

-- ---- in the heading

-- all before the offset is as a heading is laid down, and what stands there is not
pub data HeadingFault (bytes : List ℕ) : PlanRefusal → ℕ → Type 0 where
  no_opening : {lack : Lack} {k : ℕ} → NoCommand 79 3 bytes lack k → HeadingFault bytes (File (refusal_of lack)) k
  not_carts : (claim carts : ℕ) (rest : List ℕ) → bytes ≡ opening_text claim carts ++ rest → (FewCarts carts → ⊥) → HeadingFault bytes (ByCheck Carts) 0
  no_trip : {lack : Lack} {k : ℕ} (claim carts : ℕ) (front : List Trip) (rest : List ℕ) → FewCarts carts → length front < carts
      → bytes ≡ (opening_text claim carts ++ flat_map trip_text front) ++ rest → NoCommand 67 4 rest lack k → HeadingFault bytes (File (refusal_of lack)) (4 + 5 * length front + k)

-- a heading is refused for a fault exactly when that is its first one
abbrev pub HeadingFaultsExactly : List ℕ → Type 0
HeadingFaultsExactly bytes = (fault : Fault) → (heading bytes ≡ Err fault) ↔ HeadingFault bytes fault.refusal fault.offset

-- ---- behind the heading

-- the letter is none of `R`, `X` and `Z`
pub record Other (letter : ℕ) : Type 0 where
  pub no_route : letter ≢ 82
  pub no_closing : letter ≢ 88
  pub no_end : letter ≢ 90

-- the bytes behind an `R` are too few
pub data RouteCut : List ℕ → Type 0 where
  no_cart : RouteCut []
  no_steps : {a : ℕ} → RouteCut (a ∷ [])
  no_places : {a steps : ℕ} {bytes : List ℕ} → length bytes < 2 * (steps + 1) → RouteCut (a ∷ steps ∷ bytes)

-- neither a call nor the plan's end stands at the front of the bytes: why, and where in them
pub data NoCall (r : Rules) : List ℕ → FileRefusal → ℕ → Type 0 where
  file_ends : NoCall r [] CutShort 0
  unknown : {letter : ℕ} {bytes : List ℕ} → Other letter → r.knows letter ≡ false → NoCall r (letter ∷ bytes) Letter 0
  route_cut : {bytes : List ℕ} → RouteCut bytes → NoCall r (82 ∷ bytes) CutShort (length (82 ∷ bytes))
  operands_cut : {letter : ℕ} {bytes : List ℕ} → Other letter → r.knows letter ≡ true → r.width letter bytes ≡ None → NoCall r (letter ∷ bytes) CutShort (length (letter ∷ bytes))
  trailing : {b : ℕ} {bytes : List ℕ} → NoCall r (90 ∷ b ∷ bytes) Trailing 1

-- with this tally the bytes do not go on: why, and where in them
pub data NoGoingOn (o : Opening) (t : Tally) : List ℕ → PlanRefusal → ℕ → Type 0 where
  no_call : {bytes : List ℕ} {e : FileRefusal} {k : ℕ} → NoCall o.rules bytes e k → NoGoingOn o t bytes (File e) k
  call_refused : {call : Call} {bytes rest : List ℕ} {e : Refusal} → CallsText o.rules rest (call ∷ []) bytes → RefusedBy o t call e → NoGoingOn o t bytes (ByCheck e) 0

-- ---- in the file

-- all before the offset is as laid down and taken, and what stands there is not
pub data PlanFault (f : Floor) (r : Rules) (bytes : List ℕ) : PlanRefusal → ℕ → Type 0 where
  in_heading : {e : PlanRefusal} {k : ℕ} → HeadingFault bytes e k → PlanFault f r bytes e k
  barred : {e : Refusal} (claim : ℕ) (trips : List Trip) (rest : List ℕ) → bytes ≡ heading_text claim trips ++ rest
      → BarredBy (opening f r claim trips) e → PlanFault f r bytes (ByCheck e) 0
  at_call : {e : PlanRefusal} {k : ℕ} (claim : ℕ) (trips : List Trip) (calls : List Call) (behind rest : List ℕ) → bytes ≡ heading_text claim trips ++ behind
      → CallsText r rest calls behind → AllTaken (opening f r claim trips) calls → NoGoingOn (opening f r claim trips) (after_all (opening f r claim trips) at_start calls) rest e k
      → PlanFault f r bytes e (length bytes - length rest + k)

-- a plan is refused for a fault exactly when that is its first one
abbrev pub PlanFaultsExactly : Floor → Rules → List ℕ → Type 0
PlanFaultsExactly f r bytes = (fault : Fault) → (plan_reading f r bytes ≡ Err fault) ↔ PlanFault f r bytes fault.refusal fault.offset
