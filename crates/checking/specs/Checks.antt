-- What the calls on a check come to.
use Rattle.std.specs.Prelude.{◌≡◌, ℕ, true, List, Ok, Err, Result}
use Rattle.floor.specs.Floor.{Floor}
use Rattle.motion.specs.declared.ban.Ban.{Ban}
use Rattle.motion.specs.declared.trip.Trip.{Trip}
use Rattle.splits.specs.Rules.{Rules}
use Rattle.tally.specs.CallAnswers.{answer, after}
use Rattle.tally.specs.Calls.{Call, split, close}
use Rattle.tally.specs.Openings.{Opening, opened}
use Rattle.tally.specs.declared.refusal.Refusal.{Refusal}
use Rattle.checking.specs.Books.{tally_in}
use Rattle.checking.specs.OpenBranches.{current_bans}
use Rattle.checking.specs.declared.book.Book.{Book}
use Rattle.checking.specs.declared.terms.Terms.{Terms}

-- what a check is opened with, where the map's floor and the rules' meaning are given
abbrev pub opening_of : {M R : Type 0} → (M → Floor) → (R → Rules) → Terms M R → Opening
opening_of floor rules t = record { floor = floor t.map.now; rules = rules t.rules.now; trips = t.trips.now; claim = t.claim; card = t.card }

-- the answer to a call is the tally's, and so is the tally after it
pub record Answers (o : Opening) (before later : Book) (call : Call) (given : Result (Unit {0}) Refusal) : Type 0 where
  pub answered : given ≡ answer o (tally_in before) call
  pub tallied : tally_in later ≡ after o (tally_in before) call

-- the call is refused so, and changes nothing
abbrev pub Refuses : Opening → Book → Call → Refusal → Type 0
Refuses o b call e = Answers o b b call (Err e)

-- there is no branch to split or to close, and this is why
pub record RefusesBranches (o : Opening) (b : Book) (e : Refusal) : Type 0 where
  pub no_close : Refuses o b close e
  pub no_split : (letter : ℕ) (bytes : List ℕ) → Refuses o b (split letter bytes) e

-- the check may be opened, and these are its floor, its trips and the bans of its current branch
pub record IsCurrent (o : Opening) (b : Book) (floor : Floor) (trips : List Trip) (bans : List Ban) : Type 0 where
  pub opens : Ok tt ≡ opened o
  pub going : true ≡ b.branches.open
  pub on_floor : floor ≡ o.floor
  pub for_trips : trips ≡ o.trips
  pub under_bans : bans ≡ current_bans b.branches
