-- What holds of every check, however it is opened and whatever calls are made on it.
use Rattle.std.specs.Prelude.{◌≡◌, ℕ, ◌+◌, ◌<◌, ◌≤◌, ◌↔◌, List, [], length, Some, Ok, Err, All, Contains}
use Rattle.motion.specs.Bans.{KeepsAll}
use Rattle.motion.specs.Listed.{place_at}
use Rattle.motion.specs.Routes.{RouteSet, ConflictFree, sum_of}
use Rattle.splits.specs.Rules.{Names}
use Rattle.tally.specs.CallAnswers.{Reached, after_all, answers, called}
use Rattle.tally.specs.CallRefusals.{RefusedBy}
use Rattle.tally.specs.Calls.{Call, Takes}
use Rattle.tally.specs.Counts.{CountsTaken}
use Rattle.tally.specs.Openings.{BarredBy, LawfulOpening, Opening, Openable, Opens, carts, opened}
use Rattle.tally.specs.Plans.{CallsOf, HonestPlan}
use Rattle.tally.specs.Standings.{Says, places_shown, settle, shown_sum, standing}
use Rattle.tally.specs.StandsAs.{ShownIn, StandsAs}
use Rattle.tally.specs.Tallies.{Branch, Tally, at_start, shown_of}
use Rattle.tally.specs.declared.refusal.Refusal.{Refusal}
use Rattle.tally.specs.declared.standing.Verdict.{Verdict}
use Rattle.tally.specs.declared.standing.Verdict.TheVariants.{Barred, Least, OtherSum}

abbrev pub OpeningTells : Type 0
OpeningTells = (o : Opening) → Opens o (opened o)

-- no branch is open, every cart has a route, and the routes sum to the claim
pub record Complete (o : Opening) (t : Tally) : Type 0 where
  pub none_open : t.branches ≡ []
  pub all_shown : (a : ℕ) → a < carts o → (ps : List ℕ) × (shown_of t a ≡ Some ps)
  pub sums : shown_sum o t ≡ o.claim

-- every conflict-free set sums to at least the claim
abbrev pub NoRival : Opening → Type 0
NoRival o = (s : RouteSet o.floor o.trips) → ConflictFree s → o.claim ≤ sum_of s

-- the shown routes are a conflict-free set that sums to the claim, and no other sums to less
pub record ShownLeast (o : Opening) (t : Tally) : Type 0 where
  pub set : RouteSet o.floor o.trips
  pub shown : (a : ℕ) → a < carts o → set.at a ≡ place_at (places_shown t a)
  pub free : ConflictFree set
  pub sum : sum_of set ≡ o.claim
  pub no_rival : NoRival o

abbrev pub SettlesLeast : Opening → Tally → Type 0
SettlesLeast o t = Says (settle o t o.card) (Least o.claim)

-- how large a tally grows
pub record WithinLimits (t : Tally) : Type 0 where
  pub few_splits : t.splits ≤ 1000000
  pub few_open : length t.branches ≤ 65
  -- no branch lies under more than 64 splits, and each of them gave it a ban
  pub few_bans : All (λ b. (b.depth ≤ 64) × (length b.bans ≡ b.depth)) t.branches

pub record SoundTally (o : Opening) (t : Tally) : Type 0 where
  -- a call gives a tally exactly when it is taken on a check that is not barred, and the tally that it leads to
  pub taken_exactly : (c : Call) (u : Tally) → (called o t c ≡ Ok u) ↔ Openable o × Takes o t c u
  -- and is refused exactly for what bars the check, or else for the first of its conditions that fails
  pub refused_exactly : (c : Call) (e : Refusal) → (called o t c ≡ Err e) ↔ RefusedBy o t c e
  -- a barred check stands as it started
  pub barred_stands : (e : Refusal) → BarredBy o e → standing o t ≡ record { branches = 1; splits = 0; closings = 0; verdict = Barred e }
  -- a verdict stands exactly when its conditions hold
  pub stands_exactly : (v : Verdict) → ((standing o t).verdict ≡ v) ↔ StandsAs o (length t.branches) (ShownIn t) v
  -- the open branches and the closings are one more than the splits
  pub counts_agree : let s = standing o t in s.branches + s.closings ≡ s.splits + 1
  pub limits : WithinLimits t
  -- bans speak of carts and places that are there
  pub bans_named : All (λ b. All (Names o.floor o.trips) b.bans) t.branches
  -- a conflict-free set that sums below the claim keeps all bans of some open branch
  pub rivals_covered : (s : RouteSet o.floor o.trips) → ConflictFree s → sum_of s < o.claim → (b : Branch) × Contains t.branches b × KeepsAll s b.bans
  pub none_open_no_rival : t.branches ≡ [] → NoRival o
  pub least_exactly : SettlesLeast o t ↔ Complete o t
  pub least_shown : SettlesLeast o t → ShownLeast o t
  -- routes that sum to something else than the claim sum to more
  pub other_sum_is_above : (s : ℕ) → Says (settle o t o.card) (OtherSum s) → o.claim < s

-- at the start and after every list of calls
abbrev pub SoundAfterAnyCalls : Type 0
SoundAfterAnyCalls = (o : Opening) → LawfulOpening o → (t : Tally) → Reached o t → SoundTally o t

-- the splits and closings that a standing tells are those taken
abbrev pub CountsAfterAnyCalls : Type 0
CountsAfterAnyCalls = (o : Opening) → LawfulOpening o → (calls : List Call) → CountsTaken o calls

-- each call is taken, and the settlement says least
pub record Succeeds (o : Opening) (calls : List Call) : Type 0 where
  pub all_taken : All (λ r. r ≡ Ok tt) (answers o at_start calls)
  pub settles_least : SettlesLeast o (after_all o at_start calls)

abbrev pub HonestSucceeds : Type 0
HonestSucceeds = (o : Opening) → LawfulOpening o → Openable o → (plan : HonestPlan o) → (calls : List Call) → CallsOf plan calls → Succeeds o calls
