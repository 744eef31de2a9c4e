-- A check from its opening to its settlement, and what holds of it.
use Rattle.std.specs.Prelude.{◌≡◌, List, [], ◌∷◌, ◌++◌, Some}
use Rattle.tally.specs.CallAnswers.{answer, after, after_all}
use Rattle.tally.specs.Calls.{Call}
use Rattle.tally.specs.Counts.{CountsTaken}
use Rattle.tally.specs.Laws.{SoundTally, Succeeds}
use Rattle.tally.specs.Openings.{Opening, Openable}
use Rattle.tally.specs.Plans.{HonestPlan, CallsOf}
use Rattle.tally.specs.Standings.{settle, standing}
use Rattle.tally.specs.Tallies.{Tally, at_start}
use Rattle.checking.specs.CallsMade.{calls_in, meant}
use Rattle.checking.specs.declared.run.CallAndStep.{CallAndStep}
use Rattle.checking.specs.declared.run.Run.{Run}
use Rattle.checking.specs.declared.run.Step.{Step}

-- what a call comes to: its answer, and the standing after it
abbrev pub step : Opening → Tally → Call → Step
step o t c = record { answer = answer o t c; standing = standing o (after o t c) }

-- each call with its answer and the standing after it, by the tally
abbrev pub with_steps : Opening → Tally → List CallAndStep → List CallAndStep
with_steps o t [] = []
with_steps o t (c ∷ cs) = record c { step = Some (step o t (meant c.call)) } ∷ with_steps o (after o t (meant c.call)) cs

-- the calls stay, every answer and every standing is the tally's, and so is the settlement with the check's own card
pub record Follows (o : Opening) (before later : List CallAndStep) (run : Run) : Type 0 where
  pub starts : run.start ≡ standing o at_start
  pub goes_on : later ≡ with_steps o at_start before
  pub settles : run.settlement ≡ settle o (after_all o at_start (calls_in before)) o.card

-- What holds of the calls, whatever they are and whether they are taken or refused.
pub record SoundAndComplete (o : Opening) (calls : List Call) : Type 0 where
  -- Before the first call and behind each: a verdict stands exactly when its conditions hold; open branches and
  -- closings are one more than splits; each conflict-free set below the claim keeps all bans of an open branch; with no
  -- open branch no conflict-free set is below the claim; settling with the check's own card says least exactly when
  -- nothing is open and every cart has a route, summing to the claim; and then these routes are free of conflict and no
  -- conflict-free set sums to less.
  pub sound_after_every_call : (before rest : List Call) → before ++ rest ≡ calls → SoundTally o (after_all o at_start before)
  -- There too the splits and the closings of the standing are those taken so far.
  pub counts_after_every_call : (before rest : List Call) → before ++ rest ≡ calls → CountsTaken o before
  -- Are they the calls of an honest tree within the limits, with its routes shown anywhere between, then each is taken
  -- and the settlement says least.
  pub honest_plans_succeed : Openable o → (plan : HonestPlan o) → CallsOf plan calls → Succeeds o calls
