-- How a check, and the steps told of it, go on call by call.
use Rattle.std.proofs.Common.{◌≡◌, ℕ, zero, suc, ◌+◌, ◌<◌, List, [], ◌∷◌, ◌++◌, length, get_or, set, take, drop, Some, Result, refl, ap, ◌∙◌, add-one, arith}
use Rattle.tally.specs.CallAnswers.{after, after_all}
use Rattle.tally.specs.Openings.{Opening}
use Rattle.tally.specs.Standings.{standing}
use Rattle.tally.specs.Tallies.{Tally, at_start}
use Rattle.tally.specs.declared.refusal.Refusal.{Refusal}
use Rattle.tally.specs.declared.standing.Standing.{Standing}
use Rattle.checking.specs.Books.{tally_in}
use Rattle.checking.specs.CallsMade.{calls_in, meant}
use Rattle.checking.specs.Checks.{Answers}
use Rattle.checking.specs.Runs.{step, with_steps}
use Rattle.checking.specs.declared.book.Book.{Book}
use Rattle.checking.specs.declared.run.CallAndStep.{CallAndStep}

-- the first n calls with their steps, the others as they are
abbrev steps_until : Opening → Tally → List CallAndStep → ℕ → List CallAndStep
steps_until o t cs n = with_steps o t (take n cs) ++ drop n cs

-- the tally after the first n calls
abbrev tally_until : Opening → Tally → List CallAndStep → ℕ → Tally
tally_until o t cs n = after_all o t (calls_in (take n cs))

-- a check that was opened so has this book after the first n calls, and these are the calls now
pub record RunsTo (o : Opening) (before : List CallAndStep) (n : ℕ) (opened_as : Opening) (book : Book) (now : List CallAndStep) : Type 0 where
  pub same : opened_as ≡ o
  pub tally : tally_in book ≡ tally_until o at_start before n
  pub told : now ≡ steps_until o at_start before n

-- one call more: the call is as it was, and what the tally and the calls with their steps come to
module _ (o : Opening) (d : CallAndStep) where
  next_call : (t : Tally) (cs : List CallAndStep) (n : ℕ) → get_or (steps_until o t cs n) n d ≡ get_or cs n d
  next_call t [] zero = refl
  next_call t [] (suc n) = refl
  next_call t (c ∷ cs) zero = refl
  next_call t (c ∷ cs) (suc n) = next_call (after o t (meant c.call)) cs n

  tally_more : (t : Tally) (cs : List CallAndStep) (n : ℕ) → n < length cs → tally_until o t cs (suc n) ≡ after o (tally_until o t cs n) (meant (get_or cs n d).call)
  tally_more t [] n there = absurd (omega arith)
  tally_more t (c ∷ cs) zero there = refl
  tally_more t (c ∷ cs) (suc n) there = tally_more (after o t (meant c.call)) cs n (omega arith)

  steps_more : (t : Tally) (cs : List CallAndStep) (n : ℕ) → n < length cs →
      set (steps_until o t cs n) n (record (get_or cs n d) { step = Some (step o (tally_until o t cs n) (meant (get_or cs n d).call)) }) ≡ steps_until o t cs (suc n)
  steps_more t [] n there = absurd (omega arith)
  steps_more t (c ∷ cs) zero there = refl
  steps_more t (c ∷ cs) (suc n) there = ap (λ rest. record c { step = Some (step o t (meant c.call)) } ∷ rest) (steps_more (after o t (meant c.call)) cs n (omega arith))

-- one call more is made, answered so and standing so
pub runs_more : (o : Opening) (before : List CallAndStep) (n : ℕ) (opened_as : Opening) (book : Book) (now : List CallAndStep) → RunsTo o before n opened_as book now →
    (d : CallAndStep) → n < length before → (next : Opening) (later : Book) (given : Result (Unit {0}) Refusal) (stands : Standing) →
    Answers opened_as book later (meant (get_or now n d).call) given → next ≡ opened_as → stands ≡ standing next (tally_in later) →
    RunsTo o before (n + 1) next later (set now n (record { call = (get_or now n d).call; step = Some (record { answer = given; standing = stands }) }))
runs_more o before n opened_as book now runs d there next later given stands answers stays is = rw add-one (record {
  same = cc;
  tally = cc (same_call, tally_more o d at_start before n there);
  told = cc (same_call, steps_more o d at_start before n there);
})
  where
    same_call : get_or now n d ≡ get_or before n d
    same_call = ap (λ cs. get_or cs n d) runs.told ∙ next_call o d at_start before n
