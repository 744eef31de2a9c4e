-- A step, and the routes that are made of steps and then stay.
use Rattle.std.proofs.Common.{◌≡◌, ℕ, suc, ◌-◌, ◌<◌, ◌≤◌, ◌⊎◌, Decides, sym, ◌∙◌, inl, inr, ⊎_elim, arith}
use Rattle.floor.specs.Floor.{Floor}
use Rattle.floor.proofs.Neighbours.{decides_joined}
use Rattle.std.proofs.lemmas.Bool.{cases_lt}
use Rattle.std.proofs.lemmas.Bool.Decides.{Decides-eqb, Decides-or}
use Rattle.motion.specs.Listed.{may_step}
use Rattle.motion.specs.Routes.{AtTargetFrom, Route, Step}

pub decides_step : (f : Floor) (p q : ℕ) → Decides (may_step f p q) (Step f p q)
decides_step f p q = Decides-or _ _ (Decides-eqb q p) (decides_joined f p q)

module _ (f : Floor) (r : ℕ → ℕ) (n : ℕ) where
  -- the step after tick t is one that the floor has, and no wait if it is the last of n
  abbrev pub GoesOn : ℕ → Type 0
  GoesOn t = Step f (r t) (r (suc t)) × ((suc t < n) ⊎ (r t ≡ r (suc t) → ⊥))

  module _ (start target : ℕ) where
    pub route_from_steps : ((t : ℕ) → n ≤ t → r t ≡ r n) → ((t : ℕ) → t < n → GoesOn t) → r 0 ≡ start → r n ≡ target → Route f start target r n
    route_from_steps stays goes begins ends = record {
      begins = begins;
      steps = λ t. ⊎_elim (λ lt. (goes t lt).0) (λ le. inl (stays (suc t) (omega arith) ∙ sym (stays t le))) (cases_lt t n);
      arrived = λ t le. stays t le ∙ ends;
      least = λ m rests. ⊎_elim (λ lt. absurd (early m lt rests)) (λ le. le) (cases_lt m n);
    }
      where
        -- not at the target for ever before the last step arrives
        early : (m : ℕ) → m < n → AtTargetFrom target r m → ⊥
        early m lt rests = ⊎_elim (λ more. omega arith) (λ moves. moves (rests (n - 1) (omega arith) ∙ sym (rests (suc (n - 1)) (omega arith)))) (goes (n - 1) (omega arith)).1

    pub steps_from_route : Route f start target r n → (t : ℕ) → t < n → GoesOn t
    steps_from_route route t lt = (route.steps t, ⊎_elim inl (λ last. inr (λ waits. omega (arith, route.least t (rests last waits)))) (cases_lt (suc t) n))
      where
        rests : n ≤ suc t → r t ≡ r (suc t) → AtTargetFrom target r t
        rests last waits u le = ⊎_elim (λ more. route.arrived u (omega arith)) (λ here. let e : u ≡ t = omega arith in rw e (waits ∙ route.arrived (suc t) last)) (cases_lt t u)
