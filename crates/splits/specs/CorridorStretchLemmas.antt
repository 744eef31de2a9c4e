-- A stretch of a route along a corridor, from its first place on.
use Rattle.std.specs.Prelude.{◌≡◌, ℕ, zero, suc, ◌+◌, ◌<◌, ◌≤◌, ◌≢◌}
use Rattle.std.proofs.Common.{sym, ap, ◌∙◌, arith}
use Rattle.floor.specs.Floor.{Floor, Lawful}
use Rattle.motion.specs.Routes.{Step}
use Rattle.search.proofs.Firsts.{below_suc}
use Rattle.splits.specs.Corridor.{Inner, Corridor}
use Rattle.splits.specs.TicksLemmas.{Never, Near, Slow}
use Rattle.splits.specs.CorridorInnerLemmas.{before_inner}
use Rattle.splits.specs.CorridorPositionLemmas.{position, position_is}

-- r is at c 0 at some tick, stays on the corridor's places from then on, and is at c i at tick t
pub record Stretch (c : ℕ → ℕ) (k : ℕ) (r : ℕ → ℕ) (i t : ℕ) : Type 0 where
  -- the tick at which it sets out from c 0
  pub from : ℕ
  -- it takes a tick for each place at least
  pub far : from + i ≤ t
  -- its positions: the first, the last, at every tick, and by at most one a tick
  pub starts : position c k (r from) ≡ 0
  pub ends : position c k (r t) ≡ i
  pub on : (s : ℕ) → s < suc t → from ≤ s → r s ≡ c (position c k (r s))
  pub slow : Slow (λ s. position c k (r s)) from t

module _ (f : Floor) (c : ℕ → ℕ) (k : ℕ) (way : Corridor f c k) (r : ℕ → ℕ) where
  at_position : (t i : ℕ) → i ≤ k → r t ≡ c i → r t ≡ c (position c k (r t))
  at_position t i h at = at ∙ ap c (sym (position_is f c k way (r t) i h at))

  stretch_start : (t : ℕ) → r t ≡ c 0 → Stretch c k r 0 t
  stretch_start t at = record {
    from = t;
    far = omega arith;
    starts = position_is f c k way (r t) 0 (omega arith) at;
    ends = position_is f c k way (r t) 0 (omega arith) at;
    on = below_suc (λ s. t ≤ s → r s ≡ c (position c k (r s))) t (λ s h le. absurd (omega arith)) (λ le. at_position t 0 (omega arith) at);
    slow = λ s h le. absurd (omega arith);
  }

  pub stretch_more : (t i j : ℕ) → Stretch c k r i t → j ≤ k → r (suc t) ≡ c j → Near i j → Stretch c k r j (suc t)
  stretch_more t i j before h at near = let e = position_is f c k way (r (suc t)) j h at in record {
    from = before.from;
    far = omega (arith, before.far);
    starts = before.starts;
    ends = e;
    on = below_suc (λ s. before.from ≤ s → r s ≡ c (position c k (r s))) (suc t) before.on (λ le. at_position (suc t) j h at);
    slow = below_suc (λ s. before.from ≤ s → Near (position c k (r s)) (position c k (r (suc s)))) t before.slow (λ le. omega (arith, before.ends));
  }

  -- a cart that has not been at c k yet came to its place in the corridor from c 0
  pub stretch_to : Lawful f → ((t : ℕ) → Step f (r t) (r (suc t))) → ((i : ℕ) → Inner k i → r 0 ≢ c i) →
      (t i : ℕ) → i < k → r t ≡ c i → Never (λ s. r s ≡ c k) (suc t) → Stretch c k r i t
  stretch_to law steps outside t zero h at new = stretch_start t at
  stretch_to law steps outside zero (suc i) h at new = absurd (outside (suc i) (omega arith, h) at)
  stretch_to law steps outside (suc t) (suc i) h at new =
      let was = before_inner f law c k way i (r t) (r (suc t)) (omega arith, h) (steps t) at in
      let short : was.0 ≡ k → ⊥ = λ e. new t (omega arith) (was.1 ∙ ap c e) in
      stretch_more t was.0 (suc i) (stretch_to law steps outside t was.0 (omega (arith, was.2)) was.1 (λ s le. new s (omega arith))) (omega arith) at was.2
