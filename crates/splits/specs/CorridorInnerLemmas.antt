-- Beside an inner place of a corridor are the place before it and the place after it, and no other.
use Rattle.std.specs.Prelude.{◌≡◌, ℕ, suc, ◌⊎◌, get_or, length}
use Rattle.std.proofs.Common.{inl, inr, ⊎_elim, sym, ap, subst, ◌∙◌, arith}
use Rattle.std.proofs.lemmas.Bool.{cases_eq}
use Rattle.std.proofs.lemmas.List.{get_or_default}
use Rattle.floor.specs.Floor.{Floor, Joined, Lawful}
use Rattle.motion.specs.Routes.{Step}
use Rattle.splits.specs.Corridor.{Inner, Corridor}
use Rattle.splits.specs.TicksLemmas.{Near}

module _ (f : Floor) (law : Lawful f) (c : ℕ → ℕ) (k : ℕ) (way : Corridor f c k) where
  -- an inner place has no neighbour but the place before it and the place after it
  pub beside_inner : (i q : ℕ) → Inner k (suc i) → Joined f (c (suc i)) q → (q ≡ c i) ⊎ (q ≡ c (suc (suc i)))
  beside_inner i q inner to =
      ⊎_elim (λ e. inl (same q (c i) to prior e)) (λ ne. inr (same q (c (suc (suc i))) to after (omega (arith, two, prior.1, after.1, apart))))
      (cases_eq to.0 prior.0)
    where
      same : (v w : ℕ) (j : Joined f (c (suc i)) v) (l : Joined f (c (suc i)) w) → j.0 ≡ l.0 → v ≡ w
      same v w j l e = sym j.2 ∙ ap (λ n. get_or (f.next (c (suc i))) n v) e ∙ get_or_default _ l.0 v w l.1 ∙ l.2

      prior : Joined f (c (suc i)) (c i)
      prior = law.both_ways (c i) (c (suc i)) (way.joins i (omega arith))

      after : Joined f (c (suc i)) (c (suc (suc i)))
      after = way.joins (suc i) inner.1

      two : length (f.next (c (suc i))) ≡ 2
      two = way.narrow (suc i) inner

      apart : prior.0 ≡ after.0 → ⊥
      apart e = omega (arith, way.differ i (suc (suc i)) (omega arith) inner.1 (same (c i) (c (suc (suc i))) prior after e))

  -- so a cart at an inner place was there, or at one of these two, the tick before
  pub before_inner : (i p q : ℕ) → Inner k (suc i) → Step f p q → q ≡ c (suc i) → (j : ℕ) × (p ≡ c j) × Near j (suc i)
  before_inner i p q inner (inl stayed) at = (suc i, sym stayed ∙ at, omega arith)
  before_inner i p q inner (inr went) at =
      ⊎_elim (λ e. (i, e, omega arith)) (λ e. (suc (suc i), e, omega arith)) (beside_inner i p inner (subst (λ w. Joined f w p) at (law.both_ways p q went)))
