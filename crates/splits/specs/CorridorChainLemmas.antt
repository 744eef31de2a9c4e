-- A corridor is known by its first two places: each further place is the neighbour not come from.
use Rattle.std.specs.Prelude.{◌≡◌, ℕ, zero, suc, pred, ◌+◌, ◌<◌, ◌≤◌, Bool, length, Decides, ◌==◌, ◌≢◌, nat_eq, slice_index, refl}
use Rattle.std.proofs.Common.{⊎_elim, sym, ap₂, subst, ◌∙◌, arith}
use Rattle.std.proofs.lemmas.Bool.{cond_both, eqb-true, eqb-false, cases_order}
use Rattle.std.proofs.lemmas.Bool.Decides.{Decides-eqb, Decides-like, Decides-not}
use Rattle.std.proofs.lemmas.List.Elements.{Contains-get_or}
use Rattle.floor.specs.Floor.{Floor, Joined, Lawful}
use Rattle.floor.specs.Tests.{every_below}
use Rattle.floor.proofs.Deciding.{decides_and3, decides_every_below}
use Rattle.floor.proofs.Neighbours.{decides_joined}
use Rattle.splits.specs.Corridor.{Inner, Corridor}
use Rattle.splits.specs.CorridorTests.{onward, along, listed_at, is_narrow, all_differ, is_corridor, led_to}
use Rattle.splits.specs.declared.corridor.passage.Passage.{Passage}
use Rattle.splits.specs.CorridorInnerLemmas.{beside_inner}

-- each of c 2 to c k is the place gone on to from the two before it
abbrev pub Onward : Floor → (ℕ → ℕ) → ℕ → Type 0
Onward f c k = (i : ℕ) → suc (suc i) ≤ k → c (suc (suc i)) ≡ onward f (c i) (c (suc i))

-- ---- the places that are listed

along_onward : (f : Floor) (p q n i : ℕ) → suc (suc i) < n →
    listed_at (along f p q n) (suc (suc i)) ≡ onward f (listed_at (along f p q n) i) (listed_at (along f p q n) (suc i))
along_onward f p q zero i h = absurd (omega arith)
along_onward f p q (suc zero) zero h = absurd (omega arith)
along_onward f p q (suc (suc zero)) zero h = absurd (omega arith)
along_onward f p q (suc (suc (suc n))) zero h = refl
along_onward f p q (suc n) (suc i) h = along_onward f q (onward f p q) n i (omega arith)

pub led_onward : (f : Floor) (o : Passage) → o.k ≤ 63 → Onward f (led_to f o) o.k
led_onward f o short i h = along_onward f o.p.0 o.q.0 64 i (omega arith)

-- ---- two that go onward from the same two places are the same

pub same_onward : (f : Floor) (c d : ℕ → ℕ) (k : ℕ) → Onward f c k → Onward f d k → c 0 ≡ d 0 → c 1 ≡ d 1 → (i : ℕ) → i ≤ k → c i ≡ d i
same_onward f c d k oc od from by zero h = from
same_onward f c d k oc od from by (suc zero) h = by
same_onward f c d k oc od from by (suc (suc i)) h =
    oc i h ∙ ap₂ (onward f) (same_onward f c d k oc od from by i (omega arith)) (same_onward f c d k oc od from by (suc i) (omega arith)) ∙ sym (od i h)

-- ---- a corridor goes onward

-- the place gone on to is a neighbour, and not the one come from
module _ (f : Floor) (p q : ℕ) (two : length (f.next q) ≡ 2) where
  onward_joined : Joined f q (onward f p q)
  onward_joined = cond_both (slice_index (f.next q) 0 == p) (slice_index (f.next q) 1) (slice_index (f.next q) 0) (Joined f q)
      (λ _. Contains-get_or (f.next q) 1 0 (omega arith)) (λ _. Contains-get_or (f.next q) 0 0 (omega arith))

  onward_other : Lawful f → onward f p q ≢ p
  onward_other law = cond_both (slice_index (f.next q) 0 == p) (slice_index (f.next q) 1) (slice_index (f.next q) 0) (λ n. n ≢ p)
      (λ e second. law.once q 0 1 0 (omega arith) (omega arith) (eqb-true _ _ e ∙ sym second))
      (eqb-false (slice_index (f.next q) 0) p)

pub corridor_onward : (f : Floor) → Lawful f → (c : ℕ → ℕ) (k : ℕ) → Corridor f c k → Onward f c k
corridor_onward f law c k way i h = ⊎_elim (λ e. absurd (onward_other f (c i) (c (suc i)) two law e)) sym
    (beside_inner f law c k way i (onward f (c i) (c (suc i))) (omega arith, h) (onward_joined f (c i) (c (suc i)) two))
  where
    two : length (f.next (c (suc i))) ≡ 2
    two = way.narrow (suc i) (omega arith, h)

-- ---- and what goes onward is tested for a corridor

-- a test of every inner place
pub decides_inner : (p : ℕ → Bool) (P : ℕ → Type 0) → ((i : ℕ) → Decides (p i) (P i)) → (k : ℕ) → Decides (every_below (λ i. p (suc i)) (pred k)) ((i : ℕ) → Inner k i → P i)
decides_inner p P each k = Decides-like _ inner (λ h i le. h (suc i) (omega arith, omega arith)) (decides_every_below _ (λ i. P (suc i)) (λ i. each (suc i)) (pred k))
  where
    inner : ((i : ℕ) → i < pred k → P (suc i)) → (i : ℕ) → Inner k i → P i
    inner h zero within = absurd (omega arith)
    inner h (suc i) within = h i (omega arith)

module _ (f : Floor) (c : ℕ → ℕ) (k : ℕ) where
  decides_narrow : Decides (is_narrow f c k) ((i : ℕ) → Inner k i → length (f.next (c i)) ≡ 2)
  decides_narrow = decides_inner (λ i. nat_eq (length (f.next (c i))) 2) _ (λ i. Decides-eqb (length (f.next (c i))) 2) k

  decides_differ : Decides (all_differ c (k + 1)) ((i j : ℕ) → i ≤ k → j ≤ k → c i ≡ c j → i ≡ j)
  decides_differ = Decides-like _ differ (λ h j jk i ij e. omega (arith, h i j (omega arith) (omega arith) e))
      (decides_every_below _ (λ j. (i : ℕ) → i < j → c i ≢ c j) (λ j. decides_every_below _ (λ i. c i ≢ c j) (λ i. Decides-not _ (Decides-eqb (c i) (c j))) j) (k + 1))
    where
      differ : ((j : ℕ) → j < k + 1 → (i : ℕ) → i < j → c i ≢ c j) → (i j : ℕ) → i ≤ k → j ≤ k → c i ≡ c j → i ≡ j
      differ h i j ik jk e = ⊎_elim (λ same. same) (⊎_elim (λ lt. absurd (h j (omega arith) i lt e)) (λ gt. absurd (h i (omega arith) j gt (sym e)))) (cases_order i j)

  pub decides_corridor : 1 ≤ k → Onward f c k → Decides (is_corridor f c k) (Corridor f c k)
  decides_corridor some on = Decides-like _
      (λ h. record { some = some; joins = joins h.0 h.1; differ = h.2; narrow = h.1 })
      (λ way. (way.joins 0 some, way.narrow, way.differ))
      (decides_and3 _ _ _ (decides_joined f (c 0) (c 1)) decides_narrow decides_differ)
    where
      joins : Joined f (c 0) (c 1) → ((i : ℕ) → Inner k i → length (f.next (c i)) ≡ 2) → (i : ℕ) → i < k → Joined f (c i) (c (suc i))
      joins begins narrow zero h = begins
      joins begins narrow (suc i) h = subst (Joined f (c (suc i))) (sym (on i h)) (onward_joined f (c i) (c (suc i)) (narrow (suc i) (omega arith, h)))
