-- What the conflict test tells.
use Rattle.std.proofs.Common.{◌≡◌, ℕ, suc, ◌-◌, ◌<◌, ◌≤◌, max, ◌⊎◌, List, length, Decides, sym, ◌∙◌, inl, inr, ⊎_elim, arith}
use Rattle.floor.specs.Tests.{some_below}
use Rattle.floor.proofs.Deciding.{decides_leb, decides_some_below}
use Rattle.std.proofs.lemmas.Bool.{cases_lt}
use Rattle.std.proofs.lemmas.Bool.Decides.{Decides-and, Decides-eqb, Decides-like, Decides-or}
use Rattle.motion.specs.Listed.{ConflictTestTells, clash, in_conflict, place_at}
use Rattle.motion.specs.Routes.{Conflict}
use Rattle.motion.proofs.Listing.{stays_at}

pub conflict_sym : (r s : ℕ → ℕ) → Conflict r s → Conflict s r
conflict_sym r s (t, c) = (t, ⊎_elim (λ met. inl (sym met)) (λ swap. inr (sym swap.1, sym swap.0)) c)

module _ (r s : ℕ → ℕ) where
  abbrev Clash : ℕ → Type 0
  Clash t = (r t ≡ s t) ⊎ ((r t ≡ s (suc t)) × (r (suc t) ≡ s t))

  decides_clash : (t : ℕ) → Decides (clash r s t) (Clash t)
  decides_clash t = Decides-or _ _ (Decides-eqb _ _) (Decides-and _ _ (Decides-eqb _ _) (Decides-eqb _ _))

  -- where both stay from tick n on, they are in conflict by then or never
  decides_conflict : (n m : ℕ) → n < m → ((t : ℕ) → n ≤ t → r t ≡ r n) → ((t : ℕ) → n ≤ t → s t ≡ s n) → Decides (some_below (clash r s) m) (Conflict r s)
  decides_conflict n m lt r_stays s_stays =
      Decides-like _ (λ w. (w.0, w.2)) (λ w. ⊎_elim (λ before. (w.0, before, w.1)) (λ after. (n, lt, inl (met w.0 (omega arith) w.1))) (cases_lt w.0 m))
      (decides_some_below (clash r s) Clash decides_clash m)
    where
      met : (t : ℕ) → n ≤ t → Clash t → r n ≡ s n
      met t le c = sym (r_stays t le) ∙ ⊎_elim (λ e. e ∙ s_stays t le) (λ swap. swap.0 ∙ s_stays (suc t) (omega arith)) c

pub conflict_test_tells : (ps qs : List ℕ) → ConflictTestTells ps qs
unfolding in_conflict
conflict_test_tells ps qs some_p some_q =
    let last : ℕ = max (length ps) (length qs) - 1 in
    Decides-like _ (λ h. h.1) (λ c. ((some_p, some_q), c))
    (Decides-and _ _ (Decides-and _ _ (decides_leb _ _) (decides_leb _ _))
    (decides_conflict (place_at ps) (place_at qs) last _ (omega arith) (λ t. stays_at ps last t (omega arith)) (λ t. stays_at qs last t (omega arith))))
