-- What the tests of a ban say.
use Rattle.std.proofs.Common.{◌≡◌, ℕ, suc, ◌-◌, ◌<◌, ◌≤◌, max, leb, List, Decides, All, sym, arith}
use Rattle.std.proofs.lemmas.Bool.Decides.{Decides-and, Decides-not, Decides-eqb, Decides-ltb, Decides-like}
use Rattle.floor.proofs.Deciding.{decides_leb, decides_yes, decides_and3, decides_and4, decides_implies, decides_every}
use Rattle.motion.specs.Routes.{target_of}
use Rattle.motion.specs.Bans.{Within, Bears}
use Rattle.motion.specs.Stands.{Bars, BarsMove}
use Rattle.motion.specs.declared.trip.Trip.{Trip}
use Rattle.motion.specs.declared.ban.Ban.{Ban}
use Rattle.motion.specs.declared.ban.Ban.TheVariants.{Stand, Move, Late, By}
use Rattle.search.specs.Lets.{within, lets_be, lets_go, lets_rest, lets_end}
use Rattle.search.specs.Rows.{can_be, can_go}

decides_within : (f l t : ℕ) → Decides (within f l t) (Within f l t)
decides_within f l t = Decides-and (leb f t) (leb t l) (decides_leb f t) (decides_leb t l)

module _ (trips : List Trip) (a : ℕ) where
  pub decides_be : (t p : ℕ) (b : Ban) → Decides (lets_be trips a t p b) (Bars trips a t p b → ⊥)
  decides_be t p (Stand c q f l) =
      Decides-not _ (decides_and3 _ _ _ (Decides-eqb c.0 a) (decides_within f.0 l.0 t) (Decides-eqb q.0 p))
  decides_be t p (Move c q r f l) = decides_yes (λ h. h)
  decides_be t p (Late c u) = decides_yes (λ h. h)
  decides_be t p (By c u) =
      Decides-not _ (decides_and3 _ _ _ (Decides-not _ (Decides-eqb c.0 a)) (decides_leb u.0 t) (Decides-eqb (target_of trips c.0) p))

  pub decides_go : (t p q : ℕ) (b : Ban) → Decides (lets_go a t p q b) (BarsMove a t p q b → ⊥)
  decides_go t p q (Stand c r f l) = decides_yes (λ h. h)
  decides_go t p q (Move c r s f l) =
      Decides-not _ (decides_and4 _ _ _ _ (Decides-eqb c.0 a) (decides_within f.0 l.0 t) (Decides-eqb r.0 p) (Decides-eqb s.0 q))
  decides_go t p q (Late c u) = decides_yes (λ h. h)
  decides_go t p q (By c u) = decides_yes (λ h. h)

  -- the ban bars neither the place nor waiting there from n on
  abbrev pub Rests : ℕ → ℕ → Ban → Type 0
  Rests n p b = (t : ℕ) → n ≤ t → (Bars trips a t p b → ⊥) × (BarsMove a (suc t) p p b → ⊥)

  pub decides_rest : (n p : ℕ) (b : Ban) → Decides (lets_rest trips a n p b) (Rests n p b)
  decides_rest n p (Stand c q f l) =
      Decides-like _ (λ no_tick t from. (λ bar. let e = bar.1 in no_tick (bar.0, (omega arith, omega arith), bar.2), λ h. h))
      (λ rests tick. let e = tick.1 in (rests (max f.0 n) (omega arith)).0 (tick.0, (omega arith, omega arith), tick.2))
      (Decides-not _ (decides_and3 _ _ _ (Decides-eqb c.0 a) (Decides-and _ _ (decides_leb f.0 l.0) (decides_leb n l.0)) (Decides-eqb q.0 p)))
  decides_rest n p (Move c q r f l) =
      Decides-like _ (λ no_tick t from. (λ h. h, λ bar. let e = bar.1 in no_tick (bar.0, (omega arith, omega arith), bar.2, bar.3)))
      (λ rests tick. let e = tick.1 in (rests (max (f.0 - 1) n) (omega arith)).1 (tick.0, (omega arith, omega arith), tick.2, tick.3))
      (Decides-not _ (decides_and4 _ _ _ _ (Decides-eqb c.0 a) (Decides-and _ _ (decides_leb f.0 l.0) (Decides-ltb n l.0)) (Decides-eqb q.0 p) (Decides-eqb r.0 p)))
  decides_rest n p (Late c u) = decides_yes (λ t from. (λ h. h, λ h. h))
  decides_rest n p (By c u) =
      Decides-like _ (λ other t from. (λ bar. other (bar.0, bar.2), λ h. h))
      (λ rests bar. (rests (max u.0 n) (omega arith)).0 (bar.0, omega arith, bar.1))
      (Decides-not _ (Decides-and _ _ (Decides-not _ (Decides-eqb c.0 a)) (Decides-eqb (target_of trips c.0) p)))

  -- what the ban asks of the length n
  abbrev pub Ends : ℕ → Ban → Type 0
  Ends n (Stand c q f l) = Unit {0}
  Ends n (Move c q r f l) = Unit {0}
  Ends n (Late c u) = c.0 ≡ a → u.0 < n
  Ends n (By c u) = c.0 ≡ a → n ≤ u.0

  pub decides_end : (n : ℕ) (b : Ban) → Decides (lets_end a n b) (Ends n b)
  decides_end n (Stand c q f l) = decides_yes tt
  decides_end n (Move c q r f l) = decides_yes tt
  decides_end n (Late c u) = decides_implies _ _ (Decides-eqb c.0 a) (Decides-ltb u.0 n)
  decides_end n (By c u) = decides_implies _ _ (Decides-eqb c.0 a) (decides_leb n u.0)

  -- what a ban asks of a route, taken apart
  abbrev pub Parts : (ℕ → ℕ) → ℕ → Ban → Type 0
  Parts r n b = Ends n b × ((t : ℕ) → Bars trips a t (r t) b → ⊥) × ((t : ℕ) → BarsMove a (suc t) (r t) (r (suc t)) b → ⊥)

  parts_from_bears : (r : ℕ → ℕ) (n : ℕ) (b : Ban) → Bears trips a r n b → Parts r n b
  parts_from_bears r n (Stand c q f l) h = (tt, λ t bar. h bar.0 t bar.1 (sym bar.2), λ t bar. bar)
  parts_from_bears r n (Move c q s f l) h = (tt, λ t bar. bar, λ t bar. h bar.0 t bar.1 (sym bar.2) (sym bar.3))
  parts_from_bears r n (Late c u) h = (h, λ t bar. bar, λ t bar. bar)
  parts_from_bears r n (By c u) h = (h.0, λ t bar. h.1 bar.0 t bar.1 (sym bar.2), λ t bar. bar)

  bears_from_parts : (r : ℕ → ℕ) (n : ℕ) (b : Ban) → Parts r n b → Bears trips a r n b
  bears_from_parts r n (Stand c q f l) h = λ mine t when at. h.1 t (mine, when, sym at)
  bears_from_parts r n (Move c q s f l) h = λ mine t when at to. h.2 t (mine, when, sym at, sym to)
  bears_from_parts r n (Late c u) h = h.0
  bears_from_parts r n (By c u) h = (h.0, λ other t when at. h.1 t (other, when, sym at))

  -- the same of all bans
  module _ (bans : List Ban) where
    abbrev pub CanBe : ℕ → ℕ → Type 0
    CanBe t p = All (λ b. Bars trips a t p b → ⊥) bans

    abbrev pub CanGo : ℕ → ℕ → ℕ → Type 0
    CanGo t p q = All (λ b. BarsMove a t p q b → ⊥) bans

    pub decides_can_be : (t p : ℕ) → Decides (can_be trips bans a t p) (CanBe t p)
    decides_can_be t p = decides_every _ _ (decides_be t p) bans

    pub decides_can_go : (t p q : ℕ) → Decides (can_go bans a t p q) (CanGo t p q)
    decides_can_go t p q = decides_every _ _ (decides_go t p q) bans

    pub keeps_ends : (r : ℕ → ℕ) (n : ℕ) → All (Bears trips a r n) bans → All (Ends n) bans
    keeps_ends r n h = λ k d lt. (parts_from_bears r n _ (h k d lt)).0

    pub keeps_be : (r : ℕ → ℕ) (n : ℕ) → All (Bears trips a r n) bans → (t : ℕ) → CanBe t (r t)
    keeps_be r n h t = λ k d lt. (parts_from_bears r n _ (h k d lt)).1 t

    pub keeps_go : (r : ℕ → ℕ) (n : ℕ) → All (Bears trips a r n) bans → (t : ℕ) → CanGo (suc t) (r t) (r (suc t))
    keeps_go r n h t = λ k d lt. (parts_from_bears r n _ (h k d lt)).2 t

    pub keeps_from : (r : ℕ → ℕ) (n : ℕ) → All (Ends n) bans → ((t : ℕ) → CanBe t (r t)) → ((t : ℕ) → CanGo (suc t) (r t) (r (suc t))) → All (Bears trips a r n) bans
    keeps_from r n ends be go = λ k d lt. bears_from_parts r n _ (ends k d lt, λ t. be t k d lt, λ t. go t k d lt)

    -- resting at p from n on
    pub rests_be : (n p : ℕ) → All (Rests n p) bans → (t : ℕ) → n ≤ t → CanBe t p
    rests_be n p h t from = λ k d lt. (h k d lt t from).0

    pub rests_go : (n p : ℕ) → All (Rests n p) bans → (t : ℕ) → n ≤ t → CanGo (suc t) p p
    rests_go n p h t from = λ k d lt. (h k d lt t from).1

    pub rests_from : (n p : ℕ) → ((t : ℕ) → n ≤ t → CanBe t p × CanGo (suc t) p p) → All (Rests n p) bans
    rests_from n p h = λ k d lt t from. ((h t from).0 k d lt, (h t from).1 k d lt)
