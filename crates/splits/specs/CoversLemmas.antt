-- The coverage of a vertex, of an edge and of a target.
use Rattle.std.specs.Prelude.{◌≡◌, ℕ, zero, suc, ◌<◌, ◌⊎◌, List, length, refl}
use Rattle.std.proofs.Common.{inl, inr, sym, ◌∙◌, arith}
use Rattle.std.proofs.Math.Decide.{ℕ_discrete, dec_lt}
use Rattle.floor.specs.Floor.{Floor}
use Rattle.floor.specs.declared.Cart.{Cart}
use Rattle.floor.specs.declared.Place.{Place}
use Rattle.floor.specs.declared.Tick.{Tick}
use Rattle.motion.specs.Bans.{Keeps}
use Rattle.motion.specs.declared.trip.Trip.{Trip}
use Rattle.motion.specs.declared.ban.Ban.{Ban}
use Rattle.motion.specs.declared.ban.Ban.TheVariants.{Stand, Move, Late, By}
use Rattle.splits.specs.Conditions.{Two}
use Rattle.splits.specs.Rules.{Covered}

module _ (f : Floor) (trips : List Trip) (bans : List Ban) where
  pub vertex_covers : (a b : Cart) (p : Place) (t : Tick) → Two trips a b → Covered f trips bans (Stand a p t t) (Stand b p t t)
  vertex_covers a b p t two s free _ = go (ℕ_discrete (s.at a.0 t.0) p.0)
    where
      go : Dec (s.at a.0 t.0 ≡ p.0) → Keeps s (Stand a p t t) ⊎ Keeps s (Stand b p t t)
      go (no away) = inl λ i below same u w at. let now : u ≡ t.0 = omega arith in away (cc)
      go (yes there) = inr λ i below same u w at. let now : u ≡ t.0 = omega arith in free a.0 b.0 two.0 two.1 two.2 (t.0, inl (cc))

  pub edge_covers : (a b : Cart) (p q : Place) (t : Tick) → Two trips a b → Covered f trips bans (Move a p q t t) (Move b q p t t)
  edge_covers a b p q t two s free _ = at_tick t.0 refl
    where
      go : (u : ℕ) → t.0 ≡ suc u → Dec (s.at a.0 u ≡ p.0) → Dec (s.at a.0 (suc u) ≡ q.0) → Keeps s (Move a p q t t) ⊎ Keeps s (Move b q p t t)
      go u is (no away) _ = inl λ i below same v w from to. let now : v ≡ u = omega arith in away (cc)
      go u is (yes from) (no away) = inl λ i below same v w from to. let now : v ≡ u = omega arith in away (cc)
      go u is (yes from) (yes to) = inr λ i below same v w back on. let now : v ≡ u = omega arith in free a.0 b.0 two.0 two.1 two.2 (u, inr (cc, cc))

      -- no move arrives at tick 0
      at_tick : (n : ℕ) → t.0 ≡ n → Keeps s (Move a p q t t) ⊎ Keeps s (Move b q p t t)
      at_tick zero is = inl λ i below same v w from to. omega arith
      at_tick (suc u) is = go u is (ℕ_discrete (s.at a.0 u) p.0) (ℕ_discrete (s.at a.0 (suc u)) q.0)

  pub target_covers : (a : Cart) (t : Tick) → a.0 < length trips → Covered f trips bans (Late a t) (By a t)
  target_covers a t on s free _ = go (dec_lt t.0 (s.len a.0))
    where
      go : Dec (t.0 < s.len a.0) → Keeps s (Late a t) ⊎ Keeps s (By a t)
      go (yes late) = inl λ i below same. rw (← same) late
      go (no early) = inr λ i below. (λ same. rw (← same) (omega arith), λ other u from there. free a.0 i on below other (u, inl ((s.route a.0 on).arrived u (omega arith) ∙ sym there)))
