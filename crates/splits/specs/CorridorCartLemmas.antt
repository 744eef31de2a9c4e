-- One of the two carts goes all the way through the corridor.
use Rattle.std.specs.Prelude.{◌≡◌, ℕ, zero, suc, pred, ◌-◌, ◌<◌, ◌≤◌, List, length, ◌≢◌, refl}
use Rattle.std.proofs.Common.{⊎_elim, sym, ap, subst, ◌∙◌, arith}
use Rattle.std.proofs.lemmas.Bool.{cases_eq, cases_lt}
use Rattle.floor.specs.Floor.{Floor, Joined, Lawful}
use Rattle.motion.specs.Bans.{KeepsAll}
use Rattle.motion.specs.Routes.{RouteSet}
use Rattle.motion.specs.declared.ban.Ban.{Ban}
use Rattle.motion.specs.declared.trip.Trip.{Trip}
use Rattle.search.proofs.Firsts.{below_suc}
use Rattle.splits.specs.Corridor.{Corridor, Outside, Passes, CorridorFor, forth, back}
use Rattle.splits.specs.declared.corridor.passage.Passage.{Passage}
use Rattle.splits.specs.declared.corridor.passage.CartPassage.{CartPassage}
use Rattle.splits.specs.TicksLemmas.{First, Never}
use Rattle.splits.specs.WalksLemmas.{route_walk, route_walk_without}
use Rattle.splits.specs.CorridorStretchLemmas.{Stretch, stretch_to, stretch_more}

-- what the split asks of the cart of w, where c are the corridor's places in the order in which that cart comes to them
pub record AskedOfCart (f : Floor) (trips : List Trip) (bans : List Ban) (w : CartPassage) (c : ℕ → ℕ) : Type 0 where
  pub way : Corridor f c w.steps
  pub outside : Outside trips w.cart c w.steps
  pub passes : Passes f trips bans w
  pub first_is : w.first.0 ≡ c 0
  pub near_is : w.near.0 ≡ c (pred w.steps)
  pub last_is : w.last.0 ≡ c w.steps

-- the corridor seen from its other end
abbrev pub turned : (ℕ → ℕ) → ℕ → ℕ → ℕ
turned c k i = c (k - i)

corridor_turned : (f : Floor) → Lawful f → (c : ℕ → ℕ) (k : ℕ) → Corridor f c k → Corridor f (turned c k) k
corridor_turned f law c k way = record {
  some = way.some;
  joins = λ i h. let e : suc (k - suc i) ≡ k - i = omega arith in
      subst (λ n. Joined f (c n) (c (k - suc i))) e (law.both_ways (c (k - suc i)) (c (suc (k - suc i))) (way.joins (k - suc i) (omega arith)));
  differ = λ i j hi hj same. let e = way.differ (k - i) (k - j) (omega arith) (omega arith) same in omega arith;
  narrow = λ i inner. way.narrow (k - i) (omega arith);
}

module _ (f : Floor) (trips : List Trip) (bans : List Ban) (o : Passage) (c : ℕ → ℕ) (asked : CorridorFor f trips bans o c) where
  pub asked_forth : AskedOfCart f trips bans (forth o c) c
  asked_forth = record { way = asked.way; outside = asked.a_outside; passes = asked.a_passes; first_is = refl; near_is = refl; last_is = refl }

  pub asked_back : Lawful f → AskedOfCart f trips bans (back o c) (turned c o.k)
  asked_back law = let some = asked.way.some in record {
    way = corridor_turned f law c o.k asked.way;
    outside = λ i inner. asked.b_outside (o.k - i) (omega arith);
    passes = asked.b_passes;
    first_is = ap c (omega arith);
    near_is = ap c (omega arith);
    last_is = ap c (omega arith);
  }

-- its route in a set that keeps the bans
module _ (f : Floor) (law : Lawful f) (trips : List Trip) (bans : List Ban) (s : RouteSet f trips) (keeps : KeepsAll s bans)
    (w : CartPassage) (there : w.cart.0 < length trips) (other_there : w.other.0 < length trips) (c : ℕ → ℕ) (asked : AskedOfCart f trips bans w c) where
  abbrev route : ℕ → ℕ
  route = s.at w.cart.0

  -- by its tick it is not at the last place without the move from the near place
  not_without : (u : ℕ) → u ≤ w.tick.0 → route u ≡ w.last.0 → ((t : ℕ) → t < u → route t ≡ w.near.0 → route (suc t) ≢ w.last.0) → ⊥
  not_without u by at never = asked.passes.only u by (route_walk_without f trips bans s keeps w.cart.0 there w.near.0 w.last.0 u w.last.0 at never)

  -- so it came by that move when it was not at the last place before, and through the corridor to the near place
  gone_through : (u : ℕ) → u ≤ w.tick.0 → route u ≡ w.last.0 → Never (λ t. route t ≡ w.last.0) u → Stretch c w.steps route w.steps u
  gone_through zero by at new = absurd (not_without 0 by at (λ t h. absurd (omega arith)))
  gone_through (suc t) by at new = ⊎_elim from_near elsewhere (cases_eq (route t) w.near.0)
    where
      elsewhere : (route t ≢ w.near.0) → Stretch c w.steps route w.steps (suc t)
      elsewhere ne = absurd (not_without (suc t) by at
          (below_suc (λ u. route u ≡ w.near.0 → route (suc u) ≢ w.last.0) t (λ u h leaves comes. new (suc u) (omega arith) comes) (λ leaves comes. ne leaves)))

      from_near : route t ≡ w.near.0 → Stretch c w.steps route w.steps (suc t)
      from_near near =
          let some = asked.way.some in
          let is = s.route w.cart.0 there in
          let before = stretch_to f c w.steps asked.way route law is.steps (λ i inner e. asked.outside i inner (sym is.begins ∙ e))
          t (pred w.steps) (omega arith) (near ∙ asked.near_is) (λ u h e. new u h (e ∙ sym asked.last_is)) in
          stretch_more f c w.steps asked.way route t (pred w.steps) w.steps before (omega arith) (at ∙ asked.last_is) (omega arith)

  -- and it sets out no later than the other cart comes to the first place
  pub stretch_before_other : (v : First (λ t. route t ≡ w.last.0) (suc w.tick.0)) →
      (stretch : Stretch c w.steps route w.steps v.at) × ((u : ℕ) → s.at w.other.0 u ≡ w.first.0 → stretch.from ≤ u)
  stretch_before_other v = (stretch, λ u at. ⊎_elim (λ lt. absurd (early u lt at)) (λ le. le) (cases_lt u stretch.from))
    where
      stretch : Stretch c w.steps route w.steps v.at
      stretch = gone_through v.at (omega (arith, v.within)) v.holds v.before

      early : (u : ℕ) → u < stretch.from → s.at w.other.0 u ≢ w.first.0
      early u lt at = asked.passes.late u (omega (arith, stretch.far, v.within)) (route_walk f trips bans s keeps w.other.0 other_there u w.first.0 at)
