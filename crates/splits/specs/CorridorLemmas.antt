-- What the answers of letter K tell, and that they keep the laws of a split rule.
use Rattle.std.specs.Prelude.{◌≡◌, ℕ, zero, suc, pred, ◌+◌, ◌-◌, ◌<◌, ◌≤◌, not, ◌↔◌, List, ◌∷◌, length, Ok, Decides, ◌≢◌, refl}
use Rattle.std.proofs.Common.{sym, ap, subst, subst₂, ◌∙◌, arith}
use Rattle.std.proofs.lemmas.Bool.Decides.{Decides-and, Decides-eqb, Decides-like, Decides-ltb, Decides-not}
use Rattle.floor.specs.Floor.{Floor, Joined, Lawful}
use Rattle.floor.specs.declared.Cart.{Cart}
use Rattle.floor.proofs.Deciding.{decides_leb, decides_then}
use Rattle.motion.specs.Routes.{start_of}
use Rattle.motion.specs.Stands.{Walk}
use Rattle.motion.specs.declared.ban.Ban.{Ban}
use Rattle.motion.specs.declared.trip.Trip.{Trip}
use Rattle.search.specs.Rows.{stands_before}
use Rattle.search.proofs.Standing.{decides_stands_before}
use Rattle.splits.specs.Conditions.{Two}
use Rattle.splits.specs.Corridor.{Corridor, Outside, WalkWithout, Passes, CorridorFor, forth, back, corridor_bans}
use Rattle.splits.specs.CorridorTests.{passage, last_move_ban, is_outside, is_passing, is_corridor_for, led_to, corridor_sides, corridor_letter, corridor_rules, CorridorTells}
use Rattle.splits.specs.Rules.{LawfulSides, LawfulRules}
use Rattle.splits.specs.declared.corridor.passage.Passage.{Passage}
use Rattle.splits.specs.declared.corridor.passage.CartPassage.{CartPassage}
use Rattle.splits.specs.CorridorChainLemmas.{led_onward, same_onward, corridor_onward, decides_inner, decides_corridor}
use Rattle.splits.specs.CorridorCoversLemmas.{corridor_covers}
use Rattle.splits.specs.JudgingLemmas.{decides_two, decides_in_time, judged_tells_in_turn}
use Rattle.splits.specs.LetteredLemmas.{lettered_lawful}
use Rattle.splits.specs.WalksLemmas.{walks_under_the_ban}

-- the places of a corridor are on the floor
on_floor : (f : Floor) → Lawful f → (c : ℕ → ℕ) (k : ℕ) → Corridor f c k → (i : ℕ) → i ≤ k → c i < f.count
on_floor f law c k way zero h = (law.on_floor (c 0) (c 1) (way.joins 0 way.some)).0
on_floor f law c k way (suc i) h = (law.on_floor (c i) (c (suc i)) (way.joins i h)).1

-- ---- the tests decide what they are made for

decides_outside : (trips : List Trip) (a : Cart) (c : ℕ → ℕ) (k : ℕ) → Decides (is_outside trips a c k) (Outside trips a c k)
decides_outside trips a c k = decides_inner _ (λ i. start_of trips a.0 ≢ c i) (λ i. Decides-not _ (Decides-eqb (start_of trips a.0) (c i))) k

module _ (f : Floor) (law : Lawful f) (trips : List Trip) where
  -- a cart that is there is not at a place of the floor before tick n
  decides_never_before : (bans : List Ban) (a n p : ℕ) → a < length trips → p < f.count →
      Decides (not (stands_before f trips bans a n p)) ((u : ℕ) → u < n → Walk f trips bans a u p → ⊥)
  decides_never_before bans a n p there on =
      Decides-like _ (λ h u lt walk. h (u, lt, (there, on, walk))) (λ h stands. h stands.0 stands.1 stands.2.2) (Decides-not _ (decides_stands_before f trips bans a law n p))

  -- the search tells of carts that are there and of places on the floor alone, so that is asked
  decides_passing : (bans : List Ban) (w : CartPassage) → w.cart.0 < length trips → w.other.0 < length trips → w.first.0 < f.count → w.last.0 < f.count →
      Decides (is_passing f trips bans w) (Passes f trips bans w)
  decides_passing bans w there other_there first_on last_on = Decides-like _
      (λ h. record { only = λ u le walk. h.0 u (omega arith) ((without u le).1 walk); late = λ u lt. h.1 u (omega arith) })
      (λ h. (λ u lt walk. h.only u (omega arith) ((without u (omega arith)).0 walk), λ u lt. h.late u (omega arith)))
      (Decides-and _ _ (decides_never_before (last_move_ban w ∷ bans) w.cart.0 (w.tick.0 + 1) w.last.0 there last_on)
      (decides_never_before bans w.other.0 (w.tick.0 - w.steps) w.first.0 other_there first_on))
    where
      without : (u : ℕ) → u ≤ w.tick.0 → Walk f trips (last_move_ban w ∷ bans) w.cart.0 u w.last.0 ↔ WalkWithout f trips bans w.cart.0 w.near.0 w.last.0 u w.last.0
      without u = walks_under_the_ban f trips bans w.cart w.near w.last w.tick u w.last.0

  module _ (bans : List Ban) (o : Passage) where
    -- each test may count on those before it: that the places are on the floor is known once they are a corridor
    decides_corridor_for : Two trips o.a o.b → Decides (is_corridor_for f trips bans o (led_to f o)) (CorridorFor f trips bans o (led_to f o))
    decides_corridor_for two = Decides-like _
        (λ h. record {
          from = refl;
          by = refl;
          short = h.1.0;
          way = h.1.1.0;
          a_outside = h.1.1.1.0.0;
          b_outside = h.1.1.1.0.1;
          a_passes = h.1.1.1.1.0;
          b_passes = h.1.1.1.1.1;
        })
        (λ h. (h.way.some, (h.short, (h.way, ((h.a_outside, h.b_outside), (h.a_passes, h.b_passes))))))
        (decides_then _ _ (decides_leb 1 o.k) (λ some. decides_then _ _ (decides_leb o.k 63) (λ short.
        decides_then _ _ (decides_corridor f c o.k some (led_onward f o short)) (λ way. let on = on_floor f law c o.k way in Decides-and _ _
        (Decides-and _ _ (decides_outside trips o.a c o.k) (decides_outside trips o.b c o.k))
        (Decides-and _ _ (decides_passing bans (forth o c) two.0 two.1 (on 0 (omega arith)) (on o.k (omega arith)))
        (decides_passing bans (back o c) two.1 two.0 (on o.k (omega arith)) (on 0 (omega arith))))))))
      where
        c : ℕ → ℕ
        c = led_to f o

-- ---- what the split asks speaks of the places up to k alone

module _ (f : Floor) (trips : List Trip) (bans : List Ban) (o : Passage) (c d : ℕ → ℕ) (same : (i : ℕ) → i ≤ o.k → c i ≡ d i) where
  corridor_same : Corridor f c o.k → Corridor f d o.k
  corridor_same way = record {
    some = way.some;
    joins = λ i h. subst₂ (Joined f) (same i (omega arith)) (same (suc i) h) (way.joins i h);
    differ = λ i j hi hj e. way.differ i j hi hj (same i hi ∙ e ∙ sym (same j hj));
    narrow = λ i inner. ap (λ p. length (f.next p)) (sym (same i (omega arith))) ∙ way.narrow i inner;
  }

  outside_same : (a : Cart) → Outside trips a c o.k → Outside trips a d o.k
  outside_same a outside i inner e = outside i inner (e ∙ sym (same i (omega arith)))

  corridor_for_same : CorridorFor f trips bans o c → CorridorFor f trips bans o d
  corridor_for_same asked =
      let first_same = same 0 (omega arith) in
      let second_same = same 1 asked.way.some in
      let near_same = same (pred o.k) (omega arith) in
      let last_same = same o.k (omega arith) in
      record {
        from = sym first_same ∙ asked.from;
        by = sym second_same ∙ asked.by;
        short = asked.short;
        way = corridor_same asked.way;
        a_outside = outside_same o.a asked.a_outside;
        b_outside = outside_same o.b asked.b_outside;
        a_passes = subst (Passes f trips bans) (cc) asked.a_passes;
        b_passes = subst (Passes f trips bans) (cc) asked.b_passes;
      }

-- so any places that lie as the split asks are those that the operands lead to
led_only : (f : Floor) → Lawful f → (trips : List Trip) (bans : List Ban) (o : Passage) (c : ℕ → ℕ) → CorridorFor f trips bans o c → (i : ℕ) → i ≤ o.k → c i ≡ led_to f o i
led_only f law trips bans o c asked =
    same_onward f c (led_to f o) o.k (corridor_onward f law c o.k asked.way) (led_onward f o asked.short) asked.from asked.by

-- ---- the answers

pub corridor_tells : (f : Floor) → Lawful f → (trips : List Trip) (bans : List Ban) (o : Passage) → CorridorTells f trips bans o (corridor_sides f trips bans o)
corridor_tells f law trips bans o =
    judged_tells_in_turn _ _ _ _ (corridor_bans o (led_to f o)) (decides_two trips o.a o.b)
    (Decides-and _ _ (Decides-ltb o.p.0 f.count) (Decides-ltb o.q.0 f.count))
    (Decides-and _ _ (decides_in_time o.m) (decides_in_time o.n))
    (λ two places ticks. Decides-like _ (λ asked. (led_to f o, asked, refl)) (λ own. (own_led own).1) (decides_corridor_for f law trips bans o two))
    (λ other. own_led)
  where
    Own : Ban × Ban → Type 0
    Own sides = (c : ℕ → ℕ) × CorridorFor f trips bans o c × (sides ≡ corridor_bans o c)

    own_led : {sides : Ban × Ban} → Own sides → Own (corridor_bans o (led_to f o))
    own_led own = (led_to f o, corridor_for_same f trips bans o own.0 (led_to f o) (led_only f law trips bans o own.0 own.1) own.1, refl)

-- the sides that are given keep what the laws ask, whatever the carts and the bans are
pub corridor_sides_lawful : (f : Floor) → Lawful f → (trips : List Trip) (bans : List Ban) (o : Passage) (sides : Ban × Ban) → CorridorTells f trips bans o (Ok sides) → LawfulSides f trips bans sides
corridor_sides_lawful f law trips bans o sides (two, places, ticks, (c, asked, is)) =
    let on = on_floor f law c o.k asked.way in
    subst (LawfulSides f trips bans) (sym is) (
      (two.0, on o.k (omega arith), omega arith, ticks.0),
      (two.1, on 0 (omega arith), omega arith, ticks.1),
      corridor_covers f trips bans o c law two asked,
    )

pub corridor_lawful : LawfulRules corridor_rules
corridor_lawful = lettered_lawful corridor_letter 11 (λ f trips bans ops. corridor_sides f trips bans (passage ops)) (λ f trips bans ops. CorridorTells f trips bans (passage ops)) (λ reserved. omega arith)
    (λ f law trips bans ops. corridor_tells f law trips bans (passage ops)) (λ f trips bans ops given asked. corridor_sides_lawful f asked.floor trips bans (passage ops) given)
