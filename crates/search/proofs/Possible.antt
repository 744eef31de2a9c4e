-- A length is possible exactly where a route of that length keeps the bans.
use Rattle.std.proofs.Common.{◌≡◌, ℕ, zero, suc, ◌<◌, true, List, Decides, All, sym, refl, ◌∙◌, inl, inr, ⊎_elim, arith}
use Rattle.std.proofs.lemmas.Bool.{cases_lt}
use Rattle.std.proofs.lemmas.Bool.Decides.{Decides-and, Decides-like, Decides-eqb}
use Rattle.floor.specs.Floor.{Floor, Joined, Lawful}
use Rattle.floor.proofs.Deciding.{decides_itself, decides_every}
use Rattle.motion.specs.Routes.{Step, Route, AtTargetFrom, start_of, target_of}
use Rattle.motion.specs.Stands.{Walk, Keeping}
use Rattle.motion.specs.declared.trip.Trip.{Trip}
use Rattle.motion.specs.declared.ban.Ban.{Ban}
use Rattle.search.specs.Rows.{marked, row_at}
use Rattle.search.specs.Least.{arrives, possible}
use Rattle.search.proofs.Tells.{CanBe, CanGo, Rests, Ends, decides_can_go, decides_end, decides_rest, keeps_ends, keeps_be, keeps_go, keeps_from, rests_be, rests_go, rests_from}
use Rattle.search.proofs.Walks.{then, then_before, then_after, then_at, then_steps, decides_some_next, row_walks}

-- a route is not yet at the target the tick before its length
pub before_arrival : (f : Floor) (start target : ℕ) (r : ℕ → ℕ) (n : ℕ) → Route f start target r (suc n) → r n ≡ target → ⊥
before_arrival f start target r n route e =
    let early : AtTargetFrom target r n = λ t h. ⊎_elim (λ lt. route.arrived t lt) (λ le. let same : t ≡ n = omega arith in rw same e) (cases_lt n t) in
    let long = route.least n early in omega arith

module _ (f : Floor) (law : Lawful f) (trips : List Trip) (bans : List Ban) (a : ℕ) where
  -- the place before the target, where the cart has been walking
  abbrev Arrival : ℕ → Type 0
  Arrival zero = start_of trips a ≡ target_of trips a
  Arrival (suc n) = (p : ℕ) × Joined f (target_of trips a) p × ((marked (row_at f trips bans a n) p ≡ true) × CanGo trips a bans (suc n) p (target_of trips a))

  abbrev Possible : ℕ → Type 0
  Possible n = All (Ends trips a n) bans × All (Rests trips a n (target_of trips a)) bans × Arrival n

  decides_arrives : (n : ℕ) → Decides (arrives f trips bans a n) (Arrival n)
  decides_arrives zero = Decides-eqb (start_of trips a) (target_of trips a)
  decides_arrives (suc n) =
      decides_some_next f (target_of trips a) _ _ (λ p. Decides-and _ _ (decides_itself (marked (row_at f trips bans a n) p)) (decides_can_go trips a bans (suc n) p (target_of trips a)))

  decides_parts : (n : ℕ) → Decides (possible f trips bans a n) (Possible n)
  decides_parts n =
      Decides-like _ (λ h. (h.0.0, h.0.1, h.1)) (λ h. ((h.0, h.1), h.2))
      (Decides-and _ _ (Decides-and _ _ (decides_every _ _ (decides_end trips a n) bans) (decides_every _ _ (decides_rest trips a n (target_of trips a)) bans)) (decides_arrives n))

  keeping_from : (n : ℕ) → Possible n → Keeping f trips bans a n
  keeping_from zero can = record {
    at = λ _. target_of trips a;
    route = record { begins = sym can.2; steps = λ t. inl refl; arrived = λ t h. refl; least = λ n h. omega arith };
    keeps = keeps_from trips a bans (λ _. target_of trips a) 0 can.0 (λ t. rests_be trips a bans 0 (target_of trips a) can.1 t (omega arith))
        (λ t. rests_go trips a bans 0 (target_of trips a) can.1 t (omega arith));
  }
  keeping_from (suc n) can = record {
    at = then w.at n (target_of trips a);
    route = record {
      begins = then_before w.at n (target_of trips a) 0 (omega arith) ∙ w.begins;
      steps = then_steps (λ t x y. Step f x y) w.at n (target_of trips a) (λ t lt. w.steps t lt)
          (inr (rw w.ends (law.both_ways (target_of trips a) p can.2.1))) (λ t late. inl refl);
      arrived = λ t h. then_after w.at n (target_of trips a) t h;
      least = λ m rests. ⊎_elim (λ lt. lt) (λ le. absurd (elsewhere (sym w.ends ∙ sym (then_before w.at n (target_of trips a) n (omega arith)) ∙ rests n le))) (cases_lt n m);
    };
    keeps = keeps_from trips a bans (then w.at n (target_of trips a)) (suc n) can.0
        (then_at (CanBe trips a bans) w.at n (target_of trips a) (λ t le. w.stands t le) (λ t late. rests_be trips a bans (suc n) (target_of trips a) can.1 t late))
        (then_steps (λ t. CanGo trips a bans (suc t)) w.at n (target_of trips a) (λ t lt. w.moves t lt) (rw w.ends can.2.2.1)
        (λ t late. rests_go trips a bans (suc n) (target_of trips a) can.1 t late));
  }
    where
      p : ℕ
      p = can.2.0

      w : Walk f trips bans a n p
      w = (row_walks f trips bans a law n p (law.on_floor (target_of trips a) p can.2.1).1).0 can.2.2.0

      elsewhere : p ≡ target_of trips a → ⊥
      elsewhere e = law.not_its_own (target_of trips a) (rw e at can.2.1)

  arrival_from : (n : ℕ) → Keeping f trips bans a n → Arrival n
  arrival_from zero k = sym k.route.begins ∙ k.route.arrived 0 (omega arith)
  arrival_from (suc n) k =
      (p, law.both_ways p (target_of trips a) j, ((row_walks f trips bans a law n p on).1 walk, rw at_target at (keeps_go trips a bans k.at (suc n) k.keeps n)))
    where
      p : ℕ
      p = k.at n

      at_target : k.at (suc n) ≡ target_of trips a
      at_target = k.route.arrived (suc n) (omega arith)

      j : Joined f p (target_of trips a)
      j = ⊎_elim (λ e. absurd (before_arrival f _ _ k.at n k.route (sym e ∙ at_target))) (λ j. rw at_target at j) (k.route.steps n)

      on : p < f.count
      on = (law.on_floor p (target_of trips a) j).0

      walk : Walk f trips bans a n p
      walk = record {
        at = k.at;
        begins = k.route.begins;
        ends = refl;
        steps = λ t h. k.route.steps t;
        stands = λ t h. keeps_be trips a bans k.at (suc n) k.keeps t;
        moves = λ t h. keeps_go trips a bans k.at (suc n) k.keeps t;
      }

  possible_from : (n : ℕ) → Keeping f trips bans a n → Possible n
  possible_from n k = (
    keeps_ends trips a bans k.at n k.keeps,
    rests_from trips a bans n (target_of trips a) (λ t h. (
      rw (k.route.arrived t h) at (keeps_be trips a bans k.at n k.keeps t),
      rw (k.route.arrived t h, k.route.arrived (suc t) (omega arith)) at (keeps_go trips a bans k.at n k.keeps t),
    )),
    arrival_from n k,
  )

  pub possible_keeping : (n : ℕ) → Decides (possible f trips bans a n) (Keeping f trips bans a n)
  possible_keeping n =
      let parts = decides_parts n in (λ e. keeping_from n (parts.0 e), λ k. parts.1 (possible_from n k))
