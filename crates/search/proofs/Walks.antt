-- A place is marked in the row of tick u exactly where a walk of u steps ends there.
use Rattle.std.proofs.Common.{◌≡◌, ℕ, zero, suc, ◌<◌, ◌≤◌, Bool, true, cond, leb, ◌⊎◌, List, get_or, Decides, sym, refl, ◌∙◌, subst, inl, inr, ⊎_elim, arith}
use Rattle.std.proofs.lemmas.List.{get_or_default}
use Rattle.std.proofs.lemmas.List.Elements.{Contains-get_or}
use Rattle.std.proofs.lemmas.Bool.{cond-true, cond-false, le-leb, lt-leb}
use Rattle.std.proofs.lemmas.Bool.Decides.{Decides-and, Decides-or, Decides-eqb, Decides-like}
use Rattle.std.proofs.lemmas.Grind.{common_steps}
use Rattle.floor.specs.Floor.{Floor, Joined, Lawful}
use Rattle.floor.specs.Tests.{some}
use Rattle.floor.proofs.Deciding.{decides_itself, decides_some}
use Rattle.motion.specs.Routes.{Step, start_of}
use Rattle.motion.specs.Stands.{Walk}
use Rattle.motion.specs.declared.trip.Trip.{Trip}
use Rattle.motion.specs.declared.ban.Ban.{Ban}
use Rattle.search.specs.Rows.{marked, reached, row_at}
use Rattle.search.proofs.Marks.{marked_made}
use Rattle.search.proofs.Tells.{CanBe, CanGo, decides_can_be, decides_can_go}

-- a neighbour that passes a test
pub decides_some_next : (f : Floor) (p : ℕ) (g : ℕ → Bool) (P : ℕ → Type 0) → ((q : ℕ) → Decides (g q) (P q))
    → Decides (some g (f.next p)) ((q : ℕ) × Joined f p q × P q)
decides_some_next f p g P each =
    Decides-like _ (λ h. (get_or (f.next p) h.0 0, Contains-get_or (f.next p) h.0 0 h.1, h.2 0))
    (λ h. let j = h.1 in (j.0, j.1, λ d. subst P (sym (get_or_default (f.next p) j.0 d h.0 j.1 ∙ j.2)) h.2))
    (decides_some g P each (f.next p))

-- r up to tick n, and q ever after
abbrev pub then : (ℕ → ℕ) → ℕ → ℕ → ℕ → ℕ
then r n q t = cond (leb t n) (r t) q

pub then_before : (r : ℕ → ℕ) (n q t : ℕ) → t ≤ n → then r n q t ≡ r t
then_before r n q t h = cond-true (leb t n) (r t) q (le-leb t n h)

pub then_after : (r : ℕ → ℕ) (n q t : ℕ) → n < t → then r n q t ≡ q
then_after r n q t h = cond-false (leb t n) (r t) q (lt-leb t n h)

-- what holds of each tick, or of each tick and the next
pub then_at : (P : ℕ → ℕ → Type 0) (r : ℕ → ℕ) (n q : ℕ) → ((t : ℕ) → t ≤ n → P t (r t)) → ((t : ℕ) → n < t → P t q)
    → (t : ℕ) → P t (then r n q t)
then_at P r n q early late t = grind (arith, common_steps, early t, late t, then_before r n q t, then_after r n q t)

pub then_steps : (P : ℕ → ℕ → ℕ → Type 0) (r : ℕ → ℕ) (n q : ℕ) → ((t : ℕ) → t < n → P t (r t) (r (suc t))) → P n (r n) q
    → ((t : ℕ) → n < t → P t q q) → (t : ℕ) → P t (then r n q t) (then r n q (suc t))
then_steps P r n q early turn late t =
    grind (arith, common_steps, early t, late t, then_before r n q t, then_after r n q t, then_before r n q (suc t), then_after r n q (suc t))

module _ (f : Floor) (trips : List Trip) (bans : List Ban) (a : ℕ) where
  abbrev pub CanStep : ℕ → ℕ → ℕ → Type 0
  CanStep t p q = Step f p q × CanGo trips a bans t p q × CanBe trips a bans t q

  -- a place that the row marks, and from which a step leads to q
  abbrev pub From : ℕ → List Bool → ℕ → Type 0
  From t row q = (p : ℕ) × (marked row p ≡ true) × CanStep t p q

  pub decides_reached : Lawful f → (t : ℕ) (row : List Bool) (q : ℕ) → Decides (reached f trips bans a t row q) (From t row q)
  decides_reached law t row q =
      Decides-like _ from ways
      (Decides-and _ _ (decides_can_be trips a bans t q) (Decides-or _ _ (Decides-and _ _ (decides_itself (marked row q)) (decides_can_go trips a bans t q q))
      (decides_some_next f q _ (λ p. (marked row p ≡ true) × CanGo trips a bans t p q) (λ p. Decides-and _ _ (decides_itself (marked row p)) (decides_can_go trips a bans t p q)))))
    where
      Ways : Type 0
      Ways = CanBe trips a bans t q × (((marked row q ≡ true) × CanGo trips a bans t q q) ⊎ ((p : ℕ) × Joined f q p × ((marked row p ≡ true) × CanGo trips a bans t p q)))

      from : Ways → From t row q
      from w =
          ⊎_elim (λ h. (q, h.0, (inl refl, h.1, w.0))) (λ h. (h.0, h.2.0, (inr (law.both_ways q h.0 h.1), h.2.1, w.0))) w.1

      ways : From t row q → Ways
      ways h =
          (h.2.2, ⊎_elim (λ e. inl (rw e h.1, subst (λ p. CanGo trips a bans t p q) (sym e) h.2.1)) (λ j. inr (h.0, law.both_ways h.0 q j, (h.1, h.2.1))) h.2.0)

  -- one step more
  pub walk_more : (u p q : ℕ) → Walk f trips bans a u p → CanStep (suc u) p q → Walk f trips bans a (suc u) q
  walk_more u p q w can = record {
    at = then w.at u q;
    begins = then_before w.at u q 0 (omega arith) ∙ w.begins;
    ends = then_after w.at u q (suc u) (omega arith);
    steps = then_steps (λ t x y. t < suc u → Step f x y) w.at u q (λ t lt _. w.steps t lt) (λ _. rw w.ends can.0)
        (λ t late h. absurd (omega arith));
    stands = then_at (λ t x. t ≤ suc u → CanBe trips a bans t x) w.at u q (λ t le _. w.stands t le)
        (λ t late h. let e : t ≡ suc u = omega arith in rw e can.2);
    moves = then_steps (λ t x y. t < suc u → CanGo trips a bans (suc t) x y) w.at u q (λ t lt _. w.moves t lt) (λ _. rw w.ends can.1)
        (λ t late h. absurd (omega arith));
  }

  -- one step less
  pub walk_less : (u q : ℕ) → Walk f trips bans a (suc u) q → (p : ℕ) × Walk f trips bans a u p × CanStep (suc u) p q
  walk_less u q w = (
    w.at u,
    record {
      at = w.at;
      begins = w.begins;
      ends = refl;
      steps = λ t h. w.steps t (omega arith);
      stands = λ t h. w.stands t (omega arith);
      moves = λ t h. w.moves t (omega arith);
    },
    (rw w.ends at (w.steps u (omega arith)), rw w.ends at (w.moves u (omega arith)), rw w.ends at (w.stands (suc u) (omega arith))),
  )

  -- a step ends on the floor only from the floor
  pub step_from_floor : Lawful f → (p q : ℕ) → q < f.count → Step f p q → p < f.count
  step_from_floor law p q h step = ⊎_elim (λ e. omega arith) (λ j. (law.on_floor p q j).0) step

  walk_from_row : Lawful f → (u p : ℕ) → marked (row_at f trips bans a u) p ≡ true → Walk f trips bans a u p
  walk_from_row law zero p m =
      let here = ((marked_made _ f.count p).0 m).1 in
      let can = (Decides-and _ _ (Decides-eqb p (start_of trips a)) (decides_can_be trips a bans 0 p)).0 here in
      record {
        at = λ _. p;
        begins = can.0;
        ends = refl;
        steps = λ t h. inl refl;
        stands = λ t h. let e : t ≡ 0 = omega arith in rw e can.1;
        moves = λ t h. absurd (omega arith);
      }
  walk_from_row law (suc u) q m =
      let from = (decides_reached law (suc u) (row_at f trips bans a u) q).0 ((marked_made _ f.count q).0 m).1 in
      walk_more u from.0 q (walk_from_row law u from.0 from.1) from.2

  row_from_walk : Lawful f → (u p : ℕ) → p < f.count → Walk f trips bans a u p → marked (row_at f trips bans a u) p ≡ true
  row_from_walk law zero p h w =
      let here : (p ≡ start_of trips a) × CanBe trips a bans 0 p = (sym w.ends ∙ w.begins, rw w.ends at (w.stands 0 (omega arith))) in
      (marked_made _ f.count p).1 (h, (Decides-and _ _ (Decides-eqb p (start_of trips a)) (decides_can_be trips a bans 0 p)).1 here)
  row_from_walk law (suc u) q h w =
      let less = walk_less u q w in
      let on = step_from_floor law less.0 q h less.2.0 in
      let from : From (suc u) (row_at f trips bans a u) q = (less.0, row_from_walk law u less.0 on less.1, less.2) in
      (marked_made _ f.count q).1 (h, (decides_reached law (suc u) (row_at f trips bans a u) q).1 from)

  pub row_walks : Lawful f → (u p : ℕ) → p < f.count → Decides (marked (row_at f trips bans a u) p) (Walk f trips bans a u p)
  row_walks law u p h = (walk_from_row law u p, row_from_walk law u p h)
