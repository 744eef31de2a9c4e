-- Two carts that go through a corridor, one each way, conflict.
--
-- A cart that starts on no inner place, and can be at c k only by the move from the place before it, has come all the
-- way from c 0 when it is first at c k: an inner place has no neighbours but the two beside it in the corridor. On that
-- stretch of its route its position along the corridor goes from 0 to k, by at most one a tick. That of the other cart
-- goes from k to 0. Neither sets out after the other has come to where it sets out from, so the two stretches have ticks
-- in common. At the first of these the one position is at most the other, at the last it is at least the other: between
-- them both carts are at the same place at some tick, or cross a connection against each other in some step.
use Rattle.std.specs.Prelude.{◌≡◌, ℕ, suc, ◌-◌, ◌<◌, ◌≤◌, min, max, ◌⊎◌, List}
use Rattle.std.proofs.Common.{inl, inr, ⊎_elim, sym, ap, ◌∙◌, arith}
use Rattle.std.proofs.lemmas.Bool.{cases_lt}
use Rattle.std.proofs.lemmas.Bool.Decides.{Decides-eqb}
use Rattle.floor.specs.Floor.{Floor, Lawful}
use Rattle.floor.specs.declared.Cart.{Cart}
use Rattle.floor.specs.declared.Tick.{Tick}
use Rattle.motion.specs.Bans.{Keeps}
use Rattle.motion.specs.Routes.{Conflict}
use Rattle.motion.specs.declared.ban.Ban.{Ban}
use Rattle.motion.specs.declared.ban.Ban.TheVariants.{Stand}
use Rattle.motion.specs.declared.trip.Trip.{Trip}
use Rattle.splits.specs.Conditions.{Two}
use Rattle.splits.specs.Corridor.{CorridorFor, place, tick, forth, back, corridor_bans}
use Rattle.splits.specs.Rules.{Covered}
use Rattle.splits.specs.declared.corridor.passage.Passage.{Passage}
use Rattle.splits.specs.TicksLemmas.{First, Never, FirstOrNever, first, Meet, meeting}
use Rattle.splits.specs.CorridorPositionLemmas.{position, position_most}
use Rattle.splits.specs.CorridorStretchLemmas.{Stretch}
use Rattle.splits.specs.CorridorCartLemmas.{turned, asked_forth, asked_back, stretch_before_other}

-- r goes through the corridor by tick u, and q the other way by tick v
module _ (c : ℕ → ℕ) (k : ℕ) (r q : ℕ → ℕ) (u v : ℕ) (forth_stretch : Stretch c k r k u) (back_stretch : Stretch (turned c k) k q k v) where
  -- the two positions, both counted from c 0
  abbrev r_position : ℕ → ℕ
  r_position t = position c k (r t)

  abbrev q_position : ℕ → ℕ
  q_position t = k - position (turned c k) k (q t)

  -- while both are on the corridor, positions that meet are a conflict
  meet_conflict : (lo hi : ℕ) → forth_stretch.from ≤ lo → back_stretch.from ≤ lo → hi ≤ u → hi ≤ v → Meet r_position q_position lo hi → Conflict r q
  meet_conflict lo hi r_from q_from r_to q_to m = ⊎_elim
      (λ e. (m.at, inl (r_at m.at m.from m.to ∙ ap c e ∙ sym (q_at m.at m.from m.to))))
      (λ e. let next : lo ≤ suc m.at = omega (arith, m.from) in (
        m.at,
        inr (
          r_at m.at m.from m.to ∙ ap c e.1 ∙ sym (q_at (suc m.at) next e.0),
          r_at (suc m.at) next e.0 ∙ ap c e.2 ∙ sym (q_at m.at m.from m.to),
        ),
      ))
      m.how
    where
      r_at : (t : ℕ) → lo ≤ t → t ≤ hi → r t ≡ c (r_position t)
      r_at t from to = forth_stretch.on t (omega arith) (omega arith)

      q_at : (t : ℕ) → lo ≤ t → t ≤ hi → q t ≡ c (q_position t)
      q_at t from to = back_stretch.on t (omega arith) (omega arith)

  -- each sets out no later than the other comes to that end: so they meet between the later start and the earlier end
  opposed : forth_stretch.from ≤ v → back_stretch.from ≤ u → Conflict r q
  opposed r_in_time q_in_time = meet_conflict lo hi (omega arith) (omega arith) (omega arith) (omega arith)
      (meeting r_position q_position lo hi (omega (arith, forth_stretch.far, back_stretch.far)) (λ t h le. forth_stretch.slow t (omega arith) (omega arith))
      (λ t h le. let near = back_stretch.slow t (omega arith) (omega arith) in omega arith) begin end)
    where
      lo : ℕ
      lo = max forth_stretch.from back_stretch.from

      hi : ℕ
      hi = min u v

      begin : r_position lo ≤ q_position lo
      begin = ⊎_elim
          (λ (lt : forth_stretch.from < back_stretch.from). let e : lo ≡ back_stretch.from = omega arith in rw e (omega (arith, back_stretch.starts, position_most c k (r back_stretch.from))))
          (λ (le : back_stretch.from ≤ forth_stretch.from). let e : lo ≡ forth_stretch.from = omega arith in rw e (omega (arith, forth_stretch.starts)))
          (cases_lt forth_stretch.from back_stretch.from)

      end : q_position hi ≤ r_position hi
      end = ⊎_elim
          (λ (lt : u < v). let e : hi ≡ u = omega arith in rw e (omega (arith, forth_stretch.ends)))
          (λ (le : v ≤ u). let e : hi ≡ v = omega arith in rw e (omega (arith, back_stretch.ends)))
          (cases_lt u v)

pub corridor_covers : (f : Floor) (trips : List Trip) (bans : List Ban) (o : Passage) (c : ℕ → ℕ) → Lawful f → Two trips o.a o.b →
    CorridorFor f trips bans o c → Covered f trips bans (corridor_bans o c).0 (corridor_bans o c).1
corridor_covers f trips bans o c law two asked s free keeps = by_first (first_at o.a (c o.k) o.m) (first_at o.b (c 0) o.n)
  where
    At : Cart → ℕ → ℕ → Type 0
    At a p t = s.at a.0 t ≡ p

    first_at : (a : Cart) (p : ℕ) (m : Tick) → FirstOrNever (At a p) (suc m.0)
    first_at a p m = first (At a p) (λ t. Decides-eqb (s.at a.0 t) p) (suc m.0)

    kept : (a : Cart) (p : ℕ) (m : Tick) → Never (At a p) (suc m.0) → Keeps s (Stand a (place p) (tick 0) m)
    kept a p m never i on same t within at = never t (omega arith) (cc)

    both : First (At o.a (c o.k)) (suc o.m.0) → First (At o.b (c 0)) (suc o.n.0) → Conflict (s.at o.a.0) (s.at o.b.0)
    both a b =
        let forth_stretch = stretch_before_other f law trips bans s keeps (forth o c) two.0 two.1 c (asked_forth f trips bans o c asked) a in
        let back_stretch = stretch_before_other f law trips bans s keeps (back o c) two.1 two.0 (turned c o.k) (asked_back f trips bans o c asked law) b in
        opposed c o.k (s.at o.a.0) (s.at o.b.0) a.at b.at forth_stretch.0 back_stretch.0 (forth_stretch.1 b.at b.holds) (back_stretch.1 a.at a.holds)

    by_first : FirstOrNever (At o.a (c o.k)) (suc o.m.0) → FirstOrNever (At o.b (c 0)) (suc o.n.0) →
        Keeps s (corridor_bans o c).0 ⊎ Keeps s (corridor_bans o c).1
    by_first (inr never) found = inl (kept o.a (c o.k) o.m never)
    by_first (inl a) (inr never) = inr (kept o.b (c 0) o.n never)
    by_first (inl a) (inl b) = absurd (free o.a.0 o.b.0 two.0 two.1 two.2 (both a b))
