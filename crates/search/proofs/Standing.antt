-- Where a cart can stand: exactly at the places of the floor at which a walk of it ends, if it is there.
use Rattle.std.proofs.Common.{◌≡◌, ℕ, zero, suc, ◌<◌, ◌≤◌, true, false, List, length, Decides, sym, arith}
use Rattle.std.proofs.lemmas.Bool.Decides.{Decides-and, Decides-like, Decides-ltb}
use Rattle.floor.specs.Floor.{Floor, Lawful}
use Rattle.floor.proofs.Deciding.{decides_some_below, false_from_decides}
use Rattle.motion.specs.Stands.{Walk}
use Rattle.motion.specs.declared.trip.Trip.{Trip}
use Rattle.motion.specs.declared.ban.Ban.{Ban}
use Rattle.search.specs.Meaning.{CanStand, StandsBefore}
use Rattle.search.specs.Rows.{marked, row_at, can_stand, stands_before}
use Rattle.search.proofs.Marks.{marked_made}
use Rattle.search.proofs.Walks.{row_walks}

module _ (f : Floor) (trips : List Trip) (bans : List Ban) (a : ℕ) where
  pub marked_on_floor : (u p : ℕ) → marked (row_at f trips bans a u) p ≡ true → p < f.count
  marked_on_floor zero p m = ((marked_made _ f.count p).0 m).0
  marked_on_floor (suc u) p m = ((marked_made _ f.count p).0 m).0

  pub decides_marked : Lawful f → (u p : ℕ) → Decides (marked (row_at f trips bans a u) p) ((p < f.count) × Walk f trips bans a u p)
  decides_marked law u p =
      (λ m. let on = marked_on_floor u p m in (on, (row_walks f trips bans a law u p on).0 m), λ w. (row_walks f trips bans a law u p w.0).1 w.1)

  pub decides_can_stand : Lawful f → (u p : ℕ) → Decides (can_stand f trips bans a u p) (CanStand f trips bans a u p)
  decides_can_stand law u p =
      Decides-like _ (λ h. (h.0, h.1.0, h.1.1)) (λ h. (h.0, (h.1, h.2))) (Decides-and _ _ (Decides-ltb a (length trips)) (decides_marked law u p))

  pub decides_stands_before : Lawful f → (n p : ℕ) → Decides (stands_before f trips bans a n p) (StandsBefore f trips bans a n p)
  decides_stands_before law n p = decides_some_below _ (λ u. CanStand f trips bans a u p) (λ u. decides_can_stand law u p) n

  pub gone_never_before : Lawful f → length trips ≤ a → (n p : ℕ) → false ≡ stands_before f trips bans a n p
  gone_never_before law gone n p = sym (false_from_decides _ (decides_stands_before law n p) (λ h. let there = h.2.0 in omega arith))
