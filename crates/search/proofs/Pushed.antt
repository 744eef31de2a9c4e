-- On a lawful floor pushing reaches what pulling does.
use Rattle.std.proofs.Common.{◌≡◌, ℕ, ◌<◌, Bool, true, List, Decides}
use Rattle.std.proofs.lemmas.Bool.Decides.{same_from_decides, Decides-and, Decides-like}
use Rattle.floor.specs.Floor.{Floor, Lawful}
use Rattle.floor.proofs.Deciding.{decides_itself, decides_and3, decides_some_below}
use Rattle.motion.proofs.Stepping.{decides_step}
use Rattle.motion.specs.declared.trip.Trip.{Trip}
use Rattle.motion.specs.declared.ban.Ban.{Ban}
use Rattle.search.specs.Rows.{marked, reached}
use Rattle.search.specs.Pushes.{can_step, pushed}
use Rattle.search.proofs.Tells.{decides_can_be, decides_can_go}
use Rattle.search.proofs.Walks.{CanStep, decides_reached, step_from_floor}

module _ (f : Floor) (trips : List Trip) (bans : List Ban) (a t : ℕ) (row : List Bool) where
  decides_can_step : (p q : ℕ) → Decides (can_step f trips bans a t p q) (CanStep f trips bans a t p q)
  decides_can_step p q =
      decides_and3 _ _ _ (decides_step f p q) (decides_can_go trips a bans t p q) (decides_can_be trips a bans t q)

  decides_pushed : (n q : ℕ) → Decides (pushed f trips bans a t row n q) ((p : ℕ) × (p < n) × ((marked row p ≡ true) × CanStep f trips bans a t p q))
  decides_pushed n q =
      decides_some_below _ (λ p. (marked row p ≡ true) × CanStep f trips bans a t p q) (λ p. Decides-and _ _ (decides_itself (marked row p)) (decides_can_step p q)) n

  pub pushed_all : Lawful f → (q : ℕ) → q < f.count → pushed f trips bans a t row f.count q ≡ reached f trips bans a t row q
  pushed_all law q on =
      same_from_decides _ _
      (Decides-like _ (λ h. (h.0, h.2.0, h.2.1)) (λ h. (h.0, step_from_floor f trips bans a law h.0 q on h.2.0, (h.1, h.2))) (decides_pushed f.count q))
      (decides_reached f trips bans a law t row q)
