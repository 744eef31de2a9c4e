-- Walks of a set's routes, and walks without one move.
use Rattle.std.specs.Prelude.{◌≡◌, ℕ, suc, ◌<◌, ◌≤◌, ◌↔◌, List, ◌∷◌, length, All, ◌≢◌, refl}
use Rattle.std.proofs.Common.{sym, arith}
use Rattle.std.proofs.lemmas.List.Elements.{All-cons, All-head, All-tail}
use Rattle.floor.specs.Floor.{Floor}
use Rattle.floor.specs.declared.Cart.{Cart}
use Rattle.floor.specs.declared.Place.{Place}
use Rattle.floor.specs.declared.Tick.{Tick}
use Rattle.motion.specs.Bans.{Bears, KeepsAll}
use Rattle.motion.specs.Routes.{RouteSet}
use Rattle.motion.specs.Stands.{Bars, BarsMove, Walk}
use Rattle.motion.specs.declared.ban.Ban.{Ban}
use Rattle.motion.specs.declared.ban.Ban.TheVariants.{Move}
use Rattle.motion.specs.declared.trip.Trip.{Trip}
use Rattle.search.proofs.Tells.{keeps_be, keeps_go}
use Rattle.splits.specs.Corridor.{WalkWithout, tick}

module _ (f : Floor) (trips : List Trip) (bans : List Ban) where
  -- the routes of a set that keeps the bans are walks under them
  pub route_walk : (s : RouteSet f trips) → KeepsAll s bans → (a : ℕ) → a < length trips → (u p : ℕ) → s.at a u ≡ p → Walk f trips bans a u p
  route_walk s keeps a on u p ends = record {
    at = s.at a;
    begins = (s.route a on).begins;
    ends = ends;
    steps = λ t h. (s.route a on).steps t;
    stands = λ t h. keeps_be trips a bans (s.at a) (s.len a) bears t;
    moves = λ t h. keeps_go trips a bans (s.at a) (s.len a) bears t;
  }
    where
      bears : All (Bears trips a (s.at a) (s.len a)) bans
      bears = λ k d lt. keeps k d lt a on

  -- and without a move that they do not make, walks without it
  pub route_walk_without : (s : RouteSet f trips) → KeepsAll s bans → (a : ℕ) → a < length trips → (from to u p : ℕ) → s.at a u ≡ p →
      ((t : ℕ) → t < u → s.at a t ≡ from → s.at a (suc t) ≢ to) → WalkWithout f trips bans a from to u p
  unfolding route_walk
  route_walk_without s keeps a on from to u p ends never = record { walk = route_walk s keeps a on u p ends; never = never }

  -- a walk under one move ban more, up to the ban's last tick, is a walk without that move
  pub walks_under_the_ban : (a : Cart) (from to : Place) (m : Tick) (u p : ℕ) → u ≤ m.0 →
      Walk f trips (Move a from to (tick 0) m ∷ bans) a.0 u p ↔ WalkWithout f trips bans a.0 from.0 to.0 u p
  walks_under_the_ban a from to m u p within = (
    λ w. record {
      walk = record {
        at = w.at;
        begins = w.begins;
        ends = w.ends;
        steps = w.steps;
        stands = λ t h. All-tail (λ b. Bars trips a.0 t (w.at t) b → ⊥) (Move a from to (tick 0) m) bans (w.stands t h);
        moves = λ t h. All-tail (λ b. BarsMove a.0 (suc t) (w.at t) (w.at (suc t)) b → ⊥) (Move a from to (tick 0) m) bans (w.moves t h);
      };
      never = λ t h leaves comes. All-head (λ b. BarsMove a.0 (suc t) (w.at t) (w.at (suc t)) b → ⊥) (Move a from to (tick 0) m) bans (w.moves t h) (refl, (omega arith, omega arith), sym leaves, sym comes);
    },
    λ w. record {
      at = w.walk.at;
      begins = w.walk.begins;
      ends = w.walk.ends;
      steps = w.walk.steps;
      stands = λ t h. All-cons (λ b. Bars trips a.0 t (w.walk.at t) b → ⊥) (Move a from to (tick 0) m) bans (λ bar. bar) (w.walk.stands t h);
      moves = λ t h. All-cons (λ b. BarsMove a.0 (suc t) (w.walk.at t) (w.walk.at (suc t)) b → ⊥) (Move a from to (tick 0) m) bans (λ bar. w.never t h (sym bar.2) (sym bar.3)) (w.walk.moves t h);
    },
  )
