-- A list of places as the route that follows it and then stays at its last place for ever.
use Rattle.std.specs.Prelude.{◌≡◌, ℕ, suc, ◌-◌, ◌<◌, ◌≤◌, min, max, Bool, not, ◌&&◌, ◌||◌, ltb, ◌↔◌, List, length, Ok, Err, Decides, All, Result, ◌==◌, nat_le, nat_lt, slice_index}
use Rattle.floor.specs.Checks.{refuse, ◌>>◌}
use Rattle.floor.specs.Floor.{Floor}
use Rattle.floor.specs.Joins.{is_joined}
use Rattle.floor.specs.Tests.{every, every_below, some_below}
use Rattle.motion.specs.Routes.{Route, Conflict}
use Rattle.motion.specs.declared.route.RouteRefusal.{RouteRefusal}
use Rattle.motion.specs.declared.route.RouteRefusal.TheVariants.{NoPlace, NoRoute}

-- ---- the meaning

-- how many steps a list of places makes
abbrev pub steps : List ℕ → ℕ
steps ps = length ps - 1

-- where a list of places is at a tick: past its last step, at its last place; no list of places at all is at place 0,
-- and no route
abbrev pub place_at : List ℕ → ℕ → ℕ
place_at ps t = slice_index ps (min t (steps ps))

-- places of the floor, at most 255 steps, that are a route as long as its steps
pub record ListedRoute (f : Floor) (start target : ℕ) (ps : List ℕ) : Type 0 where
  pub some : 1 ≤ length ps
  pub short : steps ps ≤ 255
  pub on_floor : All (λ p. p < f.count) ps
  pub route : Route f start target (place_at ps) (steps ps)

-- ---- the tests

-- a step that stays or goes to a neighbour
abbrev pub may_step : Floor → ℕ → ℕ → Bool
may_step f p q = q == p || is_joined f p q

-- the step after tick t is one that the floor has, and no wait if it is the last
abbrev pub goes_on : Floor → List ℕ → ℕ → Bool
goes_on f ps t = may_step f (place_at ps t) (place_at ps (suc t)) && (nat_lt (suc t) (steps ps) || not (place_at ps t == place_at ps (suc t)))

-- a route of at most 255 steps from the start to the target
abbrev pub is_route : Floor → ℕ → ℕ → List ℕ → Bool
is_route f start target ps = nat_le 1 (length ps) && nat_le (steps ps) 255 && every_below (goes_on f ps) (steps ps) && place_at ps 0 == start && place_at ps (steps ps) == target

-- the two tests of a list of places, in their order
unfoldable pub route_check : Floor → ℕ → ℕ → List ℕ → Result (Unit {0}) RouteRefusal
route_check f start target ps = do
  refuse (not (every (λ p. ltb p f.count) ps)) NoPlace
  refuse (not (is_route f start target ps)) NoRoute
  Ok tt

-- at one place at tick t, or across one connection in opposite directions in the step after it
abbrev pub clash : (ℕ → ℕ) → (ℕ → ℕ) → ℕ → Bool
clash r s t = r t == s t || (r t == s (suc t) && r (suc t) == s t)

-- a clash before both lists have ended; no list at all conflicts with nothing
unfoldable pub in_conflict : List ℕ → List ℕ → Bool
in_conflict ps qs = nat_le 1 (length ps) && nat_le 1 (length qs) && some_below (clash (place_at ps) (place_at qs)) (max (length ps) (length qs))

-- ---- what the tests tell

-- each answer of the route test, and when it is given
pub record RouteTestTells (f : Floor) (start target : ℕ) (ps : List ℕ) : Type 0 where
  pub taken : (route_check f start target ps ≡ Ok tt) ↔ ListedRoute f start target ps
  pub off_floor : (route_check f start target ps ≡ Err NoPlace) ↔ (All (λ p. p < f.count) ps → ⊥)
  pub no_route : (route_check f start target ps ≡ Err NoRoute) ↔ All (λ p. p < f.count) ps × (ListedRoute f start target ps → ⊥)

-- two lists conflict exactly when the routes that they stand for do
abbrev pub ConflictTestTells : List ℕ → List ℕ → Type 0
ConflictTestTells ps qs = 1 ≤ length ps → 1 ≤ length qs → Decides (in_conflict ps qs) (Conflict (place_at ps) (place_at qs))
