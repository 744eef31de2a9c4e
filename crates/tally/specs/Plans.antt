-- Honest plans: an honest tree with routes that sum to the claim, and the calls that they come to.
use Rattle.std.specs.Prelude.{◌≡◌, ℕ, ◌<◌, ◌≤◌, List, [], ◌∷◌, map, All, Contains, ◌≢◌}
use Rattle.std.specs.List.{AllPairs}
use Rattle.motion.specs.Listed.{place_at, steps}
use Rattle.motion.specs.Routes.{Conflict, total}
use Rattle.tally.specs.Calls.{Call, show}
use Rattle.tally.specs.Openings.{Opening, RouteOf, carts}
use Rattle.tally.specs.Trees.{Honest, Tree, calls_of, depth, forks_in}

-- one route for each cart, free of conflict, summing to the claim
pub record ClaimedRoutes (o : Opening) (routes : ℕ → List ℕ) : Type 0 where
  pub are_routes : (a : ℕ) → a < carts o → RouteOf o a (routes a)
  pub free : (a b : ℕ) → a < carts o → b < carts o → (a ≢ b) → Conflict (place_at (routes a)) (place_at (routes b)) → ⊥
  pub sum : total (carts o) (λ a. steps (routes a)) ≡ o.claim

-- each number below n once, and no other
pub record EachOnce (n : ℕ) (order : List ℕ) : Type 0 where
  pub below : All (λ a. a < n) order
  pub once : AllPairs (λ a b. a ≢ b) order
  pub every : (a : ℕ) → a < n → Contains order a

abbrev pub shows_of : (ℕ → List ℕ) → List ℕ → List Call
shows_of routes order = map (λ a. show a (routes a)) order

-- zs has the elements of xs and of ys, those of each in their order
pub data Merged {A : Type 0} : List A → List A → List A → Type 0 where
  none : Merged [] [] []
  from_left : {x : A} {xs ys zs : List A} → Merged xs ys zs → Merged (x ∷ xs) ys (x ∷ zs)
  from_right : {y : A} {xs ys zs : List A} → Merged xs ys zs → Merged xs (y ∷ ys) (y ∷ zs)

-- an honest tree within the limits, and its routes in some order of the carts
pub record HonestPlan (o : Opening) : Type 0 where
  pub tree : Tree
  pub honest : Honest o [] tree
  pub depth_limit : depth tree ≤ 64
  pub forks_limit : forks_in tree ≤ 1000000
  pub routes : ℕ → List ℕ
  pub claimed : ClaimedRoutes o routes
  pub order : List ℕ
  pub each_once : EachOnce (carts o) order

-- the calls of the tree, and among them the shows of the routes
abbrev pub CallsOf : {o : Opening} → HonestPlan o → List Call → Type 0
CallsOf plan calls = Merged (calls_of plan.tree) (shows_of plan.routes plan.order) calls
