-- The calls on a check, and when one is taken.
use Rattle.std.specs.Prelude.{◌≡◌, ℕ, ◌<◌, true, List, ◌∷◌, take, Some, Ok, All, ◌≢◌}
use Rattle.motion.specs.Listed.{place_at}
use Rattle.motion.specs.Routes.{Conflict}
use Rattle.motion.specs.Stands.{Cheaper}
use Rattle.motion.specs.declared.ban.Ban.{Ban}
use Rattle.tally.specs.Openings.{Opening, RouteOf, carts}
use Rattle.tally.specs.Tallies.{Branch, Shown, Tally, with_closing, with_route, with_split}

-- show the places as the route of a cart; split the current branch by a letter and the bytes behind it; close the
-- current branch
pub data Call : Type 0 where
  show : ℕ → List ℕ → Call
  split : ℕ → List ℕ → Call
  close : Call

-- ---- when a call is taken

-- the cart a has no route yet
abbrev pub Routeless : List Shown → ℕ → Type 0
Routeless shown a = All (λ s. s.cart ≢ a) shown

-- the places conflict with no route shown
abbrev pub FreeOf : List Shown → List ℕ → Type 0
FreeOf shown ps = All (λ s. Conflict (place_at ps) (place_at s.places) → ⊥) shown

-- the places are a route of the cart a, which has none yet, and conflict with no route shown
pub record Showable (o : Opening) (shown : List Shown) (a : ℕ) (ps : List ℕ) : Type 0 where
  pub cart : a < carts o
  pub new : Routeless shown a
  pub route : RouteOf o a ps
  pub free : FreeOf shown ps

-- on a branch with these bans the letter, with as many of the bytes as it takes, gives a left ban and a right ban
pub record Gives (o : Opening) (bans : List Ban) (letter : ℕ) (bytes : List ℕ) (left right : Ban) : Type 0 where
  pub width : ℕ
  pub known : o.rules.knows letter ≡ true
  pub whole : o.rules.width letter bytes ≡ Some width
  pub sides : o.rules.sides o.floor o.trips bans letter (take width bytes) ≡ Ok (left, right)

-- no set that keeps the bans sums below the claim
abbrev pub Closable : Opening → List Ban → Type 0
Closable o bans = Cheaper o.floor o.trips bans o.claim → ⊥

-- the call is taken, and leads to the tally
pub data Takes (o : Opening) (t : Tally) : Call → Tally → Type 0 where
  by_show : {a : ℕ} {ps : List ℕ} → Showable o t.shown a ps → Takes o t (show a ps) (with_route t a ps)
  by_split : {b : Branch} {rest : List Branch} {letter : ℕ} {bytes : List ℕ} {left right : Ban} → t.branches ≡ b ∷ rest → b.depth < 64 → t.splits < 1000000
      → Gives o b.bans letter bytes left right → Takes o t (split letter bytes) (with_split t b rest left right)
  by_close : {b : Branch} {rest : List Branch} → t.branches ≡ b ∷ rest → Closable o b.bans → Takes o t close (with_closing t rest)
