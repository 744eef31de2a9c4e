-- When each verdict stands, and with which number. `Shows a ps` says that the places are shown as the route of the cart a.
use Rattle.std.specs.Prelude.{◌≡◌, ℕ, ◌<◌, ◌≤◌, ◌↔◌, List, length, Contains, ◌≢◌}
use Rattle.std.specs.List.{AllPairs}
use Rattle.motion.specs.Listed.{steps}
use Rattle.motion.specs.Routes.{total}
use Rattle.tally.specs.Openings.{BarredBy, Opening, Openable, carts}
use Rattle.tally.specs.Tallies.{Tally}
use Rattle.tally.specs.declared.refusal.Refusal.{Refusal}
use Rattle.tally.specs.declared.standing.Verdict.{Verdict}
use Rattle.tally.specs.declared.standing.Verdict.TheVariants.{Barred, Open, Unshown, OtherSum, Least}

-- just so many of the n carts have no route: they are listed, none twice
pub record CartsUnshown (n : ℕ) (Shows : ℕ → List ℕ → Type 0) (count : ℕ) : Type 0 where
  pub which : List ℕ
  pub none_twice : AllPairs (λ a b. a ≢ b) which
  pub exactly : (a : ℕ) → Contains which a ↔ (a < n) × ((ps : List ℕ) → Shows a ps → ⊥)
  pub counted : length which ≡ count

-- each of the n carts has a route, and their lengths sum to this
pub record RoutesSumTo (n : ℕ) (Shows : ℕ → List ℕ → Type 0) (sum : ℕ) : Type 0 where
  pub routes : ℕ → List ℕ
  pub are_shown : (a : ℕ) → a < n → Shows a (routes a)
  pub sums : total n (λ a. steps (routes a)) ≡ sum

-- the verdict on a check with so many open branches and these routes
pub data StandsAs (o : Opening) (branches : ℕ) (Shows : ℕ → List ℕ → Type 0) : Verdict → Type 0 where
  barred : {e : Refusal} → BarredBy o e → StandsAs o branches Shows (Barred e)
  still_open : Openable o → 1 ≤ branches → StandsAs o branches Shows (Open branches)
  unshown : {n : ℕ} → Openable o → branches ≡ 0 → 1 ≤ n → CartsUnshown (carts o) Shows n → StandsAs o branches Shows (Unshown n)
  other_sum : {s : ℕ} → Openable o → branches ≡ 0 → RoutesSumTo (carts o) Shows s → (s ≢ o.claim) → StandsAs o branches Shows (OtherSum s)
  least : Openable o → branches ≡ 0 → RoutesSumTo (carts o) Shows o.claim → StandsAs o branches Shows (Least o.claim)

-- the tally has the places as the route of the cart
abbrev pub ShownIn : Tally → ℕ → List ℕ → Type 0
ShownIn t a ps = Contains t.shown (record { cart = a; places = ps })
