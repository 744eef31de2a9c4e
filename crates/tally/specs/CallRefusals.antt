-- When a call is refused: for the first of its conditions that fails, while those before it hold.
use Rattle.std.specs.Prelude.{◌≡◌, ℕ, ◌<◌, ◌≤◌, true, false, ◌⊎◌, List, [], ◌∷◌, take, Some, None, Err, All}
use Rattle.motion.specs.Stands.{Cheaper}
use Rattle.splits.specs.declared.refusal.SplitRefusal.{SplitRefusal}
use Rattle.tally.specs.Calls.{Call, FreeOf, Routeless, show, split, close}
use Rattle.tally.specs.Openings.{BarredBy, Opening, Openable, RouteOf, carts}
use Rattle.tally.specs.Refusals.{from_rule}
use Rattle.tally.specs.Tallies.{Branch, Shown, Tally}
use Rattle.tally.specs.declared.refusal.Refusal.{Refusal}
use Rattle.tally.specs.declared.refusal.Refusal.TheVariants.{NoCart, NoPlace, Shown as HasRoute, BadRoute, InConflict, NothingOpen, Full, Letter, CutShort, CheaperSet}

pub data ShowFails (o : Opening) (shown : List Shown) (a : ℕ) (ps : List ℕ) : Refusal → Type 0 where
  unknown_cart : carts o ≤ a → ShowFails o shown a ps NoCart
  has_route : a < carts o → (Routeless shown a → ⊥) → ShowFails o shown a ps HasRoute
  off_floor : a < carts o → Routeless shown a → (All (λ p. p < o.floor.count) ps → ⊥) → ShowFails o shown a ps NoPlace
  no_route : a < carts o → Routeless shown a → All (λ p. p < o.floor.count) ps → (RouteOf o a ps → ⊥) → ShowFails o shown a ps BadRoute
  in_conflict : a < carts o → Routeless shown a → RouteOf o a ps → (FreeOf shown ps → ⊥) → ShowFails o shown a ps InConflict

pub data SplitFails (o : Opening) (t : Tally) (letter : ℕ) (bytes : List ℕ) : Refusal → Type 0 where
  none_open : t.branches ≡ [] → SplitFails o t letter bytes NothingOpen
  full : {b : Branch} {rest : List Branch} → t.branches ≡ b ∷ rest → (64 ≤ b.depth) ⊎ (1000000 ≤ t.splits) → SplitFails o t letter bytes Full
  unknown_letter : {b : Branch} {rest : List Branch} → t.branches ≡ b ∷ rest → b.depth < 64 → t.splits < 1000000
      → o.rules.knows letter ≡ false → SplitFails o t letter bytes Letter
  operands_cut : {b : Branch} {rest : List Branch} → t.branches ≡ b ∷ rest → b.depth < 64 → t.splits < 1000000
      → o.rules.knows letter ≡ true → o.rules.width letter bytes ≡ None → SplitFails o t letter bytes CutShort
  by_rule : {b : Branch} {rest : List Branch} {n : ℕ} {e : SplitRefusal} → t.branches ≡ b ∷ rest → b.depth < 64 → t.splits < 1000000
      → o.rules.knows letter ≡ true → o.rules.width letter bytes ≡ Some n → o.rules.sides o.floor o.trips b.bans letter (take n bytes) ≡ Err e
      → SplitFails o t letter bytes (from_rule e)

pub data CloseFails (o : Opening) (t : Tally) : Refusal → Type 0 where
  none_open : t.branches ≡ [] → CloseFails o t NothingOpen
  cheaper_set : {b : Branch} {rest : List Branch} → t.branches ≡ b ∷ rest → Cheaper o.floor o.trips b.bans o.claim → CloseFails o t CheaperSet

abbrev pub Fails : Opening → Tally → Call → Refusal → Type 0
Fails o t (show a ps) e = ShowFails o t.shown a ps e
Fails o t (split letter bytes) e = SplitFails o t letter bytes e
Fails o t close e = CloseFails o t e

-- on a barred check every call is refused for what bars it
pub data RefusedBy (o : Opening) (t : Tally) (c : Call) (e : Refusal) : Type 0 where
  by_opening : BarredBy o e → RefusedBy o t c e
  by_call : Openable o → Fails o t c e → RefusedBy o t c e
