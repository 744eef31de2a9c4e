-- The tally of a check, and what a call that is taken makes of it.
use Rattle.std.specs.Prelude.{ℕ, suc, Bool, cond, List, [], ◌∷◌, ◌++◌, Some, None, Option, ◌==◌, nat_eq}
use Rattle.floor.specs.Tests.{some}
use Rattle.motion.specs.declared.ban.Ban.{Ban}

-- the bans of a branch, and the number of splits above it
pub record Branch : Type 0 where
  pub bans : List Ban
  pub depth : ℕ

-- the places shown as the route of a cart
pub record Shown : Type 0 where
  pub cart : ℕ
  pub places : List ℕ

-- the open branches, the current one first; the routes shown, in their order; the splits and the closings taken
pub record Tally : Type 0 where
  pub branches : List Branch
  pub shown : List Shown
  pub splits : ℕ
  pub closings : ℕ

abbrev pub at_start : Tally
at_start = record { branches = record { bans = []; depth = 0 } ∷ []; shown = []; splits = 0; closings = 0 }

-- ---- what is shown

abbrev pub is_shown : List Shown → ℕ → Bool
is_shown shown a = some (λ s. nat_eq s.cart a) shown

abbrev pub places_of : List Shown → ℕ → Option (List ℕ)
places_of [] a = None
places_of (s ∷ shown) a = cond (s.cart == a) (Some s.places) (places_of shown a)

abbrev pub shown_of : Tally → ℕ → Option (List ℕ)
shown_of t a = places_of t.shown a

-- ---- what a call that is taken does

abbrev pub with_route : Tally → ℕ → List ℕ → Tally
with_route t a ps = record { branches = t.branches; shown = t.shown ++ (record { cart = a; places = ps } ∷ []); splits = t.splits; closings = t.closings }

-- one ban and one split more
abbrev pub under : Branch → Ban → Branch
under b x = record { bans = b.bans ++ (x ∷ []); depth = suc b.depth }

abbrev pub with_split : Tally → Branch → List Branch → Ban → Ban → Tally
with_split t b rest left right =
    record { branches = under b left ∷ under b right ∷ rest; shown = t.shown; splits = suc t.splits; closings = t.closings }

abbrev pub with_closing : Tally → List Branch → Tally
with_closing t rest = record { branches = rest; shown = t.shown; splits = t.splits; closings = suc t.closings }
