-- The cells beside a cell, side by side.
use Rattle.std.proofs.Common.{◌≡◌, ℕ, Bool, List, [], ◌++◌, filter}
use Rattle.std.proofs.lemmas.List.Elements.{filter-append}
use Rattle.std.proofs.lemmas.List.{append_assoc, append-nil}
use Rattle.maps.specs.Grids.{above, below, beside, left, right}

pub kept_beside : (test : ℕ → Bool) (width p : ℕ) → filter test (beside width p) ≡ ((filter test (above width p) ++ filter test (left width p)) ++ filter test (right width p)) ++ filter test (below width p)
kept_beside test width p = simp (filter-append, append_assoc)

pub none_more : (xs : List ℕ) → xs ++ [] ≡ xs
none_more xs = append-nil xs
