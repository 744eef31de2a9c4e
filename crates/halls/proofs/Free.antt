-- The free cells of a grid, counted by their places.
use Rattle.std.proofs.Common.{◌≡◌, ℕ, Bool, List, [], ◌∷◌, length, map, filter, count_by, refl, sym, ap, ◌∙◌, arith}
use Rattle.std.specs.List.{range_with_len}
use Rattle.std.proofs.lemmas.List.FromFn.{fill_by_all}
use Rattle.std.proofs.lemmas.List.Sums.{length-filter}
use Rattle.maps.specs.Grids.{Grid, free_at}

length_filter_map : {X Y : Type 0} (f : X → Y) (p : Y → Bool) (xs : List X) → length (filter p (map f xs)) ≡ length (filter (λ x. p (f x)) xs)
length_filter_map f p [] = refl
length_filter_map f p (x ∷ xs) = let rest = length_filter_map f p xs in grind arith

pub free_cells : (g : Grid) (n : ℕ) → length g.free ≡ n → length (filter (free_at g) (range_with_len 0 n)) ≡ count_by (λ free. free) g.free
free_cells g n long =
    sym (length_filter_map (free_at g) (λ free. free) (range_with_len 0 n))
    ∙ length-filter (λ free. free) (map (free_at g) (range_with_len 0 n))
    ∙ ap (count_by (λ free. free)) (sym (fill_by_all (free_at g) g.free n _ long (λ k lt. refl)))
