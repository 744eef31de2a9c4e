-- The floor that a grid means: neighbours are free cells side by side, and the floor is lawful.
use Rattle.std.specs.Prelude.{◌≡◌, ℕ, ◌+◌, ◌-◌, ◌*◌, ◌%◌, ◌<◌, ◌≤◌, true, false, [], ◌++◌, length, All, Contains, ◌==◌, ◌≢◌, nat_lt}
use Rattle.std.proofs.Common.{inl, inr, ⊎_elim, sym, arith}
use Rattle.floor.specs.Floor.{Joined, Lawful}
use Rattle.std.proofs.lemmas.Nat.{mod_below, mul-le}
use Rattle.std.proofs.lemmas.List.Elements.{All-cons, All-contains, All-nil, Contains-append_right}
use Rattle.std.proofs.lemmas.List.Kept.{AllPairs-cons, AllPairs-filter}
use Rattle.std.proofs.lemmas.List.{get_or_past}
use Rattle.std.proofs.lemmas.Bool.{both_ways, cases_lt, cond_both, eqb-false, le-ltb, ltb-false, ne_eqb}
use Rattle.maps.specs.Grids.{Grid, NeighboursAreBeside, NextTo, SideBySide, Sized, above, around, below, beside, free_at, grid_floor, left, right}
use Rattle.maps.specs.CellsLemmas.{next_from_step_right, step_down_from_sum, step_right_from_previous, step_right_to_next, sum_from_step_down}
use Rattle.maps.specs.ListsLemmas.{all_unless, cond_has, has_from_cond, has_from_kept_by, has_unless, kept_by_has, length_kept_by_most, length_unless, once_unless}
use Rattle.maps.specs.OnceLemmas.{Once, once_nil}

-- ---- the cells beside a cell

module _ (width p : ℕ) where
  -- what holds of each of them that is there
  module _ (P : ℕ → Type 0) where
    all_from_right : ((p % width + 1 ≢ width) → P (p + 1)) → P (p + width) → All P (right width p ++ below width p)
    all_from_right at_right at_below =
        all_unless (p + 1) (below width p) P _ (λ e. at_right (eqb-false (p % width + 1) width e)) (All-cons P (p + width) [] at_below (All-nil P))

    all_from_left : ((p % width ≢ 0) → P (p - 1)) → ((p % width + 1 ≢ width) → P (p + 1)) → P (p + width) → All P (left width p ++ (right width p ++ below width p))
    all_from_left at_left at_right at_below =
        all_unless (p - 1) _ P _ (λ e. at_left (eqb-false (p % width) 0 e)) (all_from_right at_right at_below)

    all_beside : (width ≤ p → P (p - width)) → ((p % width ≢ 0) → P (p - 1)) → ((p % width + 1 ≢ width) → P (p + 1)) → P (p + width) → All P (beside width p)
    all_beside at_above at_left at_right at_below =
        all_unless (p - width) _ P _ (λ e. at_above (ltb-false p width e)) (all_from_left at_left at_right at_below)

  few_beside : length (beside width p) ≤ 4
  few_beside =
      let from_above = length_unless (p - width) (left width p ++ (right width p ++ below width p)) (nat_lt p width) in
      let from_left = length_unless (p - 1) (right width p ++ below width p) (p % width == 0) in
      let from_right = length_unless (p + 1) (below width p) (p % width + 1 == width) in
      omega arith

module _ (width : ℕ) (some : 1 ≤ width) (p : ℕ) where
  beside_once : Once (beside width p)
  beside_once =
      let under = mod_below p width some in
      once_unless (p - width) _ _
      (λ e. let up = ltb-false p width e in all_from_left width p (λ y. p - width ≢ y) (λ inner is. omega arith) (λ inner is. omega arith) (λ is. omega arith))
      (once_unless (p - 1) _ _ (λ e. all_from_right width p (λ y. p - 1 ≢ y) (λ inner is. omega arith) (λ is. omega arith))
      (once_unless (p + 1) _ _ (λ e. let inner = eqb-false (p % width + 1) width e in All-cons (λ y. p + 1 ≢ y) (p + width) [] (λ is. omega arith) (All-nil (λ y. p + 1 ≢ y))) (AllPairs-cons (λ a b. a ≢ b) (p + width) [] (All-nil (λ y. p + width ≢ y)) once_nil)))

  all_side_by_side : All (SideBySide width p) (beside width p)
  all_side_by_side =
      all_beside width p (SideBySide width p)
      (λ up. let step = step_down_from_sum width some (p - width) p (omega arith) in inr (sym step.0, inr step.1))
      (λ inner. let step = step_right_from_previous width some p inner in inl (sym step.0, inr step.1))
      (λ inner. let step = step_right_to_next width some p inner in inl (step.0, inl step.1))
      (let step = step_down_from_sum width some p (p + width) (omega arith) in inr (step.0, inl step.1))

  has_beside : (q : ℕ) → SideBySide width p q → Contains (beside width p) q
  has_beside q (inl (row, inl next)) =
      let under = mod_below q width some in
      let is = next_from_step_right width p q (row, next) in
      Contains-append_right (above width p) _ q (Contains-append_right (left width p) _ q (has_unless (p + 1) (below width p) _ q (ne_eqb (p % width + 1) width (omega arith)) is))
  has_beside q (inl (row, inr next)) =
      let is = next_from_step_right width q p (sym row, next) in
      Contains-append_right (above width p) _ q (has_unless (p - 1) _ _ q (ne_eqb (p % width) 0 (omega arith)) (omega arith))
  has_beside q (inr (column, inl next)) =
      let is = sum_from_step_down width p q (column, next) in
      Contains-append_right (above width p) _ q (Contains-append_right (left width p) _ q (Contains-append_right (right width p) _ q (0, omega arith, is)))
  has_beside q (inr (column, inr next)) =
      let is = sum_from_step_down width q p (sym column, next) in
      has_unless (p - width) _ _ q (le-ltb p width (omega arith)) (omega arith)

side_by_side_back : (width p q : ℕ) → SideBySide width p q → SideBySide width q p
side_by_side_back width p q (inl (row, next)) = inl (sym row, ⊎_elim inr inl next)
side_by_side_back width p q (inr (column, next)) = inr (sym column, ⊎_elim inr inl next)

never_next_to_itself : (n : ℕ) → NextTo n n → ⊥
never_next_to_itself n (inl e) = omega arith
never_next_to_itself n (inr e) = omega arith

never_beside_itself : (width p : ℕ) → SideBySide width p p → ⊥
never_beside_itself width p (inl (row, next)) = never_next_to_itself _ next
never_beside_itself width p (inr (column, next)) = never_next_to_itself _ next

-- ---- the floor

module _ (g : Grid) (sized : Sized g) where
  pub free_is_on_floor : (p : ℕ) → free_at g p ≡ true → p < g.height * g.width
  free_is_on_floor p free =
      let filled = sized.filled in
      ⊎_elim (λ on. omega arith) (λ past. absurd (both_ways _ (get_or_past g.free p false past) free)) (cases_lt p (length g.free))

  pub neighbours_are_beside : NeighboursAreBeside g
  unfolding around
  neighbours_are_beside p q = (from_joined, to_joined)
    where
      from_joined : Joined (grid_floor g) p q → (free_at g p ≡ true) × (free_at g q ≡ true) × SideBySide g.width p q
      from_joined joined =
          let listed = has_from_cond (free_at g p) _ q joined in
          let kept = has_from_kept_by (free_at g) (beside g.width p) q listed.1 in
          (listed.0, kept.0, All-contains (SideBySide g.width p) (beside g.width p) q (all_side_by_side g.width sized.some_columns p) kept.1)

      to_joined : (free_at g p ≡ true) × (free_at g q ≡ true) × SideBySide g.width p q → Joined (grid_floor g) p q
      to_joined (free_p, free_q, side) =
          cond_has (free_at g p) _ q free_p (kept_by_has (free_at g) (beside g.width p) q free_q (has_beside g.width sized.some_columns p q side))

  few_around : (p : ℕ) → length (around g p) ≤ 4
  unfolding around
  few_around p =
      let beside_most = few_beside g.width p in
      let kept_most = length_kept_by_most (free_at g) (beside g.width p) in
      cond_both (free_at g p) _ [] (λ l. length l ≤ 4) (λ _. omega arith) (λ _. omega arith)

  around_once : (p : ℕ) → Once (around g p)
  unfolding around
  around_once p =
      cond_both (free_at g p) _ [] Once (λ _. AllPairs-filter (λ a b. a ≢ b) (free_at g) _ (beside_once g.width sized.some_columns p)) (λ _. once_nil)

  pub grid_lawful : Lawful (grid_floor g)
  grid_lawful =
      record {
        has_a_place = mul-le 1 1 _ _ sized.some_rows sized.some_columns;
        at_most_1024 = mul-le _ _ 32 32 sized.most_rows sized.most_columns;
        at_most_8_neighbours = λ p. omega (arith, few_around p);
        on_floor = λ p q j. let b = (neighbours_are_beside p q).0 j in (free_is_on_floor p b.0, free_is_on_floor q b.1);
        not_its_own = λ p j. never_beside_itself g.width p ((neighbours_are_beside p p).0 j).2;
        once = around_once;
        both_ways = λ p q j. let b = (neighbours_are_beside p q).0 j in (neighbours_are_beside q p).1 (b.1, b.0, side_by_side_back g.width p q b.2);
      }
