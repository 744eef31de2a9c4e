-- The row and the column of a cell, p / width and p % width, and a step from one cell to the next.
use Rattle.std.specs.Prelude.{◌≡◌, ℕ, ◌+◌, ◌-◌, ◌*◌, ◌/◌, ◌%◌, ◌<◌, ◌≤◌, ◌≢◌}
use Rattle.std.proofs.Common.{ap, add-mul, one-mul, arith}
use Rattle.std.proofs.Math.Nat.{add-div_right, add-mod_right}
use Rattle.std.proofs.lemmas.Nat.{div-add-mod', div-mul-add, mod-mul-add, mod_below}

module _ (width : ℕ) where
  -- from p to q, in one row
  abbrev pub StepRight : ℕ → ℕ → Type 0
  StepRight p q = (p / width ≡ q / width) × (p % width + 1 ≡ q % width)

  -- from p to q, in one column
  abbrev pub StepDown : ℕ → ℕ → Type 0
  StepDown p q = (p % width ≡ q % width) × (p / width + 1 ≡ q / width)

  pub next_from_step_right : (p q : ℕ) → StepRight p q → p + 1 ≡ q
  next_from_step_right p q step =
      let row = ap (λ n. n * width) step.0 in
      omega (arith, step.1, div-add-mod' p width, div-add-mod' q width)

  pub sum_from_step_down : (p q : ℕ) → StepDown p q → p + width ≡ q
  sum_from_step_down p q step =
      let row = ap (λ n. n * width) step.1 in
      omega (arith, step.0, div-add-mod' p width, div-add-mod' q width, add-mul (p / width) 1 width, one-mul width)

  step_right_at : (p q row column : ℕ) → p ≡ row * width + column → q ≡ row * width + (column + 1) → column + 1 < width → StepRight p q
  step_right_at p q row column from to within =
      let row_from = div-mul-add row width column (omega arith) in
      let row_to = div-mul-add row width (column + 1) within in
      let column_from = mod-mul-add row width column (omega arith) in
      let column_to = mod-mul-add row width (column + 1) within in
      (cc, cc)

  module _ (some : 1 ≤ width) where
    pub step_right_to_next : (p : ℕ) → (p % width + 1 ≢ width) → StepRight p (p + 1)
    step_right_to_next p inner =
        let whole = div-add-mod' p width in
        let under = mod_below p width some in
        step_right_at p (p + 1) (p / width) (p % width) (omega arith) (omega arith) (omega arith)

    pub step_right_from_previous : (p : ℕ) → (p % width ≢ 0) → StepRight (p - 1) p
    step_right_from_previous p inner =
        let whole = div-add-mod' p width in
        let under = mod_below p width some in
        step_right_at (p - 1) p (p / width) (p % width - 1) (omega arith) (omega arith) (omega arith)

    pub step_down_from_sum : (p q : ℕ) → p + width ≡ q → StepDown p q
    step_down_from_sum p q is =
        let row = add-div_right p some in
        let column = add-mod_right p width in
        (cc, cc)
