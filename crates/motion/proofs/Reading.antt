-- A list of places as the code reads it.
use Rattle.std.proofs.Common.{◌≡◌, ℕ, zero, suc, ◌+◌, ◌-◌, ◌<◌, min, max, not, ◌&&◌, ◌||◌, eqb, ltb, leb, List, [], ◌∷◌, length, get_or, refl, ap, ◌∙◌, arith}
use Rattle.floor.specs.Floor.{Floor}
use Rattle.floor.specs.Tests.{every_below, some_below}
use Rattle.floor.specs.declared.Place.{Place}
use Rattle.std.proofs.lemmas.List.{length-map}
use Rattle.std.proofs.lemmas.Bool.Decides.{nat_tests}
use Rattle.floor.specs.Numbers.{numbers}
use Rattle.motion.specs.Listed.{clash, goes_on, in_conflict, is_route, may_step, place_at, steps}

abbrev pub number_at : List Place → ℕ → ℕ
number_at xs i = (get_or xs i (record { 0 = 0 })).0

pub number_read : (xs : List Place) (i : ℕ) → number_at xs i ≡ get_or (numbers xs) i 0
number_read [] i = refl
number_read (x ∷ xs) zero = refl
number_read (x ∷ xs) (suc i) = number_read xs i

pub place_read : (xs : List Place) (i t : ℕ) → i ≡ min t (length xs - 1) → number_at xs i ≡ place_at (numbers xs) t
place_read xs i t is = number_read xs i ∙ ap (λ j. get_or (numbers xs) j 0) (omega (arith, length-map xs (λ p. p.0)))

pub step_read : (f : Floor) (xs : List Place) (t : ℕ) → t + 1 < length xs →
    goes_on f (numbers xs) t ≡ (may_step f (number_at xs t) (number_at xs (t + 1)) && (ltb (t + 2) (length xs) || not (eqb (number_at xs t) (number_at xs (t + 1)))))
step_read f xs t within =
    let from = place_read xs t t (omega arith) in
    let to = place_read xs (t + 1) (suc t) (omega arith) in
    let more : ltb (suc t) (steps (numbers xs)) ≡ ltb (t + 2) (length xs) = let long = length-map xs (λ p. p.0) in grind (arith, nat_tests) in
    cc

pub route_read : (f : Floor) (start target : ℕ) (xs : List Place) →
    is_route f start target (numbers xs)
    ≡ (leb 1 (length xs) && leb (length xs) 256 && every_below (goes_on f (numbers xs)) (length xs - 1) && eqb (number_at xs 0) start && eqb (number_at xs (length xs - 1)) target)
route_read f start target xs =
    let long = length-map xs (λ p. p.0) in
    let short : leb (steps (numbers xs)) 255 ≡ leb (length xs) 256 = grind (arith, nat_tests) in
    let first = place_read xs 0 0 (omega arith) in
    let last = place_read xs (length xs - 1) (steps (numbers xs)) (omega arith) in
    cc

pub conflict_read : (xs ys : List Place) →
    in_conflict (numbers xs) (numbers ys) ≡ (leb 1 (length xs) && leb 1 (length ys) && some_below (clash (place_at (numbers xs)) (place_at (numbers ys))) (max (length xs) (length ys)))
unfolding in_conflict
conflict_read xs ys = let long_x = length-map xs (λ p. p.0) in let long_y = length-map ys (λ p. p.0) in cc
