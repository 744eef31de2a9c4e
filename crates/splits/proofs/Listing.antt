-- The places of a corridor as the code has them, in a list.
use Rattle.std.proofs.Common.{◌≡◌, ℕ, zero, suc, pred, ◌+◌, ◌-◌, ◌<◌, ◌≤◌, Bool, true, false, not, ◌&&◌, ◌||◌, nat_eq, List, [], ◌∷◌, ◌++◌, length, get_or, take, drop, set, Some, None, Option, unwrap_or, ◌≢◌, sym, refl, ap, ◌∙◌, ap₂, zero-add, arith, cond}
use Rattle.std.specs.List.{AllPairs, list_any, list_all, find, enumerate_from}
use Rattle.std.specs.Option.{option_map}
use Rattle.std.proofs.lemmas.Bool.Decides.{nat_tests}
use Rattle.std.proofs.lemmas.Cmp.{nat_eq_equiv}
use Rattle.std.proofs.lemmas.List.FromFn.{get_or-enumerate_from, length-enumerate_from}
use Rattle.std.proofs.lemmas.List.{get_or-take, length-set, length-take-le, take_more_set, map-append, append_assoc}
use Rattle.floor.specs.Floor.{Floor}
use Rattle.floor.specs.Tests.{every_below}
use Rattle.floor.proofs.Deciding.{every_by_number}
use Rattle.floor.specs.declared.Place.{Place}
use Rattle.floor.specs.Numbers.{numbers}
use Rattle.splits.specs.Corridor.{place}
use Rattle.splits.specs.CorridorTests.{along, listed_at, onward, is_new, all_differ}

pub listed_place : (ps : List Place) (i : ℕ) → listed_at (numbers ps) i ≡ (get_or ps i (place 0)).0
listed_place [] i = refl
listed_place (p ∷ ps) zero = refl
listed_place (p ∷ ps) (suc i) = listed_place ps i

-- ---- a test of each element of a list, as a test of each number below a bound

pub every_taken : {A : Type 0} (Q : A → Bool) (p : ℕ → Bool) (d : A) (xs : List A) (n : ℕ) → n ≤ length xs →
    ((i : ℕ) → i < n → p i ≡ Q (get_or xs i d)) → list_all Q (take n xs) ≡ every_below p n
every_taken Q p d xs n short same =
    let few = length-take-le n xs short in
    every_by_number Q p (take n xs) d (λ i lt. ap Q (get_or-take n xs i d (omega arith)) ∙ sym (same i (omega arith))) ∙ ap (every_below p) few

every_numbered : {A : Type 0} (Q : ℕ × A → Bool) (p : ℕ → Bool) (d : A) (xs : List A) →
    ((i : ℕ) → i < length xs → p i ≡ Q (i, get_or xs i d)) → list_all Q (enumerate_from 0 xs) ≡ every_below p (length xs)
every_numbered Q p d xs same =
    every_by_number Q p (enumerate_from 0 xs) (0, d) (λ i lt. ap Q (get_or-enumerate_from 0 xs i (0, d) (omega (arith, many)) ∙ ap (λ k. (k, get_or xs i d)) (zero-add i)) ∙ sym (same i (omega (arith, many)))) ∙ ap (every_below p) many
  where
    many : length (enumerate_from 0 xs) ≡ length xs
    many = length-enumerate_from 0 xs

not_or : (a b c : Bool) → not b ≡ c → not (a || b) ≡ (not a && c)
not_or true b c e = refl
not_or false b c e = e

none_all : {A : Type 0} (Q : A → Bool) (xs : List A) → not (list_any Q xs) ≡ list_all (λ x. not (Q x)) xs
none_all Q [] = refl
none_all Q (x ∷ xs) = not_or (Q x) _ _ (none_all Q xs)

-- ---- the tests of a corridor's places

-- the inner places come after the first
pub every_inner : (Q : Place → Bool) (R : ℕ → Bool) → ((p : Place) → Q p ≡ R p.0) → (ps : List Place) (k : ℕ) → 1 ≤ k → k ≤ length ps →
    list_all Q (take (k - 1) (drop 1 ps)) ≡ every_below (λ i. R (listed_at (numbers ps) (suc i))) (pred k)
every_inner Q R reads ps zero some short = absurd (omega arith)
every_inner Q R reads [] (suc k) some short = absurd (omega arith)
every_inner Q R reads (p ∷ ps) (suc k) some short =
    let e : suc k - 1 ≡ k = omega arith in
    rw e (every_taken Q (λ i. R (listed_at (numbers ps) i)) (place 0) ps k (omega arith) (λ i h. ap R (listed_place ps i) ∙ sym (reads (get_or ps i (place 0)))))

pub not_inner : (start : ℕ) (ps : List Place) (k : ℕ) → 1 ≤ k → k ≤ length ps →
    not (list_any (λ p. nat_eq p.0 start) (take (k - 1) (drop 1 ps))) ≡ every_below (λ i. not (nat_eq start (listed_at (numbers ps) (suc i)))) (pred k)
not_inner start ps k some short =
    none_all (λ p. nat_eq p.0 start) (take (k - 1) (drop 1 ps)) ∙
    every_inner (λ p. not (nat_eq p.0 start)) (λ p. not (nat_eq start p)) (λ p. ap not (nat_eq_equiv.symm p.0 start)) ps k some short

-- the first n places differ where each is none of those before it
pub all_new : (ps : List Place) (n : ℕ) → n ≤ length ps →
    list_all (λ e. not (list_any (λ y. nat_eq y.0 e.1.0) (take e.0 (take n ps)))) (enumerate_from 0 (take n ps)) ≡ all_differ (listed_at (numbers ps)) n
all_new ps n short =
    every_numbered (λ e. not (list_any (λ y. nat_eq y.0 e.1.0) (take e.0 xs))) (is_new (listed_at (numbers ps))) (place 0) xs new ∙
    ap (all_differ (listed_at (numbers ps))) (length-take-le n ps short)
  where
    xs : List Place
    xs = take n ps

    at : (i : ℕ) → i < length xs → listed_at (numbers ps) i ≡ (get_or xs i (place 0)).0
    at i h = listed_place ps i ∙ ap (λ p. p.0) (sym (get_or-take n ps i (place 0) (omega (arith, length-take-le n ps short))))

    new : (i : ℕ) → i < length xs → is_new (listed_at (numbers ps)) i ≡ not (list_any (λ y. nat_eq y.0 (get_or xs i (place 0)).0) (take i xs))
    new i h =
        sym (none_all (λ y. nat_eq y.0 (get_or xs i (place 0)).0) (take i xs) ∙
        every_taken (λ y. not (nat_eq y.0 (get_or xs i (place 0)).0)) _ (place 0) xs i (omega arith) (λ j lt. ap₂ (λ m n. not (nat_eq m n)) (at j (omega arith)) (at i h)))

-- the first neighbour that is not p, where no two are the same
pub first_other : (xs : List ℕ) (p : ℕ) → AllPairs (λ x y. x ≢ y) xs →
    unwrap_or (find (λ n. not (nat_eq n p)) xs) 0 ≡ cond (nat_eq (get_or xs 0 0) p) (get_or xs 1 0) (get_or xs 0 0)
first_other [] p once = grind (arith, nat_tests)
first_other (x ∷ []) p once = grind (arith, nat_tests)
first_other (x ∷ y ∷ ys) p once = grind (arith, nat_tests, once 0 1 0)

pub or_place_0 : (o : Option Place) → (unwrap_or o (place 0)).0 ≡ unwrap_or (option_map (λ q. q.0) o) 0
or_place_0 (Some q) = refl
or_place_0 None = refl

-- ---- the places written before number i, and those still to come from at and next on

abbrev pub written_and_left : Floor → List Place → ℕ → Place → Place → List ℕ
written_and_left f ps i at next = numbers (take i ps) ++ along f at.0 next.0 (length ps - i)

pub along_more : (f : Floor) (ps : List Place) (i : ℕ) (at next : Place) (all : List ℕ) → written_and_left f ps i at next ≡ all →
    (after : Place) → i < length ps → after.0 ≡ onward f at.0 next.0 → written_and_left f (set ps i at) (i + 1) next after ≡ all
along_more f ps i at next all so after h is =
    let e : length ps - i ≡ suc (length ps - (i + 1)) = omega arith in
    ap (λ n. numbers (take (i + 1) (set ps i at)) ++ along f next.0 after.0 (n - (i + 1))) (length-set ps i at) ∙
    ap₂ (λ front x. numbers front ++ along f next.0 x (length ps - (i + 1))) (take_more_set ps i at h) is ∙
    ap (λ front. front ++ along f next.0 (onward f at.0 next.0) (length ps - (i + 1))) (map-append (λ p. p.0) (take i ps) (at ∷ [])) ∙
    append_assoc (numbers (take i ps)) (at.0 ∷ []) _ ∙ ap (λ n. numbers (take i ps) ++ along f at.0 next.0 n) (sym e) ∙ so
