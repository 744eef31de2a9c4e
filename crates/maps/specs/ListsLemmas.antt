-- Lists in general: what a filter keeps, a list with no number twice, and one that is there only under a test. Speaks
-- of no floor.
use Rattle.std.specs.Prelude.{◌≡◌, ℕ, ◌+◌, ◌≤◌, Bool, true, false, cond, not, List, [], ◌∷◌, ◌++◌, length, All, Contains, filter, ◌≢◌, refl}
use Rattle.std.proofs.Common.{arith}
use Rattle.std.proofs.lemmas.List.Kept.{AllPairs-cons}
use Rattle.maps.specs.OnceLemmas.{Once}
use Rattle.std.proofs.lemmas.List.Elements.{All-nil, All-cons, All-weaker, All-contains, All-contains_itself, All-filter, Contains-append_right, filter_passes}
use Rattle.std.proofs.lemmas.List.Filters.{length-filter_both}
use Rattle.std.proofs.lemmas.Bool.{both_ways, cond_both, false≢true, true≢false}

-- ---- what a filter keeps

module _ {X : Type 0} (test : X → Bool) where
  pub has_from_kept_by : (xs : List X) (x : X) → Contains (filter test xs) x → (test x ≡ true) × Contains xs x
  has_from_kept_by xs x h =
      (All-contains (λ y. test y ≡ true) (filter test xs) x (filter_passes test xs) h, All-contains (Contains xs) (filter test xs) x (All-filter test (Contains xs) xs (All-contains_itself xs)) h)

  each_kept : (xs : List X) → All (λ x. test x ≡ true → Contains (filter test xs) x) xs
  each_kept [] = All-nil (λ x. test x ≡ true → Contains [] x)
  each_kept (x ∷ xs) =
      cond_both (test x) (x ∷ filter test xs) (filter test xs) (λ kept. All (λ y. test y ≡ true → Contains kept y) (x ∷ xs))
      (λ _. let Kept : X → Type 0 = λ y. test y ≡ true → Contains (x ∷ filter test xs) y in
      All-cons Kept x xs (λ _. (0, omega arith, refl))
      (All-weaker (λ y. test y ≡ true → Contains (filter test xs) y) Kept (λ y h passes. Contains-append_right (x ∷ []) (filter test xs) y (h passes)) xs (each_kept xs)))
      (λ fails. All-cons (λ y. test y ≡ true → Contains (filter test xs) y) x xs (λ passes. absurd (both_ways _ fails passes)) (each_kept xs))

  pub kept_by_has : (xs : List X) (x : X) → test x ≡ true → Contains xs x → Contains (filter test xs) x
  kept_by_has xs x passes h = All-contains (λ y. test y ≡ true → Contains (filter test xs) y) xs x (each_kept xs) h passes

  pub length_kept_by_most : (xs : List X) → length (filter test xs) ≤ length xs
  length_kept_by_most xs = omega (arith, length-filter_both test (λ x. not (test x)) (λ _. refl) xs)

-- ---- a list that is there only under a test

pub has_from_cond : {X : Type 0} (b : Bool) (xs : List X) (x : X) → Contains (cond b xs []) x → (b ≡ true) × Contains xs x
has_from_cond true xs x h = (refl, h)
has_from_cond false xs x h = let none = h.1 in absurd (omega arith)

pub cond_has : {X : Type 0} (b : Bool) (xs : List X) (x : X) → b ≡ true → Contains xs x → Contains (cond b xs []) x
cond_has true xs x on h = h
cond_has false xs x on h = absurd (false≢true on)

-- ---- a number that stands in front unless the test is true

module _ (x : ℕ) (ys : List ℕ) where
  pub all_unless : (P : ℕ → Type 0) (b : Bool) → (b ≡ false → P x) → All P ys → All P (cond b [] (x ∷ []) ++ ys)
  all_unless P true h k = k
  all_unless P false h k = All-cons P x ys (h refl) k

  pub once_unless : (b : Bool) → (b ≡ false → All (λ y. x ≢ y) ys) → Once ys → Once (cond b [] (x ∷ []) ++ ys)
  once_unless true h k = k
  once_unless false h k = AllPairs-cons (λ a b. a ≢ b) x ys (h refl) k

  pub has_unless : (b : Bool) (y : ℕ) → b ≡ false → x ≡ y → Contains (cond b [] (x ∷ []) ++ ys) y
  has_unless true y off is = absurd (true≢false off)
  has_unless false y off is = (0, omega arith, is)

  pub length_unless : (b : Bool) → length (cond b [] (x ∷ []) ++ ys) ≤ length ys + 1
  length_unless true = omega arith
  length_unless false = omega arith
