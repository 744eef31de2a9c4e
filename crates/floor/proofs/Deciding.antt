-- Tests that decide what they are made to tell, put together from the tests of their parts.
use Rattle.std.proofs.Common.{◌≡◌, ℕ, zero, suc, ◌+◌, ◌<◌, ◌≤◌, Bool, true, false, not, ◌&&◌, ◌||◌, leb, List, [], ◌∷◌, ◌++◌, length, get_or, Decides, All, sym, refl, ap, ◌∙◌, zero-add, arith}
use Rattle.floor.specs.Tests.{every, every_below, some, some_below}
use Rattle.std.specs.List.{HoldsAt, range_with_len}
use Rattle.std.proofs.lemmas.List.Elements.{All-from_get_or}
use Rattle.std.proofs.lemmas.List.Recursion.{and_push, or_push}
use Rattle.std.proofs.lemmas.List.Sums.{AllPass-from_list_all, list_all-from_AllPass}
use Rattle.std.proofs.Math.Bool.{and_comm, or_comm}
use Rattle.std.proofs.lemmas.Bool.{leb-true, le-leb, not-true, true≢false}
use Rattle.std.proofs.lemmas.Bool.Decides.{not_from_Decides, same_from_decides, Decides-not, Decides-and, Decides-like, Decides-by_and, Decides-by_or, Decides-below_and, Decides-below_or}

pub false_from_decides : {P : Type 0} (x : Bool) → Decides x P → (P → ⊥) → x ≡ false
false_from_decides x decides refuted = not-true x ((Decides-not x decides).1 refuted)

pub decides_itself : (x : Bool) → Decides x (x ≡ true)
decides_itself x = (λ e. e, λ e. e)

pub decides_yes : {P : Type 0} → P → Decides true P
decides_yes h = (λ _. h, λ _. refl)

pub decides_no : {P : Type 0} → (P → ⊥) → Decides false P
decides_no h = (λ e. absurd (true≢false (sym e)), λ p. absurd (h p))

pub decides_leb : (m n : ℕ) → Decides (leb m n) (m ≤ n)
decides_leb m n = (leb-true m n, le-leb m n)

-- the second of two tests need decide only where the first passes
pub decides_then : {P Q : Type 0} (x y : Bool) → Decides x P → (P → Decides y Q) → Decides (x && y) (P × Q)
decides_then true y dx dy = let p = dx.0 refl in (λ e. (p, (dy p).0 e), λ h. (dy p).1 h.1)
decides_then false y dx dy = decides_no (λ h. not_from_Decides false dx refl h.0)

pub decides_and3 : {P Q R : Type 0} (x y z : Bool) → Decides x P → Decides y Q → Decides z R → Decides (x && (y && z)) (P × Q × R)
decides_and3 x y z dx dy dz =
    Decides-like (x && (y && z)) (λ h. (h.0, h.1.0, h.1.1)) (λ h. (h.0, (h.1, h.2))) (Decides-and x (y && z) dx (Decides-and y z dy dz))

pub decides_and4 : {P Q R S : Type 0} (x y z w : Bool) → Decides x P → Decides y Q → Decides z R → Decides w S → Decides (x && (y && (z && w))) (P × Q × R × S)
decides_and4 x y z w dx dy dz dw =
    Decides-like (x && (y && (z && w))) (λ h. (h.0, h.1.0, h.1.1, h.1.2)) (λ h. (h.0, (h.1, h.2, h.3))) (Decides-and x (y && (z && w)) dx (decides_and3 y z w dy dz dw))

pub decides_implies : {P Q : Type 0} (x y : Bool) → Decides x P → Decides y Q → Decides (not x || y) (P → Q)
decides_implies true y dx dy = (λ e _. dy.0 e, λ h. dy.1 (h (dx.0 refl)))
decides_implies false y dx dy = (λ _ p. absurd (true≢false (sym (dx.1 p))), λ _. refl)

module _ {X : Type 0} (p : X → Bool) (P : X → Type 0) (each : (x : X) → Decides (p x) (P x)) where
  pub decides_every : (xs : List X) → Decides (every p xs) (All P xs)
  decides_every = Decides-by_and p P (every p) each refl (λ _ _. refl)

  pub decides_some : (xs : List X) → Decides (some p xs) ((k : ℕ) × (k < length xs) × HoldsAt P xs k)
  decides_some = Decides-by_or p P (some p) each refl (λ _ _. refl)

-- one number more
counted : (a n j : ℕ) → a + n ≡ j → range_with_len a (suc n) ≡ range_with_len a n ++ j ∷ []
counted a zero j e = let same : a ≡ j = omega arith in ap (λ k. k ∷ []) same
counted a (suc n) j e = ap (λ l. a ∷ l) (counted (a + 1) n j (omega arith))

module _ (p : ℕ → Bool) where
  every_below_more : (n : ℕ) → every_below p (suc n) ≡ (p n && every_below p n)
  every_below_more n =
      ap (every p) (counted 0 n n (zero-add n)) ∙ and_push (every p) p refl (λ _ _. refl) (range_with_len 0 n) n ∙ and_comm (every_below p n) (p n)

  pub some_below_more : (n : ℕ) → some_below p (suc n) ≡ (p n || some_below p n)
  some_below_more n =
      ap (some p) (counted 0 n n (zero-add n)) ∙ or_push (some p) p refl (λ _ _. refl) (range_with_len 0 n) n ∙ or_comm (some_below p n) (p n)

module _ (p : ℕ → Bool) (P : ℕ → Type 0) (each : (k : ℕ) → Decides (p k) (P k)) where
  pub decides_every_below : (n : ℕ) → Decides (every_below p n) ((k : ℕ) → k < n → P k)
  decides_every_below = Decides-below_and p P (every_below p) each refl (every_below_more p)

  pub decides_some_below : (n : ℕ) → Decides (some_below p n) ((k : ℕ) × (k < n) × P k)
  decides_some_below = Decides-below_or p P (some_below p) each refl (some_below_more p)

-- p tests the element at each place of the list as q tests the place
pub every_by_number : {A : Type 0} (p : A → Bool) (q : ℕ → Bool) (xs : List A) (d : A) → ((k : ℕ) → k < length xs → p (get_or xs k d) ≡ q k) → every p xs ≡ every_below q (length xs)
every_by_number p q xs d each =
    same_from_decides _ _ (
      λ all k lt. sym (each k lt) ∙ AllPass-from_list_all p xs all k d lt,
      λ below. list_all-from_AllPass p xs (All-from_get_or (λ x. p x ≡ true) xs d (λ k lt. each k lt ∙ below k lt)),
    ) (decides_every_below q _ (λ k. decides_itself (q k)) (length xs))

-- as a loop over the numbers finds it
module _ (p : ℕ → Bool) where
  pub some_below_holds : (k n : ℕ) → k < n → p k ≡ true → some_below p n ≡ true
  some_below_holds k n lt holds = (decides_some_below p _ (λ i. decides_itself (p i)) n).1 (k, lt, holds)
