-- The numbers below a bound that pass a test, in a list, each once.
use Rattle.std.proofs.Common.{◌≡◌, ℕ, ◌<◌, Bool, eqb, ◌↔◌, List, length, Contains, Decides, zero-add, refl, sym, ◌∙◌, subst, arith}
use Rattle.std.specs.List.{AllPairs, filter, range_with_len}
use Rattle.std.specs.Set.{is_member}
use Rattle.std.proofs.lemmas.Bool.Decides.{Decides-and, Decides-eqb, Decides-like, same_from_decides}
use Rattle.std.proofs.lemmas.Cmp.{nat_eq_equiv}
use Rattle.std.proofs.lemmas.List.FromFn.{get_or-range_with_len, length-range_with_len}
use Rattle.std.proofs.lemmas.List.Kept.{AllPairs-filter}
use Rattle.std.proofs.lemmas.Map.Made.{IsDistinct-from_AllPairs, is_member-Decides, is_member-filter, length-from_same_keys}

-- no number twice
abbrev pub Apart : List ℕ → Type 0
Apart xs = AllPairs (λ a b. a ≡ b → ⊥) xs

module _ (p : ℕ → Bool) (P : ℕ → Type 0) (each : (a : ℕ) → Decides (p a) (P a)) (n : ℕ) where
  abbrev pub passing : List ℕ
  passing = filter p (range_with_len 0 n)

  decides_below : (a : ℕ) → Decides (is_member eqb (range_with_len 0 n) a) (a < n)
  decides_below a = Decides-like _ below there (is_member-Decides Decides-eqb (range_with_len 0 n) a)
    where
      below : Contains (range_with_len 0 n) a → a < n
      below (k, within, is) =
          let lt : k < n = subst (λ m. k < m) (length-range_with_len 0 n) within in
          let at : k ≡ a = sym (get_or-range_with_len 0 n k a lt ∙ zero-add k) ∙ is in
          subst (λ m. m < n) at lt

      there : a < n → Contains (range_with_len 0 n) a
      there lt = (a, subst (λ m. a < m) (sym (length-range_with_len 0 n)) lt, get_or-range_with_len 0 n a a lt ∙ zero-add a)

  decides_passing : (a : ℕ) → Decides (is_member eqb passing a) ((a < n) × P a)
  decides_passing a =
      subst (λ b. Decides b ((a < n) × P a)) (sym (is_member-filter nat_eq_equiv p a (λ x same. subst (λ y. p a ≡ p y) ((Decides-eqb a x).0 same) refl) (range_with_len 0 n)))
      (Decides-and _ _ (decides_below a) (each a))

  pub passing_exactly : (a : ℕ) → Contains passing a ↔ (a < n) × P a
  passing_exactly a =
      let has = is_member-Decides Decides-eqb passing a in
      (λ c. (decides_passing a).0 (has.1 c), λ h. has.0 ((decides_passing a).1 h))

  pub passing_apart : Apart passing
  passing_apart = AllPairs-filter (λ a b. a ≡ b → ⊥) p (range_with_len 0 n) apart
    where
      apart : Apart (range_with_len 0 n)
      apart i j d before within same =
          let lt : j < n = subst (λ m. j < m) (length-range_with_len 0 n) within in
          omega (arith, same, get_or-range_with_len 0 n i d (omega arith), get_or-range_with_len 0 n j d lt)

  -- any such list is as long
  pub length_passing : (xs : List ℕ) → Apart xs → ((a : ℕ) → Contains xs a ↔ (a < n) × P a) → length xs ≡ length passing
  length_passing xs apart exactly =
      length-from_same_keys nat_eq_equiv xs passing (IsDistinct-from_AllPairs Decides-eqb xs apart) (IsDistinct-from_AllPairs Decides-eqb passing passing_apart)
      (λ a. same_from_decides _ _ (Decides-like _ (exactly a).0 (exactly a).1 (is_member-Decides Decides-eqb xs a)) (decides_passing a))
