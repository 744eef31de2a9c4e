-- The neighbours in a row are next to one another, and its floor is lawful.
use Rattle.std.specs.Prelude.{◌≡◌, ℕ, zero, suc, ◌+◌, ◌<◌, ◌≤◌, [], ◌++◌, length, All, Contains, Some, None, Option, IfSome, ◌≢◌}
use Rattle.std.proofs.Common.{inl, inr, ⊎_elim, arith}
use Rattle.std.proofs.lemmas.Option.{IfSome_then}
use Rattle.std.proofs.lemmas.Bool.Decides.{nat_tests}
use Rattle.std.proofs.lemmas.List.Elements.{All-append, All-contains, All-cons, All-nil, Contains-append_left, Contains-append_right}
use Rattle.std.specs.List.{AllPairs}
use Rattle.std.specs.Option.{option_to_list}
use Rattle.floor.specs.Floor.{Joined, Lawful}
use Rattle.maps.specs.Networks.{InCount}
use Rattle.outside.specs.Row.{NeighboursAreNext, NextInRow, after, before, row_floor}

-- ---- lists of what may be there

all_listed : (P : ℕ → Type 0) (o : Option ℕ) → IfSome o P → All P (option_to_list o)
all_listed P None h = All-nil P
all_listed P (Some x) h = All-cons P x [] h (All-nil P)

has_listed : (o : Option ℕ) (x : ℕ) → o ≡ Some x → Contains (option_to_list o) x
has_listed None x e = absurd (cc)
has_listed (Some y) x e = (0, omega arith, cc)

length_two : (o u : Option ℕ) → length (option_to_list o ++ option_to_list u) ≤ 2
length_two None None = omega arith
length_two None (Some y) = omega arith
length_two (Some x) None = omega arith
length_two (Some x) (Some y) = omega arith

-- with p between them
once_two : (p : ℕ) (o u : Option ℕ) → IfSome o (λ x. x < p) → IfSome u (λ y. p < y) → AllPairs (λ x y. x ≢ y) (option_to_list o ++ option_to_list u)
once_two p None None h k i j d ordered within = absurd (omega arith)
once_two p None (Some y) h k i j d ordered within = absurd (omega arith)
once_two p (Some x) None h k i j d ordered within = absurd (omega arith)
once_two p (Some x) (Some y) h k zero zero d ordered within = absurd (omega arith)
once_two p (Some x) (Some y) h k zero (suc zero) d ordered within = λ same. omega arith
once_two p (Some x) (Some y) h k zero (suc (suc j)) d ordered within = absurd (omega arith)
once_two p (Some x) (Some y) h k (suc i) j d ordered within = absurd (omega arith)

-- ---- the row

module _ (n p : ℕ) where
  before_is : IfSome (before n p) (λ q. (q + 1 ≡ p) × (p < n))
  before_is = grind (arith, nat_tests)

  after_is : IfSome (after n p) (λ q. (p + 1 ≡ q) × (q < n))
  after_is = grind (arith, nat_tests)

  before_there : (q : ℕ) → q + 1 ≡ p → p < n → before n p ≡ Some q
  before_there q e on = grind (arith, nat_tests)

  after_there : (q : ℕ) → p + 1 ≡ q → q < n → after n p ≡ Some q
  after_there q e on = grind (arith, nat_tests)

  all_next : All (NextInRow n p) ((row_floor n).next p)
  all_next =
      All-append (NextInRow n p) (option_to_list (before n p)) (option_to_list (after n p))
      (all_listed (NextInRow n p) (before n p) (IfSome_then (before n p) {Q = NextInRow n p} before_is (λ q h. (h.1, omega arith, inr h.0))))
      (all_listed (NextInRow n p) (after n p) (IfSome_then (after n p) {Q = NextInRow n p} after_is (λ q h. (omega arith, h.1, inl h.0))))

pub neighbours_are_next : (n : ℕ) → NeighboursAreNext n
neighbours_are_next n p q = (λ joined. All-contains (NextInRow n p) _ q (all_next n p) joined, to_joined)
  where
    to_joined : NextInRow n p q → Joined (row_floor n) p q
    to_joined (on, there, inl e) = Contains-append_right (option_to_list (before n p)) _ q (has_listed (after n p) q (after_there n p q e there))
    to_joined (on, there, inr e) = Contains-append_left _ (option_to_list (after n p)) q (has_listed (before n p) q (before_there n p q e on))

pub row_lawful : (n : ℕ) → InCount n → Lawful (row_floor n)
row_lawful n in_count = record {
  has_a_place = in_count.0;
  at_most_1024 = in_count.1;
  at_most_8_neighbours = λ p. omega (arith, length_two (before n p) (after n p));
  on_floor = λ p q joined. let next = (neighbours_are_next n p q).0 joined in (next.0, next.1);
  not_its_own = λ p joined. ⊎_elim (λ e. omega arith) (λ e. omega arith) ((neighbours_are_next n p p).0 joined).2;
  once = λ p. once_two p (before n p) (after n p) (IfSome_then (before n p) (before_is n p) (λ q h. omega arith)) (IfSome_then (after n p) (after_is n p) (λ q h. omega arith));
  both_ways = λ p q joined. let next = (neighbours_are_next n p q).0 joined in (neighbours_are_next n q p).1 (next.1, next.0, ⊎_elim inr inl next.2);
}
