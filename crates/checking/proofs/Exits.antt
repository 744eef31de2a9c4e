-- What a call comes to at each place where it returns.
use Rattle.std.proofs.Common.{◌≡◌, ℕ, true, false, not, ◌||◌, leb, List, [], ◌∷◌, take, Some, None, Ok, Err, Option, Result, sym, refl, ap, ◌∙◌}
use Rattle.floor.specs.Checks.{refuse, ◌>>=◌, ◌>>◌}
use Rattle.floor.specs.Tests.{some}
use Rattle.floor.proofs.Chains.{refused, passes}
use Rattle.motion.specs.Listed.{in_conflict, route_check}
use Rattle.motion.specs.Routes.{start_of, target_of}
use Rattle.motion.specs.declared.ban.Ban.{Ban}
use Rattle.motion.specs.declared.route.RouteRefusal.{RouteRefusal}
use Rattle.search.specs.Least.{cheaper}
use Rattle.splits.specs.declared.refusal.SplitRefusal.{SplitRefusal}
use Rattle.std.specs.Result.{result_map_both}
use Rattle.tally.specs.CallAnswers.{answer_of, called, closing, current, operand_bytes, showing, splitting, tally_of, tested}
use Rattle.tally.specs.Calls.{Call}
use Rattle.tally.specs.Openings.{Opening, carts, opened}
use Rattle.tally.specs.Refusals.{from_route, from_rule}
use Rattle.tally.specs.Tallies.{Branch, Tally, is_shown, with_closing, with_route, with_split}
use Rattle.tally.specs.declared.refusal.Refusal.{Refusal}
use Rattle.tally.specs.declared.refusal.Refusal.TheVariants.{NoCart, Shown, InConflict, NothingOpen, Full, Letter, CutShort, CheaperSet}
use Rattle.checking.specs.Books.{tally_in}
use Rattle.checking.specs.Checks.{Answers}
use Rattle.checking.specs.declared.book.Book.{Book}

-- ---- a call on a check

module _ (o : Opening) (b : Book) (c : Call) where
  pub refused_so : (e : Refusal) → called o (tally_in b) c ≡ Err e → Answers o b b c (Err e)
  refused_so e is = record { answered = sym (ap answer_of is); tallied = sym (ap (tally_of (tally_in b)) is) }

  pub taken_so : (after : Book) → called o (tally_in b) c ≡ Ok (tally_in after) → Answers o b after c (Ok tt)
  taken_so after is = record { answered = sym (ap answer_of is); tallied = sym (ap (tally_of (tally_in b)) is) }

module _ (o : Opening) (t : Tally) where
  pub barred : (c : Call) (e : Refusal) → opened o ≡ Err e → called o t c ≡ Err e
  barred c e is = ap (λ r. r >> tested o t c) is

  module _ (opens : opened o ≡ Ok tt) where
    pub tested_so : (c : Call) (r : Result Tally Refusal) → tested o t c ≡ r → called o t c ≡ r
    tested_so c r is = ap (λ x. x >> tested o t c) opens ∙ is

-- ---- close

module _ (o : Opening) (t : Tally) where
  -- once the current branch is found
  abbrev closing_of : Branch × List Branch → Result Tally Refusal
  closing_of first = refuse (cheaper o.floor o.trips first.0.bans o.claim) CheaperSet >> Ok (with_closing t first.1)

  closing_found : (bs : List Branch) → t.branches ≡ bs → closing o t ≡ (current bs >>= closing_of)
  unfolding closing
  closing_found bs is = ap (λ x. current x >>= closing_of) is

  pub close_nothing : t.branches ≡ [] → closing o t ≡ Err NothingOpen
  close_nothing is = closing_found [] is

  module _ (b : Branch) (rest : List Branch) (is : t.branches ≡ b ∷ rest) where
    pub close_cheaper : cheaper o.floor o.trips b.bans o.claim ≡ true → closing o t ≡ Err CheaperSet
    close_cheaper there = closing_found (b ∷ rest) is ∙ refused _ CheaperSet _ there

    pub close_taken : cheaper o.floor o.trips b.bans o.claim ≡ false → closing o t ≡ Ok (with_closing t rest)
    close_taken none = closing_found (b ∷ rest) is ∙ passes _ CheaperSet _ _ none refl

-- ---- split

module _ (o : Opening) (t : Tally) (letter : ℕ) (bytes : List ℕ) where
  -- once the rule has answered, the operands are cut off, and the current branch is found
  abbrev splitting_by : Branch × List Branch → Result (Ban × Ban) SplitRefusal → Result Tally Refusal
  splitting_by first sides = result_map_both (λ x. x) from_rule sides >>= λ s. Ok (with_split t first.0 first.1 s.0 s.1)

  abbrev splitting_with : Branch × List Branch → Option ℕ → Result Tally Refusal
  splitting_with first width = operand_bytes bytes width >>= λ ops. splitting_by first (o.rules.sides o.floor o.trips first.0.bans letter ops)

  abbrev splitting_of : Branch × List Branch → Result Tally Refusal
  splitting_of first =
      refuse (leb 64 first.0.depth || leb 1000000 t.splits) Full >> (refuse (not (o.rules.knows letter)) Letter >> splitting_with first (o.rules.width letter bytes))

  splitting_found : (bs : List Branch) → t.branches ≡ bs → splitting o t letter bytes ≡ (current bs >>= splitting_of)
  unfolding splitting
  splitting_found bs is = ap (λ x. current x >>= splitting_of) is

  pub split_nothing : t.branches ≡ [] → splitting o t letter bytes ≡ Err NothingOpen
  split_nothing is = splitting_found [] is

  module _ (b : Branch) (rest : List Branch) (is : t.branches ≡ b ∷ rest) where
    pub split_full : (leb 64 b.depth || leb 1000000 t.splits) ≡ true → splitting o t letter bytes ≡ Err Full
    split_full full = splitting_found (b ∷ rest) is ∙ refused _ Full _ full

    module _ (room : (leb 64 b.depth || leb 1000000 t.splits) ≡ false) where
      pub split_unknown : o.rules.knows letter ≡ false → splitting o t letter bytes ≡ Err Letter
      split_unknown unknown = splitting_found (b ∷ rest) is ∙ passes _ Full _ _ room (refused _ Letter _ (ap not unknown))

      split_known : o.rules.knows letter ≡ true → splitting o t letter bytes ≡ splitting_with (b, rest) (o.rules.width letter bytes)
      split_known known = splitting_found (b ∷ rest) is ∙ passes _ Full _ _ room (passes _ Letter _ _ (ap not known) refl)

      module _ (known : o.rules.knows letter ≡ true) where
        pub split_short : o.rules.width letter bytes ≡ None → splitting o t letter bytes ≡ Err CutShort
        split_short short = split_known known ∙ ap (splitting_with (b, rest)) short

        module _ (n : ℕ) (whole : o.rules.width letter bytes ≡ Some n) where
          split_whole : (sides : Result (Ban × Ban) SplitRefusal) → o.rules.sides o.floor o.trips b.bans letter (take n bytes) ≡ sides →
              splitting o t letter bytes ≡ splitting_by (b, rest) sides
          split_whole sides given = split_known known ∙ ap (splitting_with (b, rest)) whole ∙ ap (splitting_by (b, rest)) given

          pub split_refused : (e : SplitRefusal) → o.rules.sides o.floor o.trips b.bans letter (take n bytes) ≡ Err e → splitting o t letter bytes ≡ Err (from_rule e)
          split_refused e given = split_whole (Err e) given

          pub split_taken : (left right : Ban) → o.rules.sides o.floor o.trips b.bans letter (take n bytes) ≡ Ok (left, right) →
              splitting o t letter bytes ≡ Ok (with_split t b rest left right)
          split_taken left right given = split_whole (Ok (left, right)) given

-- ---- show

module _ (o : Opening) (t : Tally) (a : ℕ) (ps : List ℕ) where
  -- once the route test has answered
  abbrev showing_by : Result (Unit {0}) RouteRefusal → Result Tally Refusal
  showing_by tested_so_far = result_map_both (λ x. x) from_route tested_so_far >> (refuse (some (λ s. in_conflict ps s.places) t.shown) InConflict >> Ok (with_route t a ps))

  abbrev pub route_answer : Result (Unit {0}) RouteRefusal
  route_answer = route_check o.floor (start_of o.trips a) (target_of o.trips a) ps

  showing_tests : showing o t a ps ≡ (refuse (leb (carts o) a) NoCart >> (refuse (is_shown t.shown a) Shown >> showing_by route_answer))
  unfolding showing
  showing_tests = refl

  pub show_no_cart : leb (carts o) a ≡ true → showing o t a ps ≡ Err NoCart
  show_no_cart gone = showing_tests ∙ refused _ NoCart _ gone

  module _ (there : leb (carts o) a ≡ false) where
    pub show_again : is_shown t.shown a ≡ true → showing o t a ps ≡ Err Shown
    show_again shown = showing_tests ∙ passes _ NoCart _ _ there (refused _ Shown _ shown)

    module _ (new : is_shown t.shown a ≡ false) where
      show_tested : (r : Result (Unit {0}) RouteRefusal) → route_answer ≡ r → showing o t a ps ≡ showing_by r
      show_tested r is = showing_tests ∙ passes _ NoCart _ _ there (passes _ Shown _ _ new (ap showing_by is))

      pub show_no_route : (e : RouteRefusal) → route_answer ≡ Err e → showing o t a ps ≡ Err (from_route e)
      show_no_route e is = show_tested (Err e) is

      module _ (route : route_answer ≡ Ok tt) where
        pub show_conflict : some (λ s. in_conflict ps s.places) t.shown ≡ true → showing o t a ps ≡ Err InConflict
        show_conflict found = show_tested (Ok tt) route ∙ refused _ InConflict _ found

        pub show_taken : some (λ s. in_conflict ps s.places) t.shown ≡ false → showing o t a ps ≡ Ok (with_route t a ps)
        show_taken none = show_tested (Ok tt) route ∙ passes _ InConflict _ _ none refl
