-- The answers to the calls on a check, from what its code found.
use Rattle.std.proofs.Common.{◌≡◌, ℕ, ◌<◌, ◌≤◌, Bool, true, false, cond, ◌||◌, leb, List, [], ◌∷◌, length, slice_index_or, take, drop, Some, None, Ok, Err, Option, Result, Bor, sym, refl, ap, ◌∙◌, ap₂, arith}
use Rattle.floor.specs.Tests.{some}
use Rattle.floor.specs.declared.Place.{Place}
use Rattle.floor.specs.Numbers.{numbers}
use Rattle.motion.specs.Listed.{in_conflict, route_check}
use Rattle.motion.specs.Routes.{nowhere, start_of, target_of}
use Rattle.motion.proofs.Listing.{route_test_tells}
use Rattle.arrayvec.specs.ArrayVec.{array_vec_len}
use Rattle.floor.specs.Floor.{Floor}
use Rattle.motion.specs.declared.trip.Trip.{Trip}
use Rattle.motion.specs.declared.ban.Ban.{Ban}
use Rattle.motion.specs.declared.route.RouteRefusal.{RouteRefusal}
use Rattle.search.specs.Least.{cheaper}
use Rattle.splits.specs.declared.refusal.SplitRefusal.{SplitRefusal}
use Rattle.floor.proofs.Chains.{err_same, ok_no_err, ok_same}
use Rattle.std.specs.Option.{ok_or, option_copied}
use Rattle.std.proofs.lemmas.List.{length-map}
use Rattle.std.proofs.lemmas.Bool.{le-leb, lt-leb}
use Rattle.std.proofs.lemmas.Bool.Decides.{nat_tests}
use Rattle.tally.proofs.Opening.{opened_exactly}
use Rattle.tally.specs.CallAnswers.{tested}
use Rattle.tally.specs.Calls.{Call, show, split, close}
use Rattle.tally.specs.Openings.{Opening, carts, opened}
use Rattle.tally.specs.Refusals.{from_route, from_rule}
use Rattle.tally.specs.Standings.{shown_sum, standing, unshown, verdict_of}
use Rattle.tally.specs.Tallies.{Tally, is_shown, with_closing, with_route, with_split}
use Rattle.tally.specs.declared.refusal.Refusal.{Refusal}
use Rattle.tally.specs.declared.refusal.Refusal.TheVariants.{NoCart, Shown, InConflict, NothingOpen, Full, Letter, CutShort, CheaperSet}
use Rattle.checking.specs.Books.{tally_in}
use Rattle.checking.specs.Checks.{Answers, IsCurrent, RefusesBranches}
use Rattle.checking.specs.OpenBranches.{current, rights}
use Rattle.checking.specs.declared.book.Book.{Book}
use Rattle.checking.proofs.Exits.{refused_so, taken_so, tested_so, close_nothing, close_cheaper, close_taken, split_nothing, split_full, split_unknown, split_short, split_refused, split_taken, show_no_cart, show_again, show_no_route, show_conflict, show_taken, route_answer}

-- ---- where `ok_or` gives the refusal, or what there is

module _ {A : Type 0} where
  pub none_given : (r : Option A) (e f : Refusal) → ok_or r e ≡ Err f → (r ≡ None) × (f ≡ e)
  none_given None e f is = (refl, sym (err_same is))
  none_given (Some x) e f is = absurd (ok_no_err is)

  some_given : (r : Option A) (e : Refusal) (x : A) → ok_or r e ≡ Ok x → r ≡ Some x
  some_given None e x is = absurd (ok_no_err (sym is))
  some_given (Some y) e x is = ap Some (ok_same is)

pub shut : (flag : Bool) (bans : List Ban) (r : Option (Bor (List Ban))) → option_copied r ≡ cond flag (Some bans) None → r ≡ None → false ≡ flag
shut false bans r is none = refl
shut true bans r is none = let there : ◌≡◌ {A = Option (List Ban)} None (Some bans) = sym (ap option_copied none) ∙ is in cc

-- the width that was asked for
pub width_given : (w width : Option ℕ) → w ≡ width → (r : Result ℕ Refusal) → r ≡ ok_or w CutShort → (n : ℕ) → r ≡ Ok n → width ≡ Some n
width_given w width asked r turned n is = sym asked ∙ some_given w CutShort n (sym turned ∙ is)

-- ---- room for a cart's route and for a split

pub few_carts : (o : Opening) → Ok tt ≡ opened o → carts o ≤ 16
few_carts o opens = ((opened_exactly o).0 (sym opens)).few_carts.1

pub room_for_split : (d n : ℕ) → false ≡ (leb 64 d || leb 1000000 n) → (d < 64) × (n < 1000000)
room_for_split d n room = (grind (arith, nat_tests), grind (arith, nat_tests))

-- ---- the calls

module _ (o : Opening) (b : Book) (opens : Ok tt ≡ opened o) where
  refuses : (c : Call) (e : Refusal) → tested o (tally_in b) c ≡ Err e → Answers o b b c (Err e)
  refuses c e is = refused_so o b c e (tested_so o (tally_in b) (sym opens) c (Err e) is)

  takes : (c : Call) (after : Book) (t : Tally) → tested o (tally_in b) c ≡ Ok t → tally_in after ≡ t → Answers o b after c (Ok tt)
  takes c after t is becomes = taken_so o b c after (tested_so o (tally_in b) (sym opens) c (Ok t) is ∙ ap Ok (sym becomes))

  -- the branches, as the flag tells whether one is open
  flagged : (flag : Bool) → flag ≡ b.branches.open →
      (tally_in b).branches ≡ cond flag (current b.branches ∷ rights b.branches.bans b.branches.others.items (array_vec_len b.branches.others)) []
  flagged flag is = ap (λ x. cond x (current b.branches ∷ rights b.branches.bans b.branches.others.items (array_vec_len b.branches.others)) []) (sym is)

  pub nothing_open : false ≡ b.branches.open → RefusesBranches o b NothingOpen
  nothing_open shut = record {
    no_close = refuses close NothingOpen (close_nothing o (tally_in b) (flagged false shut));
    no_split = λ letter bytes. refuses (split letter bytes) NothingOpen (split_nothing o (tally_in b) letter bytes (flagged false shut));
  }

  module _ (a : ℕ) (places : List Place) where
    pub no_such_cart : carts o ≤ a → Answers o b b (show a (numbers places)) (Err NoCart)
    no_such_cart gone = refuses _ NoCart (show_no_cart o (tally_in b) a (numbers places) (le-leb (carts o) a gone))

    module _ (t : Trip) (found : (a < carts o) × (t ≡ slice_index_or o.trips a nowhere)) where
      there : leb (carts o) a ≡ false
      there = lt-leb (carts o) a found.0

      pub shown_already : true ≡ is_shown (tally_in b).shown a → Answers o b b (show a (numbers places)) (Err Shown)
      shown_already shown = refuses _ Shown (show_again o (tally_in b) a (numbers places) there (sym shown))

      -- no route of the cart is shown, and this is what the route test gives
      module _ (new : false ≡ is_shown (tally_in b).shown a) (r : Result (Unit {0}) RouteRefusal) (tested : r ≡ route_check o.floor t.start.0 t.target.0 (numbers places)) where
        is_answer : route_answer o (tally_in b) a (numbers places) ≡ r
        is_answer = sym (tested ∙ ap (λ (x : Trip). route_check o.floor x.start.0 x.target.0 (numbers places)) found.1)

        pub no_route : (e : RouteRefusal) → r ≡ Err e → Answers o b b (show a (numbers places)) (Err (from_route e))
        no_route e is = refuses _ (from_route e) (show_no_route o (tally_in b) a (numbers places) there (sym new) e (is_answer ∙ is))

        module _ (route : r ≡ Ok tt) where
          pub conflict_found : true ≡ some (λ s. in_conflict (numbers places) s.places) (tally_in b).shown → Answers o b b (show a (numbers places)) (Err InConflict)
          conflict_found conflict = refuses _ InConflict (show_conflict o (tally_in b) a (numbers places) there (sym new) (is_answer ∙ route) (sym conflict))

          pub route_shown : (after : Book) → false ≡ some (λ s. in_conflict (numbers places) s.places) (tally_in b).shown → tally_in after ≡ with_route (tally_in b) a (numbers places) →
              Answers o b after (show a (numbers places)) (Ok tt)
          route_shown after none is = takes _ after _ (show_taken o (tally_in b) a (numbers places) there (sym new) (is_answer ∙ route) (sym none)) is

          pub room_for_route : (a < 16) × ((length places ≤ 256) × (is_shown (tally_in b).shown a ≡ false))
          room_for_route =
              let few = few_carts o opens in
              let listed = (route_test_tells o.floor (start_of o.trips a) (target_of o.trips a) (numbers places)).taken.0 (is_answer ∙ route) in
              (omega arith, (omega (arith, listed.short, length-map places (λ p. p.0)), sym new))

module _ {o : Opening} {b : Book} {f : Floor} {trips : List Trip} {bans : List Ban} (now : IsCurrent o b f trips bans) where
  stand : (tally_in b).branches ≡ current b.branches ∷ rights b.branches.bans b.branches.others.items (array_vec_len b.branches.others)
  stand = flagged o b now.opens true now.going

  -- a branch that was taken off or turned into two left the others
  others : drop 1 (tally_in b).branches ≡ rights b.branches.bans b.branches.others.items (array_vec_len b.branches.others)
  others = ap (drop 1) stand

  searched : cheaper o.floor o.trips (current b.branches).bans o.claim ≡ cheaper f trips bans o.claim
  searched = let on = now.on_floor in let for = now.for_trips in let under = now.under_bans in cc

  pub cheaper_found : true ≡ cheaper f trips bans o.claim → Answers o b b close (Err CheaperSet)
  cheaper_found found = refuses o b now.opens close CheaperSet (close_cheaper o (tally_in b) _ _ stand (searched ∙ sym found))

  pub branch_closed : (after : Book) → false ≡ cheaper f trips bans o.claim → tally_in after ≡ with_closing (tally_in b) (drop 1 (tally_in b).branches) → Answers o b after close (Ok tt)
  branch_closed after none is = takes o b now.opens close after _ (close_taken o (tally_in b) _ _ stand (searched ∙ sym none)) (is ∙ ap (with_closing (tally_in b)) others)

  module _ (letter : ℕ) (bytes : List ℕ) where
    pub branch_full : true ≡ (leb 64 (current b.branches).depth || leb 1000000 b.splits) → Answers o b b (split letter bytes) (Err Full)
    branch_full full = refuses o b now.opens (split letter bytes) Full (split_full o (tally_in b) letter bytes _ _ stand (sym full))

    module _ (room : false ≡ (leb 64 (current b.branches).depth || leb 1000000 b.splits)) where
      pub letter_unknown : false ≡ o.rules.knows letter → Answers o b b (split letter bytes) (Err Letter)
      letter_unknown unknown = refuses o b now.opens (split letter bytes) Letter (split_unknown o (tally_in b) letter bytes _ _ stand (sym room) (sym unknown))

      module _ (known : true ≡ o.rules.knows letter) where
        -- the width that the rules give, or the refusal where they give none
        module _ (w : Option ℕ) (asked : w ≡ o.rules.width letter bytes) (r : Result ℕ Refusal) (turned : r ≡ ok_or w CutShort) where
          pub operands_short : (e : Refusal) → r ≡ Err e → Answers o b b (split letter bytes) (Err e)
          operands_short e is =
              let none = none_given w CutShort e (sym turned ∙ is) in
              rw none.1 (refuses o b now.opens (split letter bytes) CutShort (split_short o (tally_in b) letter bytes _ _ stand (sym room) (sym known) (sym asked ∙ none.0)))

          module _ (n : ℕ) (is_width : r ≡ Ok n) where
            whole : o.rules.width letter bytes ≡ Some n
            whole = width_given w (o.rules.width letter bytes) asked r turned n is_width

            sided : o.rules.sides o.floor o.trips (current b.branches).bans letter (take n bytes) ≡ o.rules.sides f trips bans letter (take n bytes)
            sided = let on = now.on_floor in let for = now.for_trips in let under = now.under_bans in cc

            pub rule_refused : (e : SplitRefusal) → Err e ≡ o.rules.sides f trips bans letter (take n bytes) → Answers o b b (split letter bytes) (Err (from_rule e))
            rule_refused e given =
                refuses o b now.opens (split letter bytes) (from_rule e) (split_refused o (tally_in b) letter bytes _ _ stand (sym room) (sym known) n whole e (sided ∙ sym given))

            pub branch_split : (after : Book) (left right : Ban) → Ok (left, right) ≡ o.rules.sides f trips bans letter (take n bytes) →
                tally_in after ≡ with_split (tally_in b) (current b.branches) (drop 1 (tally_in b).branches) left right → Answers o b after (split letter bytes) (Ok tt)
            branch_split after left right given is =
                takes o b now.opens (split letter bytes) after _
                (split_taken o (tally_in b) letter bytes _ _ stand (sym room) (sym known) n whole left right (sided ∙ sym given))
                (is ∙ ap (λ rest. with_split (tally_in b) (current b.branches) rest left right) others)

-- ---- the standing

pub verdict_told : (o : Opening) (b : Book) → Ok tt ≡ opened o → (branches missing sum : ℕ) → branches ≡ length (tally_in b).branches → missing ≡ unshown o (tally_in b) →
    sum ≡ shown_sum o (tally_in b) → verdict_of (Ok tt) branches missing sum o.claim ≡ (standing o (tally_in b)).verdict
verdict_told o b opens branches missing sum counted missed summed =
    ap₂ (λ r n. verdict_of r n missing sum o.claim) opens counted ∙ ap₂ (λ m s. verdict_of (opened o) (length (tally_in b).branches) m s o.claim) missed summed
