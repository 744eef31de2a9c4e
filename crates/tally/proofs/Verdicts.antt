-- A verdict stands exactly when its conditions hold.
use Rattle.std.proofs.Common.{◌≡◌, ℕ, ◌≤◌, Bool, true, false, cond, not, leb, eqb, ◌↔◌, List, [], length, Some, Ok, Err, Decides, Result, unwrap_or, sym, refl, ap, ◌∙◌, subst, arith}
use Rattle.motion.specs.Listed.{steps}
use Rattle.floor.proofs.Deciding.{decides_leb}
use Rattle.std.proofs.lemmas.Bool.{cond-false, cond-true, eq-eqb, le-leb, ne_eqb}
use Rattle.std.proofs.lemmas.Bool.Decides.{Decides-eqb, Decides-like, Decides-not, not_from_Decides}
use Rattle.tally.specs.Openings.{Opening, Openable, carts, opened}
use Rattle.tally.specs.Standings.{places_shown, shown_sum, standing, unshown as missing, verdict_of}
use Rattle.tally.specs.StandsAs.{CartsUnshown, RoutesSumTo, StandsAs, barred, least, other_sum, still_open, unshown}
use Rattle.tally.specs.Tallies.{Tally, is_shown, shown_of}
use Rattle.tally.specs.declared.refusal.Refusal.{Refusal}
use Rattle.tally.specs.declared.standing.Verdict.{Verdict}
use Rattle.tally.specs.declared.standing.Verdict.TheVariants.{Open, Unshown, OtherSum, Least}
use Rattle.tally.proofs.Finding.{decides_shown}
use Rattle.tally.proofs.Opening.{barred_exactly, opened_exactly}
use Rattle.tally.proofs.Passing.{length_passing, passing, passing_apart, passing_exactly}
use Rattle.tally.proofs.Settling.{none_missing, shown_by_all}
use Rattle.tally.proofs.Totals.{count_below, total_same}

module _ (o : Opening) (t : Tally) (Shows : ℕ → List ℕ → Type 0) (shows : (a : ℕ) (ps : List ℕ) → (shown_of t a ≡ Some ps) ↔ Shows a ps) where
  -- ---- the carts with no route, and the routes

  abbrev Lacks : ℕ → Type 0
  Lacks a = (ps : List ℕ) → Shows a ps → ⊥

  decides_lacks : (a : ℕ) → Decides (not (is_shown t.shown a)) (Lacks a)
  decides_lacks a =
      Decides-like _ (λ none ps shown. none (ps, (shows a ps).1 shown)) (λ none w. none w.0 ((shows a w.0).0 w.1)) (Decides-not _ (decides_shown a t.shown))

  carts_unshown : CartsUnshown (carts o) Shows (missing o t)
  carts_unshown = record {
    which = passing (λ a. not (is_shown t.shown a)) Lacks decides_lacks (carts o);
    none_twice = passing_apart _ Lacks decides_lacks (carts o);
    exactly = passing_exactly _ Lacks decides_lacks (carts o);
    counted = count_below (is_shown t.shown) (carts o);
  }

  count_unshown : (n : ℕ) → CartsUnshown (carts o) Shows n → missing o t ≡ n
  count_unshown n lacking =
      sym (length_passing _ Lacks decides_lacks (carts o) lacking.which lacking.none_twice lacking.exactly ∙ count_below (is_shown t.shown) (carts o)) ∙ lacking.counted

  routes_shown : missing o t ≡ 0 → RoutesSumTo (carts o) Shows (shown_sum o t)
  routes_shown none = record {
    routes = places_shown t;
    are_shown = λ a lt. let w = shown_by_all o t none a lt in (shows a (places_shown t a)).0 (w.1 ∙ ap Some (sym (ap (λ x. unwrap_or x []) w.1)));
    sums = refl;
  }

  module _ (s : ℕ) (routed : RoutesSumTo (carts o) Shows s) where
    none_lacking : missing o t ≡ 0
    none_lacking = none_missing o t (λ a lt. (routed.routes a, (shows a (routed.routes a)).1 (routed.are_shown a lt)))

    sum_shown : shown_sum o t ≡ s
    sum_shown = total_same _ _ (carts o) (λ a lt. ap (λ x. steps (unwrap_or x [])) ((shows a (routed.routes a)).1 (routed.are_shown a lt))) ∙ routed.sums

  -- ---- the verdict

  abbrev Stands : Verdict → Type 0
  Stands v = StandsAs o (length t.branches) Shows v

  first_stands : Openable o → (p q r : Bool) → Decides p (1 ≤ length t.branches) → Decides q (1 ≤ missing o t) → Decides r (shown_sum o t ≡ o.claim)
      → Stands (cond p (Open (length t.branches)) (cond q (Unshown (missing o t)) (cond r (Least o.claim) (OtherSum (shown_sum o t)))))
  first_stands openable true q r some lacking equal = still_open openable (some.0 refl)
  first_stands openable false true r some lacking equal =
      let none = not_from_Decides false some refl in unshown openable (omega (arith, none)) (lacking.0 refl) carts_unshown
  first_stands openable false false true some lacking equal =
      let none = not_from_Decides false some refl in let all = not_from_Decides false lacking refl in
      least openable (omega (arith, none)) (subst (RoutesSumTo (carts o) Shows) (equal.0 refl) (routes_shown (omega (arith, all))))
  first_stands openable false false false some lacking equal =
      let none = not_from_Decides false some refl in let all = not_from_Decides false lacking refl in
      other_sum openable (omega (arith, none)) (routes_shown (omega (arith, all))) (not_from_Decides false equal refl)

  verdict_stands : Stands (standing o t).verdict
  verdict_stands = by (opened o) refl
    where
      by : (r : Result (Unit {0}) Refusal) → opened o ≡ r → Stands (verdict_of r (length t.branches) (missing o t) (shown_sum o t) o.claim)
      by (Ok _) is = first_stands ((opened_exactly o).0 is) _ _ _ (decides_leb 1 (length t.branches)) (decides_leb 1 (missing o t)) (Decides-eqb (shown_sum o t) o.claim)
      by (Err e) is = barred ((barred_exactly o e).0 is)

  -- that of a check that is not barred, from its counts
  verdict_at : Openable o → {branches lacking sum : ℕ} → length t.branches ≡ branches → missing o t ≡ lacking → shown_sum o t ≡ sum
      → (standing o t).verdict ≡ verdict_of (Ok tt) branches lacking sum o.claim
  verdict_at openable are lack sums = let opens = (opened_exactly o).1 openable in cc

  stands_so : (v : Verdict) → Stands v → (standing o t).verdict ≡ v
  stands_so v (barred {e = e} bars) = ap (λ r. verdict_of r (length t.branches) (missing o t) (shown_sum o t) o.claim) ((barred_exactly o e).1 bars)
  stands_so v (still_open openable some) = verdict_at openable refl refl refl ∙ cond-true (leb 1 (length t.branches)) _ _ (le-leb 1 (length t.branches) some)
  stands_so v (unshown {n = n} openable none some lacking) = verdict_at openable none (count_unshown n lacking) refl ∙ cond-true (leb 1 n) _ _ (le-leb 1 n some)
  stands_so v (other_sum {s = s} openable none routed other) =
      verdict_at openable none (none_lacking s routed) (sum_shown s routed) ∙ cond-false (eqb s o.claim) (Least o.claim) (OtherSum s) (ne_eqb s o.claim other)
  stands_so v (least openable none routed) =
      verdict_at openable none (none_lacking o.claim routed) (sum_shown o.claim routed) ∙ cond-true (eqb o.claim o.claim) (Least o.claim) (OtherSum o.claim) (eq-eqb o.claim o.claim refl)

  pub stands_exactly : (v : Verdict) → ((standing o t).verdict ≡ v) ↔ Stands v
  stands_exactly v = (λ is. subst Stands is verdict_stands, stands_so v)
