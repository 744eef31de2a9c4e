-- An honest plan's splits and closings are due, its shows fit, and together they settle as least.
use Rattle.std.proofs.Common.{◌≡◌, ℕ, zero, suc, ◌+◌, ◌<◌, ◌≤◌, eqb, List, [], ◌∷◌, ◌++◌, length, get_or, map, Some, All, Contains, unwrap_or, sym, refl, ap, ◌∙◌, subst, ⊎_elim, append_assoc, append-nil, arith}
use Rattle.std.specs.List.{AllPairs}
use Rattle.motion.specs.Listed.{place_at, steps}
use Rattle.motion.specs.Routes.{Conflict}
use Rattle.motion.specs.declared.ban.Ban.{Ban}
use Rattle.std.proofs.lemmas.List.Elements.{All-head, All-nil, All-push, All-tail}
use Rattle.std.proofs.lemmas.Bool.{cases_eq, cond-false, cond-true, eq-eqb, ne_eqb}
use Rattle.tally.specs.CallAnswers.{after_all}
use Rattle.tally.specs.Calls.{Call, Showable}
use Rattle.tally.specs.Laws.{HonestSucceeds}
use Rattle.tally.specs.Openings.{Opening, carts}
use Rattle.tally.specs.Tallies.{Branch, Shown, Tally, at_start, places_of, shown_of}
use Rattle.tally.specs.Plans.{ClaimedRoutes, shows_of}
use Rattle.tally.specs.Trees.{Honest, Tree, calls_of, closes, depth, forks_in, splits}
use Rattle.tally.proofs.Opening.{opened_exactly}
use Rattle.tally.proofs.Sending.{Due, Leads, ToShow, close_due, none_due, none_left, sent, show_next, split_due}
use Rattle.tally.proofs.Settling.{least_from_complete}
use Rattle.tally.proofs.Totals.{total_same}

-- ---- the tree

module _ (o : Opening) where
  recounted : {bs : List Branch} {m n : ℕ} {cs : List Call} → m ≡ n → Due o bs m cs → Due o bs n cs
  recounted {bs} {cs = cs} e due = subst (λ k. Due o bs k cs) e due

  tree_due : {bans : List Ban} {tree : Tree} (d : ℕ) (rest : List Branch) (n : ℕ) (cs : List Call) → Honest o bans tree → d + depth tree ≤ 64 → Due o rest n cs
      → Due o (record { bans = bans; depth = d } ∷ rest) (forks_in tree + n) (calls_of tree ++ cs)
  tree_due d rest n cs (closes closable) deep due = let e : n ≡ 0 + n = omega arith in recounted e (close_due closable due)
  tree_due d rest n cs (splits {left = left} {right = right} gives on-left on-right) deep due =
      let e : suc (forks_in left + (forks_in right + n)) ≡ suc (forks_in left + forks_in right) + n = omega arith in
      recounted e (split_due (omega arith) gives
      (subst (Due o _ _) (sym (append_assoc (calls_of left) (calls_of right) cs))
      (tree_due (suc d) _ _ _ on-left (omega arith) (tree_due (suc d) rest n cs on-right (omega arith) due))))

-- ---- the routes

module _ (o : Opening) (routes : ℕ → List ℕ) (claimed : ClaimedRoutes o routes) where
  abbrev planned : ℕ → Shown
  planned a = record { cart = a; places = routes a }

  -- of a cart that is there, and its route as planned
  abbrev AsPlanned : Shown → Type 0
  AsPlanned s = (s.cart < carts o) × (s.places ≡ routes s.cart)

  abbrev New : List Shown → ℕ → Type 0
  New shown a = All (λ s. s.cart ≡ a → ⊥) shown

  showable : (shown : List Shown) (a : ℕ) → All AsPlanned shown → a < carts o → New shown a → Showable o shown a (routes a)
  showable shown a own there new = record {
    cart = there;
    new = new;
    route = claimed.are_routes a there;
    free = λ k d lt. subst (λ ps. Conflict (place_at (routes a)) (place_at ps) → ⊥) (sym (own k d lt).1)
        (claimed.free a (get_or shown k d).cart there (own k d lt).0 (λ e. new k d lt (sym e)));
  }

  to_show : (order : List ℕ) (shown : List Shown) → All AsPlanned shown → All (λ a. a < carts o) order → AllPairs (λ a b. a ≡ b → ⊥) order → All (New shown) order
      → ToShow o shown (shows_of routes order) (shown ++ map planned order)
  to_show [] shown own there once new = subst (ToShow o shown []) (sym (append-nil shown)) none_left
  to_show (a ∷ order) shown own there once new =
      let first = All-head (λ b. b < carts o) a order there in
      let rest = All-tail (λ b. b < carts o) a order there in
      show_next (showable shown a own first (All-head (New shown) a order new))
      (subst (ToShow o _ _) (append_assoc shown (planned a ∷ []) (map planned order))
      (to_show order (shown ++ (planned a ∷ [])) (All-push AsPlanned shown (planned a) own (first, refl)) rest (λ i j d before in_order. once (suc i) (suc j) d (omega arith) (omega arith))
      (λ k d lt. All-push (λ s. s.cart ≡ get_or order k d → ⊥) shown (planned a) (All-tail (New shown) a order new k d lt) (once 0 (suc k) d (omega arith) (omega arith)))))

  same_found : (a b : ℕ) (shown : List Shown) → a ≡ b → places_of (planned a ∷ shown) b ≡ Some (routes b)
  same_found a b shown e = cond-true (eqb a b) (Some (routes a)) (places_of shown b) (eq-eqb a b e) ∙ ap (λ x. Some (routes x)) e

  planned_found : (order : List ℕ) (b : ℕ) → Contains order b → places_of (map planned order) b ≡ Some (routes b)
  planned_found [] b (k, lt, is) = absurd (omega arith)
  planned_found (a ∷ order) b (zero, lt, is) = same_found a b (map planned order) is
  planned_found (a ∷ order) b (suc k, lt, is) =
      ⊎_elim (same_found a b (map planned order)) (λ differ. cond-false (eqb a b) (Some (routes a)) _ (ne_eqb a b differ) ∙ planned_found order b (k, omega arith, is)) (cases_eq a b)

pub honest_succeeds : HonestSucceeds
honest_succeeds o sound openable plan calls merged =
    let routes : ℕ → List ℕ = plan.routes in
    let end : List Shown = map (planned o routes plan.claimed) plan.order in
    let t : Tally = after_all o at_start calls in
    let due : Due o at_start.branches (forks_in plan.tree + 0) (calls_of plan.tree) =
    subst (Due o _ _) (append-nil (calls_of plan.tree)) (tree_due o 0 [] 0 [] plan.honest (omega (arith, plan.depth_limit)) none_due) in
    let shows : ToShow o [] (shows_of routes plan.order) end =
    to_show o routes plan.claimed plan.order [] (All-nil (AsPlanned o routes plan.claimed)) plan.each_once.below plan.each_once.once
    (λ k d lt. All-nil (λ s. s.cart ≡ get_or plan.order k d → ⊥)) in
    let leads : Leads o sound openable at_start calls end = sent o sound openable 0 0 at_start.branches _ [] end merged due shows (All-nil (λ s. 1 ≤ length s.places)) (omega (arith, plan.forks_limit)) in
    let own : (a : ℕ) → a < carts o → shown_of t a ≡ Some (routes a) =
    λ a lt. ap (λ s. places_of s a) leads.shown ∙ planned_found o routes plan.claimed plan.order a (plan.each_once.every a lt) in
    record {
      all_taken = leads.all_taken;
      settles_least = least_from_complete o t ((opened_exactly o).1 openable) (record {
        none_open = leads.none_open;
        all_shown = λ a lt. (routes a, own a lt);
        sums = total_same _ _ (carts o) (λ a lt. ap (λ x. steps (unwrap_or x [])) (own a lt)) ∙ plan.claimed.sum;
      });
    }
