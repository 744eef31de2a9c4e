-- Where every cart has a route, the shown routes are a conflict-free set.
use Rattle.std.proofs.Common.{◌≡◌, ℕ, ◌<◌, ◌≤◌, List, [], Some, unwrap_or, sym, refl, ap, ◌∙◌, subst}
use Rattle.motion.specs.Listed.{place_at, steps}
use Rattle.motion.specs.Routes.{Conflict, RouteSet}
use Rattle.std.proofs.lemmas.List.Elements.{All-contains}
use Rattle.tally.specs.Laws.{NoRival, ShownLeast}
use Rattle.tally.specs.Openings.{Opening, RouteOf, carts}
use Rattle.tally.specs.Standings.{places_shown, shown_sum}
use Rattle.tally.specs.Tallies.{Tally, shown_of}
use Rattle.tally.proofs.Finding.{ShownAs, found}
use Rattle.tally.proofs.Lists.{Among}
use Rattle.tally.proofs.Showing.{ShownWell}

module _ (o : Opening) (t : Tally) (well : ShownWell o t.shown) (all_shown : (a : ℕ) → a < carts o → (ps : List ℕ) × (shown_of t a ≡ Some ps)) where
  shown_at : (a : ℕ) → a < carts o → Among (ShownAs a (places_shown t a)) t.shown
  shown_at a lt =
      let w = all_shown a lt in
      subst (λ ps. Among (ShownAs a ps) t.shown) (sym (ap (λ x. unwrap_or x []) w.1)) (found a t.shown w.0 w.1)

  route_at : (a : ℕ) → a < carts o → RouteOf o a (places_shown t a)
  route_at a lt =
      let w = shown_at a lt in
      subst (RouteOf o a) w.2.1 (subst (λ b. RouteOf o b w.0.places) w.2.0 (All-contains (λ s. RouteOf o s.cart s.places) t.shown w.0 well.are_routes w.1))

  free_at : (a b : ℕ) → a < carts o → b < carts o → (a ≡ b → ⊥) → Conflict (place_at (places_shown t a)) (place_at (places_shown t b)) → ⊥
  free_at a b in_a in_b differ clash =
      let v = shown_at a in_a in let w = shown_at b in_b in
      well.free v.0 w.0 v.1 w.1 (λ same. differ (sym v.2.0 ∙ same ∙ w.2.0))
      (subst (λ ps. Conflict (place_at ps) (place_at w.0.places)) (sym v.2.1) (subst (λ ps. Conflict (place_at (places_shown t a)) (place_at ps)) (sym w.2.1) clash))

  shown_set : RouteSet o.floor o.trips
  shown_set = record { at = λ a. place_at (places_shown t a); len = λ a. steps (places_shown t a); route = λ a lt. (route_at a lt).route }

  pub shown_least : NoRival o → shown_sum o t ≡ o.claim → ShownLeast o t
  unfolding shown_set
  shown_least no_rival sums = record { set = shown_set; shown = λ a lt. refl; free = free_at; sum = sums; no_rival = no_rival }

  pub shown_not_below : NoRival o → o.claim ≤ shown_sum o t
  unfolding shown_set
  shown_not_below no_rival = no_rival shown_set free_at
