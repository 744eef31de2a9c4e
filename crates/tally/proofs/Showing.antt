-- The shown routes are routes, and no two of different carts conflict.
use Rattle.std.proofs.Common.{◌≡◌, ℕ, arith, ◌↔◌, List, Some, All, Contains, sym, subst, ⊎_elim}
use Rattle.motion.specs.Listed.{place_at}
use Rattle.motion.specs.Routes.{Conflict}
use Rattle.motion.proofs.Conflicting.{conflict_sym}
use Rattle.std.proofs.lemmas.List.Elements.{All-contains, All-nil, All-push, Contains-push_cases}
use Rattle.tally.specs.CallAnswers.{Reached}
use Rattle.tally.specs.Calls.{Call, Takes, by_close, by_show, by_split}
use Rattle.tally.specs.Openings.{Opening, RouteOf, LawfulOpening}
use Rattle.tally.specs.StandsAs.{ShownIn}
use Rattle.tally.specs.Tallies.{Shown, Tally, shown_of}
use Rattle.std.proofs.lemmas.List.Quantifiers.{all_pairs_push}
use Rattle.tally.proofs.Finding.{OnceShown, found_exactly}
use Rattle.tally.proofs.Lists.{has_none}
use Rattle.tally.proofs.Reaching.{kept}

module _ (o : Opening) where
  pub record ShownWell (shown : List Shown) : Type 0 where
    pub are_routes : All (λ s. RouteOf o s.cart s.places) shown
    pub free : (s u : Shown) → Contains shown s → Contains shown u → (s.cart ≡ u.cart → ⊥) → Conflict (place_at s.places) (place_at u.places) → ⊥

  well_kept : (t : Tally) (c : Call) (u : Tally) → Takes o t c u → ShownWell t.shown → ShownWell u.shown
  well_kept t c u (by_show {a = a} {ps = ps} h) well = record {
    are_routes = All-push (λ s. RouteOf o s.cart s.places) t.shown new well.are_routes h.route;
    free = λ s v has-s has-v differ. ⊎_elim
        (λ old-s. ⊎_elim (λ old-v. well.free s v old-s old-v differ)
        (λ is-v clash. apart s old-s (conflict_sym _ _ (subst (λ x. Conflict (place_at s.places) (place_at x.places)) (sym is-v) clash)))
        (Contains-push_cases t.shown new v has-v))
        (λ is-s. ⊎_elim (λ old-v clash. apart v old-v (subst (λ x. Conflict (place_at x.places) (place_at v.places)) (sym is-s) clash))
        (λ is-v. absurd (differ (cc)))
        (Contains-push_cases t.shown new v has-v))
        (Contains-push_cases t.shown new s has-s);
  }
    where
      new : Shown
      new = record { cart = a; places = ps }

      apart : (s : Shown) → Contains t.shown s → Conflict (place_at ps) (place_at s.places) → ⊥
      apart s has = All-contains (λ s. Conflict (place_at ps) (place_at s.places) → ⊥) t.shown s h.free has
  well_kept t c u (by_split is deep many h) well = well
  well_kept t c u (by_close is none) well = well

  pub shown_well : LawfulOpening o → (t : Tally) → Reached o t → ShownWell t.shown
  shown_well sound = kept o sound (λ t. ShownWell t.shown) (λ t c u _. well_kept t c u) (record { are_routes = All-nil (λ s. RouteOf o s.cart s.places); free = λ s u has. absurd (has_none s has) })

once_kept : (o : Opening) (t : Tally) (c : Call) (u : Tally) → Takes o t c u → OnceShown t.shown → OnceShown u.shown
once_kept o t c u (by_show h) once = all_pairs_push (λ s v. s.cart ≡ v.cart → ⊥) t.shown _ once h.new
once_kept o t c u (by_split is deep many h) once = once
once_kept o t c u (by_close is none) once = once

pub shown_exactly : (o : Opening) → LawfulOpening o → (t : Tally) → Reached o t → (a : ℕ) (ps : List ℕ) → (shown_of t a ≡ Some ps) ↔ ShownIn t a ps
shown_exactly o sound t reached a =
    found_exactly a t.shown (kept o sound (λ v. OnceShown v.shown) (λ v c u _. once_kept o v c u) (λ i j d before within. absurd (omega arith)) t reached)
