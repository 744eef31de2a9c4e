-- A list of places means the route that follows it: what the route test tells.
use Rattle.std.proofs.Common.{◌≡◌, ℕ, suc, ◌<◌, ◌≤◌, ◌↔◌, List, length, get_or, Err, Decides, All, refl, ap, arith, MatchResult}
use Rattle.floor.specs.Floor.{Floor}
use Rattle.floor.proofs.Chains.{unless_tells, ok_exactly, err_exactly}
use Rattle.floor.proofs.Deciding.{decides_every, decides_every_below, decides_leb}
use Rattle.std.proofs.lemmas.Bool.Decides.{Decides-and, Decides-eqb, Decides-like, Decides-ltb, Decides-not, Decides-or}
use Rattle.motion.specs.Listed.{ListedRoute, RouteTestTells, goes_on, is_route, place_at, route_check, steps}
use Rattle.motion.specs.Routes.{Route}
use Rattle.motion.specs.declared.route.RouteRefusal.{RouteRefusal}
use Rattle.motion.specs.declared.route.RouteRefusal.TheVariants.{NoPlace, NoRoute}
use Rattle.motion.proofs.Stepping.{GoesOn, decides_step, route_from_steps, steps_from_route}

pub stays_at : (ps : List ℕ) (n t : ℕ) → steps ps ≤ n → n ≤ t → place_at ps t ≡ place_at ps n
stays_at ps n t past later = ap (λ i. get_or ps i 0) (omega arith)

decides_goes_on : (f : Floor) (ps : List ℕ) (t : ℕ) → Decides (goes_on f ps t) (GoesOn f (place_at ps) (steps ps) t)
decides_goes_on f ps t =
    Decides-and _ _ (decides_step f _ _) (Decides-or _ _ (Decides-ltb _ _) (Decides-not _ (Decides-eqb (place_at ps t) (place_at ps (suc t)))))

module _ (f : Floor) (start target : ℕ) (ps : List ℕ) where
  decides_route : Decides (is_route f start target ps) ((1 ≤ length ps) × (steps ps ≤ 255) × Route f start target (place_at ps) (steps ps))
  decides_route =
      Decides-like _
      (λ h. (h.0.0.0.0, h.0.0.0.1, route_from_steps f (place_at ps) (steps ps) start target (λ t. stays_at ps _ t (omega arith)) h.0.0.1 h.0.1 h.1))
      (λ h. let r = h.2 in ((((h.0, h.1), steps_from_route f (place_at ps) (steps ps) start target r), r.begins), r.arrived (steps ps) (omega arith)))
      (Decides-and _ _
      (Decides-and _ _ (Decides-and _ _ (Decides-and _ _ (decides_leb _ _) (decides_leb _ _)) (decides_every_below _ _ (decides_goes_on f ps) (steps ps))) (Decides-eqb _ _))
      (Decides-eqb _ _))

  -- what each refusal says
  abbrev Faulty : RouteRefusal → Type 0
  Faulty NoPlace = All (λ p. p < f.count) ps → ⊥
  Faulty NoRoute = All (λ p. p < f.count) ps × (ListedRoute f start target ps → ⊥)

  check_tells : MatchResult (route_check f start target ps) (λ _. ListedRoute f start target ps) Faulty
  unfolding route_check
  check_tells =
      unless_tells _ Faulty _ NoPlace _ (decides_every _ _ (λ p. Decides-ltb p f.count) ps)
      (λ on. unless_tells _ Faulty _ NoRoute _ decides_route
      (λ h. record { some = h.0; short = h.1; on_floor = on; route = h.2 })
      (λ refuted. (on, λ listed. refuted (listed.some, listed.short, listed.route))))
      (λ refuted. refuted)

  listed_or_faulty : (e : RouteRefusal) → Faulty e → ListedRoute f start target ps → ⊥
  listed_or_faulty NoPlace off listed = off listed.on_floor
  listed_or_faulty NoRoute fault listed = fault.1 listed

  one_fault : (d e : RouteRefusal) → Faulty d → Faulty e → d ≡ e
  one_fault NoPlace NoPlace off fault = refl
  one_fault NoPlace NoRoute off fault = absurd (off fault.0)
  one_fault NoRoute NoPlace fault off = absurd (off fault.0)
  one_fault NoRoute NoRoute fault other = refl

  pub route_test_tells : RouteTestTells f start target ps
  route_test_tells = record {
    taken = ok_exactly _ Faulty _ tt (λ _ _ _. refl) listed_or_faulty check_tells;
    off_floor = fails NoPlace;
    no_route = fails NoRoute;
  }
    where
      fails : (e : RouteRefusal) → (route_check f start target ps ≡ Err e) ↔ Faulty e
      fails e = err_exactly _ Faulty _ e (λ d. one_fault d e) (λ _ listed fault. listed_or_faulty e fault listed) check_tells
