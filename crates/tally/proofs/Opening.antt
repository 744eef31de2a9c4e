-- What the answer to an opening tells.
use Rattle.std.proofs.Common.{◌≡◌, Bool, true, false, not, ◌&&◌, leb, ◌↔◌, Ok, Err, Decides, sym, refl, ⊎_elim, arith}
use Rattle.floor.specs.Tests.{every_below}
use Rattle.floor.proofs.Chains.{ok_exactly, passes, refused, unless_tells}
use Rattle.floor.proofs.Deciding.{decides_every_below, decides_leb, false_from_decides}
use Rattle.motion.specs.Trips.{FewCarts, OnFloor, Apart}
use Rattle.std.proofs.lemmas.Bool.{cases_order, cases_lt, not_from_false, not_from_true}
use Rattle.std.proofs.lemmas.Bool.Decides.{Decides-and, Decides-eqb, Decides-like, Decides-ltb, Decides-not}
use Rattle.tally.specs.Laws.{OpeningTells}
use Rattle.tally.specs.Openings.{Opening, Openable, BarredBy, by_carts, by_claim, by_places, by_sharing, are_apart, carts, is_on_floor, opened}
use Rattle.tally.specs.declared.refusal.Refusal.{Refusal}
use Rattle.tally.specs.declared.refusal.Refusal.TheVariants.{Carts, Claim, NoPlace, Shared}
use Rattle.tally.proofs.Chaining.{refusal_told}

module _ (o : Opening) where
  decides_few : Decides (leb 1 (carts o) && leb (carts o) 16) (FewCarts (carts o))
  decides_few = Decides-and _ _ (decides_leb 1 (carts o)) (decides_leb (carts o) 16)

  decides_on_floor : Decides (every_below (is_on_floor o) (carts o)) (OnFloor o.floor o.trips)
  decides_on_floor = decides_every_below _ _ (λ a. Decides-and _ _ (Decides-ltb _ _) (Decides-ltb _ _)) (carts o)

  decides_apart : Decides (every_below (λ a. every_below (are_apart o a) a) (carts o)) (Apart o.trips)
  decides_apart =
      Decides-like _ (λ later a b in_a in_b differ. ⊎_elim (λ same. absurd (differ same))
      (⊎_elim (λ before. let h = later b in_b a before in (λ e. h.0 (sym e), λ e. h.1 (sym e))) (λ after. later a in_a b after)) (cases_order a b))
      (λ apart a in_a b before. apart a b in_a (omega arith) (omega arith))
      (decides_every_below _ _ (λ a. decides_every_below _ _ (λ b. Decides-and _ _ (Decides-not _ (Decides-eqb _ _)) (Decides-not _ (Decides-eqb _ _))) a) (carts o))

  barred_or_openable : (e : Refusal) → BarredBy o e → Openable o → ⊥
  barred_or_openable e (by_carts lacks) openable = lacks openable.few_carts
  barred_or_openable e (by_claim few large) openable = omega (arith, openable.small_claim)
  barred_or_openable e (by_places few small lacks) openable = lacks openable.on_floor
  barred_or_openable e (by_sharing few small on lacks) openable = lacks openable.apart

pub opening_tells : OpeningTells
unfolding opened
opening_tells o =
    unless_tells _ (BarredBy o) _ Carts _ (decides_few o)
    (λ few. unless_tells _ (BarredBy o) _ Claim _ (decides_leb _ _)
    (λ small. unless_tells _ (BarredBy o) _ NoPlace _ (decides_on_floor o)
    (λ on. unless_tells _ (BarredBy o) _ Shared _ (decides_apart o)
    (λ apart. record { few_carts = few; small_claim = small; on_floor = on; apart = apart })
    (by_sharing few small on))
    (by_places few small))
    (λ above. by_claim few (⊎_elim (λ lt. lt) (λ le. absurd (above le)) (cases_lt 4000 o.claim))))
    by_carts

pub opened_exactly : (o : Opening) → (opened o ≡ Ok tt) ↔ Openable o
opened_exactly o = ok_exactly _ (BarredBy o) (opened o) tt (λ _ _ _. refl) (barred_or_openable o) (opening_tells o)

-- ---- and back

pub barred_exactly : (o : Opening) (e : Refusal) → (opened o ≡ Err e) ↔ BarredBy o e
unfolding opened
barred_exactly o e = (refusal_told (λ _. Openable o) (BarredBy o) _ e (opening_tells o), barred e)
  where
    -- a condition that holds passes its test, and one that does not is refused
    held : (t : Bool) (C : Type 0) → Decides t C → C → not t ≡ false
    held t C decides holds = not_from_true t (decides.1 holds)

    failed : (t : Bool) (C : Type 0) → Decides t C → (C → ⊥) → not t ≡ true
    failed t C decides fails = not_from_false t (false_from_decides t decides fails)

    barred : (e : Refusal) → BarredBy o e → opened o ≡ Err e
    barred e (by_carts lacks) = refused _ _ _ (failed _ _ (decides_few o) lacks)
    barred e (by_claim few large) = passes _ _ _ _ (held _ _ (decides_few o) few) (refused _ _ _ (failed _ _ (decides_leb o.claim 4000) (λ small. omega (arith, small, large))))
    barred e (by_places few small lacks) =
        passes _ _ _ _ (held _ _ (decides_few o) few) (passes _ _ _ _ (held _ _ (decides_leb o.claim 4000) small) (refused _ _ _ (failed _ _ (decides_on_floor o) lacks)))
    barred e (by_sharing few small on lacks) =
        passes _ _ _ _ (held _ _ (decides_few o) few) (passes _ _ _ _ (held _ _ (decides_leb o.claim 4000) small)
        (passes _ _ _ _ (held _ _ (decides_on_floor o) on) (refused _ _ _ (failed _ _ (decides_apart o) lacks))))
