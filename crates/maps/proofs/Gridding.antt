-- When a grid is made, and when it is refused.
use Rattle.std.proofs.Common.{◌≡◌, ℕ, ◌*◌, ◌&&◌, ◌↔◌, leb, length, Err, Decides, MatchResult, refl, arith}
use Rattle.std.proofs.lemmas.Bool.Decides.{Decides-and, Decides-eqb, nat_tests}
use Rattle.floor.proofs.Chains.{err_exactly, unless_tells}
use Rattle.floor.proofs.Deciding.{decides_leb}
use Rattle.maps.specs.Grids.{Grid, GriddingIsSized, GriddingTells, InGauge, NotGridded, Sized, gridding, not_filled, off_gauge}
use Rattle.maps.specs.declared.refusal.MapRefusal.{MapRefusal}
use Rattle.maps.specs.declared.refusal.MapRefusal.TheVariants.{Gauge, Ragged}

pub gridding_is_sized : GriddingIsSized
unfolding gridding
gridding_is_sized g = (
  λ made. record { some_rows = grind (arith, nat_tests); most_rows = grind (arith, nat_tests); some_columns = grind (arith, nat_tests); most_columns = grind (arith, nat_tests); filled = grind (arith, nat_tests) },
  λ sized. grind (arith, nat_tests),
)

decides_in_gauge : (n : ℕ) → Decides (leb 1 n && leb n 32) (InGauge n)
decides_in_gauge n = Decides-and _ _ (decides_leb 1 n) (decides_leb n 32)

module _ (g : Grid) where
  sized_or_not : MatchResult (gridding g.height g.width g.free) (λ _. Sized g) (NotGridded g)
  unfolding gridding
  sized_or_not =
      unless_tells _ (NotGridded g) _ Gauge _ (decides_in_gauge g.height)
      (λ tall. unless_tells _ (NotGridded g) _ Gauge _ (decides_in_gauge g.width)
      (λ wide. unless_tells _ (NotGridded g) _ Ragged _ (Decides-eqb (length g.free) (g.height * g.width))
      (λ filled. record { some_rows = tall.0; most_rows = tall.1; some_columns = wide.0; most_columns = wide.1; filled = filled })
      (not_filled tall wide))
      (λ off. off_gauge (λ both. off both.1)))
      (λ off. off_gauge (λ both. off both.0))

  gridded_or_not : (e : MapRefusal) → NotGridded g e → Sized g → ⊥
  gridded_or_not e (off_gauge off) sized = off ((sized.some_rows, sized.most_rows), (sized.some_columns, sized.most_columns))
  gridded_or_not e (not_filled tall wide other) sized = other sized.filled

  one_refusal : (d e : MapRefusal) → NotGridded g d → NotGridded g e → d ≡ e
  one_refusal d e (off_gauge off) (off_gauge off') = refl
  one_refusal d e (off_gauge off) (not_filled tall wide other) = absurd (off (tall, wide))
  one_refusal d e (not_filled tall wide other) (off_gauge off) = absurd (off (tall, wide))
  one_refusal d e (not_filled tall wide other) (not_filled tall' wide' other') = refl

  refused_exactly : (e : MapRefusal) → (gridding g.height g.width g.free ≡ Err e) ↔ NotGridded g e
  refused_exactly e = err_exactly _ (NotGridded g) (gridding g.height g.width g.free) e (λ d. one_refusal d e) (λ _ sized no. gridded_or_not e no sized) sized_or_not

pub gridding_tells : GriddingTells
gridding_tells = record { taken = gridding_is_sized; refused = refused_exactly }
