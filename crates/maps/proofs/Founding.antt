-- When a network of so many places is made, and when it is refused.
use Rattle.std.proofs.Common.{◌≡◌, ℕ, ◌&&◌, ◌↔◌, ◌≤◌, leb, Ok, Err, Decides, MatchResult, refl, arith}
use Rattle.std.proofs.lemmas.Bool.Decides.{Decides-and, nat_tests}
use Rattle.floor.proofs.Chains.{err_exactly, unless_tells}
use Rattle.floor.proofs.Deciding.{decides_leb}
use Rattle.maps.specs.Networks.{Network, FoundingIsProper, FoundingTells, InCount, NotFounded, Proper, bare, founding, off_count}
use Rattle.maps.specs.NetworksLemmas.{bare_proper}
use Rattle.maps.specs.declared.refusal.MapRefusal.{MapRefusal}
use Rattle.maps.specs.declared.refusal.MapRefusal.TheVariants.{Count}

pub founding_ok : (places : ℕ) → 1 ≤ places → places ≤ 1024 → founding places ≡ Ok (bare places)
unfolding founding
founding_ok places some most = grind (arith, nat_tests)

pub founding_gives : (places : ℕ) (n : Network) → founding places ≡ Ok n → (n ≡ bare places) × Proper (bare places)
unfolding founding
founding_gives places n h = (grind (arith, nat_tests), bare_proper places (grind (arith, nat_tests)) (grind (arith, nat_tests)))

founding_is_proper : FoundingIsProper
founding_is_proper places =
    (λ h. (founding_gives places (bare places) h).1, λ proper. founding_ok places proper.lawful.has_a_place proper.lawful.at_most_1024)

module _ (places : ℕ) where
  decides_in_count : Decides (leb 1 places && leb places 1024) (InCount places)
  decides_in_count = Decides-and _ _ (decides_leb 1 places) (decides_leb places 1024)

  in_count_or_not : MatchResult (founding places) (λ _. InCount places) (NotFounded places)
  unfolding founding
  in_count_or_not = unless_tells _ (NotFounded places) _ Count _ decides_in_count (λ in_count. in_count) off_count

  founded_or_not : (e : MapRefusal) → NotFounded places e → InCount places → ⊥
  founded_or_not e (off_count off) in_count = off in_count

  one_refusal : (d e : MapRefusal) → NotFounded places d → NotFounded places e → d ≡ e
  one_refusal d e (off_count off) (off_count off') = refl

  refused_exactly : (e : MapRefusal) → (founding places ≡ Err e) ↔ NotFounded places e
  refused_exactly e = err_exactly _ (NotFounded places) (founding places) e (λ d. one_refusal d e) (λ _ in_count no. founded_or_not e no in_count) in_count_or_not

pub founding_tells : FoundingTells
founding_tells = record { taken = founding_is_proper; refused = refused_exactly }
