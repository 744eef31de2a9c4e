-- Places and their numbers: as many, and with the same among them.
use Rattle.std.proofs.Common.{◌≡◌, ℕ, List, [], ◌∷◌, ◌||◌, length, nat_eq, ap, refl}
use Rattle.std.specs.List.{list_any}
use Rattle.std.proofs.lemmas.List.{length-map}
use Rattle.floor.specs.declared.Place.{Place}
use Rattle.maps.specs.Members.{has}
use Rattle.floor.specs.Numbers.{numbers}

pub has_numbers : (ps : List Place) (q : ℕ) → has q (numbers ps) ≡ list_any (λ p. nat_eq p.0 q) ps
has_numbers [] q = refl
has_numbers (p ∷ ps) q = ap (λ b. nat_eq p.0 q || b) (has_numbers ps q)

pub length_numbers : (ps : List Place) → length (numbers ps) ≡ length ps
length_numbers ps = length-map ps (λ p. p.0)
