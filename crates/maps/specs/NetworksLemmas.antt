-- What every network is, and what a front of a proper one is.
use mathlib.Core.HLevel.{⊥_prop}
use Rattle.std.specs.Prelude.{ℕ, ◌≤◌, List, [], ◌∷◌, ◌++◌}
use Rattle.std.proofs.Math.Logic.{∥∥₁_elim}
use Rattle.std.proofs.Math.Bridge.{le_prop}
use Rattle.std.proofs.Common.{arith}
use Rattle.std.proofs.lemmas.List.Elements.{Contains-append_left}
use Rattle.std.proofs.lemmas.List.{length-append}
use Rattle.floor.specs.Floor.{Joined, Lawful}
use Rattle.maps.specs.Networks.{Network, Linked, Proper, NeighboursAreLinked, bare, partners, network_floor, with_connection}
use Rattle.maps.specs.declared.connection.Connection.{Connection}
use Rattle.maps.specs.OnceLemmas.{once_front, once_nil}
use Rattle.maps.specs.PartnersLemmas.{linked_from_has, has_from_linked, linked_back, partners_append}

module _ (n : Network) (p q : ℕ) where
  pub linked_from_joined : Joined (network_floor n) p q → Linked p q n.connections
  linked_from_joined j = linked_from_has p q n.connections j

  pub joined_from_linked : Linked p q n.connections → Joined (network_floor n) p q
  joined_from_linked l = has_from_linked p q n.connections l

pub neighbours_are_linked : (n : Network) → NeighboursAreLinked n
neighbours_are_linked n p q = (linked_from_joined n p q, joined_from_linked n p q)

pub joined_back : (n : Network) (p q : ℕ) → Joined (network_floor n) p q → Joined (network_floor n) q p
joined_back n p q j = joined_from_linked n q p (linked_back p q n.connections (linked_from_joined n p q j))

-- all but `both_ways` lies in propositions
pub lawful_out : (n : Network) → ∥ Lawful (network_floor n) ∥₁ → Lawful (network_floor n)
lawful_out n law = record {
  has_a_place = ∥∥₁_elim law le_prop (λ l. l.has_a_place);
  at_most_1024 = ∥∥₁_elim law le_prop (λ l. l.at_most_1024);
  at_most_8_neighbours = λ p. ∥∥₁_elim law le_prop (λ l. l.at_most_8_neighbours p);
  on_floor = λ p q j. (∥∥₁_elim law le_prop (λ l. (l.on_floor p q j).0), ∥∥₁_elim law le_prop (λ l. (l.on_floor p q j).1));
  not_its_own = λ p j. ∥∥₁_elim law ⊥_prop (λ l. l.not_its_own p j);
  once = λ p i j d before within e. ∥∥₁_elim law ⊥_prop (λ l. l.once p i j d before within e);
  both_ways = joined_back n;
}

pub bare_lawful : (places : ℕ) → 1 ≤ places → places ≤ 1024 → Lawful (network_floor (bare places))
bare_lawful places some most = record {
  has_a_place = some;
  at_most_1024 = most;
  at_most_8_neighbours = λ p. omega arith;
  on_floor = λ p q j. absurd (nobody p q j);
  not_its_own = λ p j. nobody p p j;
  once = λ p. once_nil;
  both_ways = joined_back (bare places);
}
  where
    nobody : (p q : ℕ) → Joined (network_floor (bare places)) p q → ⊥
    nobody p q j = let lt = j.1 in omega arith

pub bare_proper : (places : ℕ) → 1 ≤ places → places ≤ 1024 → Proper (bare places)
bare_proper places some most = record { lawful = bare_lawful places some most; few = omega arith }

-- the connections that came first make a proper network too
module _ (places : ℕ) (cs ds : List Connection) where
  abbrev front : Network
  front = record { places = places; connections = cs }

  abbrev whole : Network
  whole = record { places = places; connections = cs ++ ds }

  joined_front : (p q : ℕ) → Joined (network_floor front) p q → Joined (network_floor whole) p q
  joined_front p q j = rw (partners_append p cs ds) (Contains-append_left (partners p cs) (partners p ds) q j)

  pub proper_prefix : Proper whole → Proper front
  proper_prefix proper = record {
    lawful = record {
      has_a_place = law.has_a_place;
      at_most_1024 = law.at_most_1024;
      at_most_8_neighbours = λ p. let long = length-append (partners p cs) (partners p ds) in let le = rw (partners_append p cs ds) at (law.at_most_8_neighbours p) in omega arith;
      on_floor = λ p q j. law.on_floor p q (joined_front p q j);
      not_its_own = λ p j. law.not_its_own p (joined_front p p j);
      once = λ p. once_front (partners p cs) (partners p ds) (rw (partners_append p cs ds) at (law.once p));
      both_ways = joined_back front;
    };
    few = let long = length-append cs ds in let le = proper.few in omega arith;
  }
    where
      law : Lawful (network_floor whole)
      law = proper.lawful

pub proper_front : (n : Network) (c : Connection) → Proper (with_connection n c) → Proper n
proper_front n c = proper_prefix n.places n.connections (c ∷ [])
