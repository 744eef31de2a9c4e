-- A network: places and the connections between them. It means a floor whose neighbours come in the order of
-- the connections.
use Rattle.std.specs.Prelude.{◌≡◌, ℕ, ◌≤◌, cond, not, ◌&&◌, ◌||◌, ◌⊎◌, ◌↔◌, List, [], ◌∷◌, ◌++◌, length, Ok, Err, Result, ◌==◌, nat_le}
use Rattle.floor.specs.Checks.{refuse, ◌>>◌}
use Rattle.floor.specs.Floor.{Floor, Joined, Lawful}
use Rattle.maps.specs.Members.{has}
use Rattle.maps.specs.declared.connection.Connection.{Connection}
use Rattle.maps.specs.declared.refusal.MapRefusal.{MapRefusal}
use Rattle.maps.specs.declared.refusal.MapRefusal.TheVariants.{Count, NoPlace, Twice, Crowded}

pub record Network : Type 0 where
  pub places : ℕ
  pub connections : List Connection

-- ---- the meaning

-- c joins p and q, either way round
abbrev pub Links : ℕ → ℕ → Connection → Type 0
Links p q c = ((c.first.0 ≡ p) × (c.second.0 ≡ q)) ⊎ ((c.first.0 ≡ q) × (c.second.0 ≡ p))

-- one of the connections joins p and q
abbrev pub Linked : ℕ → ℕ → List Connection → Type 0
Linked p q [] = ⊥
Linked p q (c ∷ cs) = Links p q c ⊎ Linked p q cs

-- the places at the other end of each connection that has an end at p
abbrev pub partners : ℕ → List Connection → List ℕ
partners p [] = []
partners p (c ∷ cs) =
    cond (c.first.0 == p) (c.second.0 ∷ partners p cs) (cond (c.second.0 == p) (c.first.0 ∷ partners p cs) (partners p cs))

abbrev pub network_floor : Network → Floor
network_floor n = record { count = n.places; next = λ p. partners p n.connections }

-- what a list map may be: a lawful floor, of at most 4,096 connections
pub record Proper (n : Network) : Type 0 where
  pub lawful : Lawful (network_floor n)
  pub few : length n.connections ≤ 4096

-- q is a neighbour of p exactly when a connection joins them
abbrev pub NeighboursAreLinked : Network → Type 0
NeighboursAreLinked n = (p q : ℕ) → Joined (network_floor n) p q ↔ Linked p q n.connections

-- ---- how one is built

abbrev pub with_connection : Network → Connection → Network
with_connection n c = record { places = n.places; connections = n.connections ++ c ∷ [] }

abbrev pub bare : ℕ → Network
bare places = record { places = places; connections = [] }

-- a network of so many places and no connection
unfoldable pub founding : ℕ → Result Network MapRefusal
founding places = do
  refuse (not (nat_le 1 places && nat_le places 1024)) Count
  Ok (bare places)

-- one connection more
unfoldable pub joining : Network → Connection → Result Network MapRefusal
joining n c = do
  refuse (nat_le 4096 (length n.connections)) Count
  refuse (nat_le n.places c.first.0 || nat_le n.places c.second.0) NoPlace
  refuse (c.first.0 == c.second.0 || has c.second.0 (partners c.first.0 n.connections)) Twice
  refuse (nat_le 8 (length (partners c.first.0 n.connections)) || nat_le 8 (length (partners c.second.0 n.connections))) Crowded
  Ok (with_connection n c)

-- ---- why one is refused

-- as many places as a floor may have
abbrev pub InCount : ℕ → Type 0
InCount places = (1 ≤ places) × (places ≤ 1024)

-- why there is no network of so many places
pub data NotFounded (places : ℕ) : MapRefusal → Type 0 where
  off_count : (InCount places → ⊥) → NotFounded places Count

-- there are as many connections as there may be
abbrev pub Full : Network → Type 0
Full n = 4096 ≤ length n.connections

-- one of the ends is not on the floor
abbrev pub OffFloor : Network → Connection → Type 0
OffFloor n c = (n.places ≤ c.first.0) ⊎ (n.places ≤ c.second.0)

-- the ends are one place, or a connection joins them
abbrev pub AlreadyJoined : Network → Connection → Type 0
AlreadyJoined n c = (c.first.0 ≡ c.second.0) ⊎ Linked c.first.0 c.second.0 n.connections

-- p has eight neighbours already
abbrev pub HasEight : Network → ℕ → Type 0
HasEight n p = 8 ≤ length ((network_floor n).next p)

-- why a connection is not joined: of the four the first that holds
pub data NotJoined (n : Network) (c : Connection) : MapRefusal → Type 0 where
  full : Full n → NotJoined n c Count
  off_floor : (Full n → ⊥) → OffFloor n c → NotJoined n c NoPlace
  already_joined : (Full n → ⊥) → (OffFloor n c → ⊥) → AlreadyJoined n c → NotJoined n c Twice
  crowded : (Full n → ⊥) → (OffFloor n c → ⊥) → (AlreadyJoined n c → ⊥) → HasEight n c.first.0 ⊎ HasEight n c.second.0 → NotJoined n c Crowded

-- ---- what the tests tell

-- the tests refuse exactly what would be no list map
abbrev pub FoundingIsProper : Type 0
FoundingIsProper = (places : ℕ) → (founding places ≡ Ok (bare places)) ↔ Proper (bare places)

abbrev pub JoiningIsProper : Type 0
JoiningIsProper = (n : Network) (c : Connection) → Proper n → (joining n c ≡ Ok (with_connection n c)) ↔ Proper (with_connection n c)

-- each answer, and when it is given
pub record FoundingTells : Type 0 where
  pub taken : FoundingIsProper
  pub refused : (places : ℕ) (e : MapRefusal) → (founding places ≡ Err e) ↔ NotFounded places e

pub record JoiningTells : Type 0 where
  pub taken : JoiningIsProper
  pub refused : (n : Network) (c : Connection) (e : MapRefusal) → (joining n c ≡ Err e) ↔ NotJoined n c e
