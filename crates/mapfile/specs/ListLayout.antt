-- The layout of a list file, and what its first fault is.
use Rattle.std.specs.Prelude.{◌≡◌, ℕ, ◌+◌, ◌↔◌, List, ◌∷◌, ◌++◌, length, Ok, Err}
use Rattle.std.specs.List.{flat_map}
use Rattle.cursor.specs.Exactly.{NoCommand}
use Rattle.cursor.specs.Words.{two_bytes}
use Rattle.cursor.specs.declared.missing.Lack.{Lack}
use Rattle.maps.specs.Networks.{Network, NotFounded, NotJoined, Proper}
use Rattle.maps.specs.declared.connection.Connection.{Connection}
use Rattle.maps.specs.declared.refusal.MapRefusal.{MapRefusal}
use Rattle.mapfile.specs.Faults.{refusal_of}
use Rattle.mapfile.specs.ListFiles.{list_reading}
use Rattle.mapfile.specs.declared.fault.Fault.{Fault}

-- ---- the layout

-- `P` and the number of places
abbrev pub count_text : ℕ → List ℕ
count_text places = 80 ∷ two_bytes places

-- `W` and its two places
abbrev pub connection_text : Connection → List ℕ
connection_text c = 87 ∷ (two_bytes c.first.0 ++ two_bytes c.second.0)

-- the number of places, then the connections in their order
abbrev pub list_text : Network → List ℕ
list_text n = count_text n.places ++ flat_map connection_text n.connections

-- a network is read exactly when the bytes are its text
abbrev pub ListReadExactly : List ℕ → Type 0
ListReadExactly bytes = (n : Network) → (list_reading bytes ≡ Ok n) ↔ Proper n × (bytes ≡ list_text n)

-- ---- the first fault

-- the file cannot begin like this
pub data NoBeginning : List ℕ → MapRefusal → ℕ → Type 0 where
  no_count : {bytes : List ℕ} {lack : Lack} {k : ℕ} → NoCommand 80 2 bytes lack k → NoBeginning bytes (refusal_of lack) k
  count_refused : {bytes : List ℕ} {e : MapRefusal} (places : ℕ) → NotFounded places e → NoBeginning (count_text places ++ bytes) e 0

-- a file that has come to this network cannot go on like this, where it does not end; the offset counts from here
pub data NoContinuing (n : Network) : List ℕ → MapRefusal → ℕ → Type 0 where
  no_connection : {b : ℕ} {bytes : List ℕ} {lack : Lack} {k : ℕ} → NoCommand 87 4 (b ∷ bytes) lack k → NoContinuing n (b ∷ bytes) (refusal_of lack) k
  connection_refused : {bytes : List ℕ} {e : MapRefusal} (c : Connection) → NotJoined n c e → NoContinuing n (connection_text c ++ bytes) e 0

-- all before the offset is a network's text, and what stands there does not go on with it
pub data ListFault (bytes : List ℕ) : MapRefusal → ℕ → Type 0 where
  at_beginning : {e : MapRefusal} {k : ℕ} → NoBeginning bytes e k → ListFault bytes e k
  at_command : {e : MapRefusal} (n : Network) (rest : List ℕ) (k : ℕ) → Proper n → bytes ≡ list_text n ++ rest → NoContinuing n rest e k → ListFault bytes e (length (list_text n) + k)

-- a fault is told exactly when it is the first one, and stands where it says
abbrev pub ListFaultsExactly : List ℕ → Type 0
ListFaultsExactly bytes = (f : Fault) → (list_reading bytes ≡ Err f) ↔ ListFault bytes f.refusal f.offset
