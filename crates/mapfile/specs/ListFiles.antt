-- Reading a list file, front to back, to the network or the first fault.
use Rattle.std.specs.Prelude.{ℕ, zero, suc, ◌+◌, List, [], ◌∷◌, Ok, Err, Result}
use Rattle.cursor.specs.Commands.{operands, told}
use Rattle.cursor.specs.Rests.{Rest, rest}
use Rattle.cursor.specs.Words.{word}
use Rattle.cursor.specs.declared.missing.Missing.{Missing}
use Rattle.floor.specs.Checks.{◌>>=◌}
use Rattle.maps.specs.Networks.{Network, founding, joining}
use Rattle.maps.specs.declared.connection.Connection.{Connection}
use Rattle.maps.specs.declared.refusal.MapRefusal.{MapRefusal}
use Rattle.mapfile.specs.Faults.{fault, missing_fault}
use Rattle.mapfile.specs.declared.fault.Fault.{Fault}

-- a refusal becomes a fault at the offset
abbrev pub blame : {A : Type 0} → ℕ → Result A MapRefusal → Result A Fault
blame at (Ok x) = Ok x
blame at (Err e) = Err (fault e at)

-- the number of places in the `P` command that the file begins with, and what is left behind it
abbrev pub counted : List ℕ → Result (ℕ × Rest) Fault
counted bytes = do
  read ← told missing_fault (operands 80 2 (rest 0 bytes))
  Ok (word read.0 0, read.1)

-- the connection that the operands of a `W` name
abbrev pub connection : List ℕ → Connection
connection ops = record { first = record { 0 = word ops 0 }; second = record { 0 = word ops 2 } }

-- the connection of the `W` command that is due, and what is left behind it
abbrev pub connection_at : Rest → Result (Connection × Rest) Missing
connection_at left = do
  read ← operands 87 4 left
  Ok (connection read.0, read.1)

-- the network with that connection, and what is left behind its command
abbrev pub connected : Network → Rest → Result (Network × Rest) Fault
connected n left = do
  read ← told missing_fault (connection_at left)
  joined ← blame left.at (joining n read.0)
  Ok (joined, read.1)

-- the `W` commands from the offset on, once the bytes that are still due to the one before are passed over
abbrev pub connecting : Network → ℕ → ℕ → List ℕ → Result Network Fault
connecting n due at [] = Ok n
connecting n (suc due) at (b ∷ bytes) = connecting n due (at + 1) bytes
connecting n zero at (b ∷ bytes) = do
  next ← connected n (rest at (b ∷ bytes))
  connecting next.0 4 (at + 1) bytes

unfoldable pub list_reading : List ℕ → Result Network Fault
list_reading bytes = do
  count ← counted bytes
  founded ← blame 0 (founding count.0)
  connecting founded 0 count.1.at count.1.bytes
