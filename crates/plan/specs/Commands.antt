-- The calls that the commands behind a plan's heading stand for.
use Rattle.std.specs.Prelude.{ℕ, zero, suc, ◌+◌, ◌*◌, List, [], ◌∷◌, length, take, Some, None, Ok, Err, Option, Result, ◌==◌, nat_le, if◌then◌else◌}
use Rattle.splits.specs.Rules.{Rules}
use Rattle.plan.specs.Faults.{file_fault}
use Rattle.plan.specs.declared.command.Command.{Command}
use Rattle.plan.specs.declared.command.Command.TheVariants.{Route, Split, Close}
use Rattle.plan.specs.declared.fault.Fault.{Fault}
use Rattle.plan.specs.declared.fault.FileRefusal.TheVariants.{Letter, CutShort, Trailing}
use Rattle.tally.specs.Calls.{Call, show, split, close}

-- the numbers that the bytes hold, two by two, the most significant byte first
abbrev pub words : List ℕ → List ℕ
words [] = []
words (high ∷ []) = []
words (high ∷ low ∷ bytes) = (high * 256 + low) ∷ words bytes

-- the call that a command stands for
abbrev pub call_of : Command → Call
call_of (Route cart places) = show cart.0 (words places.bytes.now)
call_of (Split letter behind) = split letter behind.now
call_of Close = close

-- a call, and how many bytes behind its letter it takes; none where the plan ends
abbrev pub Found : Type 0
Found = Result (Option (Call × ℕ)) Fault

-- a cart, the number of steps, and two bytes for each place
abbrev pub route_found : ℕ → List ℕ → Found
route_found at [] = Err (file_fault CutShort (at + 1))
route_found at (a ∷ []) = Err (file_fault CutShort (at + 2))
route_found at (a ∷ steps ∷ bytes) =
    let size = 2 * (steps + 1) in
    if nat_le size (length bytes) then Ok (Some (show a (words (take size bytes)), 2 + size)) else Err (file_fault CutShort (at + 3 + length bytes))

abbrev pub split_found : ℕ → ℕ → List ℕ → Option ℕ → Found
split_found at letter bytes (Some n) = Ok (Some (split letter bytes, n))
split_found at letter bytes None = Err (file_fault CutShort (at + 1 + length bytes))

abbrev pub end_found : ℕ → List ℕ → Found
end_found at [] = Ok None
end_found at (b ∷ bytes) = Err (file_fault Trailing (at + 1))

-- what the letter at the offset and the bytes behind it say
abbrev pub found : Rules → ℕ → ℕ → List ℕ → Found
found r at letter bytes =
    if letter == 82 then route_found at bytes
    else if letter == 88 then Ok (Some (close, 0))
    else if letter == 90 then end_found at bytes
    else if r.knows letter then split_found at letter bytes (r.width letter bytes)
    else Err (file_fault Letter at)

-- a call at its offset, or the fault that ends the reading
abbrev pub Item : Type 0
Item = Result (ℕ × Call) Fault

abbrev pub before_others : ℕ → Found → (ℕ → List Item) → List Item
before_others at (Ok (Some (call, n))) others = Ok (at, call) ∷ others n
before_others at (Ok None) others = []
before_others at (Err f) others = Err f ∷ []

-- what the bytes from the offset on hold, once those still due to the command before are passed over
unfoldable pub commands : Rules → ℕ → ℕ → List ℕ → List Item
commands r due at [] = Err (file_fault CutShort at) ∷ []
commands r (suc due) at (b ∷ bytes) = commands r due (at + 1) bytes
commands r zero at (b ∷ bytes) = before_others at (found r at b bytes) (λ n. commands r n (at + 1) bytes)
