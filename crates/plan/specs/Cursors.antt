-- What the reader of a plan holds, in the terms of the reading that is defined.
use Rattle.std.specs.Prelude.{ℕ, List, [], ◌∷◌, Some, None, Err, Option, Result}
use Rattle.std.specs.Option.{option_map}
use Rattle.std.specs.Result.{result_map_both}
use Rattle.arrayvec.specs.ArrayVec.{ArrayVec}
use Rattle.cursor.specs.Rests.{Rest, rest_of}
use Rattle.cursor.specs.declared.reader.Cursor.{Cursor}
use Rattle.motion.specs.declared.trip.Trip.{Trip}
use Rattle.splits.specs.Rules.{Rules}
use Rattle.plan.specs.Commands.{Found, Item, call_of, commands, found}
use Rattle.plan.specs.Faults.{file_fault}
use Rattle.plan.specs.Headings.{Heading as Meant}
use Rattle.plan.specs.declared.command.Command.{Command}
use Rattle.plan.specs.declared.fault.Fault.{Fault}
use Rattle.plan.specs.declared.heading.Heading.{Heading}
use Rattle.plan.specs.declared.fault.FileRefusal.TheVariants.{CutShort}

-- trips that were read, and what is left behind them
abbrev pub trips_taken : ArrayVec Trip × Cursor → List Trip × Rest
trips_taken p = (p.0.items, rest_of p.1)

abbrev pub heading_of : Heading → Meant
heading_of h = record { claim = h.claim; trips = h.trips.items; behind = rest_of h.behind }

-- what the bytes that are left begin with
abbrev pub found_at : Rules → ℕ → List ℕ → Found
found_at r at [] = Err (file_fault CutShort at)
found_at r at (letter ∷ bytes) = found r at letter bytes

-- a command that was read, as the call that it stands for
abbrev pub as_found : Result (Option (Command × ℕ)) Fault → Found
as_found result = result_map_both (λ read. option_map (λ p. (call_of p.0, p.1)) read) (λ f. f) result

-- an item of the file as it is handed out
abbrev pub as_item : Result (ℕ × Command) Fault → Item
as_item result = result_map_both (λ p. (p.0, call_of p.1)) (λ f. f) result

-- the items that are left, where anything is left to read
abbrev pub items_left : Rules → Option Cursor → List Item
items_left r (Some c) = commands r 0 c.at c.bytes.now
items_left r None = []
