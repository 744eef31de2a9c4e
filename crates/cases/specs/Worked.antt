-- Cases worked out by hand, each with what comes of it.
use Rattle.std.specs.Prelude.{◌≡◌, ℕ, Bool, true, false, List, [], ◌∷◌, ◌++◌, Some, Ok, Err, codes, All, Option, Result}
use Rattle.floor.specs.Floor.{Floor}
use Rattle.maps.specs.AnyMaps.{Hall, listed, gridded}
use Rattle.maps.specs.Networks.{network_floor}
use Rattle.maps.specs.declared.refusal.MapRefusal.TheVariants.{Headless, Gauge, NoPlace, Twice}
use Rattle.mapfile.specs.Faults.{fault}
use Rattle.mapfile.specs.MapFiles.{map_reading}
use Rattle.mapfile.specs.declared.fault.Fault.{Fault as MapFault}
use Rattle.motion.specs.Listed.{in_conflict}
use Rattle.motion.specs.declared.ban.Ban.{Ban}
use Rattle.motion.specs.declared.ban.Ban.TheVariants.{Late, Stand}
use Rattle.motion.specs.declared.trip.Trip.{Trip}
use Rattle.report.specs.Faults.{fault_text}
use Rattle.report.specs.Files.{files_reading}
use Rattle.report.specs.declared.fault.Fault.{Fault}
use Rattle.samples.specs.Floors.{line, small_floor}
use Rattle.samples.specs.Trips.{trip}
use Rattle.search.specs.Least.{least_length}
use Rattle.splits.specs.Own.{own}
use Rattle.splits.specs.Rules.{Sides}
use Rattle.splits.specs.declared.refusal.SplitRefusal.TheVariants.{Unlawful}
use Rattle.tally.specs.Standings.{text_of}
use Rattle.tally.specs.declared.standing.Standing.{Standing}

pub data Case : Type 0 where
  -- a map file comes to a hall or a fault
  reading : List ℕ → Result Hall MapFault → Case
  -- two lists of places conflict, or not
  meeting : List ℕ → List ℕ → Bool → Case
  -- how long a cart's shortest route under bans is, below a limit
  shortest : Floor → List Trip → List Ban → ℕ → ℕ → Option ℕ → Case
  -- a letter with its operands gives two sides or a refusal
  splitting : Floor → List Trip → List Ban → ℕ → List ℕ → Sides → Case
  -- of a map file and a plan file this line is printed
  settling : List ℕ → List ℕ → List ℕ → Case

-- what is printed of two files
abbrev pub line_of : Result Standing Fault → List ℕ
line_of (Ok s) = text_of s.verdict
line_of (Err f) = fault_text f

-- what comes of the case is what was worked out
abbrev pub ComesOut : Case → Type 0
ComesOut (reading bytes outcome) = map_reading bytes ≡ outcome
ComesOut (meeting ps qs conflict) = in_conflict ps qs ≡ conflict
ComesOut (shortest f trips bans a limit length) = least_length f trips bans a limit ≡ length
ComesOut (splitting f trips bans letter ops sides) = own.sides f trips bans letter ops ≡ sides
ComesOut (settling map plan told) = line_of (files_reading map plan) ≡ told

-- the small floor's map
abbrev pub small_map : List ℕ
small_map = 80 ∷ 0 ∷ 5 ∷ 87 ∷ 0 ∷ 0 ∷ 0 ∷ 1 ∷ 87 ∷ 0 ∷ 1 ∷ 0 ∷ 2 ∷ 87 ∷ 0 ∷ 2 ∷ 0 ∷ 3 ∷ 87 ∷ 0 ∷ 2 ∷ 0 ∷ 4 ∷ []

-- the map of six places in a line
abbrev pub line_map : List ℕ
line_map = 80 ∷ 0 ∷ 6 ∷ 87 ∷ 0 ∷ 0 ∷ 0 ∷ 1 ∷ 87 ∷ 0 ∷ 1 ∷ 0 ∷ 2 ∷ 87 ∷ 0 ∷ 2 ∷ 0 ∷ 3 ∷ 87 ∷ 0 ∷ 3 ∷ 0 ∷ 4 ∷ 87 ∷ 0 ∷ 4 ∷ 0 ∷ 5 ∷ []

abbrev pub readings : List Case
readings =
    reading small_map (Ok (listed small_floor)) ∷ reading line_map (Ok (listed line))
    ∷ reading (codes "type octile\nheight 2\nwidth 3\nmap\n.@.\n...\n") (Ok (gridded (record { height = 2; width = 3; free = true ∷ false ∷ true ∷ true ∷ true ∷ true ∷ [] })))
    ∷ reading [] (Err (fault Headless 0)) ∷ reading (80 ∷ 0 ∷ 2 ∷ 87 ∷ 0 ∷ 0 ∷ 0 ∷ 2 ∷ []) (Err (fault NoPlace 3))
    ∷ reading (80 ∷ 0 ∷ 2 ∷ 87 ∷ 0 ∷ 0 ∷ 0 ∷ 1 ∷ 87 ∷ 0 ∷ 1 ∷ 0 ∷ 0 ∷ []) (Err (fault Twice 8))
    ∷ reading (codes "type octile\nheight 33\nwidth x\n") (Err (fault Gauge 19)) ∷ []

-- one behind the other; a swap; one runs into another that has arrived
abbrev pub meetings : List Case
meetings =
    meeting (0 ∷ 1 ∷ 2 ∷ []) (1 ∷ 2 ∷ 3 ∷ []) false ∷ meeting (0 ∷ 1 ∷ []) (1 ∷ 0 ∷ []) true
    ∷ meeting (0 ∷ 1 ∷ 2 ∷ 3 ∷ []) (4 ∷ 2 ∷ []) true ∷ []

-- a cart that starts at its target, but may not have arrived at tick 0: it goes away and comes back
abbrev pub lengths : List Case
lengths =
    shortest (network_floor small_floor) (trip 4 4 ∷ []) (Late (record { 0 = 0 }) (record { 0 = 0 }) ∷ []) 0 10 (Some 2) ∷ []

-- the carts go through the line, one each way, the first from p; the corridor is that from 1 by 2, three places long,
-- and they are to be through by ticks m and n
abbrev pub through : ℕ → ℕ → ℕ → Sides → Case
through p m n = splitting (network_floor line) (trip p 5 ∷ trip 5 0 ∷ []) [] 75 (0 ∷ 1 ∷ 0 ∷ 1 ∷ 0 ∷ 2 ∷ 3 ∷ 0 ∷ m ∷ 0 ∷ n ∷ [])

-- taken; the other cart could be through before tick 8; a cart that starts within the corridor
abbrev pub splittings : List Case
splittings =
    through 0 7 7 (Ok (Stand (record { 0 = 0 }) (record { 0 = 4 }) (record { 0 = 0 }) (record { 0 = 7 }), Stand (record { 0 = 1 }) (record { 0 = 1 }) (record { 0 = 0 }) (record { 0 = 7 })))
    ∷ through 0 8 7 (Err Unlawful) ∷ through 2 7 7 (Err Unlawful) ∷ []

-- its plan's heading and the route of cart 0: a claim of 6; cart 0 from 0 to 3, and cart 1 from 4 to 2
abbrev pub small_heading : List ℕ
small_heading = 79 ∷ 0 ∷ 6 ∷ 2 ∷ 67 ∷ 0 ∷ 0 ∷ 0 ∷ 3 ∷ 67 ∷ 0 ∷ 4 ∷ 0 ∷ 2 ∷ 82 ∷ 0 ∷ 3 ∷ 0 ∷ 0 ∷ 0 ∷ 1 ∷ 0 ∷ 2 ∷ 0 ∷ 3 ∷ []

-- and with the route of cart 1, which waits until cart 0 has passed
abbrev pub small_front : List ℕ
small_front = small_heading ++ (82 ∷ 1 ∷ 3 ∷ 0 ∷ 4 ∷ 0 ∷ 4 ∷ 0 ∷ 4 ∷ 0 ∷ 2 ∷ [])

-- split on whether the length of cart 1 is at most t
abbrev pub by_tick : ℕ → List ℕ
by_tick t = 84 ∷ 1 ∷ 0 ∷ t ∷ []

-- two places joined, and two carts that change places
abbrev pub pair_map : List ℕ
pair_map = 80 ∷ 0 ∷ 2 ∷ 87 ∷ 0 ∷ 0 ∷ 0 ∷ 1 ∷ []

abbrev pub changing_places : List ℕ
changing_places = 79 ∷ 0 ∷ 2 ∷ 2 ∷ 67 ∷ 0 ∷ 0 ∷ 0 ∷ 1 ∷ 67 ∷ 0 ∷ 1 ∷ 0 ∷ 0 ∷ 82 ∷ 0 ∷ 1 ∷ 0 ∷ 0 ∷ 0 ∷ 1 ∷ 82 ∷ 1 ∷ 1 ∷ 0 ∷ 1 ∷ 0 ∷ 0 ∷ 90 ∷ []

-- a plan on the line with the same corridor: cart 0 from p to 5 and cart 1 from 5 to 0, to be through by ticks m and 7,
-- and no closing
abbrev pub through_line : ℕ → ℕ → List ℕ
through_line p m =
    79 ∷ 0 ∷ 10 ∷ 2 ∷ 67 ∷ 0 ∷ p ∷ 0 ∷ 5 ∷ 67 ∷ 0 ∷ 5 ∷ 0 ∷ 0 ∷ 75 ∷ 0 ∷ 1 ∷ 0 ∷ 1 ∷ 0 ∷ 2 ∷ 3 ∷ 0 ∷ m ∷ 0 ∷ 7 ∷ 90 ∷ []

-- the whole plan; split at another tick; without the split; with one closing of two; a cart that stays at place 3; cart 1
-- goes to 2 at once, where cart 0 runs into it; two carts that change places; the three splits of the line
abbrev pub settlings : List Case
settlings =
    settling small_map (small_front ++ (by_tick 2 ++ (88 ∷ 88 ∷ 90 ∷ []))) (codes "least 6")
    ∷ settling small_map (small_front ++ (by_tick 1 ++ (88 ∷ 88 ∷ 90 ∷ []))) (codes "refused call 20 40")
    ∷ settling small_map (small_front ++ (88 ∷ 88 ∷ 90 ∷ [])) (codes "refused call 20 36")
    ∷ settling small_map (small_front ++ (by_tick 2 ++ (88 ∷ 90 ∷ []))) (codes "open 1")
    ∷ settling small_map (79 ∷ 0 ∷ 0 ∷ 1 ∷ 67 ∷ 0 ∷ 3 ∷ 0 ∷ 3 ∷ 82 ∷ 0 ∷ 0 ∷ 0 ∷ 3 ∷ 88 ∷ 90 ∷ []) (codes "least 0")
    ∷ settling small_map (small_heading ++ (82 ∷ 1 ∷ 1 ∷ 0 ∷ 4 ∷ 0 ∷ 2 ∷ 90 ∷ [])) (codes "refused call 15 25")
    ∷ settling pair_map changing_places (codes "refused call 15 21")
    ∷ settling line_map (through_line 0 7) (codes "open 2")
    ∷ settling line_map (through_line 0 8) (codes "refused call 19 14")
    ∷ settling line_map (through_line 2 7) (codes "refused call 19 14") ∷ []

abbrev pub worked : List Case
worked = readings ++ (meetings ++ (lengths ++ (splittings ++ settlings)))

abbrev pub WorkedCases : Type 0
WorkedCases = All ComesOut worked
