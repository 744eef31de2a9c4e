-- The first fault of a map file stands in the file or at its end.
use Rattle.std.proofs.Common.{◌≡◌, ℕ, ◌+◌, ◌≤◌, true, false, Bool, List, ◌∷◌, ◌++◌, length, ap, arith, length-append}
use Rattle.cursor.proofs.Commands.{missing_within}
use Rattle.maps.specs.Networks.{Network}
use Rattle.maps.specs.declared.refusal.MapRefusal.{MapRefusal}
use Rattle.mapfile.specs.GridFiles.{opening_text}
use Rattle.mapfile.specs.GridLayout.{GridFault, not_opened, no_height, height_off_gauge, no_width_label, no_width, width_off_gauge, no_map_line, wrong_rows, WrongBody}
use Rattle.mapfile.specs.ListLayout.{ListFault, NoBeginning, NoContinuing, list_text, no_count, count_refused, no_connection, connection_refused, at_beginning, at_command}
use Rattle.mapfile.specs.MapFiles.{FaultAs}

beginning_within : (bytes : List ℕ) (e : MapRefusal) (k : ℕ) → NoBeginning bytes e k → k ≤ length bytes
beginning_within bytes e k (no_count {lack = lack} wrong) = missing_within 80 2 bytes lack k wrong
beginning_within bytes e k (count_refused places is) = omega arith

continuing_within : (n : Network) (bytes : List ℕ) (e : MapRefusal) (k : ℕ) → NoContinuing n bytes e k → k ≤ length bytes
continuing_within n bytes e k (no_connection {b = b} {bytes = behind} {lack = lack} wrong) = missing_within 87 4 (b ∷ behind) lack k wrong
continuing_within n bytes e k (connection_refused c is) = omega arith

-- what is within the rest is within the whole
behind : (bytes front rest : List ℕ) (k : ℕ) → bytes ≡ front ++ rest → k ≤ length rest → length front + k ≤ length bytes
behind bytes front rest k text within =
    let long = simp length-append at (ap length text) in omega (arith, long, within)

list_within : (bytes : List ℕ) (e : MapRefusal) (k : ℕ) → ListFault bytes e k → k ≤ length bytes
list_within bytes e k (at_beginning wrong) = beginning_within bytes e k wrong
list_within bytes e k (at_command n rest at proper text wrong) = behind bytes (list_text n) rest at text (continuing_within n rest e at wrong)

body_within : (height width : ℕ) (bytes : List ℕ) (e : MapRefusal) (k : ℕ) → WrongBody height width bytes e k → k ≤ length bytes
body_within height width bytes e k wrong =
    let long = simp length-append at (ap length wrong.text) in
    let place = simp length-append at wrong.place in
    omega (arith, long, place)

grid_within : (bytes : List ℕ) (e : MapRefusal) (k : ℕ) → GridFault bytes e k → k ≤ length bytes
grid_within bytes e k (not_opened at departs) = departs.there
grid_within bytes e k (no_height rest at text wrong) = behind bytes opening_text rest at text wrong.there
grid_within bytes e k (height_off_gauge digits rest n text numeral off) = let long = simp length-append at (ap length text) in omega (arith, long)
grid_within bytes e k (no_width_label height front rest at text headed departs) = behind bytes front rest at text departs.there
grid_within bytes e k (no_width height front rest at text headed wrong) = let long = simp length-append at (ap length text) in let there = wrong.there in simp length-append (omega (arith, long, there))
grid_within bytes e k (width_off_gauge height front digits rest n text headed numeral off) = let long = simp length-append at (ap length text) in simp length-append (omega (arith, long))
grid_within bytes e k (no_map_line height width front rest at text headed departs) = behind bytes front rest at text departs.there
grid_within bytes e k (wrong_rows height width front rest d at text headed wrong) =
    let long = simp length-append at (ap length text) in
    let there = body_within height width rest d at wrong in
    simp length-append (omega (arith, long, there))

pub map_fault_within : (list : Bool) (bytes : List ℕ) (e : MapRefusal) (k : ℕ) → FaultAs list bytes e k → k ≤ length bytes
map_fault_within true bytes e k fault = list_within bytes e k fault
map_fault_within false bytes e k fault = grid_within bytes e k fault
