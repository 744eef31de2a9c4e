-- The first fault of a plan file stands in the file or at its end.
use Rattle.std.proofs.Common.{ℕ, ◌≤◌, List, length, ap, arith, length-append}
use Rattle.cursor.proofs.Commands.{missing_within}
use Rattle.floor.specs.Floor.{Floor}
use Rattle.splits.specs.Rules.{Rules}
use Rattle.plan.proofs.CallsWritten.{left_within}
use Rattle.plan.proofs.PlanFinds.{length_trips}
use Rattle.plan.specs.FirstFault.{HeadingFault, NoCall, NoGoingOn, PlanFault, no_call, call_refused, no_opening, not_carts, no_trip, in_heading, barred, at_call}
use Rattle.plan.specs.declared.fault.FileRefusal.{FileRefusal}
use Rattle.plan.specs.declared.fault.PlanRefusal.{PlanRefusal}
use Rattle.tally.specs.Openings.{Opening}
use Rattle.tally.specs.Tallies.{Tally}

call_within : (r : Rules) (bytes : List ℕ) (e : FileRefusal) (k : ℕ) → NoCall r bytes e k → k ≤ length bytes
call_within r bytes e k wrong = grind (arith, wrong)

going_on_within : (o : Opening) (t : Tally) (bytes : List ℕ) (e : PlanRefusal) (k : ℕ) → NoGoingOn o t bytes e k → k ≤ length bytes
going_on_within o t bytes e k (no_call {e = d} wrong) = call_within o.rules bytes d k wrong
going_on_within o t bytes e k (call_refused text is) = omega arith

heading_fault_within : (bytes : List ℕ) (e : PlanRefusal) (k : ℕ) → HeadingFault bytes e k → k ≤ length bytes
heading_fault_within bytes e k (no_opening {lack = lack} wrong) = missing_within 79 3 bytes lack k wrong
heading_fault_within bytes e k (not_carts claim carts rest text many) = omega arith
heading_fault_within bytes e k (no_trip {lack = lack} {k = at} claim carts front rest few fewer text wrong) =
    let there = missing_within 67 4 rest lack at wrong in
    let long = simp length-append at (ap length text) in
    let trips = length_trips front in
    omega (arith, there, long, trips)

pub plan_fault_within : (f : Floor) (r : Rules) (bytes : List ℕ) (e : PlanRefusal) (k : ℕ) → PlanFault f r bytes e k → k ≤ length bytes
plan_fault_within f r bytes e k (in_heading wrong) = heading_fault_within bytes e k wrong
plan_fault_within f r bytes e k (barred claim trips rest text bars) = omega arith
plan_fault_within f r bytes e k (at_call {k = at} claim trips calls behind rest text calls_text taken wrong) =
    let there = going_on_within _ _ rest e at wrong in
    let within = left_within r rest calls behind calls_text in
    let long = simp length-append at (ap length text) in
    omega (arith, there, within, long)
