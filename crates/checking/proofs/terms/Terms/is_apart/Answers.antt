use Rattle.std.proofs.Common.{◌∙◌, ap, rules, not, ◌&&◌, eqb, get_or, take, arith}
use borrow.Author.Tests.{tests}
use Rattle.motion.specs.declared.trip.Trip.{Trip}
use Rattle.floor.specs.Tests.{every_below}
use Rattle.motion.specs.Routes.{nowhere}
use Rattle.std.proofs.lemmas.Iterator.Search.{all_from_yields_List}
use Rattle.std.proofs.lemmas.Iterator.{YieldsList-from_slice}
use Rattle.std.proofs.lemmas.List.{get_or-take, length-take-le}
use Rattle.tally.specs.Openings.{are_apart}
use Rattle.checking.specs.Checks.{opening_of}
use Rattle.floor.proofs.Deciding.{every_by_number}
use Rattle.checking.proofs.terms.Terms.is_apart.Goals as goal

pub returns : goal.returns
returns g c =
    let o = opening_of g.M.FloorMap.floor g.R.SplitRule.rules c.args.self.now in
    let a = c.args.a in
    let trip = get_or o.trips a nowhere in
    let apart = λ (t : Trip). not (eqb trip.start.0 t.start.0) && not (eqb trip.target.0 t.target.0) in
    let before = take a o.trips in
    all_from_yields_List apart _ _ _ c.all.ensures.ran (YieldsList-from_slice before (cc)) (λ t b q called. search (rules, tests))
    ∙ every_by_number apart (are_apart o a) before nowhere (λ k lt. ap apart (get_or-take a o.trips k nowhere (omega (arith, length-take-le a o.trips))))
    ∙ ap (every_below (are_apart o a)) (length-take-le a o.trips (omega arith))
