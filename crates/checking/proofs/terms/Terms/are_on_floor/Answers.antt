use Rattle.std.proofs.Common.{◌∙◌, refl, rules, ltb, ◌&&◌}
use borrow.Author.Tests.{tests}
use Rattle.motion.specs.declared.trip.Trip.{Trip}
use Rattle.motion.specs.Routes.{nowhere}
use Rattle.std.proofs.lemmas.Iterator.Search.{all_from_yields_List}
use Rattle.std.proofs.lemmas.Iterator.{YieldsList-from_slice}
use Rattle.tally.specs.Openings.{is_on_floor}
use Rattle.checking.specs.Checks.{opening_of}
use Rattle.floor.proofs.Deciding.{every_by_number}
use Rattle.checking.proofs.terms.Terms.are_on_floor.Goals as goal

pub returns : goal.returns
returns g c =
    let o = opening_of g.M.FloorMap.floor g.R.SplitRule.rules c.args.self.now in
    let on_floor = λ (t : Trip). ltb t.start.0 o.floor.count && ltb t.target.0 o.floor.count in
    all_from_yields_List on_floor _ _ _ c.all.ensures.ran (YieldsList-from_slice o.trips (cc)) (λ t b q called. search (rules, tests))
    ∙ every_by_number on_floor (is_on_floor o) o.trips nowhere (λ k lt. refl)
