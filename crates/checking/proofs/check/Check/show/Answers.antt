use Rattle.std.proofs.lemmas.Result.{err_from_is_err_and}
use Rattle.checking.proofs.Calling.{no_such_cart, shown_already, no_route, conflict_found, room_for_route, route_shown}
use Rattle.checking.proofs.check.Check.show.Goals as goal

pub returns-in_err-trip-clause-answers : goal.returns-in_err-trip-clause-answers
returns-in_err-trip-clause-answers g c =
    let p = err_from_is_err_and c.from_residual-in_err-trip.result c.from_residual-in_err-trip.ensures.1 in
    rw (p.1, p.2, c.in_err-trip.ensures.refused.1) (no_such_cart _ _ c.in_ok-opened.ensures _ _ c.in_err-trip.ensures.refused.0)

pub returns-then-has-clause-answers : goal.returns-then-has-clause-answers
returns-then-has-clause-answers g c = shown_already _ _ c.in_ok-opened.ensures _ _ _ c.in_ok-trip.ensures.found c.if-has.ensures

pub returns-in_err-check_route-clause-answers : goal.returns-in_err-check_route-clause-answers
returns-in_err-check_route-clause-answers g c =
    let p = err_from_is_err_and c.from_residual-in_err-check_route.result c.from_residual-in_err-check_route.ensures.1 in
    rw (p.1, p.2) (no_route _ _ c.in_ok-opened.ensures _ _ _ c.in_ok-trip.ensures.found c.if-has.ensures _ c.check_route.ensures.is_the_route_test _ c.in_err-check_route.was)

pub returns-then-conflict-clause-answers : goal.returns-then-conflict-clause-answers
returns-then-conflict-clause-answers g c =
    conflict_found _ _ c.in_ok-opened.ensures _ _ _ c.in_ok-trip.ensures.found c.if-has.ensures _ c.check_route.ensures.is_the_route_test c.in_ok-check_route.was c.if-conflict.ensures

pub show-requires : goal.show-requires
show-requires g c = room_for_route _ c.args.self.now.book c.in_ok-opened.ensures _ _ _ c.in_ok-trip.ensures.found c.if-has.ensures _ c.check_route.ensures.is_the_route_test c.in_ok-check_route.was

pub returns-clause-answers : goal.returns-clause-answers
returns-clause-answers g c =
    route_shown _ _ c.in_ok-opened.ensures _ _ _ c.in_ok-trip.ensures.found c.if-has.ensures _ c.check_route.ensures.is_the_route_test c.in_ok-check_route.was _ c.if-conflict.ensures c.show.ensures
