use Rattle.motion.specs.Listed.{route_check}
use Rattle.motion.proofs.Listing.{route_test_tells}
use Rattle.motion.proofs.route.check_route.Goals as goal

pub returns-then-not-on_floor : goal.returns-then-not-on_floor
unfolding route_check
returns-then-not-on_floor g c = record { is_the_route_test = rw (← c.if-not-on_floor.ensures); each_answer_exactly = route_test_tells _ _ _ _ }

pub returns-then-not-is_route : goal.returns-then-not-is_route
unfolding route_check
returns-then-not-is_route g c = record { is_the_route_test = rw (← c.if-not-on_floor.ensures, ← c.if-not-is_route.ensures); each_answer_exactly = route_test_tells _ _ _ _ }

pub returns : goal.returns
unfolding route_check
returns g c = record { is_the_route_test = rw (← c.if-not-on_floor.ensures, ← c.if-not-is_route.ensures); each_answer_exactly = route_test_tells _ _ _ _ }
