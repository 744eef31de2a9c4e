-- The routes shown, from how they are kept.
use Rattle.std.specs.Prelude.{List, map}
use Rattle.floor.specs.Numbers.{numbers}
use Rattle.tally.specs.Tallies.{Shown}
use Rattle.checking.specs.declared.routes.Kept.{Kept}
use Rattle.checking.specs.declared.routes.Routes.{Routes}

abbrev pub shown_as : Kept → Shown
shown_as k = record { cart = k.cart.0; places = numbers k.places.items }

abbrev pub shown_in : Routes → List Shown
shown_in r = map shown_as r.kept.items
