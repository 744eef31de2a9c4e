-- The routes that are kept.
use Rattle.std.specs.Prelude.{ℕ, List, map}
use Rattle.checking.specs.declared.routes.Kept.{Kept}

abbrev pub carts_in : List Kept → List ℕ
carts_in kept = map (λ k. k.cart.0) kept
