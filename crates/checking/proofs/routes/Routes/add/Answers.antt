use Rattle.std.proofs.Common.{◌++◌, ◌≡◌, [], ◌∷◌, ap, ◌∙◌, arith}
use Rattle.std.proofs.lemmas.List.{map-append}
use Rattle.checking.specs.Kept.{carts_in}
use Rattle.checking.proofs.KeptRoutes.{apart_push, known_push, room_left}
use Rattle.checking.proofs.routes.Routes.add.Goals as goal

pub push-requires : goal.push-requires
push-requires c = let r = c.args.self.now in let room = room_left r.kept.items c.args.cart.0 c.requires.1.1 r.apart r.known c.requires.0 in (omega arith, omega arith)

pub invariant_of-self : goal.invariant_of-self
invariant_of-self c =
    let r = c.args.self.now in
    let carts : carts_in c.push.new.self.items ≡ carts_in r.kept.items ++ (c.args.cart.0 ∷ []) = ap carts_in c.push.ensures.items ∙ map-append (λ k. k.cart.0) r.kept.items _ in
    record {
      known = rw carts (known_push r.kept.items c.args.cart.0 c.requires.1.1 r.apart r.known c.requires.0);
      apart = rw carts (apart_push r.kept.items c.args.cart.0 c.requires.1.1 r.apart r.known c.requires.0);
    }
