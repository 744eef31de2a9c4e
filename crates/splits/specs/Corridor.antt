-- A corridor, and what a split on it asks of two carts that go through it, one each way.
use Rattle.std.specs.Prelude.{◌≡◌, ℕ, suc, pred, ◌+◌, ◌<◌, ◌≤◌, List, length, ◌≢◌}
use Rattle.floor.specs.Floor.{Floor, Joined}
use Rattle.floor.specs.declared.Cart.{Cart}
use Rattle.floor.specs.declared.Place.{Place}
use Rattle.floor.specs.declared.Tick.{Tick}
use Rattle.motion.specs.Routes.{start_of}
use Rattle.motion.specs.Stands.{Walk}
use Rattle.motion.specs.declared.trip.Trip.{Trip}
use Rattle.motion.specs.declared.ban.Ban.{Ban}
use Rattle.motion.specs.declared.ban.Ban.TheVariants.{Stand}
use Rattle.splits.specs.declared.corridor.passage.Passage.{Passage}
use Rattle.splits.specs.declared.corridor.passage.CartPassage.{CartPassage}

-- place number i is neither of the two ends, 0 and k
abbrev pub Inner : ℕ → ℕ → Type 0
Inner k i = (1 ≤ i) × (i < k)

-- the places c 0 to c k, all different, one joined to the next, and no way off but at the two ends
pub record Corridor (f : Floor) (c : ℕ → ℕ) (k : ℕ) : Type 0 where
  pub some : 1 ≤ k
  pub joins : (i : ℕ) → i < k → Joined f (c i) (c (suc i))
  pub differ : (i j : ℕ) → i ≤ k → j ≤ k → c i ≡ c j → i ≡ j
  pub narrow : (i : ℕ) → Inner k i → length (f.next (c i)) ≡ 2

-- the cart starts on no inner place
abbrev pub Outside : List Trip → Cart → (ℕ → ℕ) → ℕ → Type 0
Outside trips a c k = (i : ℕ) → Inner k i → start_of trips a.0 ≢ c i

-- a walk of u steps of the cart a that ends at p and at no step moves from one place to the other
pub record WalkWithout (f : Floor) (trips : List Trip) (bans : List Ban) (a from to u p : ℕ) : Type 0 where
  pub walk : Walk f trips bans a u p
  pub never : (t : ℕ) → t < u → walk.at t ≡ from → walk.at (suc t) ≢ to

-- up to its tick the cart cannot be at the last place without the move from the place before it,
-- and the other cannot be at the first place so early that it could be through before that tick
pub record Passes (f : Floor) (trips : List Trip) (bans : List Ban) (w : CartPassage) : Type 0 where
  pub only : (u : ℕ) → u ≤ w.tick.0 → WalkWithout f trips bans w.cart.0 w.near.0 w.last.0 u w.last.0 → ⊥
  pub late : (u : ℕ) → u + w.steps < w.tick.0 → Walk f trips bans w.other.0 u w.first.0 → ⊥

-- the place of a number
abbrev pub place : ℕ → Place
place p = record { 0 = p }

-- the tick of a number
abbrev pub tick : ℕ → Tick
tick t = record { 0 = t }

-- a from c 0 to c k by tick m, and b from c k to c 0 by tick n
abbrev pub forth : Passage → (ℕ → ℕ) → CartPassage
forth o c = record { cart = o.a; other = o.b; first = place (c 0); near = place (c (pred o.k)); last = place (c o.k); steps = o.k; tick = o.m }

-- b from c k to c 0 by tick n
abbrev pub back : Passage → (ℕ → ℕ) → CartPassage
back o c = record { cart = o.b; other = o.a; first = place (c o.k); near = place (c 1); last = place (c 0); steps = o.k; tick = o.n }

-- what the split asks of the places c: they are a corridor from p by q, of at most 63 steps, on which neither cart
-- starts but at an end, and through which each can only go, one each way
pub record CorridorFor (f : Floor) (trips : List Trip) (bans : List Ban) (o : Passage) (c : ℕ → ℕ) : Type 0 where
  pub from : c 0 ≡ o.p.0
  pub by : c 1 ≡ o.q.0
  pub short : o.k ≤ 63
  pub way : Corridor f c o.k
  pub a_outside : Outside trips o.a c o.k
  pub b_outside : Outside trips o.b c o.k
  pub a_passes : Passes f trips bans (forth o c)
  pub b_passes : Passes f trips bans (back o c)

-- a is not at c k by tick m, or b is not at c 0 by tick n
abbrev pub corridor_bans : Passage → (ℕ → ℕ) → Ban × Ban
corridor_bans o c = (Stand o.a (place (c o.k)) (tick 0) o.m, Stand o.b (place (c 0)) (tick 0) o.n)
