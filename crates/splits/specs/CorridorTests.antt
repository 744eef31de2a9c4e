-- Letter K: the corridor that the operands name, tested place by place and tick by tick.
use Rattle.std.specs.Prelude.{◌≡◌, ℕ, zero, suc, pred, ◌+◌, ◌-◌, Bool, cond, not, ◌&&◌, List, [], ◌∷◌, length, ◌==◌, nat_eq, nat_le, slice_index}
use Rattle.floor.specs.Floor.{Floor}
use Rattle.floor.specs.Joins.{is_joined}
use Rattle.floor.specs.Tests.{every_below}
use Rattle.floor.specs.declared.Cart.{Cart}
use Rattle.motion.specs.Routes.{start_of}
use Rattle.motion.specs.declared.trip.Trip.{Trip}
use Rattle.motion.specs.declared.ban.Ban.{Ban}
use Rattle.motion.specs.declared.ban.Ban.TheVariants.{Move}
use Rattle.search.specs.Rows.{stands_before}
use Rattle.splits.specs.Conditions.{Two, IsPlace, Tells, is_two, is_place, is_in_time, judged}
use Rattle.splits.specs.Corridor.{CorridorFor, tick, forth, back, corridor_bans}
use Rattle.splits.specs.Operands.{byte, cart_in, place_in, tick_in, of_width}
use Rattle.splits.specs.Rules.{Rules, Sides, InTime}
use Rattle.splits.specs.declared.corridor.passage.Passage.{Passage}
use Rattle.splits.specs.declared.corridor.passage.CartPassage.{CartPassage}

-- what the operands name: two carts, the first two places, the length, and a tick for each cart
abbrev pub passage : List ℕ → Passage
passage ops = record {
  a = cart_in ops 0;
  b = cart_in ops 1;
  p = place_in ops 2;
  q = place_in ops 4;
  k = byte ops 6;
  m = tick_in ops 7;
  n = tick_in ops 9;
}

-- the neighbour of q that a cart come from p goes on to, where q has two
abbrev pub onward : Floor → ℕ → ℕ → ℕ
onward f p q = cond (slice_index (f.next q) 0 == p) (slice_index (f.next q) 1) (slice_index (f.next q) 0)

-- n places from p by q, each the neighbour not come from
abbrev pub along : Floor → ℕ → ℕ → ℕ → List ℕ
along f p q zero = []
along f p q (suc n) = p ∷ along f q (onward f p q) n

-- the places of a list, by their number in it
abbrev pub listed_at : List ℕ → ℕ → ℕ
listed_at ps i = slice_index ps i

-- of the k places after the first, all but the last have two neighbours
abbrev pub is_narrow : Floor → (ℕ → ℕ) → ℕ → Bool
is_narrow f c k = every_below (λ i. nat_eq (length (f.next (c (suc i)))) 2) (pred k)

-- place number j is none of those before it
abbrev pub is_new : (ℕ → ℕ) → ℕ → Bool
is_new c j = every_below (λ i. not (c i == c j)) j

-- no two of the first n places are the same
abbrev pub all_differ : (ℕ → ℕ) → ℕ → Bool
all_differ c n = every_below (is_new c) n

-- the places c 0 to c k are a corridor, where each further one is the neighbour not come from
abbrev pub is_corridor : Floor → (ℕ → ℕ) → ℕ → Bool
is_corridor f c k = is_joined f (c 0) (c 1) && (is_narrow f c k && all_differ c (k + 1))

-- the cart starts on no inner place
abbrev pub is_outside : List Trip → Cart → (ℕ → ℕ) → ℕ → Bool
is_outside trips a c k = every_below (λ i. not (start_of trips a.0 == c (suc i))) (pred k)

-- "without the move": under one move ban more
abbrev pub last_move_ban : CartPassage → Ban
last_move_ban w = Move w.cart w.near w.last (tick 0) w.tick

-- the cart can only go through, and the other cannot be through before it
abbrev pub is_passing : Floor → List Trip → List Ban → CartPassage → Bool
is_passing f trips bans w =
    not (stands_before f trips (last_move_ban w ∷ bans) w.cart.0 (w.tick.0 + 1) w.last.0) &&
    not (stands_before f trips bans w.other.0 (w.tick.0 - w.steps) w.first.0)

-- the starts of both carts are no inner places
abbrev pub are_outside : List Trip → Passage → (ℕ → ℕ) → Bool
are_outside trips o c = is_outside trips o.a c o.k && is_outside trips o.b c o.k

-- each cart can only go through, and the other cannot be through before it
abbrev pub are_passing : Floor → List Trip → List Ban → Passage → (ℕ → ℕ) → Bool
are_passing f trips bans o c = is_passing f trips bans (forth o c) && is_passing f trips bans (back o c)

-- the places are a corridor as the split asks for these two carts
abbrev pub is_corridor_for : Floor → List Trip → List Ban → Passage → (ℕ → ℕ) → Bool
is_corridor_for f trips bans o c = nat_le 1 o.k && (nat_le o.k 63 && (is_corridor f c o.k && (are_outside trips o c && are_passing f trips bans o c)))

-- the places that the operands lead to, as many as the longest corridor has
abbrev pub led_to : Floor → Passage → ℕ → ℕ
led_to f o = listed_at (along f o.p.0 o.q.0 64)

-- the sides that the operands give on a branch, or the first refusal that fits
abbrev pub corridor_sides : Floor → List Trip → List Ban → Passage → Sides
corridor_sides f trips bans o =
    judged (is_two trips o.a o.b) (is_place f o.p && is_place f o.q) (is_in_time o.m && is_in_time o.n)
    (is_corridor_for f trips bans o (led_to f o)) (corridor_bans o (led_to f o))

-- the byte of the letter K
abbrev pub corridor_letter : ℕ
corridor_letter = 75

-- the rule: one letter, with 11 bytes of operands
abbrev pub corridor_rules : Rules
corridor_rules = record {
  knows = λ l. (l == corridor_letter);
  width = λ l bytes. of_width 11 bytes;
  sides = λ f trips bans l ops. corridor_sides f trips bans (passage ops);
}

-- what an answer says: the sides are given exactly where some places are a corridor as the split asks
abbrev pub CorridorTells : Floor → List Trip → List Ban → Passage → Sides → Type 0
CorridorTells f trips bans o = Tells (Two trips o.a o.b) (IsPlace f o.p × IsPlace f o.q) (InTime o.m.0 × InTime o.n.0)
    (λ sides. (c : ℕ → ℕ) × CorridorFor f trips bans o c × (sides ≡ corridor_bans o c))
