-- What a set of routes has to do to keep a ban.
use Rattle.std.specs.Prelude.{◌≡◌, ℕ, suc, ◌<◌, ◌≤◌, List, length, All, ◌≢◌}
use Rattle.floor.specs.Floor.{Floor}
use Rattle.motion.specs.Routes.{RouteSet, target_of}
use Rattle.motion.specs.declared.trip.Trip.{Trip}
use Rattle.motion.specs.declared.ban.Ban.{Ban}
use Rattle.motion.specs.declared.ban.Ban.TheVariants.{Stand, Move, Late, By}

-- tick t is one of those from first to last, both included
abbrev pub Within : ℕ → ℕ → ℕ → Type 0
Within first last t = (first ≤ t) × (t ≤ last)

-- what a ban asks of the route r, of length len, of the cart a: nothing where it does not speak of that cart
abbrev pub Bears : List Trip → ℕ → (ℕ → ℕ) → ℕ → Ban → Type 0
Bears trips a r len (Stand c p f l) = c.0 ≡ a → (t : ℕ) → Within f.0 l.0 t → r t ≢ p.0
Bears trips a r len (Move c p q f l) = c.0 ≡ a → (t : ℕ) → Within f.0 l.0 (suc t) → r t ≡ p.0 → r (suc t) ≢ q.0
Bears trips a r len (Late c t) = c.0 ≡ a → t.0 < len
Bears trips a r len (By c t) = (c.0 ≡ a → len ≤ t.0) × ((c.0 ≢ a) → (u : ℕ) → t.0 ≤ u → r u ≢ target_of trips c.0)

-- every route of the set does what the ban asks of it
abbrev pub Keeps : {f : Floor} {trips : List Trip} → RouteSet f trips → Ban → Type 0
Keeps {f} {trips} s b = (a : ℕ) → a < length trips → Bears trips a (s.at a) (s.len a) b

-- the set keeps each ban of a list
abbrev pub KeepsAll : {f : Floor} {trips : List Trip} → RouteSet f trips → List Ban → Type 0
KeepsAll s bans = All (Keeps s) bans
