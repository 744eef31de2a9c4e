-- What each ban lets the cart a do.
use Rattle.std.specs.Prelude.{ℕ, Bool, true, not, ◌&&◌, ◌||◌, List, ◌==◌, nat_le, nat_lt}
use Rattle.motion.specs.Routes.{target_of}
use Rattle.motion.specs.declared.trip.Trip.{Trip}
use Rattle.motion.specs.declared.ban.Ban.{Ban}
use Rattle.motion.specs.declared.ban.Ban.TheVariants.{Stand, Move, Late, By}

-- tick t is one of those from first to last, both included
abbrev pub within : ℕ → ℕ → ℕ → Bool
within first last t = nat_le first t && nat_le t last

-- be at p at tick t
abbrev pub lets_be : List Trip → ℕ → ℕ → ℕ → Ban → Bool
lets_be trips a t p (Stand c q f l) = not (c.0 == a && (within f.0 l.0 t && q.0 == p))
lets_be trips a t p (Move c q r f l) = true
lets_be trips a t p (Late c u) = true
lets_be trips a t p (By c u) = not (not (c.0 == a) && (nat_le u.0 t && target_of trips c.0 == p))

-- go from p to q, or wait where they are one place, arriving at tick t
abbrev pub lets_go : ℕ → ℕ → ℕ → ℕ → Ban → Bool
lets_go a t p q (Stand c r f l) = true
lets_go a t p q (Move c r s f l) = not (c.0 == a && (within f.0 l.0 t && (r.0 == p && s.0 == q)))
lets_go a t p q (Late c u) = true
lets_go a t p q (By c u) = true

-- be and wait at p at every tick from n on
abbrev pub lets_rest : List Trip → ℕ → ℕ → ℕ → Ban → Bool
lets_rest trips a n p (Stand c q f l) = not (c.0 == a && ((nat_le f.0 l.0 && nat_le n l.0) && q.0 == p))
lets_rest trips a n p (Move c q r f l) = not (c.0 == a && ((nat_le f.0 l.0 && nat_lt n l.0) && (q.0 == p && r.0 == p)))
lets_rest trips a n p (Late c u) = true
lets_rest trips a n p (By c u) = not (not (c.0 == a) && target_of trips c.0 == p)

-- have the length n
abbrev pub lets_end : ℕ → ℕ → Ban → Bool
lets_end a n (Stand c q f l) = true
lets_end a n (Move c q r f l) = true
lets_end a n (Late c u) = not (c.0 == a) || nat_lt u.0 n
lets_end a n (By c u) = not (c.0 == a) || nat_le n u.0
