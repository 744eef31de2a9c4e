-- How a ban is printed.
use Rattle.std.specs.Prelude.{List, ℕ, ◌++◌, codes, decimal}
use Rattle.motion.specs.declared.ban.Ban.{Ban}
use Rattle.motion.specs.declared.ban.Ban.TheVariants.{Stand, Move, Late, By}

-- the cart, and what is asked of it
abbrev pub ban_text : Ban → List ℕ
ban_text (Stand c p f l) = codes "cart " ++ (decimal c.0 ++ (codes " not at " ++ (decimal p.0 ++ (codes " from tick " ++ (decimal f.0 ++ (codes " to " ++ decimal l.0))))))
ban_text (Move c p q f l) =
    codes "cart " ++ (decimal c.0 ++ (codes " not from " ++ (decimal p.0 ++ (codes " to " ++ (decimal q.0 ++ (codes " at ticks " ++ (decimal f.0 ++ (codes " to " ++ decimal l.0))))))))
ban_text (Late c t) = codes "cart " ++ (decimal c.0 ++ (codes " with a length of more than " ++ decimal t.0))
ban_text (By c t) =
    codes "cart " ++ (decimal c.0 ++ (codes " with a length of at most " ++ (decimal t.0 ++ (codes ", and no other cart at its target from tick " ++ (decimal t.0 ++ codes " on")))))
