-- Honest trees, and the splits and closings that they come to.
use Rattle.std.specs.Prelude.{ℕ, suc, ◌+◌, max, List, [], ◌∷◌, ◌++◌}
use Rattle.motion.specs.declared.ban.Ban.{Ban}
use Rattle.tally.specs.Calls.{Call, Closable, Gives, split, close}
use Rattle.tally.specs.Openings.{Opening}

-- a leaf is closed, and a fork is split by its letter and bytes
pub data Tree : Type 0 where
  leaf : Tree
  fork : ℕ → List ℕ → Tree → Tree → Tree

-- on a branch with these bans every split of the tree is one that the rules give, and every leaf can be closed
pub data Honest (o : Opening) : List Ban → Tree → Type 0 where
  closes : {bans : List Ban} → Closable o bans → Honest o bans leaf
  splits : {bans : List Ban} {letter : ℕ} {bytes : List ℕ} {left right : Tree} {x y : Ban} → Gives o bans letter bytes x y
      → Honest o (bans ++ (x ∷ [])) left → Honest o (bans ++ (y ∷ [])) right → Honest o bans (fork letter bytes left right)

abbrev pub depth : Tree → ℕ
depth leaf = 0
depth (fork letter bytes left right) = suc (max (depth left) (depth right))

abbrev pub forks_in : Tree → ℕ
forks_in leaf = 0
forks_in (fork letter bytes left right) = suc (forks_in left + forks_in right)

-- left side first
abbrev pub calls_of : Tree → List Call
calls_of leaf = close ∷ []
calls_of (fork letter bytes left right) = split letter bytes ∷ (calls_of left ++ calls_of right)
