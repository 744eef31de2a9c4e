-- What a workspace holds.
use Rattle.std.specs.Prelude.{ℕ, Bool, List, take, vec_items}
use Rattle.search.specs.declared.workspace.Workspace.{Workspace}

-- the row, over a floor of n places
abbrev pub marks_in : ℕ → Workspace → List Bool
marks_in n w = take n (vec_items w.row)
