-- The memory for reading and checking as it is made.
use Rattle.std.specs.Prelude.{◌≡◌, false, replicate, vec_items}
use Rattle.mapfile.specs.Memories.{Fresh as FreshMaps}
use Rattle.report.specs.declared.memory.Memory.{Memory}

-- the smallest map of either kind, and no place marked in either row of a search
abbrev pub Fresh : Memory → Type 0
Fresh m = FreshMaps m.map × (vec_items m.work.row ≡ replicate 1024 false) × (vec_items m.work.other ≡ replicate 1024 false)
