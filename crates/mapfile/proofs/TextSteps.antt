-- A fixed text is read by how much of it the bytes begin with.
use Rattle.std.proofs.Common.{◌≡◌, ℕ, ◌+◌, ◌<◌, ◌≤◌, eqb, List, [], ◌∷◌, length, drop, Ok, Err, arith}
use Rattle.maps.specs.declared.refusal.MapRefusal.TheVariants.{Headless}
use Rattle.mapfile.specs.Faults.{fault}
use Rattle.mapfile.specs.GridFiles.{after_text}
use Rattle.mapfile.specs.Leading.{common_len}
use Rattle.std.proofs.lemmas.Bool.{cases_Bool}

pub common_len_most : (text bytes : List ℕ) → (common_len text bytes ≤ length text) × (common_len text bytes ≤ length bytes)
common_len_most [] bytes = grind arith
common_len_most (t ∷ ts) [] = grind arith
common_len_most (t ∷ ts) (b ∷ bs) = grind (arith, cases_Bool (eqb t b), common_len_most ts bs)

pub text_departs : (text : List ℕ) (at : ℕ) (bytes : List ℕ) → common_len text bytes < length text → after_text text at bytes ≡ Err (fault Headless (at + common_len text bytes))
text_departs [] at bytes short = absurd (omega arith)
text_departs (t ∷ ts) at [] short = grind arith
text_departs (t ∷ ts) at (b ∷ bs) short = grind (arith, cases_Bool (eqb b t), text_departs ts (at + 1) bs)

pub text_read : (text : List ℕ) (at : ℕ) (bytes : List ℕ) → length text ≤ common_len text bytes → after_text text at bytes ≡ Ok (record { at = at + length text; bytes = drop (length text) bytes })
text_read [] at bytes long = grind arith
text_read (t ∷ ts) at [] long = absurd (omega arith)
text_read (t ∷ ts) at (b ∷ bs) long = grind (arith, cases_Bool (eqb b t), text_read ts (at + 1) bs)
