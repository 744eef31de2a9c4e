-- What the entry returns, and how it leaves the output.
use Rattle.std.specs.Prelude.{◌≡◌, ℕ, ◌≤◌, ◌⊎◌, List, ◌++◌, drop, length}
use Rattle.host.specs.Outcomes.{outcome_bytes}
use Rattle.report.specs.Files.{files_reading}

-- there is room for an outcome, and neither file is longer than 65,536 bytes
pub record Accepted (map plan out : List ℕ) : Type 0 where
  pub room : 8 ≤ length out
  pub map_fits : length map ≤ 65536
  pub plan_fits : length plan ≤ 65536

-- this number is returned, and the output is as it was
abbrev pub Untouched : List ℕ → List ℕ → ℕ → ℕ → Type 0
Untouched old new returned number = (returned ≡ number) × (new ≡ old)

-- 0 is returned, what the files come to stands in the first eight bytes of the output, and those behind are as they were
abbrev pub Told : List ℕ → List ℕ → List ℕ → List ℕ → ℕ → Type 0
Told map plan old new returned = (returned ≡ 0) × (new ≡ outcome_bytes (files_reading map plan) ++ drop 8 old)

-- 24 where the three are not accepted; else the outcome is told, or memory is wanting
pub record EntryAnswers (map plan old new : List ℕ) (returned : ℕ) : Type 0 where
  pub not_accepted : (Accepted map plan old → ⊥) → Untouched old new returned 24
  pub accepted : Accepted map plan old → Told map plan old new returned ⊎ Untouched old new returned 1
