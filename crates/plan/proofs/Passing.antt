-- From one command of a plan to the next.
use Rattle.std.proofs.Common.{◌≡◌, ℕ, zero, suc, ◌+◌, ◌≤◌, List, [], ◌∷◌, length, drop, Some, None, Ok, Err, ap, ap₂, ◌∙◌, subst, arith}
use Rattle.splits.specs.Rules.{Rules, LawfulRules}
use Rattle.plan.specs.Commands.{before_others, commands, found}
use Rattle.plan.specs.Cursors.{found_at}
use Rattle.plan.specs.declared.fault.Fault.{Fault}
use Rattle.plan.proofs.Found.{Finds, finds, fits}
use Rattle.tally.specs.Calls.{Call}

module _ (r : Rules) where
  -- the bytes that are still due to a command are passed over
  pub passed : (due at : ℕ) (bytes : List ℕ) → due ≤ length bytes → commands r due at bytes ≡ commands r 0 (at + due) (drop due bytes)
  unfolding commands
  passed zero at bytes fits = let same : at ≡ at + 0 = omega arith in ap (λ n. commands r 0 n bytes) same
  passed (suc due) at (b ∷ bytes) fits =
      let same : at + 1 + due ≡ at + suc due = omega arith in
      passed due (at + 1) bytes (omega arith) ∙ ap (λ n. commands r 0 n (drop due bytes)) same
  passed (suc due) at [] fits = absurd (omega (arith, fits))

module _ (r : Rules) (law : LawfulRules r) (at : ℕ) where
  found_fits : (letter : ℕ) (bytes : List ℕ) (call : Call) (n : ℕ) → found r at letter bytes ≡ Ok (Some (call, n)) → n ≤ length bytes
  found_fits letter bytes call n e = fits r law at letter bytes call n (subst (Finds r at letter bytes) e (finds r at letter bytes))

  -- the call's bytes are there
  pub found_within : (bytes : List ℕ) (call : Call) (n : ℕ) → found_at r at bytes ≡ Ok (Some (call, n)) → 1 + n ≤ length bytes
  found_within [] call n e = grind arith
  found_within (letter ∷ bytes) call n e = let fits = found_fits letter bytes call n e in omega arith

  pub read_on : (bytes : List ℕ) (call : Call) (n : ℕ) → found_at r at bytes ≡ Ok (Some (call, n))
      → commands r 0 at bytes ≡ Ok (at, call) ∷ commands r 0 (at + (1 + n)) (drop (1 + n) bytes)
  unfolding commands
  read_on [] call n e = grind arith
  read_on (letter ∷ bytes) call n e =
      let later : at + 1 + n ≡ at + (1 + n) = omega arith in
      let one : suc n ≡ 1 + n = omega arith in
      let rest : commands r n (at + 1) bytes ≡ commands r 0 (at + (1 + n)) (drop (1 + n) (letter ∷ bytes)) =
      passed r n (at + 1) bytes (found_fits letter bytes call n e) ∙ ap₂ (λ k m. commands r 0 k (drop m (letter ∷ bytes))) later one in
      ap (λ x. before_others at x (λ k. commands r k (at + 1) bytes)) e ∙ ap (λ items. Ok (at, call) ∷ items) rest

module _ (r : Rules) (at : ℕ) where
  pub read_end : (bytes : List ℕ) → found_at r at bytes ≡ Ok None → commands r 0 at bytes ≡ []
  unfolding commands
  read_end [] e = grind arith
  read_end (letter ∷ bytes) e = ap (λ x. before_others at x (λ k. commands r k (at + 1) bytes)) e

  pub read_fault : (bytes : List ℕ) (f : Fault) → found_at r at bytes ≡ Err f → commands r 0 at bytes ≡ Err f ∷ []
  unfolding commands
  read_fault [] f e = ap (λ x. before_others at x (λ _. [])) e
  read_fault (letter ∷ bytes) f e = ap (λ x. before_others at x (λ k. commands r k (at + 1) bytes)) e
