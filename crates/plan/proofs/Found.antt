-- What is found where a command is due, case by case.
use Rattle.std.proofs.Common.{◌≡◌, ℕ, ◌+◌, ◌*◌, ◌≤◌, List, [], ◌∷◌, length, take, Bool, true, false, nat_le, ◌==◌, Some, None, Ok, Err, Option, refl, sym, subst, arith}
use Rattle.std.specs.Prelude.{if◌then◌else◌}
use Rattle.std.proofs.lemmas.Bool.{eqb-true, eqb-false}
use Rattle.std.proofs.lemmas.Bool.Decides.{nat_tests}
use Rattle.splits.specs.Rules.{Rules, LawfulRules}
use Rattle.plan.specs.Commands.{Found, end_found, found, route_found, split_found, words}
use Rattle.plan.specs.Faults.{file_fault}
use Rattle.plan.specs.FirstFault.{NoCall, unknown, route_cut, operands_cut, trailing, Other, no_cart, no_steps, no_places}
use Rattle.plan.specs.declared.fault.FileRefusal.{FileRefusal}
use Rattle.plan.specs.declared.fault.FileRefusal.TheVariants.{Letter, CutShort}
use Rattle.tally.specs.Calls.{Call, show, split, close}

pub data Finds (r : Rules) (at : ℕ) : ℕ → List ℕ → Found → Type 0 where
  a_route : {a steps : ℕ} {rest : List ℕ} → 2 * (steps + 1) ≤ length rest
      → Finds r at 82 (a ∷ steps ∷ rest) (Ok (Some (show a (words (take (2 * (steps + 1)) rest)), 2 + 2 * (steps + 1))))
  a_closing : {bytes : List ℕ} → Finds r at 88 bytes (Ok (Some (close, 0)))
  a_split : {letter n : ℕ} {bytes : List ℕ} → Other letter → r.knows letter ≡ true → r.width letter bytes ≡ Some n
      → Finds r at letter bytes (Ok (Some (split letter bytes, n)))
  the_end : Finds r at 90 [] (Ok None)
  nothing : {letter : ℕ} {bytes : List ℕ} {e : FileRefusal} {k offset : ℕ} → NoCall r (letter ∷ bytes) e k → offset ≡ at + k
      → Finds r at letter bytes (Err (file_fault e offset))

module _ (r : Rules) (at : ℕ) where
  route_finds : (bytes : List ℕ) → Finds r at 82 bytes (route_found at bytes)
  route_finds [] = nothing (route_cut no_cart) (omega arith)
  route_finds (a ∷ []) = nothing (route_cut no_steps) (omega arith)
  route_finds (a ∷ steps ∷ rest) = by (nat_le (2 * (steps + 1)) (length rest)) refl
    where
      by : (enough : Bool) → nat_le (2 * (steps + 1)) (length rest) ≡ enough
          → Finds r at 82 (a ∷ steps ∷ rest) (if enough then Ok (Some (show a (words (take (2 * (steps + 1)) rest)), 2 + 2 * (steps + 1))) else Err (file_fault CutShort (at + 3 + length rest)))
      by true is = a_route (grind (arith, nat_tests, is))
      by false is = nothing (route_cut (no_places (grind (arith, nat_tests, is)))) (omega arith)

  end_finds : (bytes : List ℕ) → Finds r at 90 bytes (end_found at bytes)
  end_finds [] = the_end
  end_finds (b ∷ bytes) = nothing trailing (omega arith)

  module _ (letter : ℕ) (bytes : List ℕ) where
    split_finds : Other letter → r.knows letter ≡ true → (w : Option ℕ) → r.width letter bytes ≡ w → Finds r at letter bytes (split_found at letter bytes w)
    split_finds other known (Some n) is = a_split other known is
    split_finds other known None is = nothing (operands_cut other known is) (omega arith)

    pub finds : Finds r at letter bytes (found r at letter bytes)
    finds = route (letter == 82) refl
      where
        known : (b : Bool) → r.knows letter ≡ b → Other letter
            → Finds r at letter bytes (if b then split_found at letter bytes (r.width letter bytes) else Err (file_fault Letter at))
        known true is other = split_finds other is (r.width letter bytes) refl
        known false is other = nothing (unknown other is) (omega arith)

        end : (b : Bool) → (letter == 90) ≡ b → (letter ≡ 82 → ⊥) → (letter ≡ 88 → ⊥)
            → Finds r at letter bytes (if b then end_found at bytes else if r.knows letter then split_found at letter bytes (r.width letter bytes) else Err (file_fault Letter at))
        end true is no_route no_closing = subst (λ l. Finds r at l bytes (end_found at bytes)) (sym (eqb-true letter 90 is)) (end_finds bytes)
        end false is no_route no_closing = known (r.knows letter) refl (record { no_route = no_route; no_closing = no_closing; no_end = eqb-false letter 90 is })

        closing : (b : Bool) → (letter == 88) ≡ b → (letter ≡ 82 → ⊥)
            → Finds r at letter bytes (if b then Ok (Some (close, 0)) else if letter == 90 then end_found at bytes else if r.knows letter then split_found at letter bytes (r.width letter bytes) else Err (file_fault Letter at))
        closing true is no_route = subst (λ l. Finds r at l bytes (Ok (Some (close, 0)))) (sym (eqb-true letter 88 is)) a_closing
        closing false is no_route = end (letter == 90) refl no_route (eqb-false letter 88 is)

        route : (b : Bool) → (letter == 82) ≡ b
            → Finds r at letter bytes (if b then route_found at bytes else if letter == 88 then Ok (Some (close, 0)) else if letter == 90 then end_found at bytes else if r.knows letter then split_found at letter bytes (r.width letter bytes) else Err (file_fault Letter at))
        route true is = subst (λ l. Finds r at l bytes (route_found at bytes)) (sym (eqb-true letter 82 is)) (route_finds bytes)
        route false is = closing (letter == 88) refl (eqb-false letter 82 is)

module _ (r : Rules) (law : LawfulRules r) (at : ℕ) where
  -- a call that was found has its bytes there
  pub fits : (letter : ℕ) (bytes : List ℕ) (call : Call) (n : ℕ) → Finds r at letter bytes (Ok (Some (call, n))) → n ≤ length bytes
  fits letter bytes call n (a_route enough) = omega (arith, enough)
  fits letter bytes call n a_closing = omega arith
  fits letter bytes call n (a_split other known is) = law.fits letter bytes n is
