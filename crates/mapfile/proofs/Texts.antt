-- A fixed text is passed exactly where it stands, and a fault is where the bytes depart from it.
use Rattle.std.proofs.Common.{◌≡◌, ℕ, zero, suc, ◌+◌, List, [], ◌∷◌, ◌++◌, length, Some, Ok, Err, refl, sym, ap, ap₂, ◌∙◌, add-zero, arith, MatchResult}
use Rattle.maps.specs.declared.refusal.MapRefusal.TheVariants.{Headless}
use Rattle.cursor.specs.Rests.{Rest}
use Rattle.floor.proofs.Chains.{cond_tells}
use Rattle.mapfile.specs.Faults.{fault}
use Rattle.mapfile.specs.GridFiles.{after_text}
use Rattle.mapfile.specs.GridLayout.{Departs}
use Rattle.mapfile.specs.declared.fault.Fault.{Fault}
use Rattle.std.proofs.lemmas.Bool.{cond-false, cond-true, eq-eqb, ne_eqb}
use Rattle.std.proofs.lemmas.Bool.Decides.{Decides-eqb}
use Rattle.std.specs.List.{slice_get}

departs_here : {t : ℕ} {ts bs : List ℕ} → (slice_get bs 0 ≡ Some t → ⊥) → Departs (t ∷ ts) bs 0
departs_here other = record { within = omega arith; there = omega arith; same = refl; departs = other }

departs_further : {t b : ℕ} {ts bs : List ℕ} {k : ℕ} → b ≡ t → Departs ts bs k → Departs (t ∷ ts) (b ∷ bs) (suc k)
departs_further e d = record { within = omega (arith, d.within); there = omega (arith, d.there); same = ap₂ ◌∷◌ e d.same; departs = d.departs }

-- either what is left behind the text is read on, or the bytes depart from it
module _ (P : Rest → Type 0) (Q : Fault → Type 0) where
  pub text_tells : (text : List ℕ) (at : ℕ) (bytes : List ℕ) →
      ((rest : List ℕ) (m : ℕ) → m ≡ at + length text → bytes ≡ text ++ rest → P (record { at = m; bytes = rest })) →
      ((k m : ℕ) → m ≡ at + k → Departs text bytes k → Q (fault Headless m)) →
      MatchResult (after_text text at bytes) P Q
  text_tells [] at bytes read stop = read bytes at (omega arith) refl
  text_tells (t ∷ ts) at [] read stop = stop 0 at (omega arith) (departs_here (λ e. grind arith))
  text_tells (t ∷ ts) at (b ∷ bs) read stop =
      let further = text_tells ts (at + 1) bs in
      cond_tells P Q _ _ _ (Decides-eqb b t)
      (λ same. further (λ rest m is text. read rest m (omega arith) (ap₂ ◌∷◌ same text)) (λ k m is d. stop (suc k) m (omega arith) (departs_further same d)))
      (λ other. stop 0 at (omega arith) (departs_here (λ e. other (cc))))

-- where the text stands, what is left behind it
pub text_passed : (text : List ℕ) (at : ℕ) (rest : List ℕ) → after_text text at (text ++ rest) ≡ Ok (record { at = at + length text; bytes = rest })
text_passed [] at rest = ap (λ m. Ok (record { at = m; bytes = rest })) (sym (add-zero at))
text_passed (t ∷ ts) at rest =
    cond-true _ _ _ (eq-eqb t t refl) ∙ text_passed ts (at + 1) rest ∙ ap (λ m. Ok (record { at = m; bytes = rest })) (omega arith)

-- where the bytes depart from it, the fault
pub text_fails : (text : List ℕ) (at : ℕ) (bytes : List ℕ) (k : ℕ) → Departs text bytes k → after_text text at bytes ≡ Err (fault Headless (at + k))
text_fails [] at bytes k d = absurd (omega (arith, d.within))
text_fails (t ∷ ts) at [] k d = let there = d.there in ap (λ m. Err (fault Headless m)) (omega arith)
text_fails (t ∷ ts) at (b ∷ bs) zero d =
    cond-false _ _ _ (ne_eqb b t (λ e. d.departs (ap Some e))) ∙ ap (λ m. Err (fault Headless m)) (sym (add-zero at))
text_fails (t ∷ ts) at (b ∷ bs) (suc k) d =
    let same = d.same in
    let further : Departs ts bs k = record { within = omega (arith, d.within); there = omega (arith, d.there); same = cc; departs = d.departs } in
    cond-true _ _ _ (eq-eqb b t (cc)) ∙ text_fails ts (at + 1) bs k further ∙ ap (λ m. Err (fault Headless m)) (omega arith)
