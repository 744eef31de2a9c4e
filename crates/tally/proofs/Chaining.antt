-- Chains of parts that may refuse: what an answer says of the parts, and back.
use Rattle.std.proofs.Common.{◌≡◌, Bool, true, false, not, Ok, Err, Decides, Result, MatchResult, sym, refl, ap, ◌∙◌, subst}
use Rattle.std.proofs.lemmas.Bool.Decides.{not_from_Decides}
use Rattle.floor.specs.Checks.{refuse, ◌>>=◌, ◌>>◌}
use Rattle.floor.proofs.Chains.{err_same, ok_no_err, ok_same}

module _ {A E : Type 0} where
  pub then_ok : (x : Result (Unit {0}) E) (next : Result A E) (a : A) → (x >> next) ≡ Ok a → (x ≡ Ok tt) × (next ≡ Ok a)
  then_ok (Ok _) next a h = (refl, h)
  then_ok (Err e) next a h = absurd (ok_no_err (sym h))

  pub then_at : (x : Result (Unit {0}) E) (next r : Result A E) → x ≡ Ok tt → next ≡ r → (x >> next) ≡ r
  then_at x next r h k = ap (λ y. y >> next) h ∙ k

  pub bind_stops : {B : Type 0} (x : Result B E) (next : B → Result A E) (e : E) → x ≡ Err e → (x >>= next) ≡ Err e
  bind_stops x next e h = ap (λ y. y >>= next) h

-- ---- what the outcome of a chain tells, from what each part tells: P of what is given, and Q of a refusal

module _ {A E : Type 0} (P : A → Type 0) (Q : E → Type 0) where
  -- C holds where the test lets pass
  pub pass_tells : {C : Type 0} (t : Bool) (e : E) (next : Result A E) → Decides (not t) C → (C → MatchResult next P Q) → ((C → ⊥) → Q e) → MatchResult (refuse t e >> next) P Q
  pass_tells true e next decides passed refused = refused (not_from_Decides (not true) decides refl)
  pass_tells false e next decides passed refused = passed (decides.0 refl)

  -- C holds where it refuses
  pub refuse_tells : {C : Type 0} (t : Bool) (e : E) (next : Result A E) → Decides t C → ((C → ⊥) → MatchResult next P Q) → (C → Q e) → MatchResult (refuse t e >> next) P Q
  refuse_tells true e next decides passed refused = refused (decides.0 refl)
  refuse_tells false e next decides passed refused = passed (not_from_Decides false decides refl)

  pub taken_told : (x : Result A E) (a : A) → MatchResult x P Q → x ≡ Ok a → P a
  taken_told (Ok b) a tells is = subst P (ok_same is) tells
  taken_told (Err e) a tells is = absurd (ok_no_err (sym is))

  pub refusal_told : (x : Result A E) (e : E) → MatchResult x P Q → x ≡ Err e → Q e
  refusal_told (Ok a) e tells is = absurd (ok_no_err is)
  refusal_told (Err d) e tells is = subst Q (err_same is) tells
