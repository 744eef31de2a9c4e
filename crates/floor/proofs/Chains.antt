-- What the answer of a chain of tests says of the tests, and back.
use Rattle.std.proofs.Common.{◌≡◌, ℕ, Bool, true, false, cond, not, ◌⊎◌, ◌↔◌, Ok, Err, Decides, Result, sym, refl, ap, ◌∙◌, subst, inl, inr, arith, MatchResult}
use Rattle.floor.specs.Checks.{refuse, ◌>>=◌, ◌>>◌}
use Rattle.std.proofs.lemmas.Bool.{cond_both}
use Rattle.std.proofs.lemmas.Bool.Decides.{not_from_Decides}

module _ {A E : Type 0} where
  pub ok_no_err : {x : A} {e : E} → ◌≡◌ {A = Result A E} (Ok x) (Err e) → ⊥
  ok_no_err h = let z : ◌≡◌ {A = ℕ} 0 1 = cc in omega arith

  pub ok_same : {x y : A} → ◌≡◌ {A = Result A E} (Ok x) (Ok y) → x ≡ y
  ok_same h = cc

  pub err_same : {e f : E} → ◌≡◌ {A = Result A E} (Err e) (Err f) → e ≡ f
  err_same h = cc

module _ {A B E : Type 0} where
  pub bind_ok : (x : Result A E) (next : A → Result B E) (y : B) → (x >>= next) ≡ Ok y → (a : A) × (x ≡ Ok a) × (next a ≡ Ok y)
  bind_ok (Ok a) next y h = (a, refl, h)
  bind_ok (Err e) next y h = absurd (ok_no_err (sym h))

  pub bind_err : (x : Result A E) (next : A → Result B E) (e : E) → (x >>= next) ≡ Err e → (x ≡ Err e) ⊎ ((a : A) × (x ≡ Ok a) × (next a ≡ Err e))
  bind_err (Ok a) next e h = inr (a, refl, h)
  bind_err (Err f) next e h = inl (ap Err (err_same h))

  pub bind_at : (x : Result A E) (next : A → Result B E) (a : A) → x ≡ Ok a → (x >>= next) ≡ next a
  bind_at x next a h = ap (λ r. r >>= next) h

-- a test by itself
pub not_refused : {E : Type 0} (b : Bool) (e : E) → Ok tt ≡ refuse (not b) e → b ≡ true
not_refused true e h = refl
not_refused false e h = cc

-- a test in front of what follows
module _ {A E : Type 0} where
  pub refused : (b : Bool) (e : E) (next : Result A E) → b ≡ true → (refuse b e >> next) ≡ Err e
  refused b e next h = ap (λ t. refuse t e >> next) h

  pub passes : (b : Bool) (e : E) (next r : Result A E) → b ≡ false → next ≡ r → (refuse b e >> next) ≡ r
  passes b e next r h k = ap (λ t. refuse t e >> next) h ∙ k

  pub passed : (b : Bool) (e : E) (next : Result A E) (x : A) → (refuse b e >> next) ≡ Ok x → (b ≡ false) × (next ≡ Ok x)
  passed true e next x h = absurd (ok_no_err (sym h))
  passed false e next x h = (refl, h)

-- ---- what the outcome of a chain tells, from what each stage tells

-- P is to hold of what is given, and Q of a fault
module _ {A E : Type 0} (P : A → Type 0) (Q : E → Type 0) where
  pub then_tells : {B : Type 0} (x : Result B E) (next : B → Result A E) → MatchResult x (λ b. MatchResult (next b) P Q) Q → MatchResult (x >>= next) P Q
  then_tells (Ok b) next h = h
  then_tells (Err e) next h = h

  pub cond_tells : {C : Type 0} (t : Bool) (x y : Result A E) → Decides t C → (C → MatchResult x P Q) → ((C → ⊥) → MatchResult y P Q) → MatchResult (cond t x y) P Q
  cond_tells t x y decides yes_case no_case = cond_both t x y (λ r. MatchResult r P Q) (λ e. yes_case (decides.0 e)) (λ e. no_case (not_from_Decides t decides e))

  pub unless_tells : {C : Type 0} (t : Bool) (e : E) (next : Result A E) → Decides t C → (C → MatchResult next P Q) → ((C → ⊥) → Q e) → MatchResult (refuse (not t) e >> next) P Q
  unless_tells true e next decides passed refused = passed (decides.0 refl)
  unless_tells false e next decides passed refused = refused (not_from_Decides false decides refl)

-- where the outcome tells things that exclude each other, each answer is given exactly when what it tells holds
module _ {A E : Type 0} (P : A → Type 0) (Q : E → Type 0) where
  pub ok_exactly : (x : Result A E) (a : A) → ((b : A) → P b → P a → b ≡ a) → ((e : E) → Q e → P a → ⊥) → MatchResult x P Q → (x ≡ Ok a) ↔ P a
  ok_exactly (Ok b) a same apart h = (λ e. subst P (ok_same e) h, λ p. ap Ok (same b h p))
  ok_exactly (Err e) a same apart h = (λ g. absurd (ok_no_err (sym g)), λ p. absurd (apart e h p))

  pub err_exactly : (x : Result A E) (e : E) → ((d : E) → Q d → Q e → d ≡ e) → ((a : A) → P a → Q e → ⊥) → MatchResult x P Q → (x ≡ Err e) ↔ Q e
  err_exactly (Ok a) e same apart h = (λ g. absurd (ok_no_err g), λ q. absurd (apart a h q))
  err_exactly (Err d) e same apart h = (λ g. subst Q (err_same g) h, λ q. ap Err (same d h q))
