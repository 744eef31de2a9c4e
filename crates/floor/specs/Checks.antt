-- Tests in a row: the first that fails refuses, and what stands behind it is not asked.
use Rattle.std.specs.Prelude.{Bool, true, false, Ok, Err, Result}

infixl 20 ◌>>=◌
infixl 20 ◌>>◌
-- refused where the fault is there
abbrev pub refuse : {E : Type 0} → Bool → E → Result (Unit {0}) E
refuse true e = Err e
refuse false e = Ok tt

-- what stands behind a test that gives a value, for that value; a fault is passed on
abbrev pub ◌>>=◌ : {A B E : Type 0} → Result A E → (A → Result B E) → Result B E
Ok a >>= next = next a
Err e >>= next = Err e

-- the same behind a test that gives no value
abbrev pub ◌>>◌ : {A B E : Type 0} → Result A E → Result B E → Result B E
Ok a >> next = next
Err e >> next = Err e
