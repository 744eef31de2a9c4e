-- An option of which each case tells a fact. Speaks of no floor.
use Rattle.std.proofs.Common.{◌≡◌, ◌↔◌, Some, None, Option, refl, ap, MatchOption}
use Rattle.std.proofs.lemmas.Option.{MatchOption-at_none, MatchOption-at_some}

pub cases_map : {X P P' : Type 0} {Q Q' : X → Type 0} (o : Option X) → (P → P') → ((x : X) → Q x → Q' x) → MatchOption o P Q → MatchOption o P' Q'
cases_map None f g h = f h
cases_map (Some x) f g h = g x h

-- the facts tell the case, where they exclude each other and hold of one value at most
module _ {X : Type 0} (P : Type 0) (Q : X → Type 0) (apart : (x : X) → P → Q x → ⊥) (one : (x y : X) → Q x → Q y → x ≡ y) where
  to_some : (o : Option X) → MatchOption o P Q → (x : X) → Q x → o ≡ Some x
  to_some None h x q = absurd (apart x h q)
  to_some (Some y) h x q = ap Some (one y x h q)

  to_none : (o : Option X) → MatchOption o P Q → P → o ≡ None
  to_none None h p = refl
  to_none (Some y) h p = absurd (apart y p h)

  pub exactly : (o : Option X) → MatchOption o P Q → ((x : X) → (o ≡ Some x) ↔ Q x) × ((o ≡ None) ↔ P)
  exactly o h = (λ x. (λ e. MatchOption-at_some P Q x e h, to_some o h x), (λ e. MatchOption-at_none P Q e h, to_none o h))
