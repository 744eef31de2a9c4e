-- What the operands of a letter say: numbers of one or two bytes, the most significant first.
use Rattle.std.specs.Prelude.{ℕ, ◌+◌, ◌*◌, cond, List, length, Some, None, Option, nat_le, slice_index}
use Rattle.floor.specs.declared.Cart.{Cart}
use Rattle.floor.specs.declared.Place.{Place}
use Rattle.floor.specs.declared.Tick.{Tick}

-- a byte that is not there counts as 0: no check asks so, since it asks for the width first
abbrev pub byte : List ℕ → ℕ → ℕ
byte ops i = slice_index ops i

-- a number of two bytes
abbrev pub word : List ℕ → ℕ → ℕ
word ops i = byte ops i * 256 + byte ops (i + 1)

-- the cart whose number is byte i
abbrev pub cart_in : List ℕ → ℕ → Cart
cart_in ops i = record { 0 = byte ops i }

-- the place whose number is bytes i and i + 1
abbrev pub place_in : List ℕ → ℕ → Place
place_in ops i = record { 0 = word ops i }

-- the tick whose number is bytes i and i + 1
abbrev pub tick_in : List ℕ → ℕ → Tick
tick_in ops i = record { 0 = word ops i }

-- operands of n bytes, where there are as many
abbrev pub of_width : ℕ → List ℕ → Option ℕ
of_width n bytes = cond (nat_le n (length bytes)) (Some n) None
