-- The calls of a check as they are made.
use Rattle.std.specs.Prelude.{List, map}
use Rattle.floor.specs.Numbers.{numbers}
use Rattle.tally.specs.Calls.{Call as Meant, show, split, close}
use Rattle.checking.specs.declared.call.Call.{Call}
use Rattle.checking.specs.declared.call.Call.TheVariants.{Show, Split, Close}
use Rattle.checking.specs.declared.run.CallAndStep.{CallAndStep}

abbrev pub meant : Call → Meant
meant (Show cart places) = show cart.0 (numbers places.now)
meant (Split letter operands) = split letter operands.now
meant Close = close

-- the calls alone
abbrev pub calls_in : List CallAndStep → List Meant
calls_in cs = map (λ c. meant c.call) cs
