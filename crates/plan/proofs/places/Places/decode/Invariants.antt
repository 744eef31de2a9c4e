use Rattle.std.proofs.Common.{◌≡◌, take}
use Rattle.floor.specs.Numbers.{numbers}
use Rattle.plan.proofs.Pairs.{numbers_of}
use Rattle.plan.proofs.places.Places.decode.Given as goal

-- one place for each pair so far
abbrev pub invariant-loop-pair : goal.invariant-loop-pair
invariant-loop-pair l = numbers l.places.items ≡ numbers_of (take l.pair-index l.pairs)
