use Rattle.std.proofs.Common.{◌≡◌, ◌+◌, ◌-◌, ◌*◌, ◌^◌, ◌<◌, fold, take}
use Rattle.mapfile.proofs.text.decimal.Given as goal

-- the number so far
abbrev pub invariant-loop-digit : goal.invariant-loop-digit
invariant-loop-digit l = (l.value ≡ fold (λ v b. v * 10 + (b - 48)) 0 (take l.digit-index l.digits)) × (l.value < 10 ^ l.digit-index)
