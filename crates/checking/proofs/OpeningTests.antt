-- The answer to an opening, from its four tests.
use Rattle.std.proofs.Common.{◌≡◌, Bool, not, ◌&&◌, leb, Ok, Result}
use Rattle.floor.specs.Checks.{refuse, ◌>>◌}
use Rattle.floor.specs.Tests.{every_below}
use Rattle.tally.specs.Openings.{Opening, are_apart, carts, is_on_floor, opened}
use Rattle.tally.specs.declared.refusal.Refusal.{Refusal}
use Rattle.tally.specs.declared.refusal.Refusal.TheVariants.{Carts, Claim, NoPlace, Shared}

-- the first test that fails is the answer
abbrev pub answer_by : Bool → Bool → Bool → Bool → Result (Unit {0}) Refusal
answer_by few small on_floor apart = do
  refuse (not few) Carts
  refuse (not small) Claim
  refuse (not on_floor) NoPlace
  refuse (not apart) Shared
  Ok tt

pub opened_by :
    (o : Opening) (few small on_floor apart : Bool) → few ≡ (leb 1 (carts o) && leb (carts o) 16) → small ≡ leb o.claim 4000 → on_floor ≡ every_below (is_on_floor o) (carts o)
    → apart ≡ every_below (λ a. every_below (are_apart o a) a) (carts o) → answer_by few small on_floor apart ≡ opened o
unfolding opened
opened_by o few small on_floor apart few_is small_is on_floor_is apart_is = cc
