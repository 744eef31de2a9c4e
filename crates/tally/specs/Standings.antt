-- The standing of a check, and its settlement.
use Rattle.std.specs.Prelude.{◌≡◌, ℕ, cond, List, [], ◌++◌, length, codes, decimal, Ok, Err, Result, ◌==◌, nat_le}
use Rattle.motion.specs.Listed.{steps}
use Rattle.motion.specs.Routes.{total}
use Rattle.std.specs.Option.{unwrap_or}
use Rattle.tally.specs.Openings.{Opening, carts, opened}
use Rattle.tally.specs.Refusals.{number_of}
use Rattle.tally.specs.Tallies.{Tally, is_shown, shown_of}
use Rattle.tally.specs.declared.refusal.Refusal.{Refusal}
use Rattle.tally.specs.declared.standing.Foreign.{Foreign}
use Rattle.tally.specs.declared.standing.Standing.{Standing}
use Rattle.tally.specs.declared.standing.Verdict.{Verdict}
use Rattle.tally.specs.declared.standing.Verdict.TheVariants.{Barred, Open, Unshown, OtherSum, Least}

-- the places shown for the cart a, and none where it has no route
abbrev pub places_shown : Tally → ℕ → List ℕ
places_shown t a = unwrap_or (shown_of t a) []

-- how many carts have no route
abbrev pub unshown : Opening → Tally → ℕ
unshown o t = total (carts o) (λ a. cond (is_shown t.shown a) 0 1)

abbrev pub shown_sum : Opening → Tally → ℕ
shown_sum o t = total (carts o) (λ a. steps (places_shown t a))

-- the first that fits
abbrev pub verdict_of : Result (Unit {0}) Refusal → ℕ → ℕ → ℕ → ℕ → Verdict
verdict_of (Err e) branches missing sum claim = Barred e
verdict_of (Ok x) branches missing sum claim =
    cond (nat_le 1 branches) (Open branches) (cond (nat_le 1 missing) (Unshown missing) (cond (sum == claim) (Least claim) (OtherSum sum)))

abbrev pub verdict_word : Verdict → List ℕ
verdict_word (Barred e) = codes "barred "
verdict_word (Open branches) = codes "open "
verdict_word (Unshown carts) = codes "unshown "
verdict_word (OtherSum sum) = codes "othersum "
verdict_word (Least claim) = codes "least "

abbrev pub number_in : Verdict → ℕ
number_in (Barred e) = number_of e
number_in (Open branches) = branches
number_in (Unshown carts) = carts
number_in (OtherSum sum) = sum
number_in (Least claim) = claim

-- the word and the number of a verdict
abbrev pub text_of : Verdict → List ℕ
text_of v = verdict_word v ++ decimal (number_in v)

abbrev pub standing : Opening → Tally → Standing
standing o t = record {
  branches = length t.branches;
  splits = t.splits;
  closings = t.closings;
  verdict = verdict_of (opened o) (length t.branches) (unshown o t) (shown_sum o t) o.claim;
}

-- the standing, unless the check was opened with another card
abbrev pub settle : Opening → Tally → ℕ → Result Standing Foreign
settle o t card = cond (card == o.card) (Ok (standing o t)) (Err (record {}))

abbrev pub Says : Result Standing Foreign → Verdict → Type 0
Says (Err e) v = ⊥
Says (Ok s) v = s.verdict ≡ v
