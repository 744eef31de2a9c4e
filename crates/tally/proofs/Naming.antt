-- The bans of the open branches name carts and places that are there; so a split asks the rules what a check can ask.
use Rattle.std.proofs.Common.{◌≡◌, List, [], ◌∷◌, All, subst, arith}
use Rattle.splits.specs.Rules.{Askable, Names}
use Rattle.std.proofs.lemmas.List.Elements.{All-cons, All-head, All-nil, All-push, All-tail}
use Rattle.tally.specs.CallAnswers.{Reached}
use Rattle.tally.specs.Calls.{Call, Takes, by_close, by_show, by_split}
use Rattle.tally.specs.Openings.{Opening, Openable, LawfulOpening}
use Rattle.tally.specs.Tallies.{Branch, Tally, under}
use Rattle.tally.proofs.Limiting.{FewBans, within_limits}
use Rattle.tally.proofs.Reaching.{kept_reached}

module _ (o : Opening) (sound : LawfulOpening o) where
  abbrev NamedBans : Branch → Type 0
  NamedBans b = All (Names o.floor o.trips) b.bans

  abbrev Named : List Branch → Type 0
  Named bs = All NamedBans bs

  -- of an open branch of a check that may be opened
  asked_of : (t : Tally) → Reached o t → Openable o → (b : Branch) (rest : List Branch) → t.branches ≡ b ∷ rest → NamedBans b → Askable o.floor o.trips b.bans
  asked_of t reached openable b rest is named =
      let few = All-head FewBans b rest (subst (All FewBans) is (within_limits o sound t reached).few_bans) in
      record { floor = sound.floor; few_carts = openable.few_carts; on_floor = openable.on_floor; apart = openable.apart; few_bans = omega (arith, few.0, few.1); named = named }

  named_kept : (t : Tally) (c : Call) (u : Tally) → Reached o t → Openable o → Takes o t c u → Named t.branches → Named u.branches
  named_kept t c u reached openable (by_show h) named = named
  named_kept t c u reached openable (by_split {b = b} {rest = rest} {left = left} {right = right} is deep many h) named =
      let all = subst Named is named in
      let own = All-head NamedBans b rest all in
      let names = sound.rules.names _ _ _ _ _ left right (asked_of t reached openable b rest is own) h.sides in
      All-cons NamedBans (under b left) (under b right ∷ rest) (All-push (Names o.floor o.trips) b.bans left own names.0)
      (All-cons NamedBans (under b right) rest (All-push (Names o.floor o.trips) b.bans right own names.1) (All-tail NamedBans b rest all))
  named_kept t c u reached openable (by_close {b = b} {rest = rest} is none) named = All-tail NamedBans b rest (subst Named is named)

  pub bans_named : (t : Tally) → Reached o t → Named t.branches
  bans_named = kept_reached o sound (λ t. Named t.branches) named_kept (All-cons NamedBans (record { bans = []; depth = 0 }) [] (All-nil (Names o.floor o.trips)) (All-nil NamedBans))

  -- so of each branch that is split
  pub askable : (t : Tally) → Reached o t → Openable o → (b : Branch) (rest : List Branch) → t.branches ≡ b ∷ rest → Askable o.floor o.trips b.bans
  askable t reached openable b rest is = asked_of t reached openable b rest is (All-head NamedBans b rest (subst Named is (bans_named t reached)))
