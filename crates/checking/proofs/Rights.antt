-- The right sides still to come, as a split and a closing change them.
use Rattle.std.proofs.Common.{◌≡◌, ℕ, zero, suc, ◌+◌, ◌<◌, ◌≤◌, cond, List, [], ◌∷◌, ◌++◌, length, get_or, take, set, is_some, Some, None, Option, sym, refl, ap, ◌∙◌, ap₂, add-one, arith}
use Rattle.motion.specs.declared.ban.Ban.{Ban}
use Rattle.std.proofs.Math.Seq.{get_or-append_seam}
use Rattle.std.proofs.lemmas.List.{get_or_append_left, length-append, length_push, take_all, take_more, take_more_set, take-set, take-set-le}
use Rattle.std.proofs.lemmas.List.Sums.{sum_by_push}
use Rattle.std.specs.List.{count_by}
use Rattle.tally.specs.Tallies.{Branch, under}
use Rattle.checking.specs.OpenBranches.{branch, rights, to_come}

-- the open branches, where these are the sides not taken on the way down to the current one
abbrev pub open_at : List Ban → List (Option Ban) → List Branch
open_at bans others = branch (take (length others) bans) ∷ rights bans others (length others)

under_is : (bans : List Ban) (x : Ban) → branch (bans ++ (x ∷ [])) ≡ under (branch bans) x
under_is bans x = ap (λ n. record { bans = bans ++ (x ∷ []); depth = n }) (length_push bans x ∙ add-one (length bans))

length_to_come : (bans : List Ban) (o : Option Ban) → length (to_come bans o) ≡ cond (is_some o) 1 0
length_to_come bans (Some right) = refl
length_to_come bans None = refl

-- what stands deeper changes nothing at the splits above it
rights_front : (bans : List Ban) (others back : List (Option Ban)) (d : ℕ) → d ≤ length others → rights bans (others ++ back) d ≡ rights bans others d
rights_front bans others back zero h = refl
rights_front bans others back (suc d) h =
    ap₂ (λ o later. to_come (take d bans) o ++ later) (get_or_append_left others back None d (omega arith)) (rights_front bans others back d (omega arith))

rights_set : (bans : List Ban) (others : List (Option Ban)) (i d : ℕ) (x : Ban) → d ≤ i → rights (set bans i x) others d ≡ rights bans others d
rights_set bans others i zero x h = refl
rights_set bans others i (suc d) x h =
    ap₂ (λ above later. to_come above (get_or others d None) ++ later) (take-set-le d bans i x (omega arith)) (rights_set bans others i d x (omega arith))

-- one split more
rights_push : (bans : List Ban) (others : List (Option Ban)) (o : Option Ban) →
    rights bans (others ++ (o ∷ [])) (length (others ++ (o ∷ []))) ≡ to_come (take (length others) bans) o ++ rights bans others (length others)
rights_push bans others o =
    ap (rights bans (others ++ (o ∷ []))) (length_push others o ∙ add-one (length others)) ∙
    ap₂ (λ x later. to_come (take (length others) bans) x ++ later) (get_or-append_seam others o [] None) (rights_front bans others (o ∷ []) (length others) (omega arith))

-- one more of them looked at
pub count_more : (others : List (Option Ban)) (d : ℕ) → d < length others → count_by is_some (take (d + 1) others) ≡ count_by is_some (take d others) + cond (is_some (get_or others d None)) 1 0
count_more others d h =
    ap (count_by is_some) (take_more others d None h) ∙ sum_by_push (λ o. cond (is_some o) 1 0) (take d others) (get_or others d None)

-- each right side still to come is one branch
pub count_rights : (bans : List Ban) (others : List (Option Ban)) → length (rights bans others (length others)) ≡ count_by is_some others
count_rights bans others = to_depth (length others) (omega arith) ∙ ap (count_by is_some) (take_all (length others) others (omega arith))
  where
    to_depth : (d : ℕ) → d ≤ length others → length (rights bans others d) ≡ count_by is_some (take d others)
    to_depth zero h = refl
    to_depth (suc d) h =
        let deeper = ap (λ n. count_by is_some (take n others)) (sym (add-one d)) in
        omega (arith, deeper, count_more others d h, length-append (to_come (take d bans) (get_or others d None)) (rights bans others d), length_to_come (take d bans) (get_or others d None), to_depth d (omega arith))

-- a right side that has been taken or was never there adds nothing
pub rights_none : (bans : List Ban) (others : List (Option Ban)) → rights bans (others ++ (None ∷ [])) (length (others ++ (None ∷ []))) ≡ rights bans others (length others)
rights_none bans others = rights_push bans others None

module _ (bans : List Ban) (others : List (Option Ban)) (in_bans : length others < length bans) where
  -- one split more, with its left side taken
  pub open_split : (left right : Ban) → open_at (set bans (length others) left) (others ++ (Some right ∷ [])) ≡
      under (branch (take (length others) bans)) left ∷ (under (branch (take (length others) bans)) right ∷ rights bans others (length others))
  open_split left right =
      ap₂ ◌∷◌ (ap (λ n. branch (take n (set bans (length others) left))) (length_push others (Some right)) ∙ ap branch (take_more_set bans (length others) left in_bans) ∙ under_is (take (length others) bans) left)
      (rights_push (set bans (length others) left) others (Some right) ∙
      ap₂ (λ way more. branch (way ++ (right ∷ [])) ∷ more) (take-set bans (length others) left) (rights_set bans others (length others) (length others) left (omega arith)) ∙
      ap (λ b. b ∷ rights bans others (length others)) (under_is (take (length others) bans) right))

  -- the right side in the place of the left one
  pub open_right : (right : Ban) → open_at (set bans (length others) right) (others ++ (None ∷ [])) ≡ rights bans (others ++ (Some right ∷ [])) (length (others ++ (Some right ∷ [])))
  open_right right =
      ap₂ (λ way more. branch way ∷ more) (ap (λ n. take n (set bans (length others) right)) (length_push others None) ∙ take_more_set bans (length others) right in_bans)
      (rights_none (set bans (length others) right) others ∙ rights_set bans others (length others) (length others) right (omega arith)) ∙
      sym (rights_push bans others (Some right))
