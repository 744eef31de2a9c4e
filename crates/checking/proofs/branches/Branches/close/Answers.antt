use Rattle.std.proofs.Common.{◌≡◌, ◌++◌, ◌∷◌, [], length, Some, None, sym, ap, ◌∙◌, arith}
use Rattle.std.specs.Option.{option_to_list}
use Rattle.checking.specs.OpenBranches.{rights}
use Rattle.checking.proofs.Rights.{open_right, rights_none}
use Rattle.checking.proofs.branches.Branches.close.Goals as goal

pub returns-in-Some-other : goal.returns-in-Some-other
returns-in-Some-other c =
    let b = c.loop-other.self in
    let popped = c.pop.new.self.items in
    let inv = c.loop-other.invariant in
    let was : b.others.items ≡ popped ++ (Some c.in-Some-other.right ∷ []) = c.pop.ensures.items ∙ ap (λ o. popped ++ option_to_list o) (c.in-Some.is ∙ ap Some c.in-Some-other.is) in
    rw (c.push.ensures.items, c.len-depth.ensures.value) (simp (c.requires, inv.1) (open_right b.bans popped (omega arith) c.in-Some-other.right ∙ ap (λ others. rights b.bans others (length others)) (sym was) ∙ inv.0))

pub loop-other-preserved : goal.loop-other-preserved
loop-other-preserved c =
    let b = c.loop-other.self in
    let popped = c.pop.new.self.items in
    let inv = c.loop-other.invariant in
    let was : b.others.items ≡ popped ++ (None ∷ []) = c.pop.ensures.items ∙ ap (λ o. popped ++ option_to_list o) (c.in-Some.is ∙ ap Some c.in_default-other.is) in
    (sym (rights_none b.bans popped) ∙ ap (λ others. rights b.bans others (length others)) (sym was) ∙ inv.0, inv.1)
