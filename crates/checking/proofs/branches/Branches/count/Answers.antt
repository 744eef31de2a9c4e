use Rattle.std.proofs.Common.{ℕ, cond, length, get_or, is_some, None, sym, ap, ◌∙◌, arith}
use Rattle.std.proofs.lemmas.List.{take_all}
use Rattle.std.specs.List.{count_by}
use Rattle.checking.proofs.Rights.{count_more, count_rights}
use Rattle.checking.proofs.branches.Branches.count.Goals as goal
use Rattle.checking.proofs.branches.Branches.count.Goals.{then-is_some, else-is_some}

pub loop-other-preserved : goal.loop-other-preserved
loop-other-preserved c =
    let items = c.deref-other-items.ensures.0 in
    let i = c.loop-other.other-index in
    let seen = c.is_some.ensures ∙ ap (λ xs. is_some (get_or xs i None)) items in
    let more = count_more c.args.self.now.others.items i (omega (arith, c.loop-other-test.true, ap length items)) in
    elim c.if-is_some.branch [
      | then-is_some w ↦
          let one = ap {B = ℕ} (λ b. cond b 1 0) (sym seen ∙ w.if-is_some.true) in
          (omega (arith, w.count-is, c.loop-other.invariant.0, more, one), omega (arith, w.count-is, c.loop-other.invariant.1))
      | else-is_some w ↦
          let none = ap {B = ℕ} (λ b. cond b 1 0) (sym seen ∙ w.if-is_some.false) in
          (omega (arith, w.count-is, c.loop-other.invariant.0, more, none), omega (arith, w.count-is, c.loop-other.invariant.1))
    ]

pub returns : goal.returns
returns c =
    let b = c.args.self.now in
    let all = ap (count_by is_some) (take_all c.loop-other.other-index b.others.items (omega (arith, c.loop-other-test.false, ap length c.deref-other-items.ensures.0))) in
    rw c.if-not-self.false (omega (arith, c.loop-other.invariant.0, all, count_rights b.bans b.others.items))
