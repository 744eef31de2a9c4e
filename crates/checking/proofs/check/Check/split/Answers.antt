use Rattle.std.proofs.Common.{sym, ◌∙◌}
use Rattle.std.proofs.lemmas.List.{length-take-le}
use Rattle.std.proofs.lemmas.Result.{err_from_is_err_and}
use Rattle.checking.proofs.Calling.{branch_full, letter_unknown, operands_short, rule_refused, branch_split, room_for_split, width_given}
use Rattle.checking.proofs.check.Check.split.Goals as goal

pub returns-then-is_full-clause-answers : goal.returns-then-is_full-clause-answers
returns-then-is_full-clause-answers g c = branch_full c.in_ok-branch.ensures.found _ _ c.if-is_full.ensures

pub returns-then-not-knows-clause-answers : goal.returns-then-not-knows-clause-answers
returns-then-not-knows-clause-answers g c = letter_unknown c.in_ok-branch.ensures.found _ _ c.if-is_full.ensures c.if-not-knows.ensures

pub returns-in_err-width-clause-answers : goal.returns-in_err-width-clause-answers
returns-in_err-width-clause-answers g c =
    let p = err_from_is_err_and c.from_residual-in_err-width.result c.from_residual-in_err-width.ensures.1 in
    rw (p.1, p.2)
    (operands_short c.in_ok-branch.ensures.found _ _ c.if-is_full.ensures c.if-not-knows.ensures _ c.width.ensures _ c.ok_or.ensures.value _ c.in_err-width.was)

pub slice_bounds-operands-end : goal.slice_bounds-operands-end
slice_bounds-operands-end g c =
    sym (length-take-le c.in_ok-width.width c.args.operands.now
    ((g.met.R.SplitRule.lawful c.args.self.now.terms.rules.now).fits c.args.letter c.args.operands.now c.in_ok-width.width
    (width_given _ _ c.width.ensures _ c.ok_or.ensures.value _ c.in_ok-width.was)))

pub returns-in_err-left-clause-answers : goal.returns-in_err-left-clause-answers
returns-in_err-left-clause-answers g c =
    let p = err_from_is_err_and c.from_residual-in_err-left.result c.from_residual-in_err-left.ensures.1 in
    rw (p.1, p.2)
    (rule_refused c.in_ok-branch.ensures.found _ _ c.if-is_full.ensures c.if-not-knows.ensures _ c.width.ensures _ c.ok_or.ensures.value _ c.in_ok-width.was _
    (sym c.in_err-left.was ∙ c.sides.ensures))

pub split-requires : goal.split-requires
split-requires g c = let room = room_for_split _ _ c.if-is_full.ensures in (sym c.in_ok-branch.ensures.found.going, (room.0, room.1))

pub returns-clause-answers : goal.returns-clause-answers
returns-clause-answers g c =
    branch_split c.in_ok-branch.ensures.found _ _ c.if-is_full.ensures c.if-not-knows.ensures _ c.width.ensures _ c.ok_or.ensures.value _ c.in_ok-width.was _ _ _
    (sym c.in_ok-left.was ∙ c.sides.ensures) c.split.ensures
