use Rattle.std.proofs.Common.{sym, ◌∙◌, arith}
use Rattle.std.proofs.lemmas.Result.{err_from_is_err_and}
use Rattle.tally.specs.declared.refusal.Refusal.TheVariants.{NothingOpen}
use Rattle.tally.proofs.Opening.{opened_exactly}
use Rattle.checking.specs.Checks.{opening_of}
use Rattle.checking.proofs.Calling.{none_given, nothing_open, shut}
use Rattle.checking.proofs.check.Check.branch.Goals as goal

pub returns-in_err-bans-clause-refused : goal.returns-in_err-bans-clause-refused
returns-in_err-bans-clause-refused g c =
    let p = err_from_is_err_and c.from_residual-in_err-bans.result c.from_residual-in_err-bans.ensures.1 in
    let none = none_given c.current.result NothingOpen _ (sym c.ok_or.ensures.value ∙ c.in_err-bans.was) in
    rw (p.1, p.2, none.1) (nothing_open _ _ c.in_ok-opened.ensures (shut _ _ c.current.result c.current.ensures none.0))

-- a check that may be opened has few carts
pub invariant_of-result : goal.invariant_of-result
invariant_of-result g c =
    let o = opening_of g.M.FloorMap.floor g.R.SplitRule.rules c.args.self.now.terms in
    let openable = (opened_exactly o).0 (sym c.in_ok-opened.ensures) in
    record { few = omega (arith, openable.few_carts) }
