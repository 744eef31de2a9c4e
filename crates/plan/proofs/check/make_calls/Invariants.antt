use Rattle.std.proofs.Common.{◌≡◌}
use Rattle.checking.specs.Books.{tally_in}
use Rattle.checking.specs.Checks.{opening_of}
use Rattle.plan.specs.Reading.{made, made_if_open}
use Rattle.plan.proofs.check.make_calls.Given as goal

-- the calls that are left decide
abbrev pub invariant-loop-command : goal.invariant-loop-command
invariant-loop-command g l =
    let o = opening_of g.M.FloorMap.floor g.R.SplitRule.rules l.fn.check.terms in
    (goal.iterator-loop-command g).can_next l.command-iterator
    × (goal.iterator-loop-command g).is_finite l.command-iterator
    × (made_if_open o (tally_in l.fn.check.book) l.fn.commands ≡ made o (tally_in l.check.book) l.command-iterator)
    × (l.check.terms ≡ l.fn.check.terms)
