use Rattle.std.proofs.Common.{◌≡◌, rules, None, sym}
use Rattle.floor.specs.Tests.{every}
use Rattle.std.proofs.lemmas.Iterator.{YieldsList-from_slice}
use Rattle.std.proofs.lemmas.Iterator.Search.{all_from_yields_List}
use Rattle.search.proofs.bans.Bans.all.Goals as goal
use Rattle.search.proofs.bans.Bans.all.Goals.{in_default-via-in-None-1, in_default-via-in-Some+else-not-passes}

pub returns-2 : goal.returns-2
returns-2 g c = λ p h.
    let rest : c.all.result ≡ every p c.args.self.now.branch.now = all_from_yields_List p _ _ _ c.all.ensures.ran (YieldsList-from_slice _ c.iter.ensures.rest) (λ x b f k. search rules) in
    elim c.in_default.branch [
      | in_default-via-in-None-1 w ↦ let e : c.args.self.now.more ≡ None = search rules in rw e rest
      | in_default-via-in-Some+else-not-passes w ↦ let one = h w.in-Some.ban _ w.passes.ensures in rw (w.in-Some.is, sym one, w.if-not-passes.false) rest
    ]
