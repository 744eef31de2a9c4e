use Rattle.std.proofs.Common.{arith}
use Rattle.checking.proofs.Rights.{open_split}
use Rattle.checking.proofs.branches.Branches.split.Goals as goal

pub returns : goal.returns
returns c =
    let b = c.args.self.now in
    rw (c.push.ensures.items, c.len-depth.ensures.value) (simp c.requires.0 (open_split b.bans b.others.items (omega arith) c.args.left c.args.right))
