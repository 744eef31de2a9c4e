use Rattle.std.proofs.Common.{◌≡◌, ◌/◌, length, take_all, ap, ◌∙◌, arith}
use Rattle.plan.specs.Commands.{words}
use Rattle.plan.proofs.Pairs.{numbers_of, words_by_pairs}
use Rattle.plan.proofs.places.Places.decode.Goals as goal

pub returns : goal.returns
returns c =
    let bytes = c.args.self.bytes.now in
    let pairs = c.as_chunks.result.0.now in
    let all : numbers_of pairs ≡ words bytes =
    ap numbers_of c.as_chunks.ensures.front ∙ words_by_pairs (length bytes / 2) bytes (omega arith) (omega arith) in
    c.loop-pair.invariant ∙ ap numbers_of (take_all c.loop-pair.pair-index pairs c.loop-pair-test.false) ∙ all
