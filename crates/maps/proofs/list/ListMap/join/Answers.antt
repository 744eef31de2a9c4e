use Rattle.maps.specs.ListMapsLemmas.{lawful_more, tied_more}
use Rattle.maps.proofs.list.ListMap.join.Goals as goal

pub invariant_of-self-clause-lawful : goal.invariant_of-self-clause-lawful
invariant_of-self-clause-lawful c = rw c.push_reserved.ensures.items (∣ lawful_more c.args.self.now c.args.c c.in_ok-test_connection.ensures.taken ∣₁)

pub invariant_of-self-clause-tied : goal.invariant_of-self-clause-tied
invariant_of-self-clause-tied c p =
    let near = rw c.from.ensures at c.index_mut.ensures.value in
    let far = rw (c.from.ensures, c.from-2.ensures) at c.index_mut-2.ensures.value in
    rw (c.push_reserved.ensures.items, c.from.ensures, c.from-2.ensures)
    (tied_more c.args.self.now c.args.c c.in_ok-test_connection.ensures.taken c.index_mut.result.now near c.push.new.self c.index_mut-2.result.now far c.push-2.new.self c.push.ensures.items c.push-2.ensures.items p)
