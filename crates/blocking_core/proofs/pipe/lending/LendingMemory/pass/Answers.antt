use Rattle.std.proofs.Common.{vec_items, vec_capacity, sym, ◌∙◌}
use Rattle.std.proofs.lemmas.Option.{slice_get_within}
use Rattle.blocking_core.proofs.Lending.{passed, room_inside, memory_spent}
use Rattle.blocking_core.proofs.pipe.lending.LendingMemory.pass.Goals as goal

pub invariant_of-self-2-clause-row : goal.invariant_of-self-2-clause-row
invariant_of-self-2-clause-row g c =
    let s = c.args.self.now in
    let left = c.min-left.result in
    let at = sym c.pop_front.ensures.value ∙ c.in-Some.is in
    rw c.pop_front.ensures.items
    (passed vec_items s.pieces.items c.in-Some.first s.piece s.gone s.len left s.row s.count.before
    at c.min-left.ensures).0

pub invariant_of-self-2-clause-memory : goal.invariant_of-self-2-clause-memory
invariant_of-self-2-clause-memory g c =
    let s = c.args.self.now in
    let first = c.in-Some.first in
    let at = sym c.pop_front.ensures.value ∙ c.in-Some.is in
    let memory = memory_spent vec_capacity s.pieces.items s.spent.items first s.piece
    s.pieces.capacity (vec_capacity s.spent) s.memory
    (slice_get_within s.pieces.items 0 first at)
    (room_inside vec_capacity s.pieces.items s.piece 0 first s.memory.inside at) in
    rw (c.pop_front.ensures.items, c.push_reserved.ensures.items, c.push_reserved.ensures.capacity)
    memory
