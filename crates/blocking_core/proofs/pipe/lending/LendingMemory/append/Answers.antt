use Rattle.std.proofs.Common.{◌≡◌, ◌++◌, take, drop, flat_map, vec_items, vec_capacity, ap, ◌∙◌}
use Rattle.std.proofs.Common.{arith}
use Rattle.std.proofs.lemmas.List.{length-take-le}
use Rattle.blocking_core.proofs.Lending.{appended, memory_put}
use Rattle.blocking_core.proofs.pipe.lending.LendingMemory.append.Goals as goal

pub invariant_of-self-clause-row : goal.invariant_of-self-clause-row
invariant_of-self-clause-row g c =
    let s = c.make_place.new.self in
    let count = c.min-count.result in
    let more = take count c.args.items.now in
    let cut = c.take_last-last.ensures.last in
    let left = cut.less in
    let put : c.extend_from_slice.new.self.items ≡ c.take_last-last.result.items ++ more =
    c.in-Ok.ensures.items in
    rw c.in-Ok-try_push_back.ensures.ok
    (appended vec_items s.pieces.items c.take_last-last.new.pieces.items c.take_last-last.result
    c.extend_from_slice.new.self more s.piece s.gone s.len count
    cut put (length-take-le count c.args.items.now (omega arith)) (omega arith) (omega arith)).0

pub invariant_of-self-clause-memory : goal.invariant_of-self-clause-memory
invariant_of-self-clause-memory g c =
    let s = c.make_place.new.self in
    let spent = c.take_last-last.new.spent in
    let before = c.take_last-last.new.pieces in
    rw c.in-Ok-try_push_back.ensures.ok
    (memory_put vec_capacity before.items spent.items c.extend_from_slice.new.self s.piece
    before.capacity (vec_capacity spent)
    c.take_last-last.ensures.memory
    (omega (arith, c.take_last-last.ensures.room, c.in-Ok.ensures.capacity)))

pub returns-clause-items : goal.returns-clause-items
returns-clause-items g c =
    let s = c.make_place.new.self in
    let count = c.min-count.result in
    let more = take count c.args.items.now in
    let cut = c.take_last-last.ensures.last in
    let left = cut.less in
    let put : c.extend_from_slice.new.self.items ≡ c.take_last-last.result.items ++ more =
    c.in-Ok.ensures.items in
    let items = ap (λ b. drop s.gone (flat_map vec_items b.items)) c.in-Ok-try_push_back.ensures.ok
    ∙ (appended vec_items s.pieces.items c.take_last-last.new.pieces.items c.take_last-last.result
    c.extend_from_slice.new.self more s.piece s.gone s.len count
    cut put (length-take-le count c.args.items.now (omega arith)) (omega arith) (omega arith)).1 in
    let said = c.make_place.ensures.items in
    let all = items ∙ ap (λ stored. stored.items ++ more) said in
    let capacity = ap (λ stored. stored.capacity) said in
    λ i. record { items = all i; capacity = capacity i }
