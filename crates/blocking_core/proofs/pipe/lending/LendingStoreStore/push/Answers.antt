use Rattle.std.proofs.Common.{◌++◌, ◌∷◌, [], drop, flat_map, vec_items, vec_capacity, ap, ◌∙◌, refl}
use Rattle.std.proofs.Common.{arith}
use Rattle.blocking_core.proofs.Lending.{appended, memory_put}
use Rattle.blocking_core.proofs.pipe.lending.LendingStoreStore.push.Goals as goal

pub invariant_of-memory-clause-row : goal.invariant_of-memory-clause-row
invariant_of-memory-clause-row g c =
    let s = c.make_place.new.self in
    let cut = c.take_last-last.ensures.last in
    let left = cut.less in
    rw c.in-Ok.ensures.ok
    (appended vec_items s.pieces.items c.take_last-last.new.pieces.items c.take_last-last.result
    c.push_reserved.new.self (c.args.item ∷ []) s.piece s.gone s.len 1
    cut c.push_reserved.ensures.items refl (omega arith) (omega arith)).0

pub invariant_of-memory-clause-memory : goal.invariant_of-memory-clause-memory
invariant_of-memory-clause-memory g c =
    let s = c.make_place.new.self in
    let spent = c.take_last-last.new.spent in
    let before = c.take_last-last.new.pieces in
    rw c.in-Ok.ensures.ok
    (memory_put vec_capacity before.items spent.items c.push_reserved.new.self s.piece
    before.capacity (vec_capacity spent)
    c.take_last-last.ensures.memory
    (omega (arith, c.take_last-last.ensures.room, c.push_reserved.ensures.capacity)))

pub returns : goal.returns
returns g c =
    let s = c.make_place.new.self in
    let cut = c.take_last-last.ensures.last in
    let left = cut.less in
    let items = ap (λ b. drop s.gone (flat_map vec_items b.items)) c.in-Ok.ensures.ok
    ∙ (appended vec_items s.pieces.items c.take_last-last.new.pieces.items c.take_last-last.result
    c.push_reserved.new.self (c.args.item ∷ []) s.piece s.gone s.len 1
    cut c.push_reserved.ensures.items refl (omega arith) (omega arith)).1 in
    let said = c.make_place.ensures.items in
    let all = items ∙ ap (λ stored. stored.items ++ c.args.item ∷ []) said in
    let capacity = ap (λ stored. stored.capacity) said in
    λ i. record { items = all i; capacity = capacity i }
