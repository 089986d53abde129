use Rattle.std.proofs.Common.{◌≡◌, length, drop, flat_map, vec_items, vec_len, vec_capacity, ap}
use Rattle.std.proofs.Common.{sym, ◌∙◌, arith}
use Rattle.std.proofs.lemmas.Option.{slice_get_within}
use Rattle.blocking_core.proofs.Lending.{given_first, room_inside, memory_spent}
use Rattle.blocking_core.proofs.pipe.lending.LendingMemory.give_first.Goals as goal

pub invariant_of-self-clause-row : goal.invariant_of-self-clause-row
invariant_of-self-clause-row g c =
    let s = c.args.self.now in
    let first = c.in-Some.first in
    let count = c.len-count.result in
    let at = sym c.pop_front.ensures.value ∙ c.in-Some.is in
    let long : count ≡ length first.items =
    c.len-count.ensures ∙ ap vec_len c.replace.ensures.after ∙ first.ok.0 in
    rw c.pop_front.ensures.items
    (given_first vec_items s.pieces.items first s.piece s.gone s.len count s.row c.requires.whole at
    long).3

pub invariant_of-self-clause-memory : goal.invariant_of-self-clause-memory
invariant_of-self-clause-memory g c =
    let s = c.args.self.now in
    let at = sym c.pop_front.ensures.value ∙ c.in-Some.is in
    let room = ap vec_capacity c.replace.ensures.value in
    let memory = memory_spent vec_capacity s.pieces.items s.spent.items c.replace.result s.piece
    s.pieces.capacity (vec_capacity s.spent) s.memory
    (slice_get_within s.pieces.items 0 c.in-Some.first at) (omega (arith, room, c.requires.room)) in
    rw (c.pop_front.ensures.items, c.push_reserved.ensures.items, c.push_reserved.ensures.capacity)
    memory

pub returns-clause-count : goal.returns-clause-count
returns-clause-count g c =
    let s = c.args.self.now in
    let first = c.in-Some.first in
    let count = c.len-count.result in
    let at = sym c.pop_front.ensures.value ∙ c.in-Some.is in
    let long : count ≡ length first.items =
    c.len-count.ensures ∙ ap vec_len c.replace.ensures.after ∙ first.ok.0 in
    (given_first vec_items s.pieces.items first s.piece s.gone s.len count s.row c.requires.whole at
    long).0

pub returns-clause-piece : goal.returns-clause-piece
returns-clause-piece g c =
    let s = c.args.self.now in
    let first = c.in-Some.first in
    let count = c.len-count.result in
    let at = sym c.pop_front.ensures.value ∙ c.in-Some.is in
    let long : count ≡ length first.items =
    c.len-count.ensures ∙ ap vec_len c.replace.ensures.after ∙ first.ok.0 in
    ap vec_items c.replace.ensures.after
    ∙ (given_first vec_items s.pieces.items first s.piece s.gone s.len count s.row c.requires.whole
    at long).1

pub returns-clause-rest : goal.returns-clause-rest
returns-clause-rest g c =
    let s = c.args.self.now in
    let first = c.in-Some.first in
    let count = c.len-count.result in
    let at = sym c.pop_front.ensures.value ∙ c.in-Some.is in
    let long : count ≡ length first.items =
    c.len-count.ensures ∙ ap vec_len c.replace.ensures.after ∙ first.ok.0 in
    let items = ap (λ b. drop s.gone (flat_map vec_items b.items)) c.pop_front.ensures.items
    ∙ (given_first vec_items s.pieces.items first s.piece s.gone s.len count s.row c.requires.whole
    at long).2 in
    λ i. record { items = items i; capacity = s.capacity }

pub returns-clause-room : goal.returns-clause-room
returns-clause-room g c =
    let s = c.args.self.now in
    let at = sym c.pop_front.ensures.value ∙ c.in-Some.is in
    let room =
    room_inside vec_capacity s.pieces.items s.piece 0 c.in-Some.first s.memory.inside at in
    omega (arith, ap vec_capacity c.replace.ensures.after, room)
