use Rattle.std.proofs.Common.{◌≡◌, ◌+◌, ◌-◌, ◌<◌, ◌++◌, length, take, drop, flat_map, vec_items}
use Rattle.std.proofs.Common.{vec_capacity, ap, ◌∙◌, arith}
use Rattle.blocking_core.proofs.Lending.{exchanged, memory_out, memory_put}
use Rattle.blocking_core.proofs.pipe.lending.LendingMemory.exchange.Goals as goal

pub invariant_of-self-clause-row : goal.invariant_of-self-clause-row
invariant_of-self-clause-row g c =
    let s = c.args.self.now in
    let long : length c.replace.result.items ≡ s.piece =
    ap (λ v. length v.items) c.replace.ensures.value ∙ c.requires.whole in
    rw c.in-Ok.ensures.ok (exchanged vec_items s.pieces.items c.replace.result s.piece s.gone s.len
    s.row c.requires.behind long).0

pub invariant_of-self-clause-memory : goal.invariant_of-self-clause-memory
invariant_of-self-clause-memory g c =
    let s = c.args.self.now in
    let some : 0 < length s.spent.items = omega (arith, c.in-Some.ensures.cases) in
    let out = memory_out vec_capacity s.pieces.items s.spent.items s.piece s.pieces.capacity
    (vec_capacity s.spent) s.memory some in
    let left = rw s.spent.ok.0 at c.pop.ensures.rest in
    let room = ap vec_capacity c.replace.ensures.value in
    rw (c.in-Ok.ensures.ok, c.pop.ensures.capacity, left)
    (memory_put vec_capacity s.pieces.items (take (length s.spent.items - 1) s.spent.items)
    c.replace.result s.piece s.pieces.capacity (vec_capacity s.spent)
    out (omega (arith, room)))

pub returns-clause-items : goal.returns-clause-items
returns-clause-items g c =
    let s = c.args.self.now in
    let long : length c.replace.result.items ≡ s.piece =
    ap (λ v. length v.items) c.replace.ensures.value ∙ c.requires.whole in
    let items = ap (λ b. drop s.gone (flat_map vec_items b.items)) c.in-Ok.ensures.ok
    ∙ (exchanged vec_items s.pieces.items c.replace.result s.piece s.gone s.len s.row
    c.requires.behind long).1
    ∙ ap (λ v. drop s.gone (flat_map vec_items s.pieces.items) ++ v.items)
    c.replace.ensures.value in
    λ i. record { items = items i; capacity = s.capacity }
