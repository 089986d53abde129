use Rattle.std.proofs.Common.{arith}
use Rattle.blocking_pool.specs.ClientTable.{as_known}
use Rattle.blocking_pool.proofs.AnewLemmas.{named_fits, unnamed_first, unnamed_room, ready_small}
use Rattle.blocking_pool.proofs.AnewLemmas.{all_anew}
use Rattle.blocking_pool.proofs.pool.queue.heads_anew.Goals as goal

pub admit_named-ready-requires-clause-fits : goal.admit_named-ready-requires-clause-fits
admit_named-ready-requires-clause-fits c =
    named_fits c.args.spots.now c.args.clients.now.known c.args.limit
    c.args.heads.now c.clear.new.self (as_known c.args.clients.now.known c.named.result.now.entries)
    (c.requires _ c.named.ensures) c.clear.ensures

pub admit-requires-clause-first : goal.admit-requires-clause-first
admit-requires-clause-first c = unnamed_first c.args.spots.now c.args.clients.now.known c.args.limit
    c.args.heads.now c.clear.new.self (as_known c.args.clients.now.known c.named.result.now.entries)
    (c.requires _ c.named.ensures) c.clear.ensures c.get.result c.get.ensures

pub admit-requires-clause-room : goal.admit-requires-clause-room
admit-requires-clause-room c = unnamed_room c.args.spots.now c.args.clients.now.known c.args.limit
    c.args.heads.now c.clear.new.self (as_known c.args.clients.now.known c.named.result.now.entries)
    (c.requires _ c.named.ensures) c.clear.ensures c.get.result c.get.ensures
    c.admit_named-ready.new.heads c.admit_named-ready.ensures.heads c.admit_named-ready.ensures.kept

pub overflow_add-result : goal.overflow_add-result
overflow_add-result c =
    let small = ready_small c.args.spots.now c.args.clients.now.known c.args.limit c.args.heads.now
    c.clear.new.self (as_known c.args.clients.now.known c.named.result.now.entries)
    (c.requires _ c.named.ensures) c.clear.ensures
    c.get.result c.get.ensures c.admit_named-ready.new.heads c.admit_named-ready.ensures.heads
    c.admit_named-ready.ensures.kept c.admit_named-ready.result c.admit.result
    c.admit_named-ready.ensures.ready c.admit.ensures.ready in
    omega (arith, small)

pub returns : goal.returns
returns c =
    all_anew c.args.spots.now c.args.clients.now.known c.args.limit c.args.heads.now
    c.clear.new.self (as_known c.args.clients.now.known c.named.result.now.entries)
    (c.requires _ c.named.ensures) c.clear.ensures
    c.get.result c.get.ensures c.admit_named-ready.new.heads c.admit_named-ready.ensures.heads
    c.admit_named-ready.ensures.kept
    c.named.ensures c.admit.new.heads c.admit_named-ready.result
    c.admit.result c.admit.ensures.heads c.admit.ensures.kept c.admit_named-ready.ensures.ready
    c.admit.ensures.ready
