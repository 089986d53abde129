use Rattle.std.proofs.Common.{◌<◌, ◌∷◌, length, sym, subst, arith}
use Rattle.std.proofs.lemmas.List.Elements.{All-tail}
use Rattle.std.specs.List.{All}
use Rattle.blocking_pool.specs.ClientTable.{client_at, as_known}
use Rattle.blocking_pool.specs.QueueForm.{number_by}
use Rattle.blocking_pool.specs.declared.pool.clients.Client.{Client}
use Rattle.blocking_pool.proofs.AnewLemmas.{IsAdmitting, one_more}
use Rattle.blocking_pool.proofs.pool.queue.admit_named.Goals as goal

pub admit-ready-requires-clause-first : goal.admit-ready-requires-clause-first
admit-ready-requires-clause-first c =
    subst (λ (k : Client). 0 < k.line.len
    → k.line.first < length c.args.spots.now) (sym c.get.ensures)
    (subst (λ rest. All (λ entry. 0 < entry.1.line.len → entry.1.line.first
    < length c.args.spots.now) (as_known c.args.clients.now.known rest))
    c.in-Some.ensures.steps c.loop-name.invariant.1
    0 (c.in-Some.name.now, client_at c.args.clients.now.known c.in-Some.name.now) (omega arith))

pub loop-name-preserved : goal.loop-name-preserved
loop-name-preserved c =
    let so_far = subst (λ rest. IsAdmitting (number_by c.args.spots.now)
    c.args.limit (as_known c.args.clients.now.known c.args.named.now.entries) (as_known
    c.args.clients.now.known rest) c.args.heads.now c.loop-name.heads c.loop-name.ready)
    c.in-Some.ensures.steps c.loop-name.invariant.0 in
    let state = subst (λ (k : Client). IsAdmitting (number_by c.args.spots.now)
    c.args.limit (as_known c.args.clients.now.known c.args.named.now.entries)
    ((c.in-Some.name.now, k) ∷ as_known c.args.clients.now.known c.next.new.self)
    c.args.heads.now c.loop-name.heads c.loop-name.ready)
    (sym c.get.ensures) so_far in (
      one_more (number_by c.args.spots.now) c.args.limit (as_known c.args.clients.now.known
          c.args.named.now.entries) (as_known c.args.clients.now.known c.next.new.self)
          c.in-Some.name.now c.get.result c.args.heads.now c.loop-name.heads c.admit-ready.new.heads
          c.loop-name.ready c.admit-ready.result state c.admit-ready.ensures.heads
          c.admit-ready.ensures.kept c.admit-ready.ensures.ready,
      All-tail (λ entry. 0 < entry.1.line.len → entry.1.line.first < length c.args.spots.now)
          (c.in-Some.name.now, client_at c.args.clients.now.known c.in-Some.name.now)
          (as_known c.args.clients.now.known c.next.new.self)
          (subst (λ rest. All (λ entry. 0 < entry.1.line.len → entry.1.line.first
          < length c.args.spots.now) (as_known c.args.clients.now.known rest))
          c.in-Some.ensures.steps c.loop-name.invariant.1),
    )
