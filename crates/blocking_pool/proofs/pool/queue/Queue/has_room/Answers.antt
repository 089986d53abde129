use Rattle.std.proofs.Common.{sym, ap, ◌∙◌}
use Rattle.std.specs.Prelude.{nat_lt}
use Rattle.blocking_pool.specs.Clients.{is_below, has_room_at}
use Rattle.blocking_pool.specs.ClientTable.{client_at}
use Rattle.blocking_pool.proofs.QueueLemmas.{room_seen}
use Rattle.blocking_pool.proofs.pool.queue.Queue.has_room.Goals as goal

pub returns-in-Some : goal.returns-in-Some
returns-in-Some c =
    ap (λ k. nat_lt k.running c.in-Some.limit) c.get.ensures
    ∙ ap (λ l. is_below l (client_at c.self.inside.clients.known c.args.client).running)
    (sym c.in-Some.is)
    ∙ sym (room_seen c.self.inside.limit c.self.inside.clients.known c.args.client)
    ∙ ap (λ v. has_room_at v.limit v.tallies c.args.client) c.self.view_is
