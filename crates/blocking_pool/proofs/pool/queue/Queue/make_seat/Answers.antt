use Rattle.std.proofs.Common.{◌||◌, ◌-◌, min, sym, ap, ◌∙◌}
use Rattle.std.specs.Prelude.{nat_lt}
use Rattle.std.specs.FinMap.{len}
use Rattle.blocking_pool.specs.Queue.{has_seat}
use Rattle.blocking_pool.proofs.ClientLemmas.{seat_is}
use Rattle.blocking_pool.proofs.pool.queue.Queue.make_seat.Goals as goal

pub returns-then-knows-clause-room : goal.returns-then-knows-clause-room
returns-then-knows-clause-room c =
    ap (λ v. has_seat v c.args.client) (sym c.self.view_is)
    ∙ ap (λ b. b || nat_lt 0 (min c.self.inside.clients.spare
    (c.self.inside.heads.room - len c.self.inside.clients.known)))
    (seat_is c.self.inside.clients.known c.args.client ∙ sym c.knows.ensures ∙ c.if-knows.true)
