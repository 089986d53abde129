use Rattle.std.proofs.Common.{sym, ap, ◌∙◌, length}
use Rattle.std.proofs.lemmas.List.{length-map}
use Rattle.blocking_pool.specs.Queue.{ready_in}
use Rattle.blocking_pool.specs.Tables.{ready_of}
use Rattle.blocking_pool.proofs.OwnerLemmas.{ready_serials}
use Rattle.blocking_pool.proofs.pool.table.Table.ready_len.Goals as goal

pub returns : goal.returns
returns g c =
    c.ready_len.ensures ∙ sym (ap length (ready_serials c.self.inside.entries c.self.inside.queue
    c.self.inside.parked c.self.invariant) ∙ length-map (ready_in c.self.inside.queue) _)
    ∙ ap (λ t. length (ready_of t)) c.self.view_is
