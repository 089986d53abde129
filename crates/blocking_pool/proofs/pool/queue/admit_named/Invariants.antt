use Rattle.std.specs.Prelude.{◌<◌, length}
use Rattle.std.specs.List.{All}
use Rattle.blocking_pool.specs.ClientTable.{as_known}
use Rattle.blocking_pool.specs.QueueForm.{number_by}
use Rattle.blocking_pool.proofs.AnewLemmas.{IsAdmitting}
use Rattle.blocking_pool.proofs.pool.queue.admit_named.Given as goal

abbrev pub invariant-loop-name : goal.invariant-loop-name
invariant-loop-name l =
    IsAdmitting (number_by l.spots) l.limit (as_known l.clients.known l.named.entries)
    (as_known l.clients.known l.name-iterator) l.fn.heads l.heads l.ready
    × All (λ entry. 0 < entry.1.line.len
    → entry.1.line.first < length l.spots) (as_known l.clients.known l.name-iterator)
