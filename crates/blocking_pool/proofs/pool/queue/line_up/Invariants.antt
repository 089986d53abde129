use Rattle.std.specs.Prelude.{length}
use Rattle.blocking_pool.proofs.SweepLemmas.{from_on}
use Rattle.blocking_pool.proofs.LineUpLemmas.{IsLiningUp}
use Rattle.blocking_pool.proofs.pool.queue.line_up.Given as goal

abbrev pub invariant-places : goal.invariant-places
invariant-places l =
    IsLiningUp l.fn.spots l.spots l.fn.clients.known l.clients.known l.places.places l.next l.number

abbrev pub decreases-places : goal.decreases-places
decreases-places l = length (from_on l.next l.places.places)
