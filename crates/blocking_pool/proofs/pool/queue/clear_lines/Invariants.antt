use Rattle.std.specs.Prelude.{length}
use Rattle.blocking_pool.proofs.SweepLemmas.{from_on}
use Rattle.blocking_pool.proofs.LineUpLemmas.{IsClearing}
use Rattle.blocking_pool.proofs.pool.queue.clear_lines.Given as goal

abbrev pub invariant-places : goal.invariant-places
invariant-places l = IsClearing l.spots l.fn.clients.known l.clients.known l.places.places l.next

abbrev pub decreases-places : goal.decreases-places
decreases-places l = length (from_on l.next l.places.places)
