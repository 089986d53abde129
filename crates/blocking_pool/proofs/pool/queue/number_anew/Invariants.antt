use Rattle.std.specs.Prelude.{length}
use Rattle.blocking_pool.proofs.SweepLemmas.{from_on}
use Rattle.blocking_pool.proofs.NumberLemmas.{IsNumbering}
use Rattle.blocking_pool.proofs.pool.queue.number_anew.Given as goal

abbrev pub invariant-places : goal.invariant-places
invariant-places l = IsNumbering l.fn.spots l.spots l.places.places l.next l.number

abbrev pub decreases-places : goal.decreases-places
decreases-places l = length (from_on l.next l.places.places)
