use Rattle.std.proofs.Common.{◌≤◌, length}
use Rattle.blocking_pool.proofs.SweepLemmas.{from_on, IsGathering}
use Rattle.blocking_pool.proofs.pool.table.gather.Given as goal

abbrev pub invariant-places : goal.invariant-places
invariant-places g l = IsGathering g.J.Job.may_answer l.entries l.parked l.next l.due.numbers
    × (l.fn.due.room ≤ l.due.room)

abbrev pub decreases-places : goal.decreases-places
decreases-places g l = length (from_on l.next l.parked.places)
