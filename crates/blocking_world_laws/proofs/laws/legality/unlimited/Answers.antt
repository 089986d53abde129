-- Where no client limit is set or none was ever set, and where no job runs.
use Rattle.blocking_world_laws.specs.Queue.{queue}
use Rattle.blocking_world_laws.proofs.Queues.{all_ready, ready_beside_none, unlimited_so}
use Rattle.blocking_world_laws.proofs.laws.legality.unlimited.Goals as goal

pub returns-clause-all_ready : goal.returns-clause-all_ready
returns-clause-all_ready c = all_ready

pub returns-clause-ready_beside_none : goal.returns-clause-ready_beside_none
returns-clause-ready_beside_none c = ready_beside_none

pub returns-clause-entered : goal.returns-clause-entered
returns-clause-entered c = unlimited_so

pub returns-clause-in_order : goal.returns-clause-in_order
returns-clause-in_order c =
    λ setting plan past laws free. (queue past, unlimited_so setting plan past laws free)
