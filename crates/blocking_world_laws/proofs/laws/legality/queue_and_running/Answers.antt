-- What the laws keep of the queue and of what runs.
use Rattle.blocking_world_laws.proofs.Queues.{entered_so, count_so, queued_so, runs_so}
use Rattle.blocking_world_laws.proofs.laws.legality.queue_and_running.Goals as goal

pub returns-clause-entered : goal.returns-clause-entered
returns-clause-entered c = entered_so

pub returns-clause-count : goal.returns-clause-count
returns-clause-count c = count_so

pub returns-clause-queued : goal.returns-clause-queued
returns-clause-queued c = queued_so

pub returns-clause-running : goal.returns-clause-running
returns-clause-running c = runs_so
