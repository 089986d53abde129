-- The order of each client, and what a take gives.
use Rattle.blocking_world_laws.specs.Queue.{queue, of_client}
use Rattle.blocking_world_laws.proofs.Queues.{entered_so, take_first, idle_none, none_idle}
use Rattle.blocking_world_laws.proofs.laws.legality.taking.Goals as goal

pub returns-clause-in_order : goal.returns-clause-in_order
returns-clause-in_order c = λ setting plan past laws client.
    (of_client past client (queue past), entered_so setting plan past laws client)

pub returns-clause-first : goal.returns-clause-first
returns-clause-first c = λ setting plan past now laws s taken.
    take_first setting past now now.event.act s laws.0.answers taken

pub returns-clause-idle : goal.returns-clause-idle
returns-clause-idle c = λ setting plan past now laws take. (
  idle_none setting past now now.event.act laws.0.answers,
  none_idle setting past now now.event.act take laws.0.answers,
)
