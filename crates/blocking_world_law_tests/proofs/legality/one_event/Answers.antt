-- What the pool answers leaves no choice, nor does what tasks, owners and jobs do.
use Rattle.blocking_world_law_tests.proofs.OneAnswer.{counts_pooled, counts_unlimited, one_event}
use Rattle.blocking_world_law_tests.proofs.OneEvent.{one_legal_event}
use Rattle.blocking_world_law_tests.proofs.legality.one_event.Goals as goal

pub returns-clause-at_pool : goal.returns-clause-at_pool
returns-clause-at_pool c = λ setting plan past now other pooled.
    one_event setting plan past now other (counts_pooled setting plan past pooled)

pub returns-clause-at_unlimited_pool : goal.returns-clause-at_unlimited_pool
returns-clause-at_unlimited_pool c = λ setting plan past now other unlimited.
    one_event setting plan past now other (counts_unlimited past unlimited)

pub returns-clause-everywhere : goal.returns-clause-everywhere
returns-clause-everywhere c = one_legal_event
