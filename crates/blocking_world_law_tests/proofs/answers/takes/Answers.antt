-- The jobs that were taken were taken in the order of entry.
use Rattle.std.proofs.Common.{rules}
use Rattle.blocking_world_law_tests.proofs.Orders.{legal_so, pooled_so}
use Rattle.blocking_world_law_tests.proofs.answers.takes.Goals as goal

pub returns-clause-accepts_front : goal.returns-clause-accepts_front
returns-clause-accepts_front c = legal_so (search rules)

pub returns-clause-accepts_front_before_woken : goal.returns-clause-accepts_front_before_woken
returns-clause-accepts_front_before_woken c = pooled_so (search rules)

pub returns-clause-accepts_front_beside_dropped : goal.returns-clause-accepts_front_beside_dropped
returns-clause-accepts_front_beside_dropped c = legal_so (search rules)

pub returns-clause-accepts_next_beside_dropped : goal.returns-clause-accepts_next_beside_dropped
returns-clause-accepts_next_beside_dropped c = legal_so (search rules)
