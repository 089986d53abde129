-- Of a new crew, and of a new job.
use Rattle.blocking_world_pool.proofs.invariants.beginnings.Goals as goal
use Rattle.blocking_world_pool.proofs.laws.Calls.{number_new}
use Rattle.blocking_world_pool.proofs.laws.Legality.{begins}

pub returns-clause-crew : goal.returns-clause-crew
returns-clause-crew c = begins

pub returns-clause-number : goal.returns-clause-number
returns-clause-number c = number_new
