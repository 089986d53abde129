use Rattle.blocking_pool.specs.Starters.{asked}
use Rattle.blocking_pool.proofs.RingLaws.{adds_ring, wakes_ring, cancels_ring, sweeps_ring}
use Rattle.blocking_pool.proofs.RingLaws.{waits_ring, limits_ring}
use Rattle.blocking_pool.proofs.pool.ready.rings_where_jobs_get_ready.Goals as goal

pub returns-clause-adds : goal.returns-clause-adds
returns-clause-adds g c before after = adds_ring (asked g.S.Starter before after)

pub returns-clause-wakes : goal.returns-clause-wakes
returns-clause-wakes g c before after = wakes_ring (asked g.S.Starter before after)

pub returns-clause-cancels : goal.returns-clause-cancels
returns-clause-cancels g c before after = cancels_ring (asked g.S.Starter before after)

pub returns-clause-sweeps : goal.returns-clause-sweeps
returns-clause-sweeps g c before after =
    sweeps_ring g.J.Job.may_answer (asked g.S.Starter before after)

pub returns-clause-waits : goal.returns-clause-waits
returns-clause-waits g c before after =
    waits_ring g.J.Job.may_answer (asked g.S.Starter before after)

pub returns-clause-client_limits : goal.returns-clause-client_limits
returns-clause-client_limits g c = limits_ring
