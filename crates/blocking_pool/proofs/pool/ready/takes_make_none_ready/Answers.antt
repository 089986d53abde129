use Rattle.blocking_pool.specs.Starters.{asked}
use Rattle.blocking_pool.proofs.RingLaws.{takes_none}
use Rattle.blocking_pool.proofs.pool.ready.takes_make_none_ready.Goals as goal

pub returns : goal.returns
returns g c before after = takes_none g.J.Job.may_answer (asked g.S.Starter before after)
