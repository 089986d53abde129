use Rattle.std.proofs.Common.{◌-◌}
use Rattle.blocking_pool.specs.Starters.{asked}
use Rattle.blocking_pool.proofs.GrowthLemmas.{IsGrowing}
use Rattle.blocking_pool.proofs.pool.counts.Counts.grow.Given as goal

abbrev pub invariant-starts : goal.invariant-starts
invariant-starts g l =
    IsGrowing (asked g.S.Starter l.fn.starter l.starter) (g.S.Starter.may_answer l.starter) l.ready
    l.fn.self l.self

abbrev pub decreases-starts : goal.decreases-starts
decreases-starts g l = l.limit - l.self.workers
