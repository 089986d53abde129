use Rattle.std.proofs.Common.{◌+◌, length, ap, ◌∙◌}
use Rattle.blocking_pool.proofs.ReadyLemmas.{all_ready, ready_unstaffed, ready_with_one}
use Rattle.blocking_pool.proofs.pool.ready.all_ready.Goals as goal

pub returns-clause-unlimited : goal.returns-clause-unlimited
returns-clause-unlimited g c = all_ready

pub returns-clause-unstaffed : goal.returns-clause-unstaffed
returns-clause-unstaffed g c = ready_unstaffed

pub returns-clause-new_unstaffed : goal.returns-clause-new_unstaffed
returns-clause-new_unstaffed g c pool client sound nobody = ready_with_one pool client sound nobody
    ∙ ap (λ queue. length queue + 1) (ready_unstaffed pool sound nobody)
