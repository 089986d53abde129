use Rattle.std.proofs.Common.{is_some}
use Rattle.blocking_world_pool.proofs.Types.{Out}
use Rattle.blocking_world_pool.proofs.hands.Loans.{lent_hand, changed_if}
use Rattle.blocking_world_pool.proofs.workers.Workers.take_waiting.Goals as goal

pub returns-clause-after : goal.returns-clause-after
returns-clause-after c =
    changed_if c.args.self.now c.args.worker (is_some c.take_waiting.result)
    Out c.in_ok-at.ensures.hand
    c.take_waiting.ensures.after
    (lent_hand c.in_ok-at.was (c.at.follows.holds c.take_waiting.new.self))
