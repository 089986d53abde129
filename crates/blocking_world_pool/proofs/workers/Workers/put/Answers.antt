use Rattle.std.proofs.Common.{ap, ◌∙◌}
use Rattle.blocking_world_pool.proofs.Words.{with_hand}
use Rattle.blocking_world_pool.proofs.hands.Loans.{lent_hand}
use Rattle.blocking_world_pool.proofs.workers.Workers.put.Goals as goal

pub returns : goal.returns
returns c = lent_hand c.in-Some.is (c.at.follows.holds c.put.new.self)
    ∙ ap (with_hand c.args.self.now c.args.worker) c.put.ensures
