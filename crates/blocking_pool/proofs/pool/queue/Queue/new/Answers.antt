use Rattle.std.proofs.Common.{ap, ◌∙◌}
use Rattle.blocking_pool.specs.QueueForm.{tally_of}
use Rattle.blocking_pool.proofs.ClientLemmas.{tally_is}
use Rattle.blocking_pool.proofs.pool.queue.Queue.new.Goals as goal

pub returns-clause-tallies : goal.returns-clause-tallies
returns-clause-tallies c client =
    tally_is c.new-3.result.known client ∙ ap tally_of (c.new-3.ensures client)
