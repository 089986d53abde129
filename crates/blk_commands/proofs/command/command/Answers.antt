-- What `run` says, without the outcome of the write.
use Rattle.blk_commands.proofs.command.command.Goals as goal

pub returns-clause-done : goal.returns-clause-done
returns-clause-done g c other = (c.run-status.ensures.done other).0

pub returns-clause-failed : goal.returns-clause-failed
returns-clause-failed g c one = (c.run-status.ensures.failed one).0
