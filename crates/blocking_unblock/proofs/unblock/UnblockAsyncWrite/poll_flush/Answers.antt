use Rattle.blocking_core.specs.declared.unblock.PollCall.TheVariants.{Flush}
use Rattle.blocking_unblock.proofs.Replies.{follows_as}
use Rattle.blocking_unblock.proofs.unblock.UnblockAsyncWrite.poll_flush.Goals as goal

pub returns-in-Ready-Failed-clause-follows : goal.returns-in-Ready-Failed-clause-follows
returns-in-Ready-Failed-clause-follows g c =
    follows_as c.in-Ready-Failed.field-0-is Flush c.args.self.now.place c.poll.new.self.place
    c.in-Ready-Failed.ensures.follows
