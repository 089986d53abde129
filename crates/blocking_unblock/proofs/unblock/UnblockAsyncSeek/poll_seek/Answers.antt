use Rattle.std.proofs.Common.{subst}
use Rattle.blocking_core.specs.declared.unblock.PollCall.TheVariants.{Seek}
use Rattle.blocking_core.specs.declared.unblock.Reply.TheVariants.{Position}
use Rattle.futures.specs.declared.task.Poll.TheVariants.{Ready}
use Rattle.blocking_unblock.specs.Owners.{Follows}
use Rattle.blocking_unblock.proofs.Replies.{follows_as}
use Rattle.blocking_unblock.proofs.unblock.UnblockAsyncSeek.poll_seek.Goals as goal

pub returns-in-Ready-Position-clause-follows : goal.returns-in-Ready-Position-clause-follows
returns-in-Ready-Position-clause-follows g c =
    let follows = follows_as c.in-Ready-Position.field-0-is (Seek c.position_of-to.result)
    c.args.self.now.place c.poll.new.self.place c.in-Ready-Position.ensures.follows in
    subst
    (λ to. Follows (Seek to) c.args.self.now.place (Ready (Position c.in-Ready-Position.place))
    c.poll.new.self.place)
    c.position_of-to.ensures
    follows
