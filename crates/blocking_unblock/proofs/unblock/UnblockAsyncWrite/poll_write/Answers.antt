use Rattle.std.proofs.Common.{length}
use Rattle.blocking_core.specs.declared.unblock.PollCall.TheVariants.{Write}
use Rattle.blocking_unblock.proofs.Replies.{crossed_as, fits_as, follows_as}
use Rattle.blocking_unblock.proofs.unblock.UnblockAsyncWrite.poll_write.Goals as goal

pub returns-in-Ready-Count-clause-follows : goal.returns-in-Ready-Count-clause-follows
returns-in-Ready-Count-clause-follows g c =
    follows_as c.in-Ready-Count.field-0-is (Write (length c.args.bytes.now)) c.args.self.now.place
    c.poll.new.self.place c.in-Ready-Count.ensures.follows

pub returns-in-Ready-Count-clause-count : goal.returns-in-Ready-Count-clause-count
returns-in-Ready-Count-clause-count g c = fits_as c.in-Ready-Count.field-0-is
    (Write (length c.args.bytes.now)) _ _ _ c.in-Ready-Count.ensures.fits

pub returns-in-Ready-Count-clause-crossed : goal.returns-in-Ready-Count-clause-crossed
returns-in-Ready-Count-clause-crossed g c =
    crossed_as c.in-Ready-Count.field-0-is _ _ c.in-Ready-Count.ensures.crosses
