use Rattle.blocking_core.specs.declared.unblock.PollCall.TheVariants.{Close}
use Rattle.blocking_core.specs.declared.unblock.State.TheVariants.{Idle}
use Rattle.blocking_unblock.specs.Owners.{IsAt}
use Rattle.blocking_unblock.proofs.Replies.{fits_as, follows_as}
use Rattle.blocking_unblock.proofs.unblock.UnblockAsyncWrite.poll_close.Goals as goal

pub returns-in-Ready-Failed-clause-follows : goal.returns-in-Ready-Failed-clause-follows
returns-in-Ready-Failed-clause-follows g c =
    follows_as c.in-Ready-Failed.field-0-is Close c.args.self.now.place c.poll.new.self.place
    c.in-Ready-Failed.ensures.follows

pub returns-in-Ready-Failed-clause-fault : goal.returns-in-Ready-Failed-clause-fault
returns-in-Ready-Failed-clause-fault g c =
    fits_as c.in-Ready-Failed.field-0-is Close _ _ _ c.in-Ready-Failed.ensures.fits

-- a handle that is back with its owner isn't closed
pub returns-in-Ready-Failed-clause-open : goal.returns-in-Ready-Failed-clause-open
returns-in-Ready-Failed-clause-open g c before closed =
    let back : IsAt Idle c.poll.new.self.place =
    fits_as c.in-Ready-Failed.field-0-is Close _ _ _ c.in-Ready-Failed.ensures.fits in
    cc
