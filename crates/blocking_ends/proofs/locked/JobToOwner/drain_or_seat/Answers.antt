use Rattle.std.proofs.Common.{subst, take}
use Rattle.blocking_ends.specs.Answers.{got_by_drain}
use Rattle.blocking_ends.specs.Rules.{HoldFrom}
use Rattle.blocking_ends.proofs.Kept.{drained_kept, drained_held}
use Rattle.blocking_ends.proofs.locked.JobToOwner.drain_or_seat.Goals as goal

pub invariant_of-self : goal.invariant_of-self
invariant_of-self g c =
    drained_kept g.R.PlaceRule.holds g.R.PlaceRule.ended _ _ _ _ _ _ _ c.in-Got.count
    c.in-Got.field-1 _ _
    c.in-Got.is c.drain_or_seat-answer.ensures c.self.invariant

pub returns-clause-held : goal.returns-clause-held
returns-clause-held g c =
    subst
    (λ seen. HoldFrom g.R.PlaceRule.holds seen.received
    (take (got_by_drain c.drain_or_seat-answer.result.answer) c.drain_or_seat-answer.new.out))
    c.self.view_is
    (drained_held g.R.PlaceRule.holds g.R.PlaceRule.ended _ _ _ _ _ _ _ _ _ c.self.invariant
    c.drain_or_seat-answer.ensures)
