use Rattle.std.proofs.Common.{subst}
use Rattle.blocking_ends.specs.Answers.{IfReceived}
use Rattle.blocking_ends.proofs.Kept.{received_kept, received_held}
use Rattle.blocking_ends.proofs.locked.JobToOwner.receive_or_seat.Goals as goal

pub invariant_of-self : goal.invariant_of-self
invariant_of-self g c =
    received_kept g.R.PlaceRule.holds g.R.PlaceRule.ended _ _ _ _ _ c.in-Got.field-0
    c.in-Got.field-1 _ _
    c.in-Got.is c.receive_or_seat-answer.ensures c.self.invariant

pub returns-clause-held : goal.returns-clause-held
returns-clause-held g c =
    subst (λ seen. IfReceived c.receive_or_seat-answer.result.answer
    (g.R.PlaceRule.holds seen.received)) c.self.view_is
    (received_held g.R.PlaceRule.holds g.R.PlaceRule.ended _ _ _ _ _ _ _ c.self.invariant
    c.receive_or_seat-answer.ensures)
