use Rattle.std.proofs.Common.{subst}
use Rattle.blocking_ends.specs.Answers.{OnFetched}
use Rattle.blocking_ends.specs.Rules.{HoldFrom}
use Rattle.blocking_ends.proofs.Kept.{fetch_kept, fetch_held}
use Rattle.blocking_ends.proofs.locked.JobToOwner.fetch_or_seat.Goals as goal

pub invariant_of-self : goal.invariant_of-self
invariant_of-self g c =
    fetch_kept g.R.PlaceRule.holds g.R.PlaceRule.ended _ _ _ _ _ _ _ c.in-Got.count _ _
    c.in-Got.is c.fetch_or_seat-answer.ensures.fetches c.self.invariant

pub returns-clause-held : goal.returns-clause-held
returns-clause-held g c =
    subst
    (λ seen. OnFetched c.fetch_or_seat-answer.result.answer
    (HoldFrom g.R.PlaceRule.holds seen.received c.fetch_or_seat-answer.new.piece.items))
    c.self.view_is
    (fetch_held g.R.PlaceRule.holds g.R.PlaceRule.ended _ _ _ _ _ _ _ _ _ c.self.invariant
    c.fetch_or_seat-answer.ensures.fetches)
