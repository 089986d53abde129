use Rattle.blocking_ends.proofs.Kept.{lent_kept}
use Rattle.blocking_ends.proofs.locked.OwnerToJob.lend_or_seat.Goals as goal

pub invariant_of-self : goal.invariant_of-self
invariant_of-self g c =
    lent_kept g.R.PlaceRule.holds g.R.PlaceRule.ended c.self.inside.pipe c.lend_or_seat.new.self _ _
    _ _ _ _ c.lend_or_seat.ensures.lends c.self.invariant
