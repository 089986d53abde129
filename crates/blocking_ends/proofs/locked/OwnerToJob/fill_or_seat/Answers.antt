use Rattle.std.proofs.Common.{subst, sym, rules}
use Rattle.blocking_ends.specs.Rules.{HoldFrom}
use Rattle.blocking_ends.proofs.Kept.{filled_kept}
use Rattle.blocking_ends.proofs.locked.OwnerToJob.fill_or_seat.Goals as goal

pub invariant_of-self : goal.invariant_of-self
invariant_of-self g c =
    filled_kept g.R.PlaceRule.holds g.R.PlaceRule.ended _ _ _ _ _ _ c.in-Took.count
    c.in-Took.field-1 _ _
    c.in-Took.is c.fill_ready_or_seat-answer.ensures.fills (search rules)
    (subst (λ seen. HoldFrom g.R.PlaceRule.holds seen.sent c.args.items.now) (sym c.self.view_is)
    c.requires.held) c.self.invariant
