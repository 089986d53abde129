use Rattle.std.proofs.Common.{subst, sym, rules}
use Rattle.blocking_ends.specs.Rules.{HoldFrom}
use Rattle.blocking_ends.proofs.Kept.{put_kept}
use Rattle.blocking_ends.proofs.locked.JobToOwner.put.Goals as goal

pub invariant_of-self : goal.invariant_of-self
invariant_of-self g c =
    put_kept g.R.PlaceRule.holds g.R.PlaceRule.ended _ _ _ _ c.in-In.waker _ _ _ c.in-In.is
    c.put.ensures (search rules) (search rules)
    (subst (λ seen. HoldFrom g.R.PlaceRule.holds seen.sent c.args.items.now) (sym c.self.view_is)
    c.requires.held) c.self.invariant
