use Rattle.std.proofs.Common.{subst, sym, rules, take}
use Rattle.blocking_ends.specs.Rules.{HoldFrom}
use Rattle.blocking_ends.proofs.Kept.{put_kept}
use Rattle.blocking_ends.proofs.locked.JobToOwner.put_piece.Goals as goal

pub invariant_of-self : goal.invariant_of-self
invariant_of-self g c =
    put_kept g.R.PlaceRule.holds g.R.PlaceRule.ended _ _ _ _ c.in-In.waker _ _ _ c.in-In.is
    c.put_piece.ensures.puts (search rules) (search rules)
    (subst (λ seen. HoldFrom g.R.PlaceRule.holds seen.sent
    (take c.args.count c.args.piece.now.items)) (sym c.self.view_is) c.requires.held)
    c.self.invariant
