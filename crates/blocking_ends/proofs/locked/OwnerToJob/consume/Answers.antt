use Rattle.std.proofs.Common.{subst, sym, ◌≤◌, ◌+◌, length}
use Rattle.blocking_ends.proofs.Kept.{consumed_kept}
use Rattle.blocking_ends.proofs.locked.OwnerToJob.consume.Goals as goal

pub invariant_of-self : goal.invariant_of-self
invariant_of-self g c =
    consumed_kept g.R.PlaceRule.holds g.R.PlaceRule.ended c.self.inside.pipe c.let_go-waker.new.self
    c.args.count _ _ c.let_go-waker.ensures.pipe
    (subst (λ seen. c.args.count ≤ seen.pipe.lent + length seen.pipe.items) (sym c.self.view_is)
    c.requires) c.self.invariant
