use Rattle.std.proofs.Common.{subst, sym, arith}
use Rattle.blocking_ends.specs.Rules.{HoldFrom}
use Rattle.blocking_ends.proofs.Kept.{fetched_kept, hold_front}
use Rattle.blocking_ends.proofs.locked.JobToOwner.fetch.Goals as goal

pub invariant_of-self-2 : goal.invariant_of-self-2
invariant_of-self-2 g c =
    fetched_kept g.R.PlaceRule.holds g.R.PlaceRule.ended c.self.inside.pipe c.fetch.new.self
    c.in_ok-count.count _ _
    c.in_ok-count.ensures.some.3 (let least = c.in_ok-count.ensures.some.1 in
    omega (arith, least)) c.self.invariant

pub returns-clause-held : goal.returns-clause-held
returns-clause-held g c =
    subst (λ seen. HoldFrom g.R.PlaceRule.holds seen.received c.fetch.new.piece.items)
    c.self.view_is
    (subst (λ all. HoldFrom g.R.PlaceRule.holds c.self.inside.received all)
    (sym c.in_ok-count.ensures.some.2)
    (hold_front g.R.PlaceRule.holds c.self.inside.received c.in_ok-count.count
    c.self.inside.pipe.items c.self.invariant.each))
