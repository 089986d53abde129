use Rattle.blk_play.proofs.owner.awaited.Given as goal

abbrev pub invariant-loop : goal.invariant-loop
invariant-loop g l = g.F.Future.can_poll l.future
