use Rattle.std.proofs.Common.{not, ap, subst, sym, refl, ◌∙◌}
use Rattle.blocking_pool.specs.QueueForm.{HaveLinesOf}
use Rattle.blocking_pool.proofs.KeptLemmas.{lined_of, some_of}
use Rattle.blocking_pool.proofs.LineUpLemmas.{lined_owned, holds_counts}
use Rattle.blocking_pool.proofs.pool.queue.Queue.unset_limit.Goals as goal

pub clear_lines-requires-clause-owned : goal.clear_lines-requires-clause-owned
clear_lines-requires-clause-owned c =
    subst (λ spots. HaveLinesOf spots c.self.inside.clients.known c.self.inside.places.places)
    (sym c.deref.ensures.value)
    (lined_owned _ _ _ _ _ _ _ (lined_of _ _ _ _ _ _ _ c.self.invariant
    (some_of c.self.inside.limit (c.is_none.ensures ∙ ap not c.if-is_none.false))))

pub returns-clause-same : goal.returns-clause-same
returns-clause-same c =
    holds_counts _ _ _ _ _ _ _ _ _ c.self.view_is refl c.clear_lines.ensures.same
