use Rattle.std.proofs.Common.{length, min, ◌-◌, IsSome, refl, sym, ap, ◌∙◌, subst}
use Rattle.std.specs.FinMap.{len}
use Rattle.blocking_pool.specs.Queue.{ready_in}
use Rattle.blocking_pool.proofs.QueueLemmas.{all_seen, ready_counted}
use Rattle.blocking_pool.proofs.KeptLemmas.{lined_of}
use Rattle.blocking_pool.proofs.pool.queue.Queue.ready_len.Goals as goal

pub returns-in-None : goal.returns-in-None
returns-in-None c =
    c.len.ensures
    ∙ ap length (sym (all_seen c.self.inside.places.places c.self.inside.spots.items
    c.self.inside.clients.known c.self.inside.limit (min c.self.inside.clients.spare
    (c.self.inside.heads.room - len c.self.inside.clients.known)) c.in-None.is))
    ∙ ap (λ v. length (ready_in v)) c.self.view_is

pub returns-in-Some : goal.returns-in-Some
returns-in-Some c =
    ready_counted _ _ _ _
    _ _ _ (lined_of _ _ _ _ _ _ _ c.self.invariant (subst IsSome (sym c.in-Some.is) refl)) (min
    c.self.inside.clients.spare (c.self.inside.heads.room - len c.self.inside.clients.known))
    c.in-Some.field-0 c.in-Some.is
    ∙ ap (λ v. length (ready_in v)) c.self.view_is
