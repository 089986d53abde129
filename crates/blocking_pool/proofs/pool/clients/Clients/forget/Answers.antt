use Rattle.blocking_pool.proofs.ClientLemmas.{forgets_last, forgets_other}
use Rattle.blocking_pool.proofs.pool.clients.Clients.forget.Goals as goal

pub returns-then-client-self : goal.returns-then-client-self
returns-then-client-self c =
    forgets_other c.args.self.now c.self.inside.named.entries c.remove.new.self.entries
    c.self.inside.recent.name c.self.inside.recent.state c.self.inside.unnamed _ c.args.client _
    c.self.view_is c.requires
    c.self.invariant.0 c.self.invariant.1 c.self.invariant.2 c.remove.ensures.unique
    (c.remove.ensures.updates.0) c.remove.ensures.len c.if-client-self.true _

pub returns : goal.returns
returns c =
    forgets_last c.args.self.now c.self.inside.named.entries c.remove.new.self.entries
    c.self.inside.recent.name c.self.inside.recent.state c.self.inside.unnamed _ c.args.client _
    c.self.view_is c.requires
    c.self.invariant.0 c.self.invariant.1 c.self.invariant.2 c.remove.ensures.unique
    (c.remove.ensures.updates.0) c.remove.ensures.len c.if-client-self.false _ _
