use Rattle.std.proofs.Common.{◌<◌, ◌∷◌, subst, refl, arith}
use Rattle.blocking_pool.specs.ClientTable.{without_running}
use Rattle.blocking_pool.specs.declared.pool.clients.Client.{Client}
use Rattle.blocking_pool.proofs.ClientLemmas.{unnamed_is, unnamed_set}
use Rattle.blocking_pool.proofs.pool.clients.Clients.stop.Goals as goal

pub overflow_sub-self : goal.overflow_sub-self
overflow_sub-self c =
    let some = subst (λ (k : Client). 0 < k.running) (unnamed_is c.args.self.now
    ((c.self.inside.recent.name, c.self.inside.recent.state) ∷ c.self.inside.named.entries)
    c.self.inside.unnamed _ c.args.client c.self.view_is c.if-client-eq0.true) c.requires in
    omega (arith, some)

pub returns-then-client-eq0 : goal.returns-then-client-eq0
returns-then-client-eq0 c = unnamed_set c.args.self.now
    ((c.self.inside.recent.name, c.self.inside.recent.state) ∷ c.self.inside.named.entries)
    c.self.inside.unnamed _ c.args.client c.self.view_is c.if-client-eq0.true _ without_running refl
