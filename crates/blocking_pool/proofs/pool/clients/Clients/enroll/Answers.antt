use Rattle.std.proofs.Common.{◌<◌, ◌∷◌, subst, refl, arith}
use Rattle.blocking_pool.specs.Growth.{greatest}
use Rattle.blocking_pool.specs.ClientTable.{with_job}
use Rattle.blocking_pool.specs.declared.pool.clients.Client.{Client}
use Rattle.blocking_pool.proofs.ClientLemmas.{unnamed_is, unnamed_set}
use Rattle.blocking_pool.proofs.pool.clients.Clients.enroll.Goals as goal

pub overflow_add-self : goal.overflow_add-self
overflow_add-self c =
    let left = subst (λ (k : Client). k.jobs < greatest) (unnamed_is c.args.self.now
    ((c.self.inside.recent.name, c.self.inside.recent.state) ∷ c.self.inside.named.entries)
    c.self.inside.unnamed _ c.args.client c.self.view_is c.if-client-eq0.true)
    c.requires.left in
    omega (arith, left)

pub returns-then-client-eq0 : goal.returns-then-client-eq0
returns-then-client-eq0 c = unnamed_set c.args.self.now
    ((c.self.inside.recent.name, c.self.inside.recent.state) ∷ c.self.inside.named.entries)
    c.self.inside.unnamed _ c.args.client c.self.view_is c.if-client-eq0.true _ with_job refl
