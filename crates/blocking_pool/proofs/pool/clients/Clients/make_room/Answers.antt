use Rattle.std.proofs.Common.{◌∷◌, cond, eqb, Some, ap, ◌∙◌}
use Rattle.blocking_pool.proofs.ClientLemmas.{same_named}
use Rattle.blocking_pool.proofs.pool.clients.Clients.make_room.Goals as goal

pub returns-clause-known : goal.returns-clause-known
returns-clause-known c =
    same_named ((c.self.inside.recent.name, c.self.inside.recent.state)
    ∷ c.self.inside.named.entries) ((c.self.inside.recent.name, c.self.inside.recent.state)
    ∷ c.reserve.new.self.entries) c.self.inside.unnamed
    (λ q. ap (cond (eqb q c.self.inside.recent.name) (Some c.self.inside.recent.state))
    (c.reserve.ensures.entries.2 q)) ∙ ap (λ v. v.known) c.self.view_is
