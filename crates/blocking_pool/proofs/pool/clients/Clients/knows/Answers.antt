use Rattle.std.proofs.Common.{◌∷◌, is_some, sym, ap, ◌∙◌}
use Rattle.std.proofs.lemmas.Bool.{eq-eqb}
use Rattle.blocking_pool.proofs.ClientLemmas.{got_zero, last_known, got_other}
use Rattle.blocking_pool.proofs.pool.clients.Clients.knows.Goals as goal

pub returns-then-client-self : goal.returns-then-client-self
returns-then-client-self c =
    sym (last_known c.args.self.now c.self.inside.named.entries c.self.inside.recent.name
    c.self.inside.recent.state c.self.inside.unnamed _ c.args.client c.self.view_is
    c.if-client-self.true)

pub returns-then-client-eq0 : goal.returns-then-client-eq0
returns-then-client-eq0 c =
    eq-eqb c.args.client 0 c.if-client-eq0.true
    ∙ ap is_some (sym (got_zero c.args.self.now.known ((
      c.self.inside.recent.name,
      c.self.inside.recent.state,
    ) ∷ c.self.inside.named.entries) c.self.inside.unnamed
    (ap (λ v. v.known) c.self.view_is) c.args.client c.if-client-eq0.true))

pub returns-else-client-eq0 : goal.returns-else-client-eq0
returns-else-client-eq0 c =
    c.contains_key.ensures
    ∙ ap is_some (sym (got_other c.args.self.now c.self.inside.named.entries
    c.self.inside.recent.name c.self.inside.recent.state c.self.inside.unnamed _
    c.self.view_is c.args.client c.if-client-eq0.false c.if-client-self.false))
