use Rattle.std.proofs.Common.{◌∷◌, sym, ap, ◌∙◌}
use Rattle.std.specs.Option.{unwrap_or}
use Rattle.blocking_pool.specs.ClientTable.{no_client}
use Rattle.blocking_pool.proofs.ClientLemmas.{got_zero, got_last, got_other}
use Rattle.blocking_pool.proofs.pool.clients.Clients.get.Goals as goal

pub returns-then-client-eq0 : goal.returns-then-client-eq0
returns-then-client-eq0 c =
    ap (λ o. unwrap_or o no_client)
    (sym (got_zero c.args.self.now.known ((c.self.inside.recent.name, c.self.inside.recent.state)
    ∷ c.self.inside.named.entries) c.self.inside.unnamed
    (ap (λ v. v.known) c.self.view_is) c.args.client c.if-client-eq0.true))

pub returns-then-client-self : goal.returns-then-client-self
returns-then-client-self c =
    ap (λ o. unwrap_or o no_client)
    (sym (got_last c.args.self.now c.self.inside.named.entries c.self.inside.recent.name
    c.self.inside.recent.state c.self.inside.unnamed _ c.self.view_is c.args.client
    c.if-client-eq0.false c.if-client-self.true))

pub returns-in-Some : goal.returns-in-Some
returns-in-Some c =
    ap (λ o. unwrap_or o no_client)
    (c.in-Some.ensures.value ∙ sym (got_other c.args.self.now c.self.inside.named.entries
    c.self.inside.recent.name c.self.inside.recent.state c.self.inside.unnamed _
    c.self.view_is c.args.client c.if-client-eq0.false c.if-client-self.false))

pub returns-in-None : goal.returns-in-None
returns-in-None c =
    ap (λ o. unwrap_or o no_client)
    (c.in-None.ensures.value ∙ sym (got_other c.args.self.now c.self.inside.named.entries
    c.self.inside.recent.name c.self.inside.recent.state c.self.inside.unnamed _
    c.self.view_is c.args.client c.if-client-eq0.false c.if-client-self.false))
