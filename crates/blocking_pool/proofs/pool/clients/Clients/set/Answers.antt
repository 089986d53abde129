use Rattle.std.proofs.Common.{◌∷◌, refl, sym, ap, ◌∙◌}
use Rattle.std.specs.FinMap.{insert}
use Rattle.blocking_pool.proofs.ClientLemmas.{set_unnamed, set_last}
use Rattle.blocking_pool.proofs.pool.clients.Clients.set.Goals as goal

pub returns-then-client-eq0 : goal.returns-then-client-eq0
returns-then-client-eq0 c =
    set_unnamed ((c.self.inside.recent.name, c.self.inside.recent.state)
    ∷ c.self.inside.named.entries) c.self.inside.unnamed c.args.state
    ∙ ap (λ v. insert v.known 0 c.args.state) c.self.view_is
    ∙ ap (λ k. insert c.args.self.now.known k c.args.state) (sym c.if-client-eq0.true)

pub returns-then-client-self : goal.returns-then-client-self
returns-then-client-self c =
    set_last c.self.inside.named.entries c.self.inside.named.entries c.self.inside.unnamed
    c.args.state c.self.inside.recent.state c.args.client c.self.inside.recent.name
    c.if-client-eq0.false c.if-client-self.true refl
    ∙ ap (λ v. insert v.known c.args.client c.args.state) c.self.view_is
