use Rattle.std.proofs.Common.{ap}
use Rattle.blocking_pool.proofs.ClientLemmas.{names_are}
use Rattle.blocking_pool.proofs.pool.clients.Clients.named.Goals as goal

pub returns : goal.returns
returns c =
    names_are c.args.self.now.known c.self.inside.named.entries c.self.inside.recent.name
    c.self.inside.recent.state c.self.inside.unnamed (ap (λ v. v.known) c.self.view_is)
    c.self.invariant.2 c.self.invariant.0 c.self.invariant.1
