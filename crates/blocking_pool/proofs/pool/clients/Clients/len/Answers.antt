use Rattle.std.proofs.Common.{ap, arith}
use Rattle.std.specs.FinMap.{len}
use Rattle.blocking_pool.proofs.ClientLemmas.{len_known}
use Rattle.blocking_pool.proofs.pool.clients.Clients.len.Goals as goal

pub returns : goal.returns
returns c =
    let is = ap (λ v. len v.known) c.self.view_is in
    let long =
    len_known c.self.inside.named.entries c.self.inside.recent.name c.self.inside.recent.state
    c.self.inside.unnamed c.self.invariant.0 c.self.invariant.1 c.self.invariant.2 in
    omega (arith, is, long, c.len.ensures.len)
