use Rattle.std.proofs.Common.{sym}
use Rattle.blocking_pool.proofs.RingLemmas.{length-walk}
use Rattle.blocking_pool.proofs.pool.chain.Chain.len.Goals as goal

pub returns : goal.returns
returns c = rw (← c.self.view_is) (sym (length-walk c.self.inside.links.items c.self.inside.len 0))
