use Rattle.blocking_pool.proofs.ParkLemmas.{limited}
use Rattle.blocking_pool.proofs.pool.table.Table.set_client_limit.Goals as goal

pub invariant_of-self : goal.invariant_of-self
invariant_of-self g c =
    (limited c.self.inside.entries c.self.inside.queue c.set_limit.new.self c.self.inside.parked
    c.args.self.now c.self.invariant c.self.view_is c.set_limit.ensures.same).0

pub returns-clause-same : goal.returns-clause-same
returns-clause-same g c =
    (limited c.self.inside.entries c.self.inside.queue c.set_limit.new.self c.self.inside.parked
    c.args.self.now c.self.invariant c.self.view_is c.set_limit.ensures.same).1
