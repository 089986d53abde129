use Rattle.std.proofs.Common.{ap}
use Rattle.blocking_pool.proofs.OwnerLemmas.{none_kept}
use Rattle.blocking_pool.proofs.pool.table.Table.new.Goals as goal

pub invariant_of-result : goal.invariant_of-result
invariant_of-result g c = none_kept c.new.result c.new-2.result c.new-3.result c.new.ensures.empty
    c.new-2.ensures.places (ap (λ row. row.places) c.new-3.ensures)
