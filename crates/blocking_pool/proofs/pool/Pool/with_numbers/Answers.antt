use Rattle.blocking_pool.proofs.PoolLemmas.{empty_whole}
use Rattle.blocking_pool.proofs.pool.Pool.with_numbers.Goals as goal

pub invariant_of-result : goal.invariant_of-result
invariant_of-result g c =
    empty_whole c.new.result c.max_threads.result c.args.serial c.args.worker c.new-2.result.room
    c.new-3.result
    c.new.ensures.queue c.new.ensures.jobs c.new.ensures.tallies c.new.ensures.limit
    c.new.ensures.room c.new-3.ensures
