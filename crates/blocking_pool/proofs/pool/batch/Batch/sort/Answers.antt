use Rattle.std.proofs.Common.{rules}
use Rattle.std.proofs.lemmas.List.Sorted.{IsNonDecreasingBy-from_sort_by_key}
use Rattle.blocking_pool.proofs.pool.batch.Batch.sort.Goals as goal

pub returns-clause-sorted : goal.returns-clause-sorted
returns-clause-sorted c =
    IsNonDecreasingBy-from_sort_by_key (λ no. no.serial) _ c.sort_unstable_by_key.ensures.sorted
    (λ a r f is. search rules)
