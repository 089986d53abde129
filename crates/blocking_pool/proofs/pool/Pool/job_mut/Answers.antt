use Rattle.std.proofs.Common.{refl, ap, ◌∙◌}
use Rattle.blocking_pool.specs.Clients.{tally_at}
use Rattle.blocking_pool.specs.Jobs.{job_of, value_at}
use Rattle.blocking_pool.proofs.PoolLemmas.{same_whole, lent_whole, lent_pool, pool_as}
use Rattle.blocking_pool.proofs.pool.Pool.job_mut.Goals as goal

pub invariant_of-self-lent : goal.invariant_of-self-lent
invariant_of-self-lent g c = λ _. (
  λ w. lent_whole c.value_mut.result c.self.inside.table (c.value_mut.follows.lender w)
      c.self.inside.counts c.self.inside.next_serial c.self.inside.due.room c.args.no.serial w
      c.self.invariant (c.value_mut.follows.holds w),
  same_whole c.self.inside.table c.value_mut.follows.lender-at-none
      c.self.inside.counts c.self.inside.next_serial c.self.inside.due.room c.self.invariant
      c.value_mut.follows.holds-at-none,
)

pub returns : goal.returns
returns g c = (
  (
    refl,
    λ w. lent_pool c.value_mut.result c.self.inside.table (c.value_mut.follows.lender w)
        c.self.inside.counts c.self.inside.next_serial c.args.no.serial w c.args.self.now
        c.self.view_is (c.value_mut.follows.holds w),
    pool_as c.self.inside.table c.value_mut.follows.lender-at-none c.self.inside.table.queue
        c.self.inside.table.jobs (tally_at c.self.inside.table.tallies) c.self.inside.counts
        c.self.inside.counts c.self.inside.next_serial c.value_mut.follows.holds-at-none refl
        ∙ c.self.view_is,
  ),
  record {
    lends = tt;
    value = c.value_mut.ensures.value
        ∙ ap (λ pool. value_at (job_of pool.jobs c.args.no)) c.self.view_is;
  },
)
