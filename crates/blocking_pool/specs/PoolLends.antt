-- What a pool ends as, where a `&mut` to the value of a job is returned.
use Rattle.std.specs.Prelude.{◌≡◌, Option, OnSome}
use Rattle.std.specs.Borrow.{LendsSo, Fml, RattleType, MutBor}
use Rattle.blocking_pool.specs.declared.pool.job.Job.{Ghosts}
use Rattle.blocking_pool.specs.Jobs.{JobNumber, entry_with}
use Rattle.blocking_pool.specs.Pools.{Pool, with_job}
use Rattle.blocking_pool.specs.contracts.pool.Pool.{the_row}

-- the job ends with the value that is left there, and all else is as before; where there is none,
-- so is the pool
abbrev pub lends_job : (J : RattleType) → Ghosts J.Denot → MutBor (Pool J.Denot) → JobNumber
    → Option (MutBor J.Denot) → Fml
lends_job J job pool number value =
    LendsSo (the_row J job) J pool value
    (λ last left. OnSome value (last ≡ with_job pool.now number.serial (entry_with left)))
    (λ last. last ≡ pool.now)
