-- What the tests of a standing tell.
use Rattle.std.proofs.Common.{◌≡◌, true, Option, Some, None, option_map, refl}
use Rattle.std.proofs.lemmas.Bool.{false≢true}
use Rattle.blocking_pool.specs.Jobs.{Job, is_queued, is_running, is_parked, is_running_job}
use Rattle.blocking_pool.specs.Jobs.{is_parked_job}
use Rattle.blocking_pool.specs.declared.pool.standing.Standing.{Standing}
use Rattle.blocking_pool.specs.declared.pool.standing.Standing.TheVariants.{Queued, Running, Parked}

-- what the test finds queued is queued
pub queued_is : (s : Standing) → is_queued s ≡ true → s ≡ Queued
queued_is Queued is = refl
queued_is _ is = absurd cc

-- what the test finds running is running
pub running_is : (s : Standing) → is_running s ≡ true → s ≡ Running
running_is Running is = refl
running_is _ is = absurd cc

-- what the test finds parked is parked
pub parked_is : (s : Standing) → is_parked s ≡ true → s ≡ Parked
parked_is Parked is = refl
parked_is _ is = absurd cc

module _ {J : Type 0} where
  -- a job that stands somewhere is there
  pub standing_job : (found : Option (Job J)) (standing : Standing)
      → option_map (λ job. job.standing) found ≡ Some standing
      → (job : Job J) × (found ≡ Some job) × (job.standing ≡ standing)
  standing_job None standing is = absurd (let e : None ≡ Some standing = is in cc)
  standing_job (Some job) standing is =
      (job, refl, let e : Some job.standing ≡ Some standing = is in cc)

  -- and so is one that runs
  pub running_job : (found : Option (Job J)) → is_running_job found ≡ true
      → (job : Job J) × (found ≡ Some job) × (job.standing ≡ Running)
  running_job None is = absurd (false≢true is)
  running_job (Some job) is = (job, refl, running_is job.standing is)

  -- and one that is parked
  pub parked_job : (found : Option (Job J)) → is_parked_job found ≡ true
      → (job : Job J) × (found ≡ Some job) × (job.standing ≡ Parked)
  parked_job None is = absurd (false≢true is)
  parked_job (Some job) is = (job, refl, parked_is job.standing is)
