-- What a step of a job of files does: what the job in it says. Of a file of the system and of a
-- directory std doesn't say what they hold.
use Rattle.std.specs.Prelude.{◌≡◌, None, ⊤}
use Rattle.blocking_pool.specs.declared.pool.job.JobStep.{JobStep}
use Rattle.blocking_executor.specs.Calls.{IsAnswered, told_by}
use Rattle.blocking_unblock_jobs.specs.ReadJobs.{IsStepped as IsReadStep}
use Rattle.blocking_unblock_jobs.specs.WriteJobs.{IsStepped as IsWriteStep}
use Rattle.blocking_unblock_jobs.specs.ItemJobs.{IsStepped as IsItemStep}
use Rattle.blocking_unblock_jobs.specs.SeekJobs.{IsStepped as IsSeekStep}
use Rattle.blocking_files.specs.declared.job.FileJob.{FileJob}
use Rattle.blocking_files.specs.declared.job.FileJob.TheVariants.{Open, OpenBoth, Bytes, Text}
use Rattle.blocking_files.specs.declared.job.FileJob.TheVariants.{Change, Look, List, Read, Write}
use Rattle.blocking_files.specs.declared.job.FileJob.TheVariants.{Seek, Entry}

abbrev pub StepsAs : {H : Type 0} → FileJob H → FileJob H → JobStep → Type 0
StepsAs (Open old) (Open new) told = IsAnswered old.next new.next × (told ≡ told_by new.next)
StepsAs (OpenBoth old) (OpenBoth new) told =
    IsAnswered old.next new.next × (told ≡ told_by new.next)
StepsAs (Bytes old) (Bytes new) told = IsAnswered old.next new.next × (told ≡ told_by new.next)
StepsAs (Text old) (Text new) told = IsAnswered old.next new.next × (told ≡ told_by new.next)
StepsAs (Change old) (Change new) told = IsAnswered old.next new.next × (told ≡ told_by new.next)
StepsAs (Look old) (Look new) told = IsAnswered old.next new.next × (told ≡ told_by new.next)
StepsAs (List old) (List new) told = IsAnswered old.next new.next × (told ≡ told_by new.next)
StepsAs (Read old) (Read new) told = IsReadStep (λ _. None) old new told
StepsAs (Write old) (Write new) told = IsWriteStep (λ _. None) old new told
StepsAs (Seek old) (Seek new) told = IsSeekStep (λ _. None) (λ _. None) old new told
StepsAs (Entry old) (Entry new) told = IsItemStep (λ _ _ _. ⊤) old new told
StepsAs old new told = ⊥
