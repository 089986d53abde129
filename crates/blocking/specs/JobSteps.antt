-- What a step of a job of any kind does: what the job itself says of it.
use Rattle.std.specs.Prelude.{◌≡◌, ℕ, List, Option, None}
use Rattle.blocking_pool.specs.declared.pool.job.JobStep.{JobStep}
use Rattle.blocking_executor.specs.Calls.{IsAnswered, told_by}
use Rattle.blocking_unblock_jobs.specs.ReadJobs.{IsStepped as IsReadStep}
use Rattle.blocking_unblock_jobs.specs.WriteJobs.{IsStepped as IsWriteStep}
use Rattle.blocking_unblock_jobs.specs.ItemJobs.{IsStepped as IsItemStep}
use Rattle.blocking_unblock_jobs.specs.OpJobs.{IsStepped as IsOpStep}
use Rattle.blocking_unblock_jobs.specs.SeekJobs.{IsStepped as IsSeekStep}
use Rattle.blocking.specs.declared.copy_jobs.CopyJobs.{CopyJobs}
use Rattle.blocking.specs.declared.copy_jobs.CopyJobs.TheVariants as copy
use Rattle.blocking.specs.declared.file_jobs.CallFileJobs.{CallFileJobs}
use Rattle.blocking.specs.declared.file_jobs.CallFileJobs.TheVariants as call_file
use Rattle.blocking.specs.declared.file_jobs.FileJobs.{FileJobs}
use Rattle.blocking.specs.declared.file_jobs.FileJobs.TheVariants as file
use Rattle.blocking.specs.declared.jobs.Jobs.{Jobs}
use Rattle.blocking.specs.declared.jobs.Jobs.TheVariants.{Call, Read, Write, Item, Seek, Op}

module _ {H F R W D S O T FOut I OOut : Type 0} (remaining : R → Option (List ℕ))
    (contents : W → Option (List ℕ)) (gives : D → Option I → D → Type 0)
    (position : S → Option ℕ) (bytes : S → Option (List ℕ)) (may_give : OOut → Type 0) where
  abbrev pub StepsAs : Jobs H F R W D S O T FOut I OOut → Jobs H F R W D S O T FOut I OOut → JobStep
      → Type 0
  StepsAs (Call old) (Call new) told = IsAnswered old.next new.next × (told ≡ told_by new.next)
  StepsAs (Read old) (Read new) told = IsReadStep remaining old new told
  StepsAs (Write old) (Write new) told = IsWriteStep contents old new told
  StepsAs (Item old) (Item new) told = IsItemStep gives old new told
  StepsAs (Seek old) (Seek new) told = IsSeekStep position bytes old new told
  StepsAs (Op old) (Op new) told = IsOpStep may_give old new told
  StepsAs old new told = ⊥

module _ {H R W : Type 0} (remaining : R → Option (List ℕ)) (contents : W → Option (List ℕ)) where
  abbrev pub CopyStepsAs : CopyJobs H R W → CopyJobs H R W → JobStep → Type 0
  CopyStepsAs (copy.Read old) (copy.Read new) told = IsReadStep remaining old new told
  CopyStepsAs (copy.Write old) (copy.Write new) told = IsWriteStep contents old new told
  CopyStepsAs old new told = ⊥

-- (of a file of the system std doesn't say what it holds)
abbrev pub FileStepsAs : {H : Type 0} → FileJobs H → FileJobs H → JobStep → Type 0
FileStepsAs (file.Read old) (file.Read new) told = IsReadStep (λ _. None) old new told
FileStepsAs (file.Write old) (file.Write new) told = IsWriteStep (λ _. None) old new told
FileStepsAs (file.Seek old) (file.Seek new) told =
    IsSeekStep (λ _. None) (λ _. None) old new told
FileStepsAs old new told = ⊥

abbrev pub CallFileStepsAs : {H F FOut : Type 0} → CallFileJobs H F FOut → CallFileJobs H F FOut
    → JobStep → Type 0
CallFileStepsAs (call_file.Call old) (call_file.Call new) told =
    IsAnswered old.next new.next × (told ≡ told_by new.next)
CallFileStepsAs (call_file.Read old) (call_file.Read new) told =
    IsReadStep (λ _. None) old new told
CallFileStepsAs (call_file.Write old) (call_file.Write new) told =
    IsWriteStep (λ _. None) old new told
CallFileStepsAs (call_file.Seek old) (call_file.Seek new) told =
    IsSeekStep (λ _. None) (λ _. None) old new told
CallFileStepsAs old new told = ⊥
