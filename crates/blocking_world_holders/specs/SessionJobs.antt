-- The job of a session, of whatever kind.
use Rattle.std.specs.Prelude.{List}
use Rattle.blocking_world_laws.specs.JobTable.{Kind, Reading, Writing, Streaming, JobAction}
use Rattle.blocking_world_laws.specs.JobTable.{Seeking, Operating}
use Rattle.blocking_world_laws.specs.declared.event.Act.{Act}
use Rattle.blocking_world_laws.specs.declared.step.HandleAnswer.{HandleAnswer}
use Rattle.blocking_world_holders.specs.Reads as reads
use Rattle.blocking_world_holders.specs.Reads.{ReadAs}
use Rattle.blocking_world_holders.specs.Items as streams
use Rattle.blocking_world_holders.specs.Items.{ItemAs}
use Rattle.blocking_world_holders.specs.Writes as writes
use Rattle.blocking_world_holders.specs.Writes.{WriteAs}
use Rattle.blocking_world_holders.specs.Seeks as seeks
use Rattle.blocking_world_holders.specs.Seeks.{SeekAs}
use Rattle.blocking_world_holders.specs.Ops as operations
use Rattle.blocking_world_holders.specs.Ops.{OperationAs}
use Rattle.blocking_world_holders.specs.declared.job.SessionJob.{SessionJob}
use Rattle.blocking_world_holders.specs.declared.job.SessionJob.TheVariants.{Read, Write, Items}
use Rattle.blocking_world_holders.specs.declared.job.SessionJob.TheVariants.{Seek, Operate}

-- what kind of job it is
abbrev pub kind_of : SessionJob → Kind
kind_of (Read read) = Reading
kind_of (Write write) = Writing
kind_of (Items items) = Streaming
kind_of (Seek seek) = Seeking seek.goal
kind_of (Operate operation) = Operating

-- a job of this kind that has done nothing yet
abbrev pub new_job : Kind → SessionJob
new_job Writing = Write writes.not_begun
new_job Streaming = Items streams.not_begun
new_job (Seeking goal) = Seek (seeks.not_begun goal)
new_job Operating = Operate operations.not_begun
new_job kind = Read reads.not_begun

-- its next action, in the words of the laws
abbrev pub action_of : SessionJob → JobAction
action_of (Read read) = reads.action_of read
action_of (Write write) = writes.action_of write
action_of (Items items) = streams.action_of items
action_of (Seek seek) = seeks.action_of seek
action_of (Operate operation) = operations.action_of operation

-- the job after its handle answered so
abbrev pub job_after_answer : SessionJob → HandleAnswer → SessionJob
job_after_answer (Read read) answer = Read (reads.progress_after_answer read answer)
job_after_answer (Write write) answer = Write (writes.progress_after_answer write answer)
job_after_answer (Items items) answer = Items (streams.progress_after_answer items answer)
job_after_answer (Seek seek) answer = Seek (seeks.progress_after_answer seek answer)
job_after_answer (Operate operation) answer =
    Operate (operations.progress_after_answer operation answer)

-- A job that didn't give up, by what it has done so far.
abbrev pub JobAs : SessionJob → List Act → Type 0
JobAs (Read read) acts = ReadAs read acts
JobAs (Write write) acts = WriteAs write acts
JobAs (Items items) acts = ItemAs items acts
JobAs (Seek seek) acts = SeekAs seek acts
JobAs (Operate operation) acts = OperationAs operation acts
