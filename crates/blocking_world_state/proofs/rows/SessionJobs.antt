-- The job of a session, of whatever kind: what it does next, and how far it is once it was
-- answered.
use Rattle.std.proofs.Common.{◌≡◌, List, ◌∷◌, true, arith}
use Rattle.blocking_world_state.proofs.Types.{Act, Answered, HandleAnswer, SessionJob}
use Rattle.blocking_world_state.proofs.Words.{Kind, JobAction, next_but_wake, wake_first}
use Rattle.blocking_world_state.proofs.Words.{next_of_job, is_answer, is_answered_action}
use Rattle.blocking_world_state.proofs.Words.{next_in_turn, GoesOn, has_waker, job_after_answer}
use Rattle.blocking_world_state.proofs.Words.{JobAs, is_first}
use Rattle.blocking_world_holders.specs.SessionJobs.{action_of, kind_of}
use Rattle.blocking_world_holders.specs.declared.job.SessionJob.TheVariants as job_of
use Rattle.blocking_world_holders.proofs.owners.OpJobs as operations
use Rattle.blocking_world_holders.proofs.owners.ReadJobs as reads
use Rattle.blocking_world_holders.proofs.owners.SeekJobs as seeks
use Rattle.blocking_world_holders.proofs.owners.ItemJobs as streams
use Rattle.blocking_world_holders.proofs.owners.WriteJobs as writes

-- what it does next is what the table says
pub job_action_is : (job : SessionJob) (acts : List Act) → JobAs job acts
    → action_of job ≡ next_of_job (kind_of job) acts
job_action_is job acts r = grind arith

-- how far it is once it was answered
pub job_answers : (job : SessionJob) (acts : List Act) (answer : HandleAnswer)
    → JobAs job acts → is_answer (action_of job) answer ≡ true
    → JobAs (job_after_answer job answer) (Answered answer ∷ acts)
job_answers (job_of.Read p) acts answer r is = reads.answers p acts answer r is
job_answers (job_of.Write p) acts answer r is = writes.answers p acts answer r is
job_answers (job_of.Seek p) acts answer r is = seeks.answers p acts answer r is
job_answers (job_of.Operate p) acts answer r is = operations.answers p acts answer r is
job_answers (job_of.Items p) acts answer r is = streams.answers p acts answer r is

-- where its turn goes on, what it is answered is an answer to what it asks for
pub answer_of : (next : JobAction) (answer : HandleAnswer)
    → is_answered_action (next_in_turn GoesOn next) answer ≡ true → is_answer next answer ≡ true
answer_of next answer is = grind arith

-- and of what kind it stays
pub kind_answered : (job : SessionJob) (answer : HandleAnswer)
    → kind_of (job_after_answer job answer) ≡ kind_of job
kind_answered job answer = grind arith

-- what a job does next: it calls a waker first, where it has one
pub next_by : (kind : Kind) (acts : List Act)
    → next_of_job kind acts ≡ wake_first (has_waker acts) (next_but_wake kind acts)
next_by kind acts = grind arith

-- the table of a job that is at its first action says so, also were no waker to be called
pub first_of_table : (job : SessionJob) (acts : List Act) → JobAs job acts
    → is_first (action_of job) ≡ true → is_first (next_but_wake (kind_of job) acts) ≡ true
first_of_table job acts tied first = grind arith
