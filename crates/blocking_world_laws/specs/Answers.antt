-- What the pool answers: to new jobs, takes, wakes, cancels, sweeps, ends of turns, arrivals and
-- waits.
use Rattle.std.specs.Prelude.{◌≡◌, ℕ, ◌+◌, ◌<◌, ◌≤◌, nat_lt, ◌==◌, ◌&&◌, ◌||◌, if◌then◌else◌, Bool}
use Rattle.std.specs.Prelude.{true, false, List, [], ◌∷◌, length}
use Rattle.blocking_pool.specs.declared.pool.answer.Refusal.TheVariants.{Memory, NoWorker, Numbers}
use Rattle.blocking_pool.specs.declared.pool.standing.Standing.TheVariants.{Queued, Parked, Done}
use Rattle.blocking_pool.specs.declared.pool.standing.Standing.TheVariants.{Dropped}
use Rattle.blocking_world_laws.specs.Core.{greatest, wake_of, cancel_of}
use Rattle.blocking_world_laws.specs.Seen.{has_timed_out}
use Rattle.blocking_world_laws.specs.Jobs.{accepted_jobs, standing, is_to_drop, is_woken}
use Rattle.blocking_world_laws.specs.Queue.{to_sweep, ready, queue}
use Rattle.blocking_world_laws.specs.Counts.{starts, arrivals, workers, limit}
use Rattle.blocking_world_laws.specs.Turns.{Turn, GoesOn, IsWaiting, MustGiveUp, HasGivenUp, turn}
use Rattle.blocking_world_laws.specs.declared.event.Act.{Act}
use Rattle.blocking_world_laws.specs.declared.event.Act.TheVariants.{Accepted, Refused, JobWoken}
use Rattle.blocking_world_laws.specs.declared.event.Act.TheVariants.{JobCancelled, Swept, Arrived}
use Rattle.blocking_world_laws.specs.declared.event.Act.TheVariants.{Took, TookDropped, TookNone}
use Rattle.blocking_world_laws.specs.declared.event.Act.TheVariants.{Stays, Stopped, Ended}
use Rattle.blocking_world_laws.specs.declared.event.Act.TheVariants.{HandedOut}
use Rattle.blocking_world_laws.specs.declared.event.Moment.{Moment}
use Rattle.blocking_world_laws.specs.declared.event.WaitEnd.{WaitEnd}

-- what a take gives of these jobs: the first, to be dropped where it was cancelled or marked; of
-- none, nothing
abbrev pub take_from : List Moment → List ℕ → Act
take_from past [] = TookNone
take_from past (s ∷ more) = if is_to_drop past s then TookDropped s else Took s

-- the answer to a take: the first job that is ready; without one the worker stays idle
abbrev pub take_answer : List Moment → Act
take_answer past = take_from past (ready past)

-- How a turn ends: a job that waits is handed out where it is to be dropped, goes back where it was
-- woken, and else parks; one that gave up is dropped, any other is done.
abbrev pub end_of : Turn → Bool → Bool → ℕ → Act
end_of IsWaiting true woken s = HandedOut s
end_of IsWaiting false true s = Ended s Queued
end_of IsWaiting false false s = Ended s Parked
end_of HasGivenUp drop woken s = Ended s Dropped
end_of MustGiveUp drop woken s = Ended s Dropped
end_of GoesOn drop woken s = Ended s Done

-- the answer to the end of a turn
abbrev pub end_answer : List Moment → ℕ → Act
end_answer past s = end_of (turn past s) (is_to_drop past s) (is_woken past s) s

-- Whether a worker stops after a wait, its sweep and its growth: there are more workers than the
-- limit, or the wait timed out and no job is queued.
abbrev pub must_stop : ℕ → List Moment → Moment → WaitEnd → Bool
must_stop setting past now end =
    nat_lt (limit setting (now ∷ past)) (workers past + now.event.started)
    || has_timed_out end && length (queue (now ∷ past)) == 0

-- what is seen of a wait that ended so, by whether the worker stops
abbrev pub wait_act : ℕ → WaitEnd → Bool → Act
wait_act w end true = Stopped w end
wait_act w end false = Stays w end

-- What the pool answers, act by act. A wake and a cancel do what the job's standing says; a sweep
-- tells how many jobs it put back; workers are numbered in the order of their arrival; a new job's
-- serial is one more than the number of jobs that were accepted, and the greatest number is no
-- serial: where it would be next, a job is refused for that alone.
abbrev pub PoolAnswers : ℕ → List Moment → Moment → Act → Type 0
PoolAnswers setting past now (Took s) = Took s ≡ take_answer past
PoolAnswers setting past now (TookDropped s) = TookDropped s ≡ take_answer past
PoolAnswers setting past now TookNone = TookNone ≡ take_answer past
PoolAnswers setting past now (JobWoken s woke) = woke ≡ wake_of (standing past s)
PoolAnswers setting past now (JobCancelled s woke) = woke ≡ cancel_of (standing past s)
PoolAnswers setting past now (Ended s how) = Ended s how ≡ end_answer past s
PoolAnswers setting past now (HandedOut s) = HandedOut s ≡ end_answer past s
PoolAnswers setting past now (Stays w end) = must_stop setting past now end ≡ false
PoolAnswers setting past now (Stopped w end) = must_stop setting past now end ≡ true
PoolAnswers setting past now (Swept n) = n ≡ length (to_sweep past)
PoolAnswers setting past now (Arrived w) = (w ≡ 1 + arrivals past) × (w ≤ starts past)
PoolAnswers setting past now (Accepted s) = (s ≡ 1 + length (accepted_jobs past)) × (s < greatest)
PoolAnswers setting past now (Refused Memory) = 1 + length (accepted_jobs past) < greatest
PoolAnswers setting past now (Refused NoWorker) = 1 + length (accepted_jobs past) < greatest
PoolAnswers setting past now (Refused Numbers) = 1 + length (accepted_jobs past) ≡ greatest
PoolAnswers setting past now _ = Unit {0}

-- The law of answers.
abbrev pub AnswerLaw : ℕ → List Moment → Moment → Type 0
AnswerLaw setting past now = PoolAnswers setting past now now.event.act
