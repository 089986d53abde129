-- Short traces, for the theorems that show what each law accepts and what it refuses. They are
-- written with the oldest moment first; above each stand the texts of its events.
use Rattle.std.specs.Prelude.{ℕ, Bool, true, false, List, [], ◌∷◌, Option, Some, None}
use Rattle.blocking_pool.specs.declared.pool.answer.Refusal.TheVariants.{Memory, NoWorker}
use Rattle.blocking_pool.specs.declared.pool.answer.Woke.TheVariants.{Marked}
use Rattle.blocking_pool.specs.declared.pool.standing.Standing.TheVariants.{Queued, Parked, Done}
use Rattle.blocking_pool.specs.declared.pool.standing.Standing.TheVariants.{Dropped}
use Rattle.blocking_world_laws.specs.Seen.{EachMayFollow, events, task_cut}
use Rattle.blocking_world_laws.specs.TaskLaws.{TaskLaw}
use Rattle.blocking_world_laws.specs.Legal.{PoolLaw}
use Rattle.blocking_world_laws.specs.declared.event.Act.{Act}
use Rattle.blocking_world_laws.specs.declared.event.Act.TheVariants.{Accepted, Refused, JobWoken}
use Rattle.blocking_world_laws.specs.declared.event.Act.TheVariants.{LimitSet, ClientLimitSet}
use Rattle.blocking_world_laws.specs.declared.event.Act.TheVariants.{Swept, Stopped, Waits, TaskGot}
use Rattle.blocking_world_laws.specs.declared.event.Act.TheVariants.{TaskCancelled, TaskDetached}
use Rattle.blocking_world_laws.specs.declared.event.Act.TheVariants.{HolderDropped, Arrived, Took}
use Rattle.blocking_world_laws.specs.declared.event.Act.TheVariants.{TookDropped, Ended, Answered}
use Rattle.blocking_world_laws.specs.declared.event.Act.TheVariants.{JobParked, Finished, GaveUp}
use Rattle.blocking_world_laws.specs.declared.event.Act.TheVariants.{NoAction}
use Rattle.blocking_world_laws.specs.declared.event.Moment.{Moment}
use Rattle.blocking_world_laws.specs.declared.event.Party.{Party}
use Rattle.blocking_world_laws.specs.declared.event.Party.TheVariants.{Task, Worker, Pool}
use Rattle.blocking_world_laws.specs.declared.event.HolderWaker.TheVariants.{Taken, Absent}
use Rattle.blocking_world_laws.specs.declared.event.WaitEnd.TheVariants.{TimedOut}
use Rattle.blocking_world_laws.specs.declared.step.HandleAnswer.TheVariants.{Number}
use Rattle.blocking_world_laws.specs.declared.step.Step.{Step}
use Rattle.blocking_world_laws.specs.declared.step.Step.TheVariants.{Spawn, OfTask, Arrive, Take}
use Rattle.blocking_world_laws.specs.declared.step.Step.TheVariants.{Job, Io, End, Late, SetLimit}
use Rattle.blocking_world_laws.specs.declared.step.Step.TheVariants.{Sweep, Stray, SetClientLimit}
use Rattle.blocking_world_laws.specs.declared.step.TaskCall.TheVariants.{Poll, Cancel, Detach, Drop}

-- ---- how they are written

infixl 5 ◌▸◌
-- one moment more
abbrev pub ◌▸◌ : List Moment → Moment → List Moment
past ▸ now = now ∷ past

-- a moment with no start: the step, who took it, of which job it is, what was done, and the number
-- of the next start
abbrev pub moment : Step → Party → Option ℕ → Act → ℕ → Moment
moment step party job act next =
    record {
      step = step;
      event = record {
        party = party;
        owner = None;
        job = job;
        act = act;
        first = next;
        started = 0;
        start_refused = false;
      };
    }

-- the same with so many starts
abbrev pub starting : ℕ → Moment → Moment
starting count now = record now { event = record now.event { started = count } }

-- the same with a start that was refused
abbrev pub refusing : Moment → Moment
refusing now = record now { event = record now.event { start_refused = true } }

-- the same, told of this owner
abbrev pub of_owner : ℕ → Moment → Moment
of_owner h now = record now { event = record now.event { owner = Some h } }

-- ---- what is said of them

-- A law refuses this moment after this past.
abbrev pub Refuses : (List Moment → Moment → Type 0) → List Moment → Moment → Type 0
Refuses Law past now = Law past now → ⊥

-- With this moment the past keeps this.
abbrev pub Keeps : (List Moment → Type 0) → List Moment → Moment → Type 0
Keeps Holds past now = Holds (past ▸ now)

-- The pool's law holds at each moment.
abbrev pub IsPooled : ℕ → List Bool → List Moment → Type 0
IsPooled setting plan past = EachMayFollow (PoolLaw setting plan) past

-- the law of this task, whose job is the second number
abbrev pub LawOfTask : ℕ → ℕ → List Moment → Moment → Type 0
LawOfTask k s past now = TaskLaw s (task_cut k s (events past)) now.event

-- the law of the first task, whose job is the first
abbrev pub FirstTaskLaw : List Moment → Moment → Type 0
FirstTaskLaw past now = LawOfTask 0 1 past now

-- ---- a call

-- accepted 1 +1
abbrev pub one_queued : List Moment
one_queued = [] ▸ starting 1 (moment (Spawn 0) Pool None (Accepted 1) 1)

-- accepted 1 +1 / arrived 1
abbrev pub one_arrived : List Moment
one_arrived = one_queued ▸ moment Arrive (Worker 1) None (Arrived 1) 2

-- accepted 1 +1 / arrived 1 / took 1
abbrev pub one_taken : List Moment
one_taken = one_arrived ▸ moment (Take 1) (Worker 1) (Some 1) (Took 1) 2

-- accepted 1 +1 / arrived 1 / took 1 / answered 5
abbrev pub one_answered : List Moment
one_answered = one_taken ▸ moment (Io 1 (Number 5)) (Worker 1) (Some 1) (Answered (Number 5)) 2

-- accepted 1 +1 / arrived 1 / took 1 / answered 5 / finished
abbrev pub one_finished : List Moment
one_finished = one_answered ▸ moment (Job 1) (Worker 1) (Some 1) (Finished Absent) 2

-- accepted 1 +1 / arrived 1 / took 1 / answered 5 / finished / ended 1 done
abbrev pub one_done : List Moment
one_done = one_finished ▸ moment (End 1) (Worker 1) (Some 1) (Ended 1 Done) 2

-- accepted 1 +1 / arrived 1 / took 1 / answered 5 / finished / ended 1 done / got 5
abbrev pub one_got : List Moment
one_got = one_done ▸ moment (OfTask 0 Poll) (Task 0) None (TaskGot 5) 2

-- ---- a call that is awaited

-- accepted 1 +1 / waits / arrived 1 / took 1 / answered 5
abbrev pub awaited : List Moment
awaited = one_queued
    ▸ moment (OfTask 0 Poll) (Task 0) None Waits 2
    ▸ moment Arrive (Worker 1) None (Arrived 1) 2
    ▸ moment (Take 1) (Worker 1) (Some 1) (Took 1) 2
    ▸ moment (Io 1 (Number 5)) (Worker 1) (Some 1) (Answered (Number 5)) 2

-- accepted 1 +1 / waits / arrived 1 / took 1 / answered 5 / finished wake owner
abbrev pub awaited_finished : List Moment
awaited_finished = awaited ▸ moment (Job 1) (Worker 1) (Some 1) (Finished Taken) 2

-- accepted 1 +1 / waits / arrived 1 / took 1 / answered 5 / finished
abbrev pub untold_finished : List Moment
untold_finished = awaited ▸ moment (Job 1) (Worker 1) (Some 1) (Finished Absent) 2

-- ---- a call that is let go

-- accepted 1 +1 / dropped / arrived 1
abbrev pub dropped : List Moment
dropped = one_queued
    ▸ moment (OfTask 0 Drop) (Task 0) None HolderDropped 2
    ▸ moment Arrive (Worker 1) None (Arrived 1) 2

-- accepted 1 +1 / dropped / arrived 1 / took 1 dropped
abbrev pub dropped_taken : List Moment
dropped_taken = dropped ▸ moment (Take 1) (Worker 1) (Some 1) (TookDropped 1) 2

-- accepted 1 +1 / dropped / arrived 1 / took 1 dropped / gave up
abbrev pub dropped_given_up : List Moment
dropped_given_up = dropped_taken ▸ moment (Job 1) (Worker 1) (Some 1) (GaveUp Absent) 2

-- accepted 1 +1 / dropped / arrived 1 / took 1 dropped / gave up / ended 1 dropped
abbrev pub dropped_over : List Moment
dropped_over = dropped_given_up ▸ moment (End 1) (Worker 1) (Some 1) (Ended 1 Dropped) 2

-- accepted 1 +1 / arrived 1 / took 1 / dropped
abbrev pub dropped_running : List Moment
dropped_running = one_taken ▸ moment (OfTask 0 Drop) (Task 0) None HolderDropped 2

-- accepted 1 +1 / arrived 1 / took 1 / answered 5 / cancelled / finished
abbrev pub cancelled_finished : List Moment
cancelled_finished = one_answered
    ▸ moment (OfTask 0 Cancel) (Task 0) None TaskCancelled 2
    ▸ moment (Job 1) (Worker 1) (Some 1) (Finished Absent) 2

-- accepted 1 +1 / waits / cancelled / arrived 1 / took 1 dropped / gave up wake owner
abbrev pub cancelled_given_up : List Moment
cancelled_given_up = one_queued
    ▸ moment (OfTask 0 Poll) (Task 0) None Waits 2
    ▸ moment (OfTask 0 Cancel) (Task 0) None TaskCancelled 2
    ▸ moment Arrive (Worker 1) None (Arrived 1) 2
    ▸ moment (Take 1) (Worker 1) (Some 1) (TookDropped 1) 2
    ▸ moment (Job 1) (Worker 1) (Some 1) (GaveUp Taken) 2

-- accepted 1 +1 / cancelled / waits / arrived 1 / took 1 dropped / gave up
abbrev pub untold_given_up : List Moment
untold_given_up = one_queued
    ▸ moment (OfTask 0 Cancel) (Task 0) None TaskCancelled 2
    ▸ moment (OfTask 0 Poll) (Task 0) None Waits 2
    ▸ moment Arrive (Worker 1) None (Arrived 1) 2
    ▸ moment (Take 1) (Worker 1) (Some 1) (TookDropped 1) 2
    ▸ moment (Job 1) (Worker 1) (Some 1) (GaveUp Absent) 2

-- accepted 1 +1 / detached
abbrev pub detached : List Moment
detached = one_queued ▸ moment (OfTask 0 Detach) (Task 0) None TaskDetached 2

-- ---- several jobs

-- accepted 1 +1 / arrived 1 / accepted 2
abbrev pub two_queued : List Moment
two_queued = one_arrived ▸ moment (Spawn 0) Pool None (Accepted 2) 2

-- accepted 1 +1 / arrived 1 / accepted 2 / dropped (of job 1)
abbrev pub front_dropped : List Moment
front_dropped = two_queued ▸ moment (OfTask 0 Drop) (Task 0) None HolderDropped 2

-- accepted 1 +1 / arrived 1 / accepted 2 / dropped (of job 2)
abbrev pub second_dropped : List Moment
second_dropped = two_queued ▸ moment (OfTask 1 Drop) (Task 1) None HolderDropped 2

-- accepted 1 +1 / arrived 1 / accepted 2 / took 1 +2 / arrived 2, at limit 2
abbrev pub two_workers : List Moment
two_workers = two_queued
    ▸ starting 1 (moment (Take 1) (Worker 1) (Some 1) (Took 1) 2)
    ▸ moment Arrive (Worker 2) None (Arrived 2) 3

-- accepted 1 +1 / accepted 2 / accepted 3 / accepted 4 / accepted 5
abbrev pub five_queued : List Moment
five_queued = one_queued
    ▸ moment (Spawn 0) Pool None (Accepted 2) 2
    ▸ moment (Spawn 0) Pool None (Accepted 3) 2
    ▸ moment (Spawn 0) Pool None (Accepted 4) 2
    ▸ moment (Spawn 0) Pool None (Accepted 5) 2

-- ---- refused starts

-- refused worker -1
abbrev pub start_refused : List Moment
start_refused = [] ▸ refusing (moment (Spawn 0) Pool None (Refused NoWorker) 1)

-- refused worker -1 / nothing
abbrev pub still_unstaffed : List Moment
still_unstaffed = start_refused ▸ moment Arrive Pool None NoAction 2

-- accepted 1 +1 / accepted 2 / accepted 3 / accepted 4 / accepted 5 / accepted 6 -2
abbrev pub second_refused : List Moment
second_refused = five_queued ▸ refusing (moment (Spawn 0) Pool None (Accepted 6) 2)

-- ---- what the pool did before the first call

-- limit 2 / refused memory / swept 0 / accepted 1 +1
abbrev pub late_queued : List Moment
late_queued = []
    ▸ moment (SetLimit 2) Pool None (LimitSet 2) 1
    ▸ moment (Spawn 0) Pool None (Refused Memory) 1
    ▸ moment Sweep Pool None (Swept 0) 1
    ▸ starting 1 (moment (Spawn 0) Pool None (Accepted 1) 1)

-- ---- jobs that wait: no call does, and so these keep the pool's law alone

-- accepted 1 +1 / arrived 1 / took 1 / parked
abbrev pub one_waits : List Moment
one_waits = one_taken ▸ moment (Job 1) (Worker 1) (Some 1) JobParked 2

-- accepted 1 +1 / arrived 1 / took 1 / parked / ended 1 parked
abbrev pub one_parked : List Moment
one_parked = one_waits ▸ moment (End 1) (Worker 1) (Some 1) (Ended 1 Parked) 2

-- accepted 1 +1 / arrived 1 / took 1 / parked / ended 1 parked / stopped 1
abbrev pub unstaffed_parked : List Moment
unstaffed_parked = one_parked ▸ moment (Late 1) (Worker 1) None (Stopped 1 TimedOut) 2

-- accepted 1 +1 / arrived 1 / took 1 / parked / ended 1 parked / stopped 1 / dropped
abbrev pub unstaffed_dropped : List Moment
unstaffed_dropped = unstaffed_parked ▸ moment (OfTask 0 Drop) (Task 0) None HolderDropped 2

-- accepted 1 +1 / arrived 1 / took 1 / delivered 1 marked / parked
abbrev pub woken_waits : List Moment
woken_waits = one_taken
    ▸ moment (Stray 1) Pool None (JobWoken 1 Marked) 2
    ▸ moment (Job 1) (Worker 1) (Some 1) JobParked 2

-- accepted 1 +1 / arrived 1 / took 1 / dropped / parked
abbrev pub dropped_waits : List Moment
dropped_waits = dropped_running ▸ moment (Job 1) (Worker 1) (Some 1) JobParked 2

-- accepted 1 +1 / arrived 1 / took 1 / parked / ended 1 parked / dropped
abbrev pub dropped_parked : List Moment
dropped_parked = one_parked ▸ moment (OfTask 0 Drop) (Task 0) None HolderDropped 2

-- accepted 1 +1 / arrived 1 / accepted 2 / took 1 / parked / ended 1 parked / took 2 / parked /
-- ended 2 parked
abbrev pub two_parked : List Moment
two_parked = two_queued
    ▸ moment (Take 1) (Worker 1) (Some 1) (Took 1) 2
    ▸ moment (Job 1) (Worker 1) (Some 1) JobParked 2
    ▸ moment (End 1) (Worker 1) (Some 1) (Ended 1 Parked) 2
    ▸ moment (Take 1) (Worker 1) (Some 2) (Took 2) 2
    ▸ moment (Job 1) (Worker 1) (Some 2) JobParked 2
    ▸ moment (End 1) (Worker 1) (Some 2) (Ended 2 Parked) 2

-- two_parked / dropped (of job 2) / dropped (of job 1)
abbrev pub two_dropped : List Moment
two_dropped = two_parked
    ▸ moment (OfTask 1 Drop) (Task 1) None HolderDropped 2
    ▸ moment (OfTask 0 Drop) (Task 0) None HolderDropped 2

-- accepted 1 +1 / arrived 1 / took 1 / accepted 2 / delivered 1 marked / parked / ended 1 queued
abbrev pub queued_again : List Moment
queued_again = one_taken
    ▸ moment (Spawn 0) Pool None (Accepted 2) 2
    ▸ moment (Stray 1) Pool None (JobWoken 1 Marked) 2
    ▸ moment (Job 1) (Worker 1) (Some 1) JobParked 2
    ▸ moment (End 1) (Worker 1) (Some 1) (Ended 1 Queued) 2

-- accepted 1 +1 / arrived 1 / took 1 / accepted 2 .. accepted 6 / limit 2 / delivered 1 marked /
-- parked, at limit 1 until then
abbrev pub raised_limit : List Moment
raised_limit = one_taken
    ▸ moment (Spawn 0) Pool None (Accepted 2) 2
    ▸ moment (Spawn 0) Pool None (Accepted 3) 2
    ▸ moment (Spawn 0) Pool None (Accepted 4) 2
    ▸ moment (Spawn 0) Pool None (Accepted 5) 2
    ▸ moment (Spawn 0) Pool None (Accepted 6) 2
    ▸ moment (SetLimit 2) Pool None (LimitSet 2) 2
    ▸ moment (Stray 1) Pool None (JobWoken 1 Marked) 2
    ▸ moment (Job 1) (Worker 1) (Some 1) JobParked 2

-- ---- jobs of several clients

-- clients 1
abbrev pub clients_limited : List Moment
clients_limited = [] ▸ moment (SetClientLimit (Some 1)) Pool None (ClientLimitSet (Some 1)) 1

-- clients 1 / accepted 1 +1 / accepted 2 / accepted 3 / arrived 1: jobs 1 and 2 are of client 7,
-- job 3 of client 8
abbrev pub three_queued : List Moment
three_queued = clients_limited
    ▸ starting 1 (moment (Spawn 7) Pool None (Accepted 1) 1)
    ▸ moment (Spawn 7) Pool None (Accepted 2) 2
    ▸ moment (Spawn 8) Pool None (Accepted 3) 2
    ▸ moment Arrive (Worker 1) None (Arrived 1) 2

-- .. / took 1 +2 / arrived 2: client 7 is at its limit
abbrev pub one_at_limit : List Moment
one_at_limit = three_queued
    ▸ starting 1 (moment (Take 1) (Worker 1) (Some 1) (Took 1) 2)
    ▸ moment Arrive (Worker 2) None (Arrived 2) 3

-- .. / took 3 / answered 1 / finished / ended 3 done: the job that is queued isn't ready
abbrev pub none_ready : List Moment
none_ready = one_at_limit
    ▸ moment (Take 2) (Worker 2) (Some 3) (Took 3) 3
    ▸ moment (Io 2 (Number 1)) (Worker 2) (Some 3) (Answered (Number 1)) 3
    ▸ moment (Job 2) (Worker 2) (Some 3) (Finished Absent) 3
    ▸ moment (End 2) (Worker 2) (Some 3) (Ended 3 Done) 3

-- .. / ended 3 done / answered 1 / finished / ended 1 done: the client has room again
abbrev pub room_again : List Moment
room_again = none_ready
    ▸ moment (Io 1 (Number 1)) (Worker 1) (Some 1) (Answered (Number 1)) 3
    ▸ moment (Job 1) (Worker 1) (Some 1) (Finished Absent) 3
    ▸ moment (End 1) (Worker 1) (Some 1) (Ended 1 Done) 3
