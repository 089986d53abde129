-- Steps and their events: which steps have an action, and what is seen of them.
use Rattle.std.specs.Prelude.{◌≡◌, ℕ, ◌+◌, nat_lt, ◌&&◌, ◌||◌, ◌==◌, not, if◌then◌else◌, Bool, true}
use Rattle.std.specs.Prelude.{false, List, [], ◌∷◌, length, filter, Option, Some, None, is_some}
use Rattle.std.specs.Prelude.{is_none}
use Rattle.blocking_pool.specs.declared.pool.answer.Refusal.TheVariants.{Memory}
use Rattle.blocking_world_laws.specs.Seen.{events, acts_of, acts_of_task, acts_of_owner, is_of_pool}
use Rattle.blocking_world_laws.specs.Seen.{is_nothing}
use Rattle.blocking_world_laws.specs.Jobs.{tasks, holder, as_owner}
use Rattle.blocking_world_laws.specs.Counts.{starts, arrivals}
use Rattle.blocking_world_laws.specs.Turns.{Turn, GoesOn, IsWaiting, MustGiveUp, HasGivenUp, turn}
use Rattle.blocking_world_laws.specs.Turns.{hand}
use Rattle.blocking_world_laws.specs.JobTable.{Kind, Calling, JobAction, next_of_job, is_answer}
use Rattle.blocking_world_laws.specs.JobTable.{is_asking, is_over}
use Rattle.blocking_world_laws.specs.Sessions.{kind_of_job, may_ask, is_dropped, under_way}
use Rattle.blocking_world_laws.specs.Sessions.{is_poll_over, rests, is_closed, was_asked_inner}
use Rattle.blocking_world_laws.specs.Lent.{Copier, copiers, copier_in, has_owner, links}
use Rattle.blocking_world_laws.specs.Copies.{CopierAction, AskReader, AskWriter, Tells}
use Rattle.blocking_world_laws.specs.Copies.{next_of_copier}
use Rattle.blocking_world_laws.specs.TaskLaws.{is_gone, was_cancelled, is_let_go}
use Rattle.blocking_world_laws.specs.declared.event.Act.{Act}
use Rattle.blocking_world_laws.specs.declared.event.Act.TheVariants.{Made, Asked, Accepted, Refused}
use Rattle.blocking_world_laws.specs.declared.event.Act.TheVariants.{JobWoken, JobCancelled}
use Rattle.blocking_world_laws.specs.declared.event.Act.TheVariants.{LimitSet, ClientLimitSet}
use Rattle.blocking_world_laws.specs.declared.event.Act.TheVariants.{Swept, Waits, TaskGot}
use Rattle.blocking_world_laws.specs.declared.event.Act.TheVariants.{TaskGotNone, TaskCancelled}
use Rattle.blocking_world_laws.specs.declared.event.Act.TheVariants.{TaskDetached, HolderDropped}
use Rattle.blocking_world_laws.specs.declared.event.Act.TheVariants.{Arrived, Took, TookDropped}
use Rattle.blocking_world_laws.specs.declared.event.Act.TheVariants.{TookNone, Stays, Stopped}
use Rattle.blocking_world_laws.specs.declared.event.Act.TheVariants.{Ended, HandedOut, Answered}
use Rattle.blocking_world_laws.specs.declared.event.Act.TheVariants.{Linked, NoAction}
use Rattle.blocking_world_laws.specs.declared.event.Moment.{Moment}
use Rattle.blocking_world_laws.specs.declared.event.Party.{Party}
use Rattle.blocking_world_laws.specs.declared.event.Party.TheVariants.{Owner, Task, Worker, Pool}
use Rattle.blocking_world_laws.specs.declared.event.WaitEnd.{WaitEnd}
use Rattle.blocking_world_laws.specs.declared.event.WaitEnd.TheVariants.{Woken, TimedOut}
use Rattle.blocking_world_laws.specs.declared.step.HandleAnswer.{HandleAnswer}
use Rattle.blocking_world_laws.specs.declared.step.Step.{Step}
use Rattle.blocking_world_laws.specs.declared.step.Step.TheVariants.{New, Ask, Own, DropOwner}
use Rattle.blocking_world_laws.specs.declared.step.Step.TheVariants.{Spawn, OfTask, Arrive, Take}
use Rattle.blocking_world_laws.specs.declared.step.Step.TheVariants.{Job, Io, End, Wait, Late}
use Rattle.blocking_world_laws.specs.declared.step.Step.TheVariants.{SetLimit, Sweep, Stray, Strike}
use Rattle.blocking_world_laws.specs.declared.step.Step.TheVariants.{SetClientLimit, Link, Copy}
use Rattle.blocking_world_laws.specs.declared.step.TaskCall.{TaskCall}
use Rattle.blocking_world_laws.specs.declared.step.TaskCall.TheVariants.{Poll, Cancel, Detach, Drop}

-- ---- workers

-- whether worker w is there after an act
abbrev pub is_there_by : Act → ℕ → Bool → Bool
is_there_by (Arrived v) w before = v == w || before
is_there_by (Stopped v end) w before = not (v == w) && before
is_there_by _ w before = before

-- whether the worker is there: it arrived and hasn't stopped
abbrev pub is_there : List Moment → ℕ → Bool
is_there [] w = false
is_there (now ∷ past) w = is_there_by now.event.act w (is_there past w)

-- whether the worker is there and has no job in hand
abbrev pub is_free : List Moment → ℕ → Bool
is_free past w = is_there past w && is_none (hand past w)

-- the kind of a job, by its holder: of an owner's that of its session
abbrev pub kind_by : Option Party → List Moment → ℕ → Kind
kind_by (Some (Owner h)) past s = kind_of_job s (acts_of_owner h (events past))
kind_by _ past s = Calling

-- What a worker does next: nothing, an action of its job, giving the job up, or ending the turn.
pub data WorkerAction : Type 0 where
  NoNext : WorkerAction
  Does : JobAction → WorkerAction
  GivesUp : WorkerAction
  EndsTurn : WorkerAction

-- the next action of a worker, by where its job is in its turn and by the job's next action
abbrev pub next_in_turn : Turn → JobAction → WorkerAction
next_in_turn IsWaiting action = EndsTurn
next_in_turn MustGiveUp action = GivesUp
next_in_turn GoesOn action = if is_over action then EndsTurn else Does action
next_in_turn HasGivenUp action = if is_over action then EndsTurn else Does action

-- the next action of a worker with this job in its hand
abbrev pub next_with : Option ℕ → List Moment → WorkerAction
next_with None past = NoNext
next_with (Some s) past = next_in_turn (turn past s)
    (next_of_job (kind_by (holder past s) past s) (acts_of s (events past)))

-- the next action of a worker
abbrev pub next_of_worker : List Moment → ℕ → WorkerAction
next_of_worker past w = next_with (hand past w) past

-- whether that is an action of the job's own
abbrev pub is_job_action : WorkerAction → Bool
is_job_action (Does action) = not (is_asking action)
is_job_action GivesUp = true
is_job_action _ = false

-- whether it is the job's question, and this an answer to it
abbrev pub is_answered_action : WorkerAction → HandleAnswer → Bool
is_answered_action (Does action) answer = is_asking action && is_answer action answer
is_answered_action _ answer = false

-- whether it is the end of the turn
abbrev pub is_turn_end : WorkerAction → Bool
is_turn_end EndsTurn = true
is_turn_end _ = false

-- ---- tasks

-- what may be asked of a task that was cancelled
abbrev pub is_for_cancelled : TaskCall → Bool
is_for_cancelled Poll = true
is_for_cancelled Drop = true
is_for_cancelled _ = false

-- whether a task with these own acts may be called so: it isn't gone, and after its cancel it is
-- only polled and dropped
abbrev pub may_call : List Act → TaskCall → Bool
may_call acts c = not (is_gone acts) && (not (was_cancelled acts) || is_for_cancelled c)

-- ---- owners

-- whether an act makes an owner
abbrev pub is_making : Act → Bool
is_making (Made h capacity) = true
is_making _ = false

-- how many owners there are
abbrev pub owners : List Moment → ℕ
owners past = length (filter (λ now. is_making now.event.act) past)

-- whether the holder of a job let it go, so that it may be cancelled in the pool
abbrev pub may_cancel : Option Party → List Moment → Bool
may_cancel (Some (Owner h)) past = is_dropped (acts_of_owner h (events past))
may_cancel (Some (Task k)) past = is_let_go (acts_of_task k (events past))
may_cancel _ past = false

-- ---- copiers

-- whether an owner may be lent to a copier: it is there with its handle, which wasn't asked for for
-- good, no poll of it is under way, and it belongs to no copier that has told no end
abbrev pub may_lend : List Moment → ℕ → Bool
may_lend past h =
    rests (acts_of_owner h (events past)) && not (is_closed (acts_of_owner h (events past)))
    && not (was_asked_inner (acts_of_owner h (events past))) && not (has_owner h (copiers past))

-- whether a copier is there that has told no end, and no poll of its owners is under way
abbrev pub may_copy : Option Copier → List Moment → Bool
may_copy None past = false
may_copy (Some c) past =
    is_poll_over (under_way (acts_of_owner c.reader (events past)))
    && is_poll_over (under_way (acts_of_owner c.writer (events past)))

-- who takes a copier's step: the owner that it asks, or the pool where it tells its end
abbrev pub asked_by : CopierAction → Copier → Party
asked_by (AskReader call) c = Owner c.reader
asked_by (AskWriter call) c = Owner c.writer
asked_by (Tells act) c = Pool

-- (of a copier that may not be there)
abbrev pub copier_party : Option Copier → List Moment → Party
copier_party None past = Pool
copier_party (Some c) past = asked_by (next_of_copier c past) c

-- what is seen of what a copier does
abbrev pub act_of_copier : CopierAction → Act
act_of_copier (AskReader call) = Asked call
act_of_copier (AskWriter call) = Asked call
act_of_copier (Tells act) = act

-- what is seen of a copier's step is what it does next
abbrev pub IsOfCopier : Option Copier → List Moment → Act → Type 0
IsOfCopier None past act = ⊥
IsOfCopier (Some c) past act = act ≡ act_of_copier (next_of_copier c past)

-- ---- steps

-- whether a client limit may be set so: to a number above 0, or to none
abbrev pub may_limit : Option ℕ → Bool
may_limit (Some n) = nat_lt 0 n
may_limit None = true

-- Whether a step names a party that is there and has an action of that kind. An owner may always be
-- made; it is asked where it may be, and dropped where it rests, if it isn't lent to a copier; and
-- its poll goes on while it is under way.
abbrev pub has_action : List Moment → Step → Bool
has_action past (New capacity c) = true
has_action past (Ask h call) =
    may_ask (acts_of_owner h (events past)) call && not (has_owner h (copiers past))
has_action past (Own h) = not (is_poll_over (under_way (acts_of_owner h (events past))))
has_action past (DropOwner h) =
    rests (acts_of_owner h (events past)) && not (has_owner h (copiers past))
has_action past (Spawn c) = true
has_action past (OfTask k c) = nat_lt k (tasks past) && may_call (acts_of_task k (events past)) c
has_action past Arrive = nat_lt (arrivals past) (starts past)
has_action past (Take w) = is_free past w
has_action past (Job w) = is_job_action (next_of_worker past w)
has_action past (Io w answer) = is_answered_action (next_of_worker past w) answer
has_action past (End w) = is_turn_end (next_of_worker past w)
has_action past (Wait w) = is_free past w
has_action past (Late w) = is_free past w
has_action past (SetLimit n) = nat_lt 0 n
has_action past Sweep = true
has_action past (Stray s) = is_some (holder past s)
has_action past (Strike s) = may_cancel (holder past s) past
has_action past (SetClientLimit n) = may_limit n
has_action past (Link a b n) = may_lend past a && may_lend past b && not (a == b) && nat_lt 0 n
has_action past (Copy k) = may_copy (copier_in k (copiers past)) past

-- the party that a step names
abbrev pub named : Step → Party
named (Ask h call) = Owner h
named (Own h) = Owner h
named (DropOwner h) = Owner h
named (OfTask k c) = Task k
named (Take w) = Worker w
named (Job w) = Worker w
named (Io w answer) = Worker w
named (End w) = Worker w
named (Wait w) = Worker w
named (Late w) = Worker w
named step = Pool

-- who takes a step: the party that it names, the next owner or worker where one is made or arrives,
-- and the owner whom a copier asks
abbrev pub party : List Moment → Step → Party
party past (New capacity c) = Owner (owners past)
party past Arrive = Worker (1 + arrivals past)
party past (Copy k) = copier_party (copier_in k (copiers past)) past
party past step = named step

-- the job that a take gives
abbrev pub job_taken : Act → Option ℕ
job_taken (Took s) = Some s
job_taken (TookDropped s) = Some s
job_taken _ = None

-- the job that a step's event is of: the one that a worker takes, or has in hand
abbrev pub job_of : List Moment → Step → Act → Option ℕ
job_of past (Take w) act = job_taken act
job_of past (Job w) act = hand past w
job_of past (Io w answer) act = hand past w
job_of past (End w) act = hand past w
job_of past step act = None

-- the owner of that job
abbrev pub owner_of : Option ℕ → List Moment → Option ℕ
owner_of None past = None
owner_of (Some s) past = as_owner (holder past s)

-- a new job is accepted or refused
abbrev pub IsBegun : Act → Type 0
IsBegun (Accepted s) = Unit {0}
IsBegun (Refused why) = Unit {0}
IsBegun _ = ⊥

-- an answer to a poll of a task
abbrev pub IsPolled : Act → Type 0
IsPolled (TaskGot n) = Unit {0}
IsPolled TaskGotNone = Unit {0}
IsPolled Waits = Unit {0}
IsPolled _ = ⊥

-- what is seen of a call of a task
abbrev pub IsOfTask : TaskCall → Act → Type 0
IsOfTask Poll act = IsPolled act
IsOfTask Cancel act = act ≡ TaskCancelled
IsOfTask Detach act = act ≡ TaskDetached
IsOfTask Drop act = act ≡ HolderDropped

-- an answer to a take
abbrev pub is_take : Act → Bool
is_take (Took s) = true
is_take (TookDropped s) = true
is_take TookNone = true
is_take _ = false

-- whether a job was answered from outside
abbrev pub is_answered : Act → Bool
is_answered (Answered answer) = true
is_answered _ = false

-- the end of a turn of this job
abbrev pub IsEndOf : Option ℕ → Act → Type 0
IsEndOf s (Ended t how) = s ≡ Some t
IsEndOf s (HandedOut t) = s ≡ Some t
IsEndOf s _ = ⊥

-- an answer to a wait of this worker that ended so
abbrev pub IsWaitOf : ℕ → WaitEnd → Act → Type 0
IsWaitOf w end (Stays v told) = (v ≡ w) × (told ≡ end)
IsWaitOf w end (Stopped v told) = (v ≡ w) × (told ≡ end)
IsWaitOf w end _ = ⊥

-- a sweep
abbrev pub IsSweep : Act → Type 0
IsSweep (Swept n) = Unit {0}
IsSweep _ = ⊥

-- a wake of this job
abbrev pub IsWakeOf : ℕ → Act → Type 0
IsWakeOf s (JobWoken t woke) = t ≡ s
IsWakeOf s _ = ⊥

-- a cancel of this job
abbrev pub IsCancelOf : ℕ → Act → Type 0
IsCancelOf s (JobCancelled t woke) = t ≡ s
IsCancelOf s _ = ⊥

-- What is seen of a step is of its kind and has its numbers. What owners, tasks and jobs may do is
-- the matter of their own laws.
abbrev pub Fits : List Moment → Step → Act → Type 0
Fits past (New capacity c) act = act ≡ Made (owners past) capacity
Fits past (Ask h call) act = act ≡ Asked call
Fits past (Own h) act = is_of_pool act ≡ false
Fits past (DropOwner h) act = act ≡ HolderDropped
Fits past (Spawn c) act = IsBegun act
Fits past (OfTask k c) act = IsOfTask c act
Fits past Arrive act = act ≡ Arrived (1 + arrivals past)
Fits past (Take w) act = is_take act ≡ true
Fits past (Job w) act = (is_of_pool act ≡ false) × (is_answered act ≡ false)
Fits past (Io w answer) act = act ≡ Answered answer
Fits past (End w) act = IsEndOf (hand past w) act
Fits past (Wait w) act = IsWaitOf w Woken act
Fits past (Late w) act = IsWaitOf w TimedOut act
Fits past (SetLimit n) act = act ≡ LimitSet n
Fits past Sweep act = IsSweep act
Fits past (Stray s) act = IsWakeOf s act
Fits past (Strike s) act = IsCancelOf s act
Fits past (SetClientLimit n) act = act ≡ ClientLimitSet n
Fits past (Link a b n) act = act ≡ Linked (links past)
Fits past (Copy k) act = IsOfCopier (copier_in k (copiers past)) past act

-- where a step has an action something of its kind is done, and elsewhere nothing
abbrev pub Happens : Bool → List Moment → Step → Act → Type 0
Happens true past step act = (is_nothing act ≡ false) × Fits past step act
Happens false past step act = act ≡ NoAction

-- The law of steps: nothing is done exactly where the step has no action; else the event is of the
-- step's kind, by its party, of its job and of that job's owner.
pub record StepLaw (past : List Moment) (now : Moment) : Type 0 where
  pub act : Happens (has_action past now.step) past now.step now.event.act
  pub by : now.event.party
      ≡ (if is_nothing now.event.act then named now.step else party past now.step)
  pub of : now.event.job
      ≡ (if is_nothing now.event.act then None else job_of past now.step now.event.act)
  pub owned : now.event.owner ≡ owner_of now.event.job past

-- whether a step is one that the pool answers: all but what tasks are asked and what polls and jobs
-- do
abbrev pub is_pool_step : Step → Bool
is_pool_step (Own h) = false
is_pool_step (OfTask k c) = false
is_pool_step (Job w) = false
is_pool_step step = true

-- whether a job was refused for want of memory
abbrev pub is_out_of_memory : Act → Bool
is_out_of_memory (Refused Memory) = true
is_out_of_memory _ = false
