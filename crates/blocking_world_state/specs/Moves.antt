-- The moves of a world: each step is one of them, which has at most one call of the crew and says
-- what becomes of a row, a task and an owner.
use Rattle.std.specs.Prelude.{◌≡◌, ℕ, Bool, true, false, ◌-◌, List, [], ◌∷◌, ◌++◌, length}
use Rattle.std.specs.Prelude.{slice_get, slice_set, Option, Some, None, is_some, Result, Ok, Err}
use Rattle.blocking_world_pool.specs.Moves as crew
use Rattle.blocking_world_pool.specs.Moves.{next_start, nothing, NeverAsked}
use Rattle.blocking_world_pool.specs.declared.hand.TurnStage.TheVariants as stage
use Rattle.blocking_world_holders.specs.OwnerSteps as owners
use Rattle.blocking_world_holders.specs.Owners.{Owner, Did, did, may_ask, new_job_of, new_owner}
use Rattle.blocking_world_holders.specs.Owners.{next_of, note_at, number_of, owner_after_delivery}
use Rattle.blocking_world_holders.specs.Owners.{rests}
use Rattle.blocking_world_holders.specs.declared.owner.OwnerNext.{OwnerNext}
use Rattle.blocking_world_holders.specs.declared.owner.OwnerNext.TheVariants as next
use Rattle.blocking_world_holders.specs.Steps as tasks
use Rattle.blocking_world_holders.specs.Tasks.{Task, new_task, may_be, task_act}
use Rattle.blocking_world_laws.specs.Steps.{named, is_answered_action, is_turn_end}
use Rattle.blocking_world_laws.specs.declared.event.Act.{Act}
use Rattle.blocking_world_laws.specs.declared.event.Act.TheVariants.{Made, Asked, HolderDropped}
use Rattle.blocking_world_laws.specs.declared.event.Act.TheVariants.{Answered, Linked, Copied}
use Rattle.blocking_world_laws.specs.declared.event.Act.TheVariants.{CopyFailed, NoAction}
use Rattle.blocking_world_laws.specs.declared.event.Event.{Event}
use Rattle.blocking_world_laws.specs.declared.event.Party.{Party}
use Rattle.blocking_world_laws.specs.declared.event.Party.TheVariants.{Owner as ByOwner}
use Rattle.blocking_world_laws.specs.declared.event.Party.TheVariants.{Task as ByTask, Pool}
use Rattle.blocking_world_laws.specs.declared.event.WaitEnd.{WaitEnd}
use Rattle.blocking_world_laws.specs.declared.event.WaitEnd.TheVariants.{Woken, TimedOut}
use Rattle.blocking_world_laws.specs.declared.step.HandleAnswer.{HandleAnswer}
use Rattle.blocking_world_laws.specs.declared.step.HandleCall.{HandleCall}
use Rattle.blocking_world_laws.specs.declared.step.Step.{Step}
use Rattle.blocking_world_laws.specs.declared.step.Step.TheVariants.{New, Ask, Own, DropOwner}
use Rattle.blocking_world_laws.specs.declared.step.Step.TheVariants.{Spawn, OfTask, Arrive, Take}
use Rattle.blocking_world_laws.specs.declared.step.Step.TheVariants.{Job, Io, End, Wait, Late}
use Rattle.blocking_world_laws.specs.declared.step.Step.TheVariants.{SetLimit, SetClientLimit}
use Rattle.blocking_world_laws.specs.declared.step.Step.TheVariants.{Sweep, Stray, Strike, Link}
use Rattle.blocking_world_laws.specs.declared.step.Step.TheVariants.{Copy}
use Rattle.blocking_world_laws.specs.declared.step.TaskCall.{TaskCall}
use Rattle.blocking_world_laws.specs.declared.step.TaskCall.TheVariants.{Poll, Cancel, Detach, Drop}
use Rattle.blocking_pool.specs.Jobs.{JobNumber}
use Rattle.blocking_pool.specs.declared.pool.answer.Refusal.{Refusal}
use Rattle.blocking_world_state.specs.Rows.{Done, call_row, session_row, core_after_answer}
use Rattle.blocking_world_state.specs.Parts.{Parts, InHand, row_of, owner_of, job_at, next_at}
use Rattle.blocking_world_state.specs.Parts.{done_by, done_in, let_go_of, let_go_by}
use Rattle.blocking_world_state.specs.declared.row.Row.{Row}

-- What a step does to the parts: one act of an owner, of a task or of a worker's job, or what the
-- crew does alone.
pub data Move : Type 0 where
  -- the step has no action
  Idles : Step → Move
  -- an owner of a client is made, whose pipes hold so many bytes
  Makes : ℕ → ℕ → Move
  -- by this step a poll of owner h begins, and asks for this
  Asks : Step → ℕ → HandleCall → Owner → Move
  -- the poll of owner h does this, which asks no pool
  Owns : ℕ → Owner → Did → Move
  -- the poll of owner h begins a session, by what the pool answers
  Lends : ℕ → Owner → Result JobNumber Refusal → Move
  -- the poll of owner h delivers its note
  Delivers : ℕ → Owner → JobNumber → Move
  -- owner h is dropped
  IsDropped : ℕ → Owner → Move
  -- a new call of a client, by what the pool answers
  Begins : ℕ → Result JobNumber Refusal → Move
  -- task k is called
  Calls : ℕ → TaskCall → Task → Move
  -- the job in the hand of worker v does this
  Works : ℕ → InHand → Done → Move
  -- the job in the hand of worker v is answered so
  IsAnswered : ℕ → InHand → HandleAnswer → Move
  -- the job in the hand of worker v waits, and its turn ends
  Parks : ℕ → InHand → Move
  -- the crew alone is called
  Passes : crew.Call → Move
  -- the job s, of this row, is woken by nobody in particular
  IsWoken : ℕ → Row → Move
  -- the job s, of this row, is cancelled in the pool
  IsStruck : ℕ → Row → Move
  -- by this step this is told of this party, and nothing becomes of the parts
  Notes : Step → Party → Act → Move

-- ---- which step it is

-- a wait, by how it ended
abbrev pub wait_step : WaitEnd → ℕ → Step
wait_step Woken v = Wait v
wait_step TimedOut v = Late v

-- the step that is a call of the crew alone; no other call of it is one
abbrev pub step_by : crew.Call → Step
step_by crew.Arrive = Arrive
step_by (crew.Take v) = Take v
step_by (crew.End v) = End v
step_by (crew.Wait v end) = wait_step end v
step_by (crew.SetLimit n) = SetLimit n
step_by (crew.SetClientLimit limit) = SetClientLimit limit
step_by _ = Sweep

-- the step of a move
abbrev pub step_of : Move → Step
step_of (Idles step) = step
step_of (Makes capacity client) = New capacity client
step_of (Asks step h call owner) = step
step_of (Owns h owner done) = Own h
step_of (Lends h owner added) = Own h
step_of (Delivers h owner number) = Own h
step_of (IsDropped h owner) = DropOwner h
step_of (Begins client added) = Spawn client
step_of (Calls k call task) = OfTask k call
step_of (Works v job done) = Job v
step_of (IsAnswered v job answer) = Io v answer
step_of (Parks v job) = End v
step_of (Passes call) = step_by call
step_of (IsWoken s row) = Stray s
step_of (IsStruck s row) = Strike s
step_of (Notes step who act) = step

-- ---- the call of the crew

-- a task that is cancelled or dropped lets go of its job
abbrev pub task_call : ℕ → TaskCall → Task → crew.Call
task_call k Poll task = crew.Tell (ByTask k) (task_act Poll task)
task_call k Cancel task = crew.LetGo (ByTask k) (task_act Cancel task) (Some task.number)
task_call k Detach task = crew.Tell (ByTask k) (task_act Detach task)
task_call k Drop task = crew.LetGo (ByTask k) (task_act Drop task) (Some task.number)

-- the call of the crew that a move makes; an idle one makes none. The job of a session is of its
-- owner's client. The ticket of a job that parks bears a mark where its owner was dropped.
abbrev pub call_of : Parts → Move → crew.Call
call_of w (Idles step) = crew.Sweep
call_of w (Makes capacity client) =
    crew.Tell (ByOwner (length w.owners)) (Made (length w.owners) capacity)
call_of w (Asks step h call owner) = crew.Tell (ByOwner h) (Asked call)
call_of w (Owns h owner done) = crew.Tell (ByOwner h) done.act
call_of w (Lends h owner added) = crew.Add (ByOwner h) owner.client added
call_of w (Delivers h owner number) = crew.Wake (ByOwner h) number
call_of w (IsDropped h owner) = crew.LetGo (ByOwner h) HolderDropped (number_of owner)
call_of w (Begins client added) = crew.Add Pool client added
call_of w (Calls k call task) = task_call k call task
call_of w (Works v job done) = crew.Work v done.act
call_of w (IsAnswered v job answer) = crew.Work v (Answered answer)
call_of w (Parks v job) = crew.Park v (record { is_marked = let_go_of w job.row.core })
call_of w (Passes call) = call
call_of w (IsWoken s row) = crew.Wake Pool row.number
call_of w (IsStruck s row) = crew.Cancel Pool row.number
call_of w (Notes step who act) = crew.Tell who act

-- ---- what it leaves

-- a new job gets the next row where it is accepted
abbrev pub rows_after_add : List Row → (JobNumber → Row) → Result JobNumber Refusal → List Row
rows_after_add rows new (Ok number) = rows ++ new number ∷ []
rows_after_add rows new (Err why) = rows

-- and a call its task
abbrev pub tasks_after_add : List Task → Result JobNumber Refusal → List Task
tasks_after_add tasks (Ok number) = tasks ++ new_task number ∷ []
tasks_after_add tasks (Err why) = tasks

-- what the pool answers to an owner, as a step of it
abbrev pub lent_step : Result JobNumber Refusal → owners.OwnerStep
lent_step (Ok number) = owners.Begins number
lent_step (Err why) = owners.IsRefused why

-- the rows after a move
abbrev pub rows_after : Parts → Move → List Row
rows_after w (Lends h owner added) =
    rows_after_add w.rows (λ number. session_row number h (new_job_of owner)) added
rows_after w (Begins client added) =
    rows_after_add w.rows (λ number. call_row number (length w.tasks)) added
rows_after w (Works v job done) =
    slice_set w.rows (job.held.turn.serial - 1) (record job.row { core = done.core })
rows_after w (IsAnswered v job answer) = slice_set w.rows (job.held.turn.serial - 1)
    (record job.row { core = core_after_answer answer job.row.core })
rows_after w move = w.rows

-- the tasks after a move
abbrev pub tasks_after : Parts → Move → List Task
tasks_after w (Begins client added) = tasks_after_add w.tasks added
tasks_after w (Calls k call task) =
    slice_set w.tasks k (tasks.task_after (tasks.IsCalled call) task)
tasks_after w (Works v job done) = done.tasks
tasks_after w move = w.tasks

-- the owners after a move
abbrev pub owners_after : Parts → Move → List Owner
owners_after w (Makes capacity client) = w.owners ++ new_owner capacity client ∷ []
owners_after w (Asks step h call owner) =
    slice_set w.owners h (owners.owner_after (owners.IsAsked call) owner)
owners_after w (Owns h owner done) = slice_set w.owners h done.owner
owners_after w (Lends h owner added) =
    slice_set w.owners h (owners.owner_after (lent_step added) owner)
owners_after w (Delivers h owner number) = slice_set w.owners h (owner_after_delivery owner)
owners_after w (IsDropped h owner) =
    slice_set w.owners h (owners.owner_after owners.IsDropped owner)
owners_after w (Works v job done) = done.owners
owners_after w move = w.owners

-- ---- which steps have an action

-- whether a task is there and may be called so
abbrev pub may_call_in : Option Task → TaskCall → Bool
may_call_in None call = false
may_call_in (Some task) call = may_be task.stage call

-- whether an owner is there and rests
abbrev pub rests_in : Option Owner → Bool
rests_in None = false
rests_in (Some owner) = rests owner

-- whether an owner is there and may be asked for this
abbrev pub may_ask_in : Option Owner → HandleCall → Bool
may_ask_in None call = false
may_ask_in (Some owner) call = may_ask owner call

-- whether a poll of an owner has something to do; one that looks for a handle that its job gave up
-- finds nothing, ever
abbrev pub may_own : OwnerNext → Option Did → Bool
may_own next.Begins finds = true
may_own next.Delivers finds = true
may_own (next.Acts count) finds = is_some finds
may_own next.Rests finds = false

-- whether there is such an owner, and its poll has an action
abbrev pub may_own_in : Option Owner → Bool
may_own_in None = false
may_own_in (Some owner) = may_own (next_of owner) (did owner)

-- Whether a step has an action, where no owner is lent to a copier. Those of copiers have none
-- here.
abbrev pub has_action_in : Parts → Step → Bool
has_action_in w (New capacity client) = true
has_action_in w (Ask h call) = may_ask_in (slice_get w.owners h) call
has_action_in w (Own h) = may_own_in (slice_get w.owners h)
has_action_in w (DropOwner h) = rests_in (slice_get w.owners h)
has_action_in w (Spawn client) = true
has_action_in w (OfTask k call) = may_call_in (slice_get w.tasks k) call
has_action_in w Arrive = crew.has_action w.crew crew.Arrive
has_action_in w (Take v) = crew.has_action w.crew (crew.Take v)
has_action_in w (Job v) = is_some (done_in w (job_at w v))
has_action_in w (Io v answer) = is_answered_action (next_at w v) answer
has_action_in w (End v) = is_turn_end (next_at w v)
has_action_in w (Wait v) = crew.has_action w.crew (crew.Wait v Woken)
has_action_in w (Late v) = crew.has_action w.crew (crew.Wait v TimedOut)
has_action_in w (SetLimit n) = crew.has_action w.crew (crew.SetLimit n)
has_action_in w (SetClientLimit limit) = crew.has_action w.crew (crew.SetClientLimit limit)
has_action_in w Sweep = true
has_action_in w (Stray s) = is_some (row_of w.rows s)
has_action_in w (Strike s) = let_go_by w (row_of w.rows s)
has_action_in w (Link a b n) = false
has_action_in w (Copy k) = false

-- ---- which moves there may be

-- whether a call of the crew is a step by itself
abbrev pub is_pass : crew.Call → Bool
is_pass crew.Arrive = true
is_pass (crew.Take v) = true
is_pass (crew.End v) = true
is_pass (crew.Wait v end) = true
is_pass (crew.SetLimit n) = true
is_pass (crew.SetClientLimit limit) = true
is_pass crew.Sweep = true
is_pass call = false

-- where a turn ends, nothing is left to do, and its job doesn't wait: one that waits parks
abbrev pub IsDue : Parts → crew.Call → Type 0
IsDue w (crew.End v) =
    (is_turn_end (next_at w v) ≡ true) × (crew.has_action w.crew (crew.End v) ≡ true)
IsDue w call = Unit {0}

-- owner h is there
abbrev pub IsThere : Parts → ℕ → Owner → Type 0
IsThere w h owner = slice_get w.owners h ≡ Some owner

-- by this step owner h is asked for this: by its own, or by that of a copier
abbrev pub AsksBy : Step → ℕ → HandleCall → Type 0
AsksBy (Ask g other) h call = (g ≡ h) × (other ≡ call)
AsksBy (Copy k) h call = Unit {0}
AsksBy step h call = ⊥

-- what may be told of a party that is nothing to the parts: nothing, of whomever; and of the pool
-- what a copier does
abbrev pub IsNote : Party → Act → Type 0
IsNote who NoAction = Unit {0}
IsNote Pool (Linked k) = Unit {0}
IsNote Pool (Copied n) = Unit {0}
IsNote Pool (CopyFailed side) = Unit {0}
IsNote who act = ⊥

-- Whether a move may be made: whom it names is there, and may do so.
abbrev pub May : Parts → Move → Type 0
May w (Idles step) = has_action_in w step ≡ false
May w (Makes capacity client) = Unit {0}
May w (Asks step h call owner) =
    IsThere w h owner × ((may_ask owner call ≡ true) × AsksBy step h call)
May w (Owns h owner done) = IsThere w h owner × (did owner ≡ Some done)
May w (Lends h owner added) = IsThere w h owner × (next_of owner ≡ next.Begins)
May w (Delivers h owner number) = IsThere w h owner × (note_at owner.stage ≡ Some number)
May w (IsDropped h owner) = IsThere w h owner × (rests owner ≡ true)
May w (Begins client added) = Unit {0}
May w (Calls k call task) = (slice_get w.tasks k ≡ Some task) × (may_be task.stage call ≡ true)
May w (Works v job done) = (job_at w v ≡ Some job) × (done_by w job ≡ Some done)
May w (IsAnswered v job answer) =
    (job_at w v ≡ Some job) × (is_answered_action (next_at w v) answer ≡ true)
May w (Parks v job) = (job_at w v ≡ Some job) × (job.held.stage ≡ stage.Waits)
May w (Passes call) = (is_pass call ≡ true) × IsDue w call
May w (IsWoken s row) = row_of w.rows s ≡ Some row
May w (IsStruck s row) = (row_of w.rows s ≡ Some row) × (let_go_of w row.core ≡ true)
May w (Notes step who act) = IsNote who act

-- what the crew does, and is seen to do
abbrev pub CrewMoves : (ℕ → Bool → Type 0) → Move → Parts → Event → Parts → Type 0
CrewMoves may_answer (Idles step) w e new =
    (e ≡ nothing (named step) (next_start w.crew)) × (new.crew ≡ w.crew)
CrewMoves may_answer move w e new = crew.Moves may_answer (call_of w move) w.crew e new.crew

-- whether a move is a step of its own: not one that a copier takes, nor one that only tells
-- something
abbrev pub is_own_step : Move → Bool
is_own_step (Asks (Copy k) h call owner) = false
is_own_step (Notes step who act) = false
is_own_step move = true

-- A step is a move that there may be; its event is the crew's.
pub record Moves (may_answer : ℕ → Bool → Type 0) (step : Step) (w : Parts) (e : Event)
    (new : Parts) : Type 0 where
  pub move : Move
  pub its_own : is_own_step move ≡ true
  pub step_is : step ≡ step_of move
  pub may : May w move
  pub crew : CrewMoves may_answer move w e new
  pub rows_are : new.rows ≡ rows_after w move
  pub tasks_are : new.tasks ≡ tasks_after w move
  pub owners_are : new.owners ≡ owners_after w move

-- What a copier's step does to the parts, or what is told without them: a move that there may be,
-- which is seen as this act of this party, and of no job.
pub record CopierMoves (step : Step) (who : Party) (act : Act) (w : Parts) (e : Event)
    (new : Parts) : Type 0 where
  pub move : Move
  pub step_is : step ≡ step_of move
  pub may : May w move
  pub crew : CrewMoves NeverAsked move w e new
  pub rows_are : new.rows ≡ rows_after w move
  pub tasks_are : new.tasks ≡ tasks_after w move
  pub owners_are : new.owners ≡ owners_after w move
  pub by : e.party ≡ who
  pub act_is : e.act ≡ act
  pub jobless : e.job ≡ None
  pub ownerless : e.owner ≡ None

-- A step as the world tells it: whose owner's job its event is of stands in the rows.
pub record Steps (may_answer : ℕ → Bool → Type 0) (step : Step) (w : Parts) (e : Event)
    (new : Parts) : Type 0 where
  pub event : Event
  pub moves : Moves may_answer step w event new
  pub owned : e ≡ record event { owner = owner_of new.rows event.job }
