-- How the parts of a world hang together with what was seen.
use Rattle.std.specs.Prelude.{◌≡◌, ◌||◌, ◌&&◌, ◌⊎◌, ℕ, Bool, not, true, false, List, length}
use Rattle.std.specs.Prelude.{slice_get, Option, Some, None}
use Rattle.blocking_world_pool.specs.Crews.{hand_at}
use Rattle.blocking_world_pool.specs.Ties.{CrewHolds, Holding, IsNumberOf, Served}
use Rattle.blocking_world_pool.specs.declared.hand.Hand.TheVariants.{Holds}
use Rattle.blocking_world_pool.specs.declared.hand.JobInHand.{JobInHand}
use Rattle.blocking_world_pool.specs.declared.hand.TurnStage.{TurnStage}
use Rattle.blocking_world_pool.specs.declared.hand.TurnStage.TheVariants as stage
use Rattle.blocking_world_holders.specs.Calls.{RanAs}
use Rattle.blocking_world_holders.specs.OwnerTies.{Owned}
use Rattle.blocking_world_holders.specs.Owners.{Owner, note_at, number_of}
use Rattle.blocking_world_holders.specs.SessionJobs.{JobAs}
use Rattle.blocking_world_holders.specs.Sessions.{Session}
use Rattle.blocking_world_holders.specs.Tasks.{Task}
use Rattle.blocking_world_holders.specs.Ties.{Tasked}
use Rattle.blocking_world_laws.specs.JobTable.{Kind, WakeHolder, Over, next_of_job, next_but_wake}
use Rattle.blocking_world_laws.specs.JobTable.{has_finished, has_given_up}
use Rattle.blocking_world_laws.specs.Jobs.{accepted_jobs, client_of_owner, holder, standing}
use Rattle.blocking_world_laws.specs.Jobs.{is_parked, is_running, is_woken, is_to_drop, is_marked}
use Rattle.blocking_world_laws.specs.Jobs.{has_ended}
use Rattle.blocking_world_laws.specs.Legal.{PoolLaw}
use Rattle.blocking_world_laws.specs.Lent.{copiers, has_owner}
use Rattle.blocking_world_laws.specs.OwnerLaws.{OwnerLaws}
use Rattle.blocking_world_laws.specs.OwnerWakes.{NoLostOwnerWake}
use Rattle.blocking_world_laws.specs.Served.{IsServed}
use Rattle.blocking_world_laws.specs.Staffed.{IsStaffedAsSeen}
use Rattle.blocking_world_laws.specs.TaskLaws.{TaskLaws}
use Rattle.blocking_world_laws.specs.Wakes.{NoLostWake}
use Rattle.blocking_world_laws.specs.Seen.{AtEveryBeginning, EachMayFollow, events, acts_of, cut}
use Rattle.blocking_world_laws.specs.Seen.{task_cut, is_this}
use Rattle.blocking_world_laws.specs.Steps.{may_cancel, kind_by}
use Rattle.blocking_world_laws.specs.Turns.{Turn, GoesOn, IsWaiting, MustGiveUp, HasGivenUp, turn}
use Rattle.blocking_world_laws.specs.declared.event.Act.{Act}
use Rattle.blocking_world_laws.specs.declared.event.Event.{Event}
use Rattle.blocking_world_laws.specs.declared.event.Moment.{Moment}
use Rattle.blocking_world_laws.specs.declared.event.Party.TheVariants.{Owner as ByOwner}
use Rattle.blocking_world_laws.specs.declared.event.Party.TheVariants.{Task as ByTask}
use Rattle.blocking_world_laws.specs.declared.step.Step.{Step}
use Rattle.blocking_world_laws.specs.declared.step.Step.TheVariants.{Ask, DropOwner, Link, Copy}
use Rattle.blocking_pool.specs.Jobs.{JobNumber}
use Rattle.blocking_pool.specs.declared.pool.standing.Standing.{Standing}
use Rattle.blocking_pool.specs.declared.pool.standing.Standing.TheVariants.{Queued, Running, Parked}
use Rattle.blocking_pool.specs.declared.pool.standing.Standing.TheVariants.{Done, Dropped}
use Rattle.blocking_world_state.specs.Rows.{kind_of, party_of, is_at_first}
use Rattle.blocking_world_state.specs.Parts.{Parts, row_of, owner_of}
use Rattle.blocking_world_state.specs.declared.row.Core.{Core}
use Rattle.blocking_world_state.specs.declared.row.Core.TheVariants as core
use Rattle.blocking_world_state.specs.declared.row.Row.{Row}

-- ---- one job

-- A job that hasn't given up is as far as its core says.
abbrev pub CoreAs : Core → List Act → Type 0
CoreAs (core.Call k call) acts = has_given_up acts ≡ false → RanAs call.next call.number acts
CoreAs (core.Session h job) acts = has_given_up acts ≡ false → JobAs job acts

-- What a job has done, by how it stands and where it is in its turn: one that is queued or parked,
-- that waits, or that has to give up, is at its first action and hasn't given up; one whose turn
-- goes on hasn't given up; and one that is over has put its result or given up.
abbrev pub PlaceAs : Option Standing → Turn → Bool → List Act → Type 0
PlaceAs None at first acts = ⊥
PlaceAs (Some Queued) at first acts = (first ≡ true) × (has_given_up acts ≡ false)
PlaceAs (Some Running) GoesOn first acts = has_given_up acts ≡ false
PlaceAs (Some Running) IsWaiting first acts = (first ≡ true) × (has_given_up acts ≡ false)
PlaceAs (Some Running) MustGiveUp first acts = (first ≡ true) × (has_given_up acts ≡ false)
PlaceAs (Some Running) HasGivenUp first acts = has_given_up acts ≡ true
PlaceAs (Some Parked) at first acts = (first ≡ true) × (has_given_up acts ≡ false)
PlaceAs (Some Done) at first acts = has_finished acts || has_given_up acts ≡ true
PlaceAs (Some Dropped) at first acts = has_finished acts || has_given_up acts ≡ true

-- A row is that of the job of its place.
pub record RowAs (w : Parts) (past : List Moment) (s : ℕ) (row : Row) : Type 0 where
  pub serial : row.number.serial ≡ s
  pub number : IsNumberOf w.crew.pool row.number
  pub held_by : holder past s ≡ Some (party_of row.core)
  pub kind_is : kind_by (holder past s) past s ≡ kind_of row.core
  pub core : CoreAs row.core (acts_of s (events past))
  pub place :
      PlaceAs (standing past s) (turn past s) (is_at_first row.core) (acts_of s (events past))

-- a job that gave up, of whatever kind, has a waker to call, or nothing
abbrev pub GaveAs : TurnStage → List Act → Type 0
GaveAs stage.MustWake acts = (kind : Kind)
    → (next_of_job kind acts ≡ WakeHolder) × (next_but_wake kind acts ≡ Over)
GaveAs stage.GaveUp acts = (kind : Kind) → next_of_job kind acts ≡ Over
GaveAs at acts = Unit {0}

-- ---- the rows

-- the job of this number has its row, which says that it is this party's
pub record HasRow (w : Parts) (number : JobNumber) (of : Core → Type 0) : Type 0 where
  pub row : Row
  pub found : row_of w.rows number.serial ≡ Some row
  pub same : row.number ≡ number
  pub its : of row.core

-- Each job has its row, which says what it is for.
pub record Rowed (w : Parts) (past : List Moment) : Type 0 where
  pub count : length w.rows ≡ length (accepted_jobs past)
  pub each : (s : ℕ) (row : Row) → row_of w.rows s ≡ Some row → RowAs w past s row
  -- each task is that of a row, and so is each owner's last session
  pub of_task : (k : ℕ) (task : Task) → slice_get w.tasks k ≡ Some task
      → HasRow w task.number (λ c. party_of c ≡ ByTask k)
  pub of_owner : (h : ℕ) (owner : Owner) (number : JobNumber) → slice_get w.owners h ≡ Some owner
      → number_of owner ≡ Some number
      → HasRow w number (λ c. party_of c ≡ ByOwner h)
  pub in_hand : (v : ℕ) (held : JobInHand) → hand_at w.crew.hands v ≡ Holds held
      → GaveAs held.stage (acts_of held.turn.serial (events past))

-- ---- who let a job go

-- Only a job that was let go is marked or cancelled; and one that was let go and isn't over is
-- marked.
pub record Marked (past : List Moment) : Type 0 where
  pub let_go : (s : ℕ) → is_to_drop past s ≡ true → may_cancel (holder past s) past ≡ true
  pub marked : (s : ℕ) → may_cancel (holder past s) past ≡ true → has_ended past s ≡ false
      → is_marked past s ≡ true

-- ---- who waits for whom

-- whether a job waits, by its turn
abbrev pub is_waiting_in : Turn → Bool
is_waiting_in IsWaiting = true
is_waiting_in _ = false

-- whether a job is left to its owner: it is parked, or waits and has met no wake since its turn
-- began
abbrev pub is_left : List Moment → ℕ → Bool
is_left past s = is_parked (standing past s)
    || (is_running (standing past s) && is_waiting_in (turn past s) && not (is_woken past s))

-- the job that is seated in the pipe of a session
abbrev pub seated_in : Option Session → Option JobNumber
seated_in None = None
seated_in (Some session) = session.pipe.job_seat

-- whether it is the number of job s
abbrev pub is_number : Option JobNumber → ℕ → Bool
is_number None s = false
is_number (Some number) s = is_this s (Some number.serial)

-- A job that is left to its owner is seated in the pipe of the owner's session; or the owner has
-- its note to deliver.
abbrev pub IsMet : Owner → ℕ → Type 0
IsMet owner s =
    (is_number (seated_in owner.session) s ≡ true) ⊎ (is_number (note_at owner.stage) s ≡ true)

-- Each owner meets the jobs that are left to it.
abbrev pub Crossed : Parts → List Moment → Type 0
Crossed w past =
    (h s : ℕ) (owner : Owner) → slice_get w.owners h ≡ Some owner → holder past s ≡ Some (ByOwner h)
    → is_left past s ≡ true → IsMet owner s

-- ---- what is seen of a step

-- the moment of a step: the crew's event, with the owner whose job it is of
abbrev pub moment : Parts → Step → Event → Moment
moment new step e = record { step = step; event = record e { owner = owner_of new.rows e.job } }

-- ---- clients

-- each owner is of the client that it was made for
abbrev pub Assigned : List Owner → List Moment → Type 0
Assigned owners past = (h : ℕ) (owner : Owner) → slice_get owners h ≡ Some owner
    → owner.client ≡ client_of_owner past h

-- ---- all of it

-- The parts hang together with what was seen: the crew, the tasks, the owners and their clients,
-- the rows, the marks, and who waits for whom.
pub record Tied (setting : ℕ) (plan : List Bool) (w : Parts) (past : List Moment) : Type 0 where
  pub crewed : CrewHolds setting plan w.crew past
  pub tasked : Tasked w.tasks past
  pub owned : Owned w.owners past
  pub assigned : Assigned w.owners past
  pub rowed : Rowed w past
  pub marks : Marked past
  pub crossed : Crossed w past

-- What was seen keeps the laws but those of steps and of copies: parts don't know which owners are
-- lent to copiers.
pub record KeepsLaws (setting : ℕ) (plan : List Bool) (past : List Moment) : Type 0 where
  pub pool : EachMayFollow (PoolLaw setting plan) past
  pub owners : (h : ℕ) → OwnerLaws (cut h (events past))
  pub tasks : (k s : ℕ) → holder past s ≡ Some (ByTask k) → TaskLaws s (task_cut k s (events past))
  pub wakes : AtEveryBeginning NoLostWake past
  pub owner_wakes : AtEveryBeginning NoLostOwnerWake past
  pub served : AtEveryBeginning IsServed past
  pub staffed : AtEveryBeginning IsStaffedAsSeen past

-- a step isn't a copier's, and asks and drops no owner that is lent to one
abbrev pub IsFree : List Moment → Step → Type 0
IsFree past (Ask h call) = has_owner h (copiers past) ≡ false
IsFree past (DropOwner h) = has_owner h (copiers past) ≡ false
IsFree past (Link a b n) = ⊥
IsFree past (Copy k) = ⊥
IsFree past step = Unit {0}

-- What all parts keep: they hang together with what was seen, and what was seen keeps the laws.
pub record IsLawful (setting : ℕ) (plan : List Bool) (w : Parts) (past : List Moment) : Type 0 where
  pub tied : Tied setting plan w past
  pub legal : KeepsLaws setting plan past
  pub served : Served setting past
  pub holding : Holding w.crew past
