-- What the job in a hand does to its task or its owner where it acts, and how that is seen.
use Rattle.std.proofs.Common.{◌≡◌, ℕ, ◌-◌, List, [], Bool, true, false, refl, sym, ap, ◌∙◌, subst}
use Rattle.std.proofs.Common.{Option, Some, slice_get, slice_set, arith}
use Rattle.blocking_world_state.proofs.Types.{Running, Act, Answered, Event}
use Rattle.blocking_world_state.proofs.Types.{Moment, Party, HandleAnswer}
use Rattle.blocking_world_state.proofs.Types.{TurnStage, SessionJob, Core, Row}
use Rattle.blocking_world_state.proofs.Words.{has_given_up, holder, events, acts_of, next_in_turn}
use Rattle.blocking_world_state.proofs.Words.{is_answered_action, may_cancel, GoesOn, may_act}
use Rattle.blocking_world_state.proofs.Words.{turn_of, OwnerStep, Owner, TaskStep, Task, Parts}
use Rattle.blocking_world_state.proofs.Words.{owner_of, InHand, next_at, owner_in, action_of}
use Rattle.blocking_world_state.proofs.Words.{is_at_first, call_step, call_after, session_step}
use Rattle.blocking_world_state.proofs.Words.{job_after, Done, session_seen, session_done, done}
use Rattle.blocking_world_state.proofs.Words.{PlaceAs, Tied}
use Rattle.blocking_world_pool.specs.declared.hand.TurnStage.TheVariants as stage
use Rattle.blocking_world_holders.specs.Calls as calls
use Rattle.blocking_world_holders.specs.OwnerSteps as owners
use Rattle.blocking_world_holders.specs.Steps as tasks
use Rattle.blocking_world_state.specs.Rows.{next_of}
use Rattle.blocking_world_state.specs.declared.row.Core.TheVariants as core
use Rattle.blocking_world_holders.proofs.owners.Events.{IsPlain}
use Rattle.blocking_world_state.proofs.moves.Lookups.{row_set}
use Rattle.blocking_world_state.proofs.past.Drops.{must_drop}
use Rattle.blocking_world_state.proofs.rows.JobActs.{own_act}
use Rattle.blocking_world_state.proofs.ties.CrewEvents.{Told}
use Rattle.blocking_world_state.proofs.ties.Events.{answer_fits}
use Rattle.blocking_world_state.proofs.ties.Jobs.{IsHere, job_place, next_here}

-- ---- what it does

-- The job of a call took this step of its task, and left the owners as they were.
pub record CallActs (w : Parts) (at : TurnStage) (k : ℕ) (call : calls.Progress) (did : Done) :
    Type 0 where
  pub step : TaskStep
  pub task : Task
  pub next : call_step at call ≡ Some step
  pub there : slice_get w.tasks k ≡ Some task
  pub act_is : did.act ≡ tasks.act_of step task
  pub core_is : did.core ≡ core.Call k (call_after step at task call)
  pub tasks_are : did.tasks ≡ slice_set w.tasks k (tasks.task_after step task)
  pub owners_are : did.owners ≡ w.owners

-- The job of a session took this step of its owner, and left the tasks as they were.
pub record SessionActs (w : Parts) (at : TurnStage) (h : ℕ) (read : SessionJob) (did : Done) :
    Type 0 where
  pub step : OwnerStep
  pub owner : Owner
  pub next : session_step at read ≡ Some step
  pub there : slice_get w.owners h ≡ Some owner
  pub act_is : owners.act_of step owner ≡ Some did.act
  pub core_is : did.core ≡ core.Session h (job_after step owner read)
  pub tasks_are : did.tasks ≡ w.tasks
  pub owners_are : did.owners ≡ slice_set w.owners h (owners.owner_after step owner)

pub call_acts : (w : Parts) (at : TurnStage) (k : ℕ) (call : calls.Progress) (did : Done)
    → done at (core.Call k call) w.tasks w.owners ≡ Some did → CallActs w at k call did
call_acts w at k call did does = grind arith

pub session_acts : (w : Parts) (at : TurnStage) (h : ℕ) (read : SessionJob) (did : Done)
    → done at (core.Session h read) w.tasks w.owners ≡ Some did → SessionActs w at h read did
session_acts w at h read did does = by (slice_get w.owners h) (session_step at read) refl refl does
  where
    seen : (owner : Owner) (step : OwnerStep) (act : Option Act) → slice_get w.owners h ≡ Some owner
        → session_step at read ≡ Some step → owners.act_of step owner ≡ act
        → session_seen h read w.tasks w.owners owner step act ≡ Some did
        → SessionActs w at h read did
    seen owner step act found next is does = grind arith

    by : (found : Option Owner) (step : Option OwnerStep) → slice_get w.owners h ≡ found
        → session_step at read ≡ step → session_done h read w.tasks w.owners found step ≡ Some did
        → SessionActs w at h read did
    by found step o next does = grind arith

-- ---- how that is seen

-- what a job may do where it is in its turn is seen, and no pool decides it; it makes no owner, and
-- no job is accepted
pub may_plain : (at : TurnStage) (act : Act) → may_act at act ≡ true → IsPlain [] act
may_plain at act may = let own = own_act at act may in
    record { pool = own.pool; nothing = own.something; made = own.made; new = own.accepted }

-- the event of a moment: the crew's, with the owner whose job it is of
abbrev pub seen_in : Parts → Event → Event
seen_in new e = record e { owner = owner_of new.rows e.job }

pub seen_is : (new : Parts) (who : Party) (job owner : Option ℕ) (act : Act) (e : Event)
    → Told who job act e → owner_of new.rows job ≡ owner
    → seen_in new e ≡ record {
      party = who;
      owner = owner;
      job = job;
      act = act;
      first = e.first;
      started = e.started;
      start_refused = e.start_refused;
    }
seen_is new who job owner act e told whose = grind arith

-- for the job in a hand, that is the owner whom its row tells
pub its_owner : (w : Parts) (v : ℕ) (job : InHand) (new : Core) (rows : List Row) → IsHere w v job
    → rows ≡ slice_set w.rows (job.held.turn.serial - 1) (record job.row { core = new })
    → owner_of rows (Some job.held.turn.serial) ≡ owner_in new
its_owner w v job new rows here is = grind (arith, row_set)

-- ---- a job that has to give up

-- its holder let it go
pub let_go_here : (setting : ℕ) (plan : List Bool) (w : Parts) (past : List Moment)
    → Tied setting plan w past → (v : ℕ) (job : InHand) → IsHere w v job
    → job.held.stage ≡ stage.MustGiveUp
    → may_cancel (holder past job.held.turn.serial) past ≡ true
let_go_here setting plan w past t v job here must = grind (arith, must_drop)

-- ---- a job that is answered

-- it hasn't given up, it asks for such an answer, and its turn goes on
pub asks_here : (setting : ℕ) (plan : List Bool) (w : Parts) (past : List Moment)
    → Tied setting plan w past → (v : ℕ) (job : InHand) (answer : HandleAnswer) → IsHere w v job
    → is_answered_action (next_at w v) answer ≡ true
    → (has_given_up (acts_of job.held.turn.serial (events past)) ≡ false)
    × (is_answered_action (next_in_turn GoesOn (action_of job.row.core)) answer ≡ true)
    × (may_act job.held.stage (Answered answer) ≡ true)
asks_here setting plan w past t v job answer here may =
    let asks = sym (ap (λ n. is_answered_action n answer) (next_here w v job here)) ∙ may in
    let runs = answer_fits job.held.stage job.row.core answer asks in (
      subst (λ at. PlaceAs (Some Running) (turn_of at)
          (is_at_first job.row.core) (acts_of job.held.turn.serial (events past))) runs
          (job_place setting plan w past t v job here),
      ap (λ at. is_answered_action (next_of at job.row.core) answer) (sym runs) ∙ asks,
      ap (λ at. may_act at (Answered answer)) runs,
    )
