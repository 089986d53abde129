-- Each move keeps the tie of the tasks, and their laws: it is an event of none, makes a new one, or
-- is a step of one.
use Rattle.std.proofs.Common.{◌≡◌, ℕ, ◌==◌, ◌-◌, List, [], ◌∷◌, length, Bool, true, false, refl}
use Rattle.std.proofs.Common.{sym, ap, ◌∙◌, subst, Some, None, not, slice_get, slice_set, Result}
use Rattle.std.proofs.Common.{Ok, Err, arith}
use Rattle.std.proofs.lemmas.Bool.{and_right, eqb-true}
use Rattle.blocking_world_state.proofs.Types.{Action, Refusal, Running, Act, Answered, Event}
use Rattle.blocking_world_state.proofs.Types.{Moment, ByOwner, Pool, ByTask}
use Rattle.blocking_world_state.proofs.Types.{Worker, HandleAnswer, Number}
use Rattle.blocking_world_state.proofs.Types.{Step, TaskCall, TurnStage, Core}
use Rattle.blocking_world_state.proofs.Words.{Growth, JobNumber, IsPlanned, has_given_up}
use Rattle.blocking_world_state.proofs.Words.{accepted_by, holder, events, is_task, is_nothing}
use Rattle.blocking_world_state.proofs.Words.{acts_of, next_in_turn, is_answered_action, may_cancel}
use Rattle.blocking_world_state.proofs.Words.{is_let_go, GoesOn, added_act, turn_of, Progress}
use Rattle.blocking_world_state.proofs.Words.{RanAs, TaskStep, task_after, by_job, IsBeside, Task}
use Rattle.blocking_world_state.proofs.Words.{may_be, has_let_go, task_act, AllLaws, TasksHold}
use Rattle.blocking_world_state.proofs.Words.{Move, Makes, Asks, Owns, Lends, Delivers, IsDropped}
use Rattle.blocking_world_state.proofs.Words.{Begins, Calls, Works, IsAnswered, step_of}
use Rattle.blocking_world_state.proofs.Words.{tasks_after_add, rows_after, tasks_after, May}
use Rattle.blocking_world_state.proofs.Words.{CrewMoves, Parts, owner_of, InHand, next_at, done_by}
use Rattle.blocking_world_state.proofs.Words.{owner_in, call_action, action_of, is_first}
use Rattle.blocking_world_state.proofs.Words.{is_at_first, call_step, Done, done, core_after_answer}
use Rattle.blocking_world_state.proofs.Words.{CoreAs, PlaceAs, GaveAs, moment, Tied}
use Rattle.blocking_core.specs.declared.job.Action.TheVariants as action
use Rattle.blocking_world_pool.specs.Moves as crew
use Rattle.blocking_world_pool.specs.declared.hand.TurnStage.TheVariants as stage
use Rattle.blocking_world_holders.specs.Steps as holders
use Rattle.blocking_world_holders.specs.Steps.{MayTake, act_of, event_by}
use Rattle.blocking_world_state.specs.declared.row.Core.TheVariants as core
use Rattle.blocking_pool.proofs.Places.{set_same}
use Rattle.blocking_world_holders.proofs.acts.Steps.{is_call}
use Rattle.blocking_world_holders.proofs.cuts.Acts.{own_cut}
use Rattle.blocking_world_holders.proofs.owners.Events.{IsPlain}
use Rattle.blocking_world_holders.proofs.ties.Holders.{accepts_no_job}
use Rattle.blocking_world_holders.proofs.ties.Tasks.{beside, born, stepped, aside_beside}
use Rattle.blocking_world_state.proofs.moves.Lookups.{there}
use Rattle.blocking_world_state.proofs.ties.CrewEvents.{Told, IsAlone, added_of, by_worker}
use Rattle.blocking_world_state.proofs.ties.Events.{SaidBy, alone, done_fits, said}
use Rattle.blocking_world_state.proofs.ties.JobSteps.{call_acts, session_acts, may_plain, seen_in}
use Rattle.blocking_world_state.proofs.ties.JobSteps.{seen_is, its_owner, let_go_here, asks_here}
use Rattle.blocking_world_state.proofs.ties.Jobs.{IsHere, job_here, its_holder, job_place}
use Rattle.blocking_world_state.proofs.ties.Jobs.{next_free, task_holds}

-- ---- what the job of a call may do

-- where it is in its turn, its next step is one that its task may take
call_may : (at : TurnStage) (call : Progress) (step : TaskStep) (task : Task) (acts : List Act)
    → call_step at call ≡ Some step → (at ≡ stage.MustGiveUp → has_let_go task.stage ≡ true)
    → (has_given_up acts ≡ false → RanAs call.next call.number acts)
    → PlaceAs (Some Running) (turn_of at) (is_first (call_action call.next)) acts → GaveAs at acts
    → MayTake step task acts
call_may at call step task acts is lets ran place gave = grind arith

-- that is no call by the task's holder
never_called : (at : TurnStage) (call : Progress) (step : TaskStep) → call_step at call ≡ Some step
    → is_call step ≡ false
never_called at call step is = grind arith

by_its_job : (step : TaskStep)
    → is_call step ≡ false → (k v s : ℕ) (act : Act) (first : ℕ) (growth : Growth)
    → event_by step k v s act first growth ≡ by_job v s act first growth
by_its_job step is k v s act first growth = grind arith

-- it is answered by a number, where it makes its call
answered_so : (next : Action) (answer : HandleAnswer)
    → is_answered_action (next_in_turn GoesOn (call_action next)) answer ≡ true
    → (next ≡ action.Call) × ((n : ℕ) × (answer ≡ Number n))
answered_so next answer is = grind arith

-- ---- what is seen where no task takes a step

module _ (past : List Moment) (new : Parts) (e : Event) where
  -- an act of an owner
  owner_beside : (h : ℕ) (act : Act) → Told (ByOwner h) None act e → IsBeside past (seen_in new e)
  owner_beside h act told = grind arith

  -- an act of the job of a reader
  reader_beside : (v s h : ℕ) (act : Act) → Told (Worker v) (Some s) act e → IsPlain [] act
      → holder past s ≡ Some (ByOwner h) → IsBeside past (seen_in new e)
  reader_beside v s h act told plain held = record {
    out = λ k. and_right (not (is_nothing e.act)) (is_task k e.party) (ap (is_task k) told.party);
    of_owner = λ t its.
        let same : (s == t) ≡ true =
        sym (by_worker v s t act e told plain.pool plain.nothing) ∙ its in
        (h, ap (holder past) (sym (eqb-true s t same)) ∙ held);
    by_owner = λ t new.
        absurd (let none = accepts_no_job e.act t (ap accepted_by told.act_is ∙ plain.new) in cc);
  }

-- ---- the tasks after it

module _ (setting : ℕ) (plan : List Bool) (w : Parts) (past : List Moment)
    (t : Tied setting plan w past) (laws : AllLaws past) (new : Parts) (at : Step) (e : Event) where
  hold : TasksHold w.tasks past
  hold = record { tied = t.tasked; laws = laws }

  stay : IsBeside past (seen_in new e) → new.tasks ≡ w.tasks
      → TasksHold new.tasks (moment new at e ∷ past)
  stay out same = subst (λ row. TasksHold row (moment new at e ∷ past)) (sym same)
      (beside w.tasks past (moment new at e) out hold)

  stay_alone : IsAlone e → new.tasks ≡ w.tasks → TasksHold new.tasks (moment new at e ∷ past)
  stay_alone none same = stay
      (aside_beside past (seen_in new e) (record { out = none.out; none_new = none.none_new })) same

  -- a new call
  begun : (client : ℕ) (added : Result JobNumber Refusal)
      → crew.Moves (IsPlanned plan) (crew.Add Pool client added) w.crew e new.crew
      → Told Pool None (added_act added) e → new.tasks ≡ tasks_after_add w.tasks added
      → TasksHold new.tasks (moment new at e ∷ past)
  begun client (Ok number) does told tasks =
      let free = ap (holder past) (added_of plan Pool client w.crew new.crew e number does).0
      ∙ next_free setting plan w past t in
      subst (λ row. TasksHold row (moment new at e ∷ past)) (sym tasks)
      (born w.tasks past (moment new at e) number
      (record { party_is = told.party; act_is = told.act_is }) free hold)
  begun client (Err why) does told tasks =
      stay_alone (alone w (Begins client (Err why)) e refl told) tasks

  -- a task is called
  called : (k : ℕ) (task : Task) (call : TaskCall) → slice_get w.tasks k ≡ Some task
      → may_be task.stage call ≡ true → Told (ByTask k) None (task_act call task) e
      → new.tasks ≡ slice_set w.tasks k (task_after (holders.IsCalled call) task)
      → TasksHold new.tasks (moment new at e ∷ past)
  called k task call found may told tasks =
      stepped w.tasks new.tasks past (moment new at e)
      (record {
        step = holders.IsCalled call;
        place = k;
        job = task.number.serial;
        worker = 0;
        first = e.first;
        growth = record { started = e.started; refused = e.start_refused };
        task = task;
        held = task_holds setting plan w past t k task found;
        there = found;
        may = may;
        event_is = seen_is new (ByTask k) None None (task_act call task) e told refl;
        after_is = tasks;
      }) hold

  -- the job of a call in a hand takes a step of its task
  goes : (v : ℕ) (job : InHand) (k : ℕ) (call : Progress) (step : TaskStep) (task : Task)
      → IsHere w v job → job.row.core ≡ core.Call k call → slice_get w.tasks k ≡ Some task
      → is_call step ≡ false
      → MayTake step task (acts_of job.held.turn.serial (events past))
      → Told (Worker v) (Some job.held.turn.serial) (act_of step task) e
      → owner_of new.rows (Some job.held.turn.serial) ≡ None
      → new.tasks ≡ slice_set w.tasks k (task_after step task)
      → TasksHold new.tasks (moment new at e ∷ past)
  goes v job k call step task here is found no_call may told whose tasks =
      let s = job.held.turn.serial in
      stepped w.tasks new.tasks past (moment new at e)
      (record {
        step = step;
        place = k;
        job = s;
        worker = v;
        first = e.first;
        growth = record { started = e.started; refused = e.start_refused };
        task = task;
        held = its_holder setting plan w past t v job _ here is;
        there = found;
        may = may;
        event_is = seen_is new (Worker v) (Some s) None (act_of step task) e told whose
            ∙ sym (by_its_job step no_call k v s (act_of step task) e.first
            (record { started = e.started; refused = e.start_refused }));
        after_is = tasks;
      }) hold

  -- the task of a job that has to give up has let it go
  let_go_task : (v : ℕ) (job : InHand) (k : ℕ) (task : Task) → IsHere w v job
      → holder past job.held.turn.serial ≡ Some (ByTask k) → slice_get w.tasks k ≡ Some task
      → job.held.stage ≡ stage.MustGiveUp
      → has_let_go task.stage ≡ true
  let_go_task v job k task here held found must =
      let s = job.held.turn.serial in
      sym (t.tasked.each k s task held found).let_go
      ∙ ap is_let_go (own_cut k s (events past)) ∙ sym (ap (λ h. may_cancel h past) held)
      ∙ let_go_here setting plan w past t v job here must

  -- the job in a hand acts
  acted : (v : ℕ) (job : InHand) (did : Done) → IsHere w v job → done_by w job ≡ Some did
      → Told (Worker v) (Some job.held.turn.serial) did.act e
      → new.rows ≡ slice_set w.rows (job.held.turn.serial - 1) (record job.row { core = did.core })
      → new.tasks ≡ did.tasks → TasksHold new.tasks (moment new at e ∷ past)
  acted v job did here does told rows tasks = by job.row.core refl
    where
      by : (c : Core) → job.row.core ≡ c → TasksHold new.tasks (moment new at e ∷ past)
      by (core.Call k call) is =
          let s = job.held.turn.serial in
          let acts = acts_of s (events past) in
          let a = call_acts w job.held.stage k call did
          (ap (λ c. done job.held.stage c w.tasks w.owners) (sym is) ∙ does) in
          let held = its_holder setting plan w past t v job _ here is in
          goes v job k call a.step a.task here is a.there
          (never_called job.held.stage call a.step a.next)
          (call_may job.held.stage
          call a.step a.task acts a.next (let_go_task v job k a.task here held a.there)
          (subst (λ c. CoreAs c acts) is (t.rowed.each s job.row here.has_row).core)
          (subst (λ c. PlaceAs (Some Running) (turn_of job.held.stage) (is_at_first c) acts)
          is (job_place setting plan w past t v job here))
          (t.rowed.in_hand v job.held here.holds))
          (subst (λ act. Told (Worker v) (Some s) act e) a.act_is told) (its_owner w v job did.core
          new.rows here rows ∙ ap owner_in a.core_is) (tasks ∙ a.tasks_are)
      by (core.Session h read) is =
          let plain = may_plain job.held.stage did.act
          (done_fits did job.held.stage job.row.core w.tasks w.owners does) in
          let a = session_acts w job.held.stage h read did
          (ap (λ c. done job.held.stage c w.tasks w.owners) (sym is) ∙ does) in
          stay (reader_beside past new e v job.held.turn.serial h did.act told plain
          (its_holder setting plan w past t v job _ here is)) (tasks ∙ a.tasks_are)

  -- the job in a hand is answered
  answered : (v : ℕ) (job : InHand) (answer : HandleAnswer)
      → IsHere w v job → is_answered_action (next_at w v) answer ≡ true
      → Told (Worker v) (Some job.held.turn.serial) (Answered answer) e
      → new.rows ≡ slice_set w.rows (job.held.turn.serial - 1)
      (record job.row { core = core_after_answer answer job.row.core }) → new.tasks ≡ w.tasks
      → TasksHold new.tasks (moment new at e ∷ past)
  answered v job answer here may told rows tasks = by job.row.core refl
    where
      by : (c : Core) → job.row.core ≡ c → TasksHold new.tasks (moment new at e ∷ past)
      by (core.Call k call) is =
          let s = job.held.turn.serial in
          let acts = acts_of s (events past) in
          let asks = asks_here setting plan w past t v job answer here may in
          let fits = answered_so call.next answer
          (ap (λ c. is_answered_action (next_in_turn GoesOn (action_of c)) answer) (sym is)
          ∙ asks.1) in
          let ran : RanAs call.next call.number acts =
          subst (λ c. CoreAs c acts) is (t.rowed.each s job.row here.has_row).core asks.0 in
          let task = there w.tasks k
          (t.tasked.there k s (its_holder setting plan w past t v job _ here is)) in
          goes v job k call (holders.IsAnswered fits.1.0)
          task.0 here is task.1 refl (subst (λ next. RanAs next call.number acts) fits.0 ran)
          (subst (λ a. Told (Worker v) (Some s) (Answered a) e) fits.1.1 told)
          (its_owner w v job (core_after_answer answer job.row.core) new.rows here rows
          ∙ ap (λ c. owner_in (core_after_answer answer c)) is)
          (tasks ∙ sym (set_same w.tasks k task.0 task.1))
      by (core.Session h read) is =
          stay (reader_beside past new e v job.held.turn.serial h (Answered answer)
          told (record { pool = refl; nothing = refl; made = refl; new = refl })
          (its_holder setting plan w past t v job _ here is)) tasks

-- After each move the tasks hang together with what was seen, and have kept their laws.
pub tasks_after_move : (setting : ℕ) (plan : List Bool) (w : Parts) (past : List Moment)
    → Tied setting plan w past → AllLaws past → (move : Move) (e : Event) (new : Parts) → May w move
    → CrewMoves (IsPlanned plan) move w e new → new.rows ≡ rows_after w move
    → new.tasks ≡ tasks_after w move → TasksHold new.tasks (moment new (step_of move) e ∷ past)
tasks_after_move setting plan w past t laws move e new may does rows tasks =
    by move may does rows tasks (said plan w move e new may does)
  where
    by : (move : Move) → May w move → CrewMoves (IsPlanned plan) move w e new
        → new.rows ≡ rows_after w move → new.tasks ≡ tasks_after w move → SaidBy w move e
        → TasksHold new.tasks (moment new (step_of move) e ∷ past)
    by (Makes capacity client) may does rows tasks told = stay setting plan w past t laws new _ e
        (owner_beside past new e (length w.owners) _ told) tasks
    by (Asks step h call owner) may does rows tasks told =
        stay setting plan w past t laws new _ e (owner_beside past new e h _ told) tasks
    by (Owns h owner did) may does rows tasks told =
        stay setting plan w past t laws new _ e (owner_beside past new e h _ told) tasks
    by (Lends h owner added) may does rows tasks told =
        stay setting plan w past t laws new _ e (owner_beside past new e h _ told) tasks
    by (Delivers h owner number) may does rows tasks told =
        stay setting plan w past t laws new _ e (owner_beside past new e h _ told.1) tasks
    by (IsDropped h owner) may does rows tasks told =
        stay setting plan w past t laws new _ e (owner_beside past new e h _ told) tasks
    by (Begins client added) may does rows tasks told =
        begun setting plan w past t laws new _ e client added does told tasks
    by (Calls k call task) may does rows tasks told =
        called setting plan w past t laws new _ e k task call may.0 may.1 told tasks
    by (Works v job did) may does rows tasks told = acted setting plan w past t laws new _ e v job
        did (job_here w v job may.0) may.1 told rows tasks
    by (IsAnswered v job answer) may does rows tasks told = answered setting plan w past t laws new
        _ e v job answer (job_here w v job may.0) may.1 told rows tasks
    by move may does rows tasks told =
        stay_alone setting plan w past t laws new _ e (alone w move e refl told) tasks
