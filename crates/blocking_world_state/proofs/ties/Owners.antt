-- Each move keeps the tie of the owners, and their laws: it is an event of none, makes a new one,
-- or is a step of one.
use Rattle.std.proofs.Common.{◌≡◌, ℕ, ◌==◌, ◌-◌, List, [], ◌∷◌, length, Bool, true, false, refl}
use Rattle.std.proofs.Common.{sym, ap, ◌∙◌, subst, Some, None, ◌&&◌, not, slice_get, slice_set}
use Rattle.std.proofs.Common.{Result, Ok, Err, arith}
use Rattle.std.proofs.lemmas.Bool.{eqb-true, or_parts}
use Rattle.blocking_world_state.proofs.Types.{Refusal, Running, Act, Accepted, Answered, Asked}
use Rattle.blocking_world_state.proofs.Types.{HolderDropped, JobWoken, Made, Refused, Event, Moment}
use Rattle.blocking_world_state.proofs.Types.{ByOwner, Pool, ByTask, Worker}
use Rattle.blocking_world_state.proofs.Types.{HandleAnswer, Step, TaskCall}
use Rattle.blocking_world_state.proofs.Types.{TurnStage, SessionJob, Core}
use Rattle.blocking_world_state.proofs.Words.{Growth, JobNumber, IsPlanned, Kind, JobAction}
use Rattle.blocking_world_state.proofs.Words.{next_but_wake, is_over, has_given_up, accepted_by}
use Rattle.blocking_world_state.proofs.Words.{holder, events, is_of_pool, is_nothing, is_of_job}
use Rattle.blocking_world_state.proofs.Words.{is_by_task, acts_of, is_in_cut, cut, own, kind_of_job}
use Rattle.blocking_world_state.proofs.Words.{kind_by, next_in_turn, is_answered_action, is_making}
use Rattle.blocking_world_state.proofs.Words.{may_cancel, GoesOn, added_act, turn_of, OwnerStep}
use Rattle.blocking_world_state.proofs.Words.{act_in, delivered, act_of, owner_after, MayTake}
use Rattle.blocking_world_state.proofs.Words.{is_of_its_job, event_by, IsHeld, IsFresh, OwnersHold}
use Rattle.blocking_world_state.proofs.Words.{Owner, is_gone, JobAs, Task, task_act, Move, Makes}
use Rattle.blocking_world_state.proofs.Words.{Asks, Owns, Lends, Delivers, IsDropped, Begins, Calls}
use Rattle.blocking_world_state.proofs.Words.{Works, IsAnswered, step_of, rows_after, owners_after}
use Rattle.blocking_world_state.proofs.Words.{May, CrewMoves, Parts, owner_of, InHand, next_at}
use Rattle.blocking_world_state.proofs.Words.{done_by, is_first, is_at_first, session_step, Done}
use Rattle.blocking_world_state.proofs.Words.{done, core_after_answer, CoreAs, PlaceAs, GaveAs}
use Rattle.blocking_world_state.proofs.Words.{moment, Tied}
use Rattle.blocking_world_laws.specs.OwnerLaws.{OwnerLaws}
use Rattle.blocking_world_pool.specs.Moves as crew
use Rattle.blocking_world_pool.specs.declared.hand.TurnStage.TheVariants as stage
use Rattle.blocking_world_holders.specs.OwnerSteps as holders
use Rattle.blocking_world_holders.specs.OwnerSteps.{IsAside, owner_in}
use Rattle.blocking_world_holders.specs.SessionJobs as jobs
use Rattle.blocking_world_state.specs.Rows as row
use Rattle.blocking_world_state.specs.declared.row.Core.TheVariants as core
use Rattle.blocking_pool.proofs.Places.{set_same}
use Rattle.blocking_world_holders.proofs.owners.Events.{IsPlain}
use Rattle.blocking_world_holders.proofs.owners.Owners.{aside, born, stepped}
use Rattle.blocking_world_holders.proofs.ties.Holders.{accepts_no_job}
use Rattle.blocking_world_state.proofs.rows.SessionJobs.{answer_of, first_of_table}
use Rattle.blocking_world_state.proofs.ties.CrewEvents.{Told, IsAlone, added_of, by_worker}
use Rattle.blocking_world_state.proofs.ties.Events.{SaidBy, alone, done_fits, said}
use Rattle.blocking_world_state.proofs.ties.JobSteps.{call_acts, session_acts, may_plain, seen_in}
use Rattle.blocking_world_state.proofs.ties.JobSteps.{seen_is, its_owner, let_go_here, asks_here}
use Rattle.blocking_world_state.proofs.ties.Jobs.{IsHere, job_here, its_holder, job_place}
use Rattle.blocking_world_state.proofs.ties.Jobs.{next_free}
use Rattle.blocking_world_state.proofs.ties.Releases.{owner_there}

-- ---- what the job of a session may do

-- a job at its first action isn't over
first_open : (a : JobAction) → is_first a ≡ true → is_over a ≡ false
first_open a first = grind arith

pub first_goes : (job : SessionJob) (acts : List Act) → JobAs job acts
    → is_first (jobs.action_of job) ≡ true → is_over (next_but_wake (jobs.kind_of job) acts) ≡ false
first_goes job acts so first =
    first_open (next_but_wake (jobs.kind_of job) acts) (first_of_table job acts so first)

-- where it is in its turn, its next step is one that its owner may take
session_may : (at : TurnStage) (job : SessionJob) (step : OwnerStep) (owner : Owner) (kind : Kind)
    (acts : List Act) → kind ≡ jobs.kind_of job → session_step at job ≡ Some step
    → (at ≡ stage.MustGiveUp → is_gone owner.stage ≡ true)
    → (has_given_up acts ≡ false → JobAs job acts)
    → PlaceAs (Some Running) (turn_of at) (is_first (jobs.action_of job)) acts → GaveAs at acts
    → MayTake step owner kind acts
session_may at job step owner kind acts of is gone so place gave = grind arith

-- that is an act of the owner's job
its_act : (at : TurnStage) (job : SessionJob) (step : OwnerStep) → session_step at job ≡ Some step
    → is_of_its_job step ≡ true
its_act at job step is = grind arith

-- no session begins by it
its_fresh : (past : List Moment) (step : OwnerStep) → is_of_its_job step ≡ true → IsFresh step past
its_fresh past step is = grind arith

-- ---- what is seen where no owner takes a step

none_in : (a b : Bool) → (a && b && false) ≡ false
none_in a b = grind arith

module _ (past : List Moment) (new : Parts) (e : Event) where
  -- what is nothing to any owner
  alone_aside : IsAlone e → IsAside past (seen_in new e)
  alone_aside none = record {
    out = λ h. none.uncut h new.rows;
    none_made = none.none_made;
    of_task = λ s its.
        absurd (let out = (or_parts (is_by_task 0 e) (is_of_job s e) (none.out 0 s)).1 in cc);
    new = λ s new. absurd (let not_new = accepts_no_job e.act s none.none_new in cc);
    not_theirs = λ h s new by. absurd (let not_new = accepts_no_job e.act s none.none_new in cc);
  }

  -- a call of a task
  call_aside : (k : ℕ) (call : TaskCall) (task : Task) → Told (ByTask k) None (task_act call task) e
      → IsAside past (seen_in new e)
  call_aside k call task told = grind arith

  -- an act of the job of a call
  job_aside : (v s k : ℕ) (act : Act) → Told (Worker v) (Some s) act e
      → IsPlain [] act → owner_of new.rows (Some s) ≡ None → holder past s ≡ Some (ByTask k)
      → IsAside past (seen_in new e)
  job_aside v s k act told plain whose held = record {
    out = λ h. ap (is_in_cut h) (seen_is new (Worker v) (Some s) None act e told whose)
        ∙ none_in (not (is_of_pool act)) (not (is_nothing act));
    none_made = ap is_making told.act_is ∙ plain.made;
    of_task = λ t its.
        let same : (s == t) ≡ true =
        sym (by_worker v s t act e told plain.pool plain.nothing) ∙ its in
        (k, ap (holder past) (sym (eqb-true s t same)) ∙ held);
    new = λ t new.
        absurd (let none = accepts_no_job e.act t (ap accepted_by told.act_is ∙ plain.new) in cc);
    not_theirs = λ h t new by. absurd (let other = sym told.party ∙ by in cc);
  }

-- ---- the owners after it

module _ (setting : ℕ) (plan : List Bool) (w : Parts) (past : List Moment)
    (t : Tied setting plan w past) (laws : (h : ℕ) → OwnerLaws (cut h (events past))) (new : Parts)
    (at : Step) (e : Event) where
  hold : OwnersHold w.owners past
  hold = record { tied = t.owned; laws = laws }

  abbrev growth : Growth
  growth = record { started = e.started; refused = e.start_refused }

  stay : IsAside past (seen_in new e) → new.owners ≡ w.owners
      → OwnersHold new.owners (moment new at e ∷ past)
  stay out same = subst (λ row. OwnersHold row (moment new at e ∷ past)) (sym same)
      (aside w.owners past (moment new at e) out hold)

  -- an owner takes a step
  takes : (step : OwnerStep) (h s v : ℕ) (owner : Owner) (act : Act)
      → slice_get w.owners h ≡ Some owner → IsHeld (is_of_its_job step) past h s → IsFresh step past
      → MayTake step owner (kind_of_job s (own (cut h (events past)))) (acts_of s (events past))
      → act_of step owner ≡ Some act → seen_in new e ≡ event_by step h v s act e.first growth
      → new.owners ≡ slice_set w.owners h (owner_after step owner)
      → OwnersHold new.owners (moment new at e ∷ past)
  takes step h s v owner act found held fresh may does event is =
      stepped w.owners new.owners past (moment new at e)
      (record {
        step = step;
        place = h;
        job = s;
        worker = v;
        first = e.first;
        growth = growth;
        owner = owner;
        act = act;
        there = found;
        held = held;
        fresh = fresh;
        may = may;
        act_is = does;
        event_is = event;
        after_is = is;
      }) hold

  -- a new call
  begun : (client : ℕ) (added : Result JobNumber Refusal)
      → crew.Moves (IsPlanned plan) (crew.Add Pool client added) w.crew e new.crew
      → Told Pool None (added_act added) e → new.owners ≡ w.owners
      → OwnersHold new.owners (moment new at e ∷ past)
  begun client (Ok number) does told same =
      let free = ap (holder past) (added_of plan Pool client w.crew new.crew e number does).0
      ∙ next_free setting plan w past t in
      stay
      (subst (IsAside past) (sym (seen_is new Pool None None (Accepted number.serial) e told refl))
      (record {
        out = λ h. refl;
        none_made = refl;
        of_task = λ s its. absurd cc;
        new = λ s new. ap (holder past) (sym (eqb-true number.serial s new)) ∙ free;
        not_theirs = λ h s new by. absurd cc;
      })) same
  begun client (Err why) does told same =
      stay (alone_aside past new e (alone w (Begins client (Err why)) e refl told)) same

  -- a session begins, or is refused
  lent : (h : ℕ) (owner : Owner) (added : Result JobNumber Refusal) → May w (Lends h owner added)
      → crew.Moves (IsPlanned plan) (crew.Add (ByOwner h) owner.client added) w.crew e new.crew
      → Told (ByOwner h) None (added_act added) e
      → new.owners ≡ owners_after w (Lends h owner added)
      → OwnersHold new.owners (moment new at e ∷ past)
  lent h owner (Ok number) may does told is =
      takes (holders.Begins number) h 0 0 owner (Accepted number.serial) may.0 tt
      (ap (holder past) (added_of plan (ByOwner h) owner.client w.crew new.crew e number does).0
      ∙ next_free setting plan w past t) may.1 refl
      (seen_is new (ByOwner h) None None (Accepted number.serial) e told refl) is
  lent h owner (Err why) may does told is = takes (holders.IsRefused why) h 0 0 owner (Refused why)
      may.0 tt tt may.1 refl (seen_is new (ByOwner h) None None (Refused why) e told refl) is

  -- the owner of a job that has to give up is gone
  gone_owner : (v : ℕ) (job : InHand) (h : ℕ) (owner : Owner) → IsHere w v job
      → holder past job.held.turn.serial ≡ Some (ByOwner h) → slice_get w.owners h ≡ Some owner
      → job.held.stage ≡ stage.MustGiveUp → is_gone owner.stage ≡ true
  gone_owner v job h owner here held found must =
      sym (t.owned.each h owner found).gone.0 ∙ sym (ap (λ p. may_cancel p past) held)
      ∙ let_go_here setting plan w past t v job here must

  -- the job of a reader in a hand takes a step of its owner
  goes : (v : ℕ) (job : InHand) (h : ℕ) (step : OwnerStep) (owner : Owner) (act : Act)
      → IsHere w v job → holder past job.held.turn.serial ≡ Some (ByOwner h)
      → slice_get w.owners h ≡ Some owner → is_of_its_job step ≡ true
      → MayTake step owner (kind_of_job job.held.turn.serial (own (cut h (events past))))
      (acts_of job.held.turn.serial (events past))
      → act_of step owner ≡ Some act → Told (Worker v) (Some job.held.turn.serial) act e
      → owner_of new.rows (Some job.held.turn.serial) ≡ Some h
      → new.owners ≡ slice_set w.owners h (owner_after step owner)
      → OwnersHold new.owners (moment new at e ∷ past)
  goes v job h step owner act here held found its may does told whose is =
      let s = job.held.turn.serial in
      takes step h s v owner act found (subst (λ b. IsHeld b past h s) (sym its) held)
      (its_fresh past step its) may does
      (seen_is new (Worker v) (Some s) (Some h) act e told whose
      ∙ sym (ap (λ b. holders.event_for b h v s act e.first growth) its)) is

  -- of what kind it is
  its_kind : (v : ℕ) (job : InHand) (h : ℕ) (it : SessionJob)
      → IsHere w v job → job.row.core ≡ core.Session h it
      → kind_of_job job.held.turn.serial (own (cut h (events past))) ≡ jobs.kind_of it
  its_kind v job h it here is =
      let r = t.rowed.each job.held.turn.serial job.row here.has_row in
      ap (λ who. kind_by who past job.held.turn.serial)
      (sym (its_holder setting plan w past t v job _ here is)) ∙ r.kind_is ∙ ap row.kind_of is

  -- the job in a hand acts
  acted : (v : ℕ) (job : InHand) (did : Done) → IsHere w v job → done_by w job ≡ Some did
      → Told (Worker v) (Some job.held.turn.serial) did.act e
      → new.rows ≡ slice_set w.rows (job.held.turn.serial - 1) (record job.row { core = did.core })
      → new.owners ≡ did.owners → OwnersHold new.owners (moment new at e ∷ past)
  acted v job did here does told rows is_now = by job.row.core refl
    where
      by : (c : Core) → job.row.core ≡ c → OwnersHold new.owners (moment new at e ∷ past)
      by (core.Call k call) is =
          let a = call_acts w job.held.stage k call did
          (ap (λ c. done job.held.stage c w.tasks w.owners) (sym is) ∙ does) in
          stay
          (job_aside past new e v job.held.turn.serial k did.act told (may_plain job.held.stage
          did.act (done_fits did job.held.stage job.row.core w.tasks w.owners does))
          (its_owner w v job did.core new.rows here rows ∙ ap row.owner_in a.core_is)
          (its_holder setting plan w past t v job _ here is))
          (is_now ∙ a.owners_are)
      by (core.Session h read) is =
          let s = job.held.turn.serial in
          let acts = acts_of s (events past) in
          let a = session_acts w job.held.stage h read did
          (ap (λ c. done job.held.stage c w.tasks w.owners) (sym is) ∙ does) in
          let held = its_holder setting plan w past t v job _ here is in
          goes v job h a.step a.owner did.act here held a.there
          (its_act job.held.stage read a.step a.next)
          (session_may job.held.stage read a.step a.owner
          (kind_of_job s (own (cut h (events past)))) acts (its_kind v job h read here is)
          a.next (gone_owner v job h a.owner here held a.there)
          (subst (λ c. CoreAs c acts) is (t.rowed.each s job.row here.has_row).core)
          (subst (λ c. PlaceAs (Some Running) (turn_of job.held.stage) (is_at_first c) acts)
          is (job_place setting plan w past t v job here))
          (t.rowed.in_hand v job.held here.holds))
          a.act_is told (its_owner w v job did.core new.rows here rows ∙ ap row.owner_in a.core_is)
          (is_now ∙ a.owners_are)

  -- the job in a hand is answered
  answered : (v : ℕ) (job : InHand) (answer : HandleAnswer)
      → IsHere w v job → is_answered_action (next_at w v) answer ≡ true
      → Told (Worker v) (Some job.held.turn.serial) (Answered answer) e
      → new.rows ≡ slice_set w.rows (job.held.turn.serial - 1)
      (record job.row { core = core_after_answer answer job.row.core }) → new.owners ≡ w.owners
      → OwnersHold new.owners (moment new at e ∷ past)
  answered v job answer here may told rows same = by job.row.core refl
    where
      whose : (c : Core) → job.row.core ≡ c → owner_of new.rows (Some job.held.turn.serial)
          ≡ row.owner_in (core_after_answer answer c)
      whose c is = its_owner w v job (core_after_answer answer job.row.core) new.rows here rows
          ∙ ap (λ c. row.owner_in (core_after_answer answer c)) is

      by : (c : Core) → job.row.core ≡ c → OwnersHold new.owners (moment new at e ∷ past)
      by (core.Call k call) is =
          stay
          (job_aside past new e v job.held.turn.serial k (Answered answer) told
          (record { pool = refl; nothing = refl; made = refl; new = refl }) (whose _ is)
          (its_holder setting plan w past t v job _ here is)) same
      by (core.Session h read) is =
          let s = job.held.turn.serial in
          let held = its_holder setting plan w past t v job _ here is in
          let owner = owner_there setting plan w past t h s held in
          let asks = asks_here setting plan w past t v job answer here may in
          goes v job h (holders.IsAnswered read answer) owner.0 (Answered answer) here held owner.1
          refl (
            its_kind v job h read here is,
            subst (λ c. CoreAs c (acts_of s (events past))) is
                (t.rowed.each s job.row here.has_row).core asks.0,
            answer_of (jobs.action_of read) answer (ap (λ c. is_answered_action
                (next_in_turn GoesOn (row.action_of c)) answer) (sym is) ∙ asks.1),
          )
          refl told (whose _ is) (same ∙ sym (set_same w.owners h owner.0 owner.1))

-- After each move the owners hang together with what was seen, and have kept their laws.
pub owners_after_move : (setting : ℕ) (plan : List Bool) (w : Parts) (past : List Moment)
    → Tied setting plan w past → ((h : ℕ) → OwnerLaws (cut h (events past)))
    → (move : Move) (e : Event) (new : Parts) → May w move
    → CrewMoves (IsPlanned plan) move w e new → new.rows ≡ rows_after w move
    → new.owners ≡ owners_after w move → OwnersHold new.owners (moment new (step_of move) e ∷ past)
owners_after_move setting plan w past t laws move e new may does rows owners =
    by move may does rows owners (said plan w move e new may does)
  where
    by : (move : Move) → May w move → CrewMoves (IsPlanned plan) move w e new
        → new.rows ≡ rows_after w move → new.owners ≡ owners_after w move → SaidBy w move e
        → OwnersHold new.owners (moment new (step_of move) e ∷ past)
    by (Makes capacity client) may does rows is told =
        subst (λ row. OwnersHold row (moment new (step_of (Makes capacity client)) e ∷ past))
        (sym is)
        (born w.owners past (moment new (step_of (Makes capacity client)) e) capacity client
        (record {
          first = e.first;
          growth = record { started = e.started; refused = e.start_refused };
          event_is = seen_is new (ByOwner (length w.owners)) None None
              (Made (length w.owners) capacity) e told refl;
        })
        (record { tied = t.owned; laws = laws }))
    by (Asks step h call owner) may does rows is told =
        takes setting plan w past t laws new _ e (holders.IsAsked call) h 0 0 owner (Asked call)
        may.0 tt tt may.1.0 refl (seen_is new (ByOwner h) None None (Asked call) e told refl) is
    by (Owns h owner did) may does rows is told =
        takes setting plan w past t laws new _ e holders.Acts h 0 0 owner did.act may.0 tt tt tt
        (ap act_in may.1) (seen_is new (ByOwner h) None None did.act e told refl)
        (is ∙ sym (ap (λ o. slice_set w.owners h (owner_in o owner)) may.1))
    by (Lends h owner added) may does rows is told =
        lent setting plan w past t laws new _ e h owner added may does told is
    by (Delivers h owner number) may does rows is told =
        takes setting plan w past t laws new _ e (holders.Delivers told.0) h 0 0 owner
        (JobWoken number.serial told.0) may.0 tt tt tt (ap (delivered told.0) may.1)
        (seen_is new (ByOwner h) None None (JobWoken number.serial told.0) e told.1 refl) is
    by (IsDropped h owner) may does rows is told =
        takes setting plan w past t laws new _ e holders.IsDropped h 0 0 owner HolderDropped may.0
        tt tt may.1 refl (seen_is new (ByOwner h) None None HolderDropped e told refl) is
    by (Begins client added) may does rows is told =
        begun setting plan w past t laws new _ e client added does told is
    by (Calls k call task) may does rows is told =
        stay setting plan w past t laws new _ e (call_aside past new e k call task told) is
    by (Works v job did) may does rows is told = acted setting plan w past t laws new _ e v job did
        (job_here w v job may.0) may.1 told rows is
    by (IsAnswered v job answer) may does rows is told = answered setting plan w past t laws new _ e
        v job answer (job_here w v job may.0) may.1 told rows is
    by move may does rows is told = stay setting plan w past t laws new _ e
        (alone_aside past new e (alone w move e refl told)) is
