-- Each move keeps the marks: only a job that was let go is marked or cancelled, and one that was
-- let go and isn't over is marked.
use Rattle.std.proofs.Common.{◌≡◌, ℕ, ◌≤◌, List, [], ◌∷◌, length, Bool, true, false, refl, sym, ap}
use Rattle.std.proofs.Common.{◌∙◌, subst, arith, Option, Some, slice_get, Ok}
use Rattle.blocking_world_state.proofs.Types.{Woke, Act, Accepted, HolderDropped, JobCancelled}
use Rattle.blocking_world_state.proofs.Types.{Event, Moment, ByOwner, ByTask, TaskCall, TurnStage}
use Rattle.blocking_world_state.proofs.Types.{Parking, OwnerStage, Row}
use Rattle.blocking_world_state.proofs.Words.{IsPlanned, accepted_by, accepts, tasks, newcomer}
use Rattle.blocking_world_state.proofs.Words.{holder, cancels, lets_go, events, own, may_cancel}
use Rattle.blocking_world_state.proofs.Words.{is_let_go, may_act, parked_act, CrewHolds, Owner}
use Rattle.blocking_world_state.proofs.Words.{is_gone, Did, did, Session, Task, task_act, Move}
use Rattle.blocking_world_state.proofs.Words.{Owns, Lends, Delivers, IsDropped, Begins, Calls}
use Rattle.blocking_world_state.proofs.Words.{Works, Parks, Passes, IsWoken, IsStruck, Notes}
use Rattle.blocking_world_state.proofs.Words.{step_of, May, CrewMoves, Parts, row_of, let_go_of}
use Rattle.blocking_world_state.proofs.Words.{Marked, moment, Tied}
use Rattle.blocking_world_holders.specs.Owners.{next_at}
use Rattle.blocking_world_holders.specs.declared.owner.OwnerNext.TheVariants as next
use Rattle.blocking_world_holders.proofs.cuts.Acts.{own_cut}
use Rattle.blocking_world_state.proofs.past.Marks.{KeepsMarks, IsQuiet, quiet_keeps, marks_kept}
use Rattle.blocking_world_state.proofs.ties.CrewEvents.{IsPlain}
use Rattle.blocking_world_state.proofs.ties.Events.{SaidBy, said, done_fits, note_is}
use Rattle.blocking_world_state.proofs.ties.Jobs.{next_free}
use Rattle.blocking_world_state.proofs.ties.Releases.{let_go_is}

-- ---- quiet acts

-- an act of a job
work_quiet : (at : TurnStage) (act : Act) → may_act at act ≡ true → IsQuiet act
work_quiet at act may = grind arith

-- an act of an owner by itself
own_quiet : (owner : Owner) (done : Did) → did owner ≡ Some done → IsQuiet done.act
own_quiet owner done is = grind arith

-- the end of a run that waits
parked_quiet : (how : Parking) (s : ℕ) → IsQuiet (parked_act how s)
parked_quiet how s = grind arith

-- an event of the crew alone
none_new : (act : Act) (s : ℕ) → accepted_by act ≡ [] → accepts s act ≡ false
none_new act s none = grind arith

pass_quiet : (e : Event) → IsPlain e → IsQuiet e.act
pass_quiet e plain = record {
  new = λ s. none_new e.act s plain.none_new;
  cancelled = plain.cancelled;
  kept = plain.kept;
}

-- ---- who brings a new job, and which one is cancelled

-- an owner whose session begins is there
begins_there : (here : OwnerStage) (session : Option Session) → next_at here session ≡ next.Begins
    → is_gone here ≡ false
begins_there here session is = grind arith

-- the job that a cancel cancels
cancelled_is : (s t : ℕ) (woke : Woke) → cancels (JobCancelled t woke) s ≡ true → t ≡ s
cancelled_is s t woke is = grind arith

module _ (setting : ℕ) (plan : List Bool) (w : Parts) (past : List Moment)
    (t : Tied setting plan w past) where
  -- a new task let nothing go
  task_is_new : may_cancel (Some (ByTask (tasks past))) past ≡ false
  task_is_new =
      let count = t.tasked.count in
      let beyond : length w.tasks ≤ tasks past = omega (arith, count) in
      let none = t.tasked.unborn (tasks past) w.crew.pool.next_serial beyond
      (next_free setting plan w past t) in
      sym (ap is_let_go (own_cut (tasks past) w.crew.pool.next_serial (events past)))
      ∙ ap (λ c. is_let_go (own c)) none

  -- nor did an owner whose session begins
  owner_is_there : (h : ℕ) (owner : Owner) → slice_get w.owners h ≡ Some owner
      → next_at owner.stage owner.session ≡ next.Begins → may_cancel (Some (ByOwner h)) past ≡ false
  owner_is_there h owner found begins =
      (t.owned.each h owner found).gone.0 ∙ begins_there owner.stage owner.session begins

  module _ (now : Moment) where
    told_quiet : (act : Act) → now.event.act ≡ act → IsQuiet act → KeepsMarks past now
    told_quiet act is quiet = quiet_keeps past now (subst IsQuiet (sym is) quiet)

    -- a new job
    new_keeps : (s : ℕ) → now.event.act ≡ Accepted s
        → may_cancel (Some (newcomer past now.event.party)) past ≡ false → KeepsMarks past now
    new_keeps s is free = grind arith

    -- an owner that is dropped
    drop_keeps : now.event.act ≡ HolderDropped → KeepsMarks past now
    drop_keeps is = grind arith

    -- a call of a task
    call_keeps : (k : ℕ) (call : TaskCall) (task : Task) → now.event.party ≡ ByTask k
        → now.event.act ≡ task_act call task → KeepsMarks past now
    call_keeps k call task party is = grind arith

    -- a cancel of a job that was let go
    struck_keeps : (s : ℕ) (row : Row) (woke : Woke) → row_of w.rows s ≡ Some row
        → let_go_of w row.core ≡ true → now.event.act ≡ JobCancelled row.number.serial woke
        → KeepsMarks past now
    struck_keeps s row woke found let_go is = record {
      cancelled = λ n cancel.
          let here : s ≡ n = sym (t.rowed.each s row found).serial
          ∙ cancelled_is n row.number.serial woke (ap (λ a. cancels a n) (sym is) ∙ cancel) in
          subst (λ m. may_cancel (holder past m) past ≡ true) here
          (sym (let_go_is setting plan w past t s row found) ∙ let_go);
      dropped = λ h party lets. let none = ap lets_go is in absurd cc;
      new = λ n accepted. let none = ap (accepts n) is in absurd cc;
    }

  -- ---- each move

  keeps_marks : (move : Move) (e : Event) (new : Parts) → May w move → SaidBy w move e
      → KeepsMarks past (moment new (step_of move) e)
  keeps_marks (Owns h owner done) e new may told =
      told_quiet _ done.act told.act_is (own_quiet owner done may.1)
  keeps_marks (Lends h owner (Ok number)) e new may told =
      new_keeps _ number.serial told.act_is (ap (λ p. may_cancel (Some (newcomer past p)) past)
      told.party ∙ owner_is_there h owner may.0 may.1)
  keeps_marks (Delivers h owner number) e new may told =
      told_quiet _ _ told.1.act_is (record { new = λ s. refl; cancelled = λ s. refl; kept = refl })
  keeps_marks (IsDropped h owner) e new may told = drop_keeps _ told.act_is
  keeps_marks (Begins client (Ok number)) e new may told = new_keeps _ number.serial told.act_is
      (ap (λ p. may_cancel (Some (newcomer past p)) past) told.party ∙ task_is_new)
  keeps_marks (Calls k call task) e new may told = call_keeps _ k call task told.party told.act_is
  keeps_marks (Works v job done) e new may told = told_quiet _ done.act told.act_is (work_quiet
      job.held.stage done.act (done_fits done job.held.stage job.row.core w.tasks w.owners may.1))
  keeps_marks (Parks v job) e new may told =
      told_quiet _ _ told.1.act_is (parked_quiet told.0 job.held.turn.serial)
  keeps_marks (Passes call) e new may plain = quiet_keeps past _ (pass_quiet e plain)
  keeps_marks (IsWoken s row) e new may told =
      told_quiet _ _ told.1.act_is (record { new = λ n. refl; cancelled = λ n. refl; kept = refl })
  keeps_marks (IsStruck s row) e new may told =
      struck_keeps _ s row told.0 may.0 may.1 told.1.act_is
  keeps_marks (Notes step who act) e new may told = let quiet = note_is who act told.1 in
      told_quiet _ act told.0.act_is (record {
        new = λ s. none_new act s quiet.new;
        cancelled = quiet.cancelled;
        kept = quiet.kept;
      })
  keeps_marks _ e new may told =
      told_quiet _ _ told.act_is (record { new = λ s. refl; cancelled = λ s. refl; kept = refl })

  -- A move keeps the marks.
  pub marks_after : (move : Move) (e : Event) (new : Parts)
      → May w move → CrewMoves (IsPlanned plan) move w e new
      → CrewHolds setting plan new.crew (moment new (step_of move) e ∷ past)
      → Marked (moment new (step_of move) e ∷ past)
  marks_after move e new may does later =
      marks_kept setting plan past (moment new (step_of move) e) later.laws t.marks
      (keeps_marks move e new may (said plan w move e new may does))
