-- What the crew asks of a move: that a new job is of the client of the step, that a number is its
-- job's, that who lets go of a job holds it, and that a ticket bears its job's mark.
use Rattle.std.proofs.Common.{◌≡◌, ℕ, List, Bool, true, false, refl, sym, ap, ◌∙◌, subst, Option}
use Rattle.std.proofs.Common.{Some, slice_get, IfSome, arith}
use Rattle.std.proofs.lemmas.Bool.{eq-eqb}
use Rattle.blocking_world_state.proofs.Types.{Standing, Act, Event, Moment, Party, ByOwner, ByTask}
use Rattle.blocking_world_state.proofs.Types.{Step, OfTask, TaskCall, Cancel}
use Rattle.blocking_world_state.proofs.Types.{Drop, Holds, JobInHand}
use Rattle.blocking_world_state.proofs.Types.{Core}
use Rattle.blocking_world_state.proofs.Words.{JobNumber, Kind, Over, next_but_wake, has_given_up}
use Rattle.blocking_world_state.proofs.Words.{holder, is_holder, is_marked, standing, events}
use Rattle.blocking_world_state.proofs.Words.{acts_of, cut, own, last_session, kind_of_job, kind_by}
use Rattle.blocking_world_state.proofs.Words.{Turn, turn, IsNumberOf, has_ticket, is_serial_of}
use Rattle.blocking_world_state.proofs.Words.{HoldsAtRest, IsAsked, LastAs, OwnerAs, Owner}
use Rattle.blocking_world_state.proofs.Words.{capacity_of, number_in, number_of, Session, Task}
use Rattle.blocking_world_state.proofs.Words.{Move, Lends, Delivers, IsDropped, Begins, Calls}
use Rattle.blocking_world_state.proofs.Words.{Parks, Passes, IsWoken, IsStruck, step_by, step_of}
use Rattle.blocking_world_state.proofs.Words.{task_call, call_of, is_pass, May, Parts, party_of}
use Rattle.blocking_world_state.proofs.Words.{kind_of, is_at_first, CoreAs, PlaceAs, Tied}
use Rattle.blocking_world_laws.specs.Passed.{is_serial}
use Rattle.blocking_world_pool.specs.Moves as crew
use Rattle.blocking_world_state.proofs.ties.Jobs.{job_here, held_row, task_holds, task_number}
use Rattle.blocking_world_state.proofs.ties.Jobs.{owner_holds, owner_number}
use Rattle.blocking_world_state.proofs.ties.Releases.{mark_is}

-- ---- a job at rest

-- a job that is queued or parked is at its first action, and hasn't given up
at_rest : (stand : Option Standing) (at : Turn) (first : Bool) (acts : List Act)
    → has_ticket stand ≡ true → PlaceAs stand at first acts
    → (first ≡ true) × (has_given_up acts ≡ false)
at_rest stand at first acts rests place = grind arith

-- so the job of a session that rests isn't over
not_over : (h : ℕ) (c : Core) (acts : List Act) → party_of c ≡ ByOwner h → is_at_first c ≡ true
    → has_given_up acts ≡ false → CoreAs c acts → next_but_wake (kind_of c) acts ≡ Over → ⊥
not_over h c acts party first stays so over = grind arith

-- the last session's job
number_is : (last : Option Session) (bytes : Kind → ℕ) (cut : List Event) (s : ℕ)
    → LastAs last bytes cut → is_serial (last_session (own cut)) (Some s) ≡ true
    → is_serial_of (number_in last) s ≡ true
number_is last bytes cut s t is = grind arith

-- a party that holds the job of this number, and no other that rests
held_alone : (past : List Moment) (who : Party) (number : Option JobNumber)
    → is_holder (Some who) who ≡ true
    → ((n : JobNumber) → number ≡ Some n → holder past n.serial ≡ Some who)
    → ((s : ℕ) → has_ticket (standing past s) ≡ true → holder past s ≡ Some who
    → is_serial_of number s ≡ true) → HoldsAtRest past who number
held_alone past who number same its only s rests =
    by (is_holder (holder past s) who) (is_serial_of number s) refl refl
  where
    held : (o : Option JobNumber) → number ≡ o → is_serial_of o s ≡ true
        → is_holder (holder past s) who ≡ true
    held o is this = grind arith

    by : (a b : Bool) → is_holder (holder past s) who ≡ a → is_serial_of number s ≡ b → a ≡ b
    by a b holds this = grind arith

-- a call of the crew alone asks nothing
pass_asked : (w : Parts) (past : List Moment) (step : Step) (call : crew.Call) → is_pass call ≡ true
    → IsAsked w.crew past step call
pass_asked w past step call is = grind arith

module _ (setting : ℕ) (plan : List Bool) (w : Parts) (past : List Moment)
    (t : Tied setting plan w past) where
  -- ---- a task, and an owner, that lets go of its job

  task_alone : (k : ℕ) (task : Task) → slice_get w.tasks k ≡ Some task
      → HoldsAtRest past (ByTask k) (Some task.number)
  task_alone k task found =
      held_alone past (ByTask k) (Some task.number) (eq-eqb k k refl) its
      (λ s rests held. eq-eqb task.number.serial s (t.tasked.once k task.number.serial s mine held))
    where
      mine : holder past task.number.serial ≡ Some (ByTask k)
      mine = task_holds setting plan w past t k task found

      its : (n : JobNumber) → Some task.number ≡ Some n → holder past n.serial ≡ Some (ByTask k)
      its n is = let same : task.number ≡ n = cc in
          subst (λ (m : JobNumber). holder past m.serial ≡ Some (ByTask k)) same mine

  owner_alone : (h : ℕ) (owner : Owner) → slice_get w.owners h ≡ Some owner
      → HoldsAtRest past (ByOwner h) (number_of owner)
  owner_alone h owner found =
      held_alone past (ByOwner h) (number_of owner) (eq-eqb h h refl)
      (λ n is. owner_holds setting plan w past t h owner n found is) only
    where
      tie : OwnerAs owner (cut h (events past))
      tie = t.owned.each h owner found

      only : (s : ℕ) → has_ticket (standing past s) ≡ true → holder past s ≡ Some (ByOwner h)
          → is_serial_of (number_of owner) s ≡ true
      only s rests held = by (is_serial (last_session (own (cut h (events past)))) (Some s)) refl
        where
          by : (b : Bool) → is_serial (last_session (own (cut h (events past)))) (Some s) ≡ b
              → is_serial_of (number_of owner) s ≡ true
          by true is =
              number_is owner.session (capacity_of owner) (cut h (events past)) s tie.last is
          by false is =
              let row = held_row setting plan w past t s (ByOwner h) held in
              let r = t.rowed.each s row.0 row.1 in
              let rest = at_rest (standing past s) (turn past s) (is_at_first row.0.core)
              (acts_of s (events past)) rests r.place in
              let kind : kind_of_job s (own (cut h (events past))) ≡ kind_of row.0.core =
              ap (λ who. kind_by who past s) (sym held) ∙ r.kind_is in
              let over : next_but_wake (kind_of row.0.core) (acts_of s (events past)) ≡ Over =
              ap (λ k. next_but_wake k (acts_of s (events past))) (sym kind)
              ∙ ap (next_but_wake (kind_of_job s (own (cut h (events past)))))
              (sym (t.owned.acts h s held)) ∙ tie.earlier s (t.owned.begun h s held) is in
              absurd
              (not_over h row.0.core (acts_of s (events past)) row.2 rest.0 rest.1 r.core over)

  owner_number_if : (h : ℕ) (owner : Owner) → slice_get w.owners h ≡ Some owner
      → IfSome (number_of owner) (IsNumberOf w.crew.pool)
  owner_number_if h owner found = grind (arith, owner_number)

  -- ---- each move

  call_asked : (k : ℕ) (call : TaskCall) (task : Task) → slice_get w.tasks k ≡ Some task
      → IsAsked w.crew past (OfTask k call) (task_call k call task)
  call_asked k Cancel task found =
      (task_number setting plan w past t k task found, task_alone k task found)
  call_asked k Drop task found =
      (task_number setting plan w past t k task found, task_alone k task found)
  call_asked k _ task found = tt

  -- A move keeps what the crew asks of its call.
  pub asked : (move : Move) → May w move → IsAsked w.crew past (step_of move) (call_of w move)
  asked (Lends h owner added) may = t.assigned h owner may.0
  asked (Begins client added) may = refl
  asked (Delivers h owner number) may = owner_number setting plan w past t h owner number may.0
      ((t.owned.each h owner may.0).noted number may.1)
  asked (IsDropped h owner) may = (owner_number_if h owner may.0, owner_alone h owner may.0)
  asked (Calls k call task) may = call_asked k call task may.0
  asked (Parks v job) may = λ held at.
      let here = job_here w v job may.0 in
      let both : Holds job.held ≡ Holds held = sym here.holds ∙ at in
      let same : job.held ≡ held = cc in
      mark_is setting plan w past t v job here
      ∙ ap (λ (h : JobInHand). is_marked past h.turn.serial) same
  asked (Passes call) may = pass_asked w past (step_by call) call may.0
  asked (IsWoken s row) may = (t.rowed.each s row may).number
  asked (IsStruck s row) may = (t.rowed.each s row may.0).number
  asked _ may = tt
