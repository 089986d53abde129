-- Each move keeps the ties and the laws: so all parts are lawful.
use Rattle.std.proofs.Common.{◌≡◌, ◌<◌, ◌≤◌, ℕ, List, [], ◌∷◌, length, Bool, true, refl, sym, ap}
use Rattle.std.proofs.Common.{◌∙◌, subst, arith, Option, Some, None, ◌||◌, not, is_some, slice_get}
use Rattle.std.proofs.Common.{Ok}
use Rattle.blocking_world_state.proofs.Types.{Act, Event, Moment, Party}
use Rattle.blocking_world_state.proofs.Types.{Step, Job, Holds, JobInHand}
use Rattle.blocking_world_state.proofs.Types.{OwnerNext, Row}
use Rattle.blocking_world_state.proofs.Words.{IsPlanned, standing, events, is_nothing}
use Rattle.blocking_world_state.proofs.Words.{acts_of_owner, under_way, is_poll_over, is_job_action}
use Rattle.blocking_world_state.proofs.Words.{has_action, named, Crew, hand_at, free_hands}
use Rattle.blocking_world_state.proofs.Words.{busy_hands, next_start, nothing, is_aside, IsNumberOf}
use Rattle.blocking_world_state.proofs.Words.{CrewHolds, IsAsked, IsAside, bytes_of, bytes_to_come}
use Rattle.blocking_world_state.proofs.Words.{is_busy, polls_in, Move, Idles, Lends, Begins, Works}
use Rattle.blocking_world_state.proofs.Words.{IsAnswered, step_of, call_of, rows_after, tasks_after}
use Rattle.blocking_world_state.proofs.Words.{owners_after, May, CrewMoves, NeverAsked, Moves}
use Rattle.blocking_world_state.proofs.Words.{CopierMoves, Steps, Parts, row_of, owner_of, next_at}
use Rattle.blocking_world_state.proofs.Words.{Rowed, moment, Tied, IsFree, IsLawful, StepLaw}
use Rattle.blocking_pool.specs.Limits.{limit_of_setting}
use Rattle.blocking_pool.specs.Pools.{empty_pool}
use Rattle.blocking_world_laws.specs.Served.{IsServed}
use Rattle.blocking_world_laws.specs.Staffed.{passes, IsStaffed, IsStaffedAsSeen, AreAsSeen}
use Rattle.blocking_world_pool.specs.Moves as crew
use Rattle.blocking_world_pool.specs.Ties.{Holding, Served}
use Rattle.blocking_world_pool.proofs.laws.Calls.{served_moved, number_moved}
use Rattle.blocking_world_pool.proofs.laws.Staffing.{holding, staffed, as_seen}
use Rattle.blocking_world_pool.proofs.laws.Legality.{holds_moved, holds_aside, begins}
use Rattle.blocking_world_holders.proofs.owners.Actions.{is_rest, rests_next}
use Rattle.blocking_world_state.proofs.laws.NextActions.{next_agrees, unseen}
use Rattle.blocking_world_state.proofs.laws.OwnerWakes.{no_lost_owner_wake}
use Rattle.blocking_world_state.proofs.laws.Steps.{step_law}
use Rattle.blocking_world_state.proofs.laws.Wakes.{no_lost_wake}
use Rattle.blocking_world_state.proofs.moves.Bytes as bytes
use Rattle.blocking_world_state.proofs.moves.Steps.{crew_more}
use Rattle.blocking_world_state.proofs.rows.JobMoves.{rows_worked, rows_answered}
use Rattle.blocking_world_state.proofs.rows.NewJobs.{rows_begun, rows_lent}
use Rattle.blocking_world_state.proofs.rows.OtherMoves.{rows_stay}
use Rattle.blocking_world_state.proofs.ties.Clients.{assigned_after}
use Rattle.blocking_world_state.proofs.ties.CrewDemands.{asked}
use Rattle.blocking_world_state.proofs.ties.Jobs.{owner_tie, row_known}
use Rattle.blocking_world_state.proofs.ties.LeftJobs.{crossed_after}
use Rattle.blocking_world_state.proofs.ties.Marks.{marks_after}
use Rattle.blocking_world_state.proofs.ties.Owners.{owners_after_move}
use Rattle.blocking_world_state.proofs.ties.Tasks.{tasks_after_move}

-- what the hands of a crew hold accounts for the workers, and is what was seen
seen_to_staff : (setting : ℕ) (plan : List Bool) (crew : Crew) (past : List Moment)
    → CrewHolds setting plan crew past → IsStaffedAsSeen past
seen_to_staff setting plan crew past holds =
    let held : Holding crew past = holding setting crew past holds.tied in
    subst (λ turns. IsStaffed (passes past) turns past) held.turns_are
    (subst (λ free. IsStaffed free (busy_hands crew.hands) past) held.passes_are
    (staffed setting crew past holds.tied holds.ready))

module _ (setting : ℕ) (plan : List Bool) (w : Parts) (past : List Moment)
    (lawful : IsLawful setting plan w past) (new : Parts) (e : Event) where
  t : Tied setting plan w past
  t = lawful.tied

  -- ---- the crew

  -- What a call of the crew, or none, leaves of it.
  record CrewKept (step : Step) : Type 0 where
    holds : CrewHolds setting plan new.crew (moment new step e ∷ past)
    served : Served setting (moment new step e ∷ past)
    numbers : (s : ℕ) (row : Row) → row_of w.rows s ≡ Some row → IsNumberOf new.crew.pool row.number

  -- A call of the crew keeps the crew, the numbers of jobs, and that queued jobs are served.
  called : (step : Step) (call : crew.Call) → IsAsked w.crew past step call
      → crew.Moves (IsPlanned plan) call w.crew e new.crew → CrewKept step
  called step call asks does = record {
    holds = holds_moved setting plan w.crew past t.crewed (IsPlanned plan) call e new.crew step
        (owner_of new.rows e.job) (λ n b is. is) does asks;
    served = served_moved setting plan w.crew new.crew past call e t.crewed does step
        (owner_of new.rows e.job) asks lawful.served;
    numbers = λ s row found.
        let r = t.rowed.each s row found in
        number_moved setting plan w.crew new.crew past call e t.crewed does row.number
        (subst (λ n. is_some (standing past n) ≡ true) (sym r.serial)
        (row_known setting plan w past t s row found)) r.number;
  }

  -- Where nothing is done, the crew is as before.
  idled : (step : Step) → e ≡ nothing (named step) (next_start w.crew) → new.crew ≡ w.crew
      → CrewKept step
  idled step is same =
      let aside : IsAside w.crew (moment new step e).event = record {
        act = ap (λ (f : Event). is_aside f.act || is_nothing f.act) is;
        job = ap (λ (f : Event). f.job) is;
        first = ap (λ (f : Event). f.first) is;
        started = ap (λ (f : Event). f.started) is;
        refused = ap (λ (f : Event). f.start_refused) is;
      } in
      record {
        holds = subst (λ (c : Crew). CrewHolds setting plan c (moment new step e ∷ past)) (sym same)
            (holds_aside setting plan w.crew past t.crewed (moment new step e) aside);
        served = subst (λ (f : Event). Served setting (record {
          step = step;
          event = record f { owner = owner_of new.rows f.job };
        } ∷ past)) (sym is)
            (record { positive = lawful.served.positive; served = lawful.served.served });
        numbers = λ s row found. subst (λ (c : Crew). IsNumberOf c.pool row.number) (sym same)
            (t.rowed.each s row found).number;
      }

  -- A move keeps them too: what its call of the crew asks is given.
  crew_kept : (move : Move) → May w move → CrewMoves (IsPlanned plan) move w e new
      → CrewKept (step_of move)
  crew_kept (Idles step) may does = idled step does.0 does.1
  crew_kept move may does =
      called (step_of move) (call_of w move) (asked setting plan w past t move may) does

  -- ---- the rows

  -- A move keeps the rows: a job acts or is answered, a call or a session begins, or the rows stay.
  rows_kept : (move : Move) → May w move → CrewMoves (IsPlanned plan) move w e new
      → new.rows ≡ rows_after w move → new.tasks ≡ tasks_after w move
      → new.owners ≡ owners_after w move → CrewKept (step_of move)
      → Rowed new (moment new (step_of move) e ∷ past)
  rows_kept (Works v job did) may does rows tasks owners c =
      rows_worked setting plan w past t e new c.numbers v job did may does rows tasks owners c.holds
  rows_kept (IsAnswered v job answer) may does rows tasks owners c =
      rows_answered setting plan w past t e new c.numbers v job answer may does rows tasks owners
      c.holds
  rows_kept (Begins client (Ok number)) may does rows tasks owners c =
      rows_begun setting plan w past t e new number c.numbers client does rows tasks owners c.holds
  rows_kept (Lends h owner (Ok number)) may does rows tasks owners c =
      rows_lent setting plan w past t e new number c.numbers h owner may does rows tasks owners
      c.holds
  rows_kept move may does rows tasks owners c =
      rows_stay setting plan w past t move e new may does rows tasks owners refl c.holds c.numbers

  -- ---- all of it

  -- A move keeps each tie and each law, by the lemma of each.
  lawful_after : (move : Move) → May w move → CrewMoves (IsPlanned plan) move w e new
      → new.rows ≡ rows_after w move
      → new.tasks ≡ tasks_after w move → new.owners ≡ owners_after w move
      → IsLawful setting plan new (moment new (step_of move) e ∷ past)
  lawful_after move may does rows tasks owners =
      let c = crew_kept move may does in
      let of_tasks = tasks_after_move setting plan w past t lawful.legal.tasks move e new may does
      rows tasks in
      let of_owners = owners_after_move setting plan w past t lawful.legal.owners move e new may
      does rows owners in
      let tied : Tied setting plan new (moment new (step_of move) e ∷ past) = record {
        crewed = c.holds;
        tasked = of_tasks.tied;
        owned = of_owners.tied;
        assigned = assigned_after setting plan w past t e new move may does owners;
        rowed = rows_kept move may does rows tasks owners c;
        marks = marks_after setting plan w past t move e new may does c.holds;
        crossed = crossed_after setting plan w past t move e new may does owners c.holds;
      } in
      record {
        tied = tied;
        legal = record {
          pool = c.holds.laws;
          owners = of_owners.laws;
          tasks = of_tasks.laws;
          wakes = (
            no_lost_wake setting plan new (moment new (step_of move) e ∷ past) tied,
            lawful.legal.wakes,
          );
          owner_wakes = (
            no_lost_owner_wake setting plan new (moment new (step_of move) e ∷ past) tied,
            lawful.legal.owner_wakes,
          );
          served = (c.served.served, lawful.legal.served);
          staffed = (
            seen_to_staff setting plan new.crew (moment new (step_of move) e ∷ past) c.holds,
            lawful.legal.staffed,
          );
        };
        served = c.served;
        holding = holding setting new.crew (moment new (step_of move) e ∷ past) c.holds.tied;
      }

-- a crew that asks no starter does as it may by any plan
more_crew : (plan : List Bool) (w new : Parts) (e : Event) (move : Move)
    → CrewMoves NeverAsked move w e new → CrewMoves (IsPlanned plan) move w e new
more_crew plan w new e move does =
    crew_more (IsPlanned plan) NeverAsked (λ n b never. absurd never) w e new move does

-- what is of no job is told with no owner
unowned : (new : Parts) (step : Step) (e : Event) → e.job ≡ None → e.owner ≡ None
    → moment new step e ≡ record { step = step; event = e }
unowned new step e jobless ownerless =
    ap (λ (f : Event). record { step = step; event = f })
    (ap (λ o. record e { owner = owner_of new.rows o }) jobless
    ∙ sym (ap (λ o. record e { owner = o }) ownerless))

module _ (setting : ℕ) (plan : List Bool) (w : Parts) (past : List Moment)
    (lawful : IsLawful setting plan w past) where
  -- The move of a step keeps the parts lawful, with the owner that the event names.
  lawful_moved : (new : Parts) (e : Event) (step : Step) → Moves (IsPlanned plan) step w e new
      → IsLawful setting plan new (moment new step e ∷ past)
  lawful_moved new e step m =
      subst (λ taken. IsLawful setting plan new (moment new taken e ∷ past)) (sym m.step_is)
      (lawful_after setting plan w past lawful new e m.move m.may m.crew m.rows_are m.tasks_are
      m.owners_are)

  -- So does that of a copier's step, and what is only told,
  pub copier_lawful : (new : Parts) (e : Event) (step : Step) (who : Party) (act : Act)
      → CopierMoves step who act w e new
      → IsLawful setting plan new (record { step = step; event = e } ∷ past)
  copier_lawful new e step who act m =
      subst (λ now. IsLawful setting plan new (now ∷ past))
      (unowned new step e m.jobless m.ownerless)
      (subst (λ taken. IsLawful setting plan new (moment new taken e ∷ past)) (sym m.step_is)
      (lawful_after setting plan w past lawful new e m.move m.may
      (more_crew plan w new e m.move m.crew) m.rows_are m.tasks_are m.owners_are))

  -- and leaves the setting.
  pub copier_setting : (new : Parts) (e : Event) (step : Step) (who : Party) (act : Act)
      → CopierMoves step who act w e new → new.crew.pool.counts.setting ≡ setting
  copier_setting new e step who act m =
      (copier_lawful new e step who act m).tied.crewed.tied.counted.setting_is

  -- A step of its own keeps the law of steps, where it asks and drops no owner that is lent.
  pub step_keeps : (new : Parts) (e : Event) (step : Step) → Steps (IsPlanned plan) step w e new
      → IsFree past step → StepLaw past (record { step = step; event = e })
  step_keeps new e step steps free =
      let m = steps.moves in
      subst (λ (f : Event). StepLaw past (record { step = step; event = f })) (sym steps.owned)
      (subst (λ taken. StepLaw past (moment new taken steps.event)) (sym m.step_is)
      (step_law setting plan w past lawful.tied m.move steps.event new m.its_own
      (subst (IsFree past) m.step_is free) m.may m.crew m.rows_are))

  -- A step keeps the parts lawful,
  pub stays_lawful : (new : Parts) (e : Event) (step : Step) → Steps (IsPlanned plan) step w e new
      → IsLawful setting plan new (record { step = step; event = e } ∷ past)
  stays_lawful new e step steps =
      subst (λ (f : Event). IsLawful setting plan new (record { step = step; event = f } ∷ past))
      (sym steps.owned)
      (lawful_moved new steps.event step steps.moves)

  -- and their setting.
  pub same_setting : (new : Parts) (e : Event) (step : Step) → Steps (IsPlanned plan) step w e new
      → new.crew.pool.counts.setting ≡ setting
  same_setting new e step steps =
      (stays_lawful new e step steps).tied.crewed.tied.counted.setting_is

-- ---- new parts

-- parts with no job, no task, no owner and no worker
abbrev pub first_parts : ℕ → Parts
first_parts setting = record {
  crew = record { pool = empty_pool setting 1 1; hands = [] };
  rows = [];
  tasks = [];
  owners = [];
}

-- no job has a row there, nor does a worker hold one
no_row : (s : ℕ) → row_of [] s ≡ None
no_row s = grind arith

no_held : (v : ℕ) (held : JobInHand) → hand_at [] v ≡ Holds held → ⊥
no_held v held at = grind arith

-- new parts are lawful
pub begins_lawful : (setting : ℕ) (plan : List Bool) → 0 < setting
    → IsLawful setting plan (first_parts setting) []
begins_lawful setting plan positive = record {
  tied = record {
    crewed = begins setting plan;
    tasked = record {
      count = refl;
      there = λ k s held. cc;
      once = λ k s u one other. cc;
      each = λ k s task held there. cc;
      unborn = λ k s beyond none. refl;
    };
    owned = record {
      count = refl;
      each = λ h owner found. absurd cc;
      unborn = λ h beyond. refl;
      unheld = λ s none. refl;
      begun = λ h s held. absurd cc;
      held = λ h s is. absurd cc;
      acts = λ h s held. refl;
    };
    assigned = λ h owner found. absurd cc;
    rowed = record {
      count = refl;
      each = λ s row found. let none = no_row s in absurd cc;
      of_task = λ k task found. absurd cc;
      of_owner = λ h owner number found is. absurd cc;
      in_hand = λ v held at. absurd (no_held v held at);
    };
    marks = record { let_go = λ s drop. absurd cc; marked = λ s free ended. absurd cc };
    crossed = λ h s owner found held left. absurd cc;
  };
  legal = record {
    pool = tt;
    owners = λ h. tt;
    tasks = λ k s held. tt;
    wakes = record { tasks = λ k s held. cc };
    owner_wakes = record { owners = λ h s is. absurd is; jobs = λ h s held. absurd cc };
    served = λ some none. absurd (some refl);
    staffed = record { all_are = refl; idle_are = refl; jobs_are = refl };
  };
  served = record { positive = positive; served = λ some none. absurd (some refl) };
  holding = record { passes_are = refl; turns_are = refl; jobs_are = refl };
}

-- the same, of parts that are new
pub begun : (setting : ℕ) (plan : List Bool) (w : Parts) → w ≡ first_parts setting → 0 < setting
    → IsLawful w.crew.pool.counts.setting plan w []
begun setting plan w is positive =
    subst (λ v. IsLawful v.crew.pool.counts.setting plan v []) (sym is)
    (begins_lawful setting plan positive)

-- a setting's limit is at least 1
pub positive_limit : (text : Option (List ℕ)) → 0 < limit_of_setting text
positive_limit text = grind arith

-- ---- what is read off lawful parts

module _ (setting : ℕ) (plan : List Bool) (w : Parts) (past : List Moment)
    (lawful : IsLawful setting plan w past) where
  -- queued jobs are served
  pub served_now : IsServed past
  served_now = lawful.served.served

  -- what the workers hold accounts for them
  pub staffed_now : IsStaffed (free_hands w.crew.hands) (busy_hands w.crew.hands) past
  staffed_now = staffed setting w.crew past lawful.tied.crewed.tied lawful.tied.crewed.ready

  -- and is what they were seen to hold
  pub held_now : AreAsSeen (free_hands w.crew.hands) (busy_hands w.crew.hands) past
  held_now = as_seen setting w.crew past lawful.tied.crewed.tied

-- an owner is busy where it doesn't rest
busy_is : (n : OwnerNext) → is_busy n ≡ not (is_rest n)
busy_is n = grind arith

module _ (setting : ℕ) (plan : List Bool) (w : Parts) (past : List Moment)
    (t : Tied setting plan w past) where
  -- The step of a worker's job has an action where its next action is the job's own.
  pub acts_is : (v : ℕ) → has_action past (Job v) ≡ is_job_action (next_at w v)
  acts_is v = ap is_job_action (next_agrees setting plan w past t v)

  -- An owner's poll is under way where it was seen to be.
  pub polls_is : (h : ℕ) → polls_in (slice_get w.owners h)
      ≡ not (is_poll_over (under_way (acts_of_owner h (events past))))
  polls_is h = grind (arith, unseen, busy_is, rests_next, owner_tie)

-- The event of a step carries no more bytes than were told before it.
pub carried : (plan : List Bool) (w new : Parts) (step : Step) (e : Event)
    → Steps (IsPlanned plan) step w e new
    → length (bytes_of e.act) ≤ bytes_to_come w step
carried plan w new step e steps =
    subst (λ (f : Event). length (bytes_of f.act) ≤ bytes_to_come w step) (sym steps.owned)
    (bytes.carried plan step w steps.event new steps.moves)
