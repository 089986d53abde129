-- Who holds the jobs of a legal past: each task has a job, and each job in a hand has a task or an
-- owner.
use Rattle.std.proofs.Common.{◌≡◌, refl, ℕ, ◌+◌, ◌<◌, ◌==◌, ◌&&◌, ◌||◌, if◌then◌else◌, Bool, true}
use Rattle.std.proofs.Common.{false, cond, List, [], ◌∷◌, ◌++◌, length, Option, Some, None, ap, ◌∙◌}
use Rattle.std.proofs.Common.{arith, inl, inr}
use Rattle.std.specs.Prelude.{filter, not, is_some}
use Rattle.std.proofs.lemmas.Bool.{cases_eq}
use mathlib.Core.Path.{subst, sym}
use Rattle.blocking_world_laws.specs.Seen.{EachMayFollow, joined, events, own, cut, acts_of}
use Rattle.blocking_world_laws.specs.Seen.{task_cut, is_some_worker, is_this, is_owner, is_of_pool}
use Rattle.blocking_world_laws.specs.Seen.{is_nothing, is_by_task, is_of_job}
use Rattle.blocking_world_laws.specs.Jobs.{accepts, accepted_by, accepted_jobs, is_pool}
use Rattle.blocking_world_laws.specs.Jobs.{makes_a_task, tasks, newcomer, holder, as_owner}
use Rattle.blocking_world_laws.specs.Queue.{times}
use Rattle.blocking_world_laws.specs.Turns.{hand}
use Rattle.blocking_world_laws.specs.Core.{Met, Served, Waiting, Closed, find_room, hand_in, peek}
use Rattle.blocking_world_laws.specs.JobTable.{JobAction, AskCall, AskBytes, FindRoom, PutPiece}
use Rattle.blocking_world_laws.specs.JobTable.{Peek, OfferBytes, Consume, AskFlush, AskItem}
use Rattle.blocking_world_laws.specs.JobTable.{SendItem, AskSeek, AskResult, PutResult, piece}
use Rattle.blocking_world_laws.specs.JobTable.{CloseEnd, Finish, WakeHolder, Over, next_of_job}
use Rattle.blocking_world_laws.specs.JobTable.{Calling}
use Rattle.blocking_world_laws.specs.Sessions.{kind_of_job, is_shut}
use Rattle.blocking_world_laws.specs.Passed.{inside, room_in}
use Rattle.blocking_world_laws.specs.Places.{seen_room, seated, seen_put, seen_peek}
use Rattle.blocking_world_laws.specs.OwnerSeats.{pipe_seat}
use Rattle.blocking_world_laws.specs.OwnerLaws.{Works, JobMayAct, OwnerMayAct, OwnerLaw}
use Rattle.blocking_world_laws.specs.TaskLaws.{Calls, TaskMayAct, TaskLaw}
use Rattle.blocking_world_laws.specs.Copies.{CopierAction, AskReader, AskWriter, Tells}
use Rattle.blocking_world_laws.specs.Copies.{next_of_copier}
use Rattle.blocking_world_laws.specs.Lent.{Copier, copiers, copier_in}
use Rattle.blocking_world_laws.specs.Steps.{StepLaw, Happens, asked_by, copier_party, has_action}
use Rattle.blocking_world_laws.specs.Steps.{is_answered, is_job_action, job_of, owner_of, named}
use Rattle.blocking_world_laws.specs.Steps.{party, next_with}
use Rattle.blocking_world_laws.specs.Legal.{Legal, PoolLaw}
use Rattle.blocking_world_laws.specs.declared.event.Act.{Act}
use Rattle.blocking_world_laws.specs.declared.event.Act.TheVariants.{Accepted}
use Rattle.blocking_world_laws.specs.declared.event.Event.{Event}
use Rattle.blocking_world_laws.specs.declared.event.Moment.{Moment}
use Rattle.blocking_world_laws.specs.declared.event.Party.{Party}
use Rattle.blocking_world_laws.specs.declared.event.Party.TheVariants.{Owner, Task, Worker, Pool}
use Rattle.blocking_world_laws.specs.declared.step.Step.{Step}
use Rattle.blocking_world_laws.specs.declared.step.Step.TheVariants.{Arrive, Take, Job, Io, End}
use Rattle.blocking_world_laws.specs.declared.step.Step.TheVariants.{Wait, Late, Copy}
use Rattle.blocking_world_laws.proofs.Beginnings.{before, keeps, owner_keeps, task_keeps}
use Rattle.blocking_world_laws.proofs.Queues.{same_self, times_both, times_one, held_so, known_so}

-- ---- each task has a job

-- a task has a job
pub record HasJob (past : List Moment) (k : ℕ) : Type 0 where
  pub job : ℕ
  pub held : holder past job ≡ Some (Task k)

-- what makes a task accepts its job
new_job : (past : List Moment) (party : Party) (act : Act)
    → (is_pool party && not (length (accepted_by act) == 0)) ≡ true
    → (s : ℕ) × ((if accepts s act then Some (newcomer past party) else holder past s)
    ≡ Some (Task (tasks past)))
new_job past Pool (Accepted s) e =
    (s, ap (λ (b : Bool). if b then Some (Task (tasks past)) else holder past s) (same_self s))
new_job past Pool _ e = absurd cc
new_job past _ act e = absurd cc

next_task : (setting : ℕ) (plan : List Bool) (past : List Moment) (now : Moment) (b : Bool) (k : ℕ)
    → EachMayFollow (PoolLaw setting plan) (now ∷ past) → makes_a_task now.event ≡ b
    → k < length (cond b (now ∷ filter (λ m. makes_a_task m.event) past)
    (filter (λ m. makes_a_task m.event) past)) → (k < tasks past → HasJob past k)
    → HasJob (now ∷ past) k
next_task setting plan past now false k laws e less earlier =
    let had = earlier less in
    record { job = had.job; held = keeps setting plan past now laws had.job (Task k) had.held }
next_task setting plan past now true k laws e less earlier = elim (cases_eq k (tasks past)) [
  | inl same ↦ let new = new_job past now.event.party now.event.act e in
      record { job = new.0; held = new.1 ∙ ap (λ (n : ℕ). Some (Task n)) (sym same) }
  | inr other ↦ let had = earlier (omega (arith, less, other)) in
      record { job = had.job; held = keeps setting plan past now laws had.job (Task k) had.held }
]

pub each_task : (setting : ℕ) (plan : List Bool) (past : List Moment)
    → EachMayFollow (PoolLaw setting plan) past → (k : ℕ) → k < tasks past → HasJob past k
each_task setting plan [] laws k less = absurd (omega (arith, less))
each_task setting plan (now ∷ past) laws k less =
    next_task setting plan past now (makes_a_task now.event) k laws refl less
    (each_task setting plan past laws.1 k)

-- ---- what is in a hand has a holder

unheld_new : (b : Bool) (t s : ℕ) (new : Party) (held : Option Party) (jobs : List ℕ) → (t == s) ≡ b
    → (held ≡ None → times s jobs ≡ 0)
    → (if b then Some new else held) ≡ None → times s (jobs ++ t ∷ []) ≡ 0
unheld_new true t s new held jobs same earlier e = absurd cc
unheld_new false t s new held jobs same earlier e =
    let before_it : times s jobs ≡ 0 = earlier e in
    let of_it : times s (t ∷ []) ≡ 0 = times_one s t ∙ ap (λ (b : Bool). if b then 1 else 0) same in
    let both : times s (jobs ++ t ∷ []) ≡ times s jobs + times s (t ∷ []) =
    times_both s jobs (t ∷ []) in
    omega (arith, both, before_it, of_it)

unheld_by : (act : Act) (s : ℕ) (new : Party) (held : Option Party) (jobs : List ℕ)
    → (held ≡ None → times s jobs ≡ 0)
    → (if accepts s act then Some new else held) ≡ None
    → times s (joined jobs (accepted_by act)) ≡ 0
unheld_by (Accepted t) s new held jobs earlier e =
    unheld_new (t == s) t s new held jobs refl earlier e
unheld_by _ s new held jobs earlier e = earlier e

-- a job without a holder was never accepted
unheld : (past : List Moment) (s : ℕ) → holder past s ≡ None → times s (accepted_jobs past) ≡ 0
unheld [] s e = refl
unheld (now ∷ past) s e = unheld_by now.event.act s (newcomer past now.event.party) (holder past s)
    (accepted_jobs past) (unheld past s) e

-- somebody holds it
record IsHeld (held : Option Party) : Type 0 where
  by : Party
  is : held ≡ Some by

held_or : (held : Option Party) → (held ≡ None → ⊥) → IsHeld held
held_or None never = absurd (never refl)
held_or (Some p) never = record { by = p; is = refl }

in_hand_is_held : (setting : ℕ) (plan : List Bool) (past : List Moment)
    → EachMayFollow (PoolLaw setting plan) past → (w s : ℕ) → hand past w ≡ Some s
    → IsHeld (holder past s)
in_hand_is_held setting plan past laws w s e = held_or (holder past s) (λ none.
    let stands = held_so setting plan past laws w s e in
    let once : times s (accepted_jobs past) ≡ 1 =
    known_so setting plan past laws s ∙ ap (λ st. if is_some st then 1 else 0) stands in
    let never = unheld past s none in
    omega (arith, once, never))

-- ---- a step of a worker's job is an act of that job

-- the worker has a job in hand
pub record HasHand (past : List Moment) (w : ℕ) : Type 0 where
  pub job : ℕ
  pub is : hand past w ≡ Some job

job_in : (held : Option ℕ) (past : List Moment) → is_job_action (next_with held past) ≡ true
    → (s : ℕ) × (held ≡ Some s)
job_in None past e = absurd cc
job_in (Some s) past e = (s, refl)

pub has_hand : (past : List Moment) (w : ℕ) → has_action past (Job w) ≡ true → HasHand past w
has_hand past w e = let found = job_in (hand past w) past e in
    record { job = found.0; is = found.1 }

-- What is seen of a worker's job where it has an action: it isn't the pool's, nor an answer from
-- outside, nor nothing; it is the worker's, and of the job in its hand.
pub record IsJobEvent (past : List Moment) (w : ℕ) (e : Event) : Type 0 where
  pub done : is_nothing e.act ≡ false
  pub own : is_of_pool e.act ≡ false
  pub unanswered : is_answered e.act ≡ false
  pub by : e.party ≡ Worker w
  pub of : e.job ≡ hand past w

pub job_event : (past : List Moment) (now : Moment) (w : ℕ) → StepLaw past now → now.step ≡ Job w
    → has_action past (Job w) ≡ true → IsJobEvent past w now.event
job_event past now w law step has =
    let at_step : Happens (has_action past (Job w)) past (Job w) now.event.act =
    subst (λ s. Happens (has_action past s) past s now.event.act) step law.act in
    let happens : Happens true past (Job w) now.event.act =
    subst (λ b. Happens b past (Job w) now.event.act) has at_step in
    record {
      done = happens.0;
      own = happens.1.0;
      unanswered = happens.1.1;
      by = law.by ∙ ap (λ b. if b then named now.step else party past now.step) happens.0
          ∙ ap (party past) step;
      of = law.of ∙ ap (λ b. if b then None else job_of past now.step now.event.act) happens.0
          ∙ ap (λ s. job_of past s now.event.act) step;
    }

is_jobs : (b c : Bool) (party : Party) (job : Option ℕ) (w s : ℕ) → b ≡ false → c ≡ false
    → party ≡ Worker w → job ≡ Some s
    → (not b && not c && is_some_worker party && is_this s job) ≡ true
is_jobs b c party job w s own done by of = rw (own, done, by, of) (same_self s)

either : (b c : Bool) → c ≡ true → (b || c) ≡ true
either true c e = refl
either false c e = e

-- so the law of its task holds of it
pub job_law : (setting : ℕ) (plan : List Bool) (past : List Moment) (now : Moment) (w s k : ℕ)
    → Legal setting plan (now ∷ past) → IsJobEvent past w now.event → hand past w ≡ Some s
    → holder past s ≡ Some (Task k) → TaskLaw s (task_cut k s (events past)) now.event
job_law setting plan past now w s k legal event in_hand held =
    task_keeps setting plan past now k s (keeps setting plan past now legal.pool s (Task k) held)
    (either (is_by_task k now.event) (is_of_job s now.event)
    (is_jobs (is_of_pool now.event.act) (is_nothing now.event.act) now.event.party now.event.job w s
    event.own event.done event.by (event.of ∙ in_hand)))
    legal

in_cut_of_job : (b c : Bool) (party : Party) (owner : Option ℕ) (w h : ℕ) → b ≡ false → c ≡ false
    → party ≡ Worker w → owner ≡ Some h
    → (not b && not c && (is_owner h party || is_some_worker party && is_this h owner)) ≡ true
in_cut_of_job b c party owner w h own done by owned = rw (own, done, by, owned) (same_self h)

-- so the law of its owner holds of it
pub owner_job_law : (setting : ℕ) (plan : List Bool) (past : List Moment) (now : Moment) (w s h : ℕ)
    → Legal setting plan (now ∷ past) → IsJobEvent past w now.event → hand past w ≡ Some s
    → holder past s ≡ Some (Owner h) → OwnerLaw (cut h (events past)) now.event
owner_job_law setting plan past now w s h legal event in_hand held =
    let of : now.event.job ≡ Some s = event.of ∙ in_hand in
    let owned : now.event.owner ≡ Some h =
    legal.steps.0.owned ∙ ap (λ j. owner_of j past) of ∙ ap as_owner held in
    owner_keeps setting plan past now h
    (in_cut_of_job (is_of_pool now.event.act) (is_nothing now.event.act) now.event.party
    now.event.owner w h event.own event.done event.by owned) legal

-- ---- every holder is a task or an owner

-- whether a party may hold a job: tasks and owners do
abbrev pub MayHold : Party → Type 0
MayHold (Task k) = Unit {0}
MayHold (Owner h) = Unit {0}
MayHold _ = ⊥

-- every holder so far may hold a job
abbrev HeldRightly : List Moment → Type 0
HeldRightly past = (s : ℕ) (p : Party) → holder past s ≡ Some p → MayHold p

-- no job of a call accepts another
accepts_none : (cut : List Event) (action : JobAction) (t : ℕ) → Calls cut action (Accepted t) → ⊥
accepts_none cut AskCall t law = law
accepts_none cut Finish t law = absurd cc
accepts_none cut WakeHolder t law = absurd cc
accepts_none cut _ t law = law

room_accepts_none : (found : Met ℕ) (t : ℕ) → Accepted t ≡ seen_room found → ⊥
room_accepts_none (Served room) t law = cc
room_accepts_none Waiting t law = cc
room_accepts_none Closed t law = cc

put_accepts_none : (n : ℕ) (found : Met (Option (Unit {0}))) (t : ℕ) → Accepted t ≡ seen_put n found
    → ⊥
put_accepts_none n (Served waker) t law = cc
put_accepts_none n Waiting t law = cc
put_accepts_none n Closed t law = cc

peek_accepts_none : (found : Met (List ℕ)) (t : ℕ) → Accepted t ≡ seen_peek found → ⊥
peek_accepts_none (Served seen) t law = cc
peek_accepts_none Waiting t law = cc
peek_accepts_none Closed t law = cc

-- no job of an owner accepts another
works_at_none : (cut : List Event) (action : JobAction) (t : ℕ) → Works cut action (Accepted t) → ⊥
works_at_none cut AskCall t law = law
works_at_none cut (AskBytes n) t law = law
works_at_none cut FindRoom t law =
    room_accepts_none (find_room (room_in cut) (not (is_shut (own cut)))) t law
works_at_none cut (PutPiece bytes) t law =
    put_accepts_none (length bytes) (hand_in (length bytes) (room_in cut) (not (is_shut (own cut)))
    (seated (pipe_seat cut))) t law
works_at_none cut Peek t law =
    peek_accepts_none (peek piece (inside cut) (not (is_shut (own cut)))) t law
works_at_none cut (OfferBytes bytes) t law = law
works_at_none cut (Consume n) t law = cc
works_at_none cut AskFlush t law = law
works_at_none cut AskItem t law = law
works_at_none cut (SendItem x) t law = put_accepts_none 1
    (hand_in 1 (room_in cut) (not (is_shut (own cut))) (seated (pipe_seat cut))) t law
works_at_none cut AskSeek t law = law
works_at_none cut AskResult t law = law
works_at_none cut PutResult t law = cc
works_at_none cut CloseEnd t law = cc
works_at_none cut Finish t law = cc
works_at_none cut WakeHolder t law = cc
works_at_none cut Over t law = law

-- a worker's act by the law of a task is one of the task's job
task_accepts_none : (s t w : ℕ) (cut : List Event) (now : Event) → now.party ≡ Worker w
    → now.act ≡ Accepted t → TaskLaw s cut now → ⊥
task_accepts_none s t w cut now by accepted law =
    accepts_none cut (next_of_job Calling (acts_of s cut)) t
    (subst (λ a. TaskMayAct s true cut a) accepted
    (subst (λ p. TaskMayAct s (is_some_worker p) cut now.act) by law))

-- and by the law of an owner one of the owner's job
owner_accepts_none : (s t w : ℕ) (cut : List Event) (now : Event) → now.party ≡ Worker w
    → now.job ≡ Some s → now.act ≡ Accepted t → OwnerLaw cut now → ⊥
owner_accepts_none s t w cut now by of accepted law =
    let of_job : JobMayAct cut now.job now.act =
    subst (λ p. OwnerMayAct (is_some_worker p) cut now) by law.acts in
    let of_its : JobMayAct cut (Some s) (Accepted t) = subst (λ j. JobMayAct cut j (Accepted t)) of
    (subst (λ a. JobMayAct cut now.job a) accepted of_job) in
    works_at_none cut (next_of_job (kind_of_job s (own cut)) (acts_of s cut)) t of_its.1

-- whoever holds a job, the job accepts no other
held_accepts_none : (p : Party) (setting : ℕ) (plan : List Bool) (past : List Moment) (now : Moment)
    (w s t : ℕ) → MayHold p → Legal setting plan (now ∷ past)
    → IsJobEvent past w now.event → hand past w ≡ Some s → holder past s ≡ Some p
    → now.event.act ≡ Accepted t → ⊥
held_accepts_none (Task k) setting plan past now w s t may legal event in_hand held accepted =
    task_accepts_none s t w (task_cut k s (events past)) now.event event.by accepted
    (job_law setting plan past now w s k legal event in_hand held)
held_accepts_none (Owner h) setting plan past now w s t may legal event in_hand held accepted =
    owner_accepts_none s t w (cut h (events past)) now.event event.by (event.of ∙ in_hand) accepted
    (owner_job_law setting plan past now w s h legal event in_hand held)
held_accepts_none _ setting plan past now w s t may legal event in_hand held accepted = may

by_job : (setting : ℕ) (plan : List Bool) (past : List Moment) (now : Moment) (w t : ℕ)
    → Legal setting plan (now ∷ past) → HeldRightly past
    → now.step ≡ Job w → has_action past (Job w) ≡ true → now.event.act ≡ Accepted t → ⊥
by_job setting plan past now w t legal so_far step has accepted =
    let event = job_event past now w legal.steps.0 step has in
    let found = has_hand past w has in
    let held = in_hand_is_held setting plan past legal.pool.1 w found.job found.is in
    held_accepts_none held.by setting plan past now w found.job t (so_far found.job held.by held.is)
    legal event found.is held.is accepted

-- a copier's step is no worker's
no_asking_worker : (action : CopierAction) (c : Copier) (w : ℕ) → Worker w ≡ asked_by action c → ⊥
no_asking_worker (AskReader call) c w by = cc
no_asking_worker (AskWriter call) c w by = cc
no_asking_worker (Tells act) c w by = cc

no_copying_worker : (o : Option Copier) (past : List Moment) (w : ℕ)
    → Worker w ≡ copier_party o past → ⊥
no_copying_worker None past w by = cc
no_copying_worker (Some c) past w by = no_asking_worker (next_of_copier c past) c w by

-- a worker accepts a job by its own job alone
accepts_at : (b : Bool) (past : List Moment) (step : Step) (w t : ℕ) → has_action past step ≡ b
    → Happens b past step (Accepted t) → Worker w ≡ party past step
    → (v : ℕ) × (step ≡ Job v) × (has_action past (Job v) ≡ true)
accepts_at false past step w t has happens by = absurd cc
accepts_at true past (Job v) w t has happens by = (v, refl, has)
accepts_at true past (Take v) w t has happens by = absurd cc
accepts_at true past Arrive w t has happens by = absurd cc
accepts_at true past (Io v answer) w t has happens by = absurd cc
accepts_at true past (End v) w t has happens by = absurd happens.1
accepts_at true past (Wait v) w t has happens by = absurd happens.1
accepts_at true past (Late v) w t has happens by = absurd happens.1
accepts_at true past (Copy k) w t has happens by =
    absurd (no_copying_worker (copier_in k (copiers past)) past w by)
accepts_at true past _ w t has happens by = absurd cc

by_worker : (setting : ℕ) (plan : List Bool) (past : List Moment) (now : Moment) (w t : ℕ)
    → Legal setting plan (now ∷ past) → HeldRightly past
    → now.event.party ≡ Worker w → now.event.act ≡ Accepted t → ⊥
by_worker setting plan past now w t legal so_far by accepted =
    let law = legal.steps.0 in
    let takes = sym by ∙ law.by
    ∙ ap (λ a. if is_nothing a then named now.step else party past now.step) accepted in
    let at = accepts_at (has_action past now.step) past now.step w t refl
    (subst (λ a. Happens (has_action past now.step) past now.step a) accepted law.act) takes in
    by_job setting plan past now at.0 t legal so_far at.1 at.2 accepted

-- a new job's holder may hold it, unless a worker took the step
new_holder : (past : List Moment) (party p : Party) → newcomer past party ≡ p
    → ((w : ℕ) → party ≡ Worker w → ⊥) → MayHold p
new_holder past Pool p e never = subst MayHold e tt
new_holder past (Task k) p e never = subst MayHold e tt
new_holder past (Owner h) p e never = subst MayHold e tt
new_holder past (Worker w) p e never = absurd (never w refl)

some_is : (p q : Party) → Some p ≡ Some q → p ≡ q
some_is p q e = cc

held_by : (b : Bool) (past : List Moment) (party p : Party) (held : Option Party)
    → (held ≡ Some p → MayHold p) → (b ≡ true → (w : ℕ) → party ≡ Worker w → ⊥)
    → (if b then Some (newcomer past party) else held) ≡ Some p → MayHold p
held_by true past party p held earlier never e =
    new_holder past party p (some_is (newcomer past party) p e) (never refl)
held_by false past party p held earlier never e = earlier e

accepted_is : (act : Act) (s : ℕ) → accepts s act ≡ true → (t : ℕ) × (act ≡ Accepted t)
accepted_is (Accepted t) s e = (t, refl)
accepted_is _ s e = absurd cc

held_rightly : (setting : ℕ) (plan : List Bool) (past : List Moment) → Legal setting plan past
    → HeldRightly past
held_rightly setting plan [] legal = λ s p e. absurd cc
held_rightly setting plan (now ∷ past) legal =
    let so_far = held_rightly setting plan past (before setting plan past now legal) in
    λ s p e. held_by (accepts s now.event.act) past now.event.party p (holder past s) (so_far s p)
    (λ accepts w by. let found = accepted_is now.event.act s accepts in
    by_worker setting plan past now w found.0 legal so_far by found.1) e

-- ---- so each job in a hand has a holder

pub record HasHolder (past : List Moment) (s : ℕ) : Type 0 where
  pub by : Party
  pub held : holder past s ≡ Some by
  pub may : MayHold by

pub holder_in_hand : (setting : ℕ) (plan : List Bool) (past : List Moment) → Legal setting plan past
    → (w s : ℕ) → hand past w ≡ Some s → HasHolder past s
holder_in_hand setting plan past legal w s e =
    let held = in_hand_is_held setting plan past legal.pool w s e in
    record {
      by = held.by;
      held = held.is;
      may = held_rightly setting plan past legal s held.by held.is;
    }
