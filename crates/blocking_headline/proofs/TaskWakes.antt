-- No task waits for a call that is over without having been woken.
use Rattle.std.proofs.Common.{◌≡◌, refl, ℕ, ◌<◌, ◌==◌, ◌&&◌, ◌||◌, Bool, true, false, cond}
use Rattle.std.proofs.Common.{if◌then◌else◌, List, [], ◌∷◌, ◌++◌, length, Option, Some, ap, sym, ◌∙◌}
use Rattle.std.specs.Prelude.{not, map, filter, get_or}
use Rattle.std.proofs.lemmas.Bool.{eqb-true}
use mathlib.Core.Path.{subst}
use Rattle.blocking_pool.specs.Lists.{is_in}
use Rattle.blocking_pool.specs.declared.pool.standing.Standing.{Standing}
use Rattle.blocking_pool.specs.declared.pool.standing.Standing.TheVariants.{Queued, Running, Parked}
use Rattle.blocking_pool.specs.declared.pool.standing.Standing.TheVariants.{Done, Dropped}
use Rattle.blocking_world_laws.specs.Answers.{PoolAnswers, end_of}
use Rattle.blocking_world_laws.specs.Jobs.{has_ended, ends_for_good, is_to_drop, is_woken, standing, is_parked}
use Rattle.blocking_world_laws.specs.Jobs.{holder}
use Rattle.blocking_world_laws.specs.JobTable.{Calling, JobAction, AskCall, Finish, WakeHolder, takes_waker}
use Rattle.blocking_world_laws.specs.JobTable.{Kind, next_of_job, next_but_wake, wake_first}
use Rattle.blocking_world_laws.specs.Legal.{Legal, PoolLaw}
use Rattle.blocking_world_laws.specs.Queue.{taken_by}
use Rattle.blocking_world_laws.specs.Seen.{AtEveryBeginning}
use Rattle.blocking_world_laws.specs.Seen.{EachMayFollow, events, acts_of, acts_of_task, task_cut, is_by_task}
use Rattle.blocking_world_laws.specs.Seen.{is_of_job, is_nothing, is_some_worker, is_task, is_this}
use Rattle.blocking_world_laws.specs.Steps.{StepLaw}
use Rattle.blocking_world_laws.specs.TaskLaws.{Calls, CallActs, TaskMayAct, TaskLaw, TaskLaws}
use Rattle.blocking_world_laws.specs.Turns.{Turn, GoesOn, IsWaiting, MustGiveUp, HasGivenUp, turn, turn_by}
use Rattle.blocking_world_laws.specs.Turns.{FitsTurn, TurnLaw}
use Rattle.blocking_world_laws.specs.Wakes.{is_waiting, was_woken as was_told, NoLostWake}
use Rattle.blocking_world_laws.specs.declared.event.Act.{Act}
use Rattle.blocking_world_laws.specs.declared.event.Act.TheVariants.{Took, TookDropped, Ended}
use Rattle.blocking_world_laws.specs.declared.event.Act.TheVariants.{HandedOut, JobParked, GaveUp, HolderWoken}
use Rattle.blocking_world_laws.specs.declared.event.Event.{Event}
use Rattle.blocking_world_laws.specs.declared.event.HolderWaker.{HolderWaker}
use Rattle.blocking_world_laws.specs.declared.event.Moment.{Moment}
use Rattle.blocking_world_laws.specs.declared.event.Party.TheVariants.{Task, Worker}
use Rattle.blocking_headline.specs.Headline.{by, calls, entered, ends, rests, is_wake, was_woken, IsNotLost}
use Rattle.blocking_headline.proofs.Turns.{of_turn, has_waker, is_stopped, IsRid, rid_of, rests_rid}
use Rattle.blocking_headline.proofs.Tasks.{tasks_are, call_held, waiting_there, own_of_task, job_of_task}
use Rattle.blocking_headline.proofs.Tasks.{in_task_cut}
use Rattle.blocking_headline.proofs.Bools.{same_self, first_so, then_so, and_so, or_left, either, unless}

-- ---- the laws of a list with a member or without it

pub now_law : {X : Type 0} (MayFollow : List X → X → Type 0) (b : Bool) (x : X) (xs : List X)
    → b ≡ true → EachMayFollow MayFollow (cond b (x ∷ xs) xs) → MayFollow xs x
now_law MayFollow true x xs e laws = laws.0
now_law MayFollow false x xs e laws = absurd cc

pub older_laws : {X : Type 0} (MayFollow : List X → X → Type 0) (b : Bool) (x : X) (xs : List X)
    → EachMayFollow MayFollow (cond b (x ∷ xs) xs) → EachMayFollow MayFollow xs
older_laws MayFollow true x xs laws = laws.1
older_laws MayFollow false x xs laws = laws

task_before : (k s : ℕ) (past : List Moment) (now : Moment) → TaskLaws s (task_cut k s (events (now ∷ past)))
    → TaskLaws s (task_cut k s (events past))
task_before k s past now laws = older_laws (TaskLaw s) (is_by_task k now.event || is_of_job s now.event)
    now.event (task_cut k s (events past)) laws

job_law : (k s : ℕ) (past : List Moment) (now : Moment) (w : ℕ) → is_of_job s now.event ≡ true
    → now.event.party ≡ Worker w
    → TaskLaws s (task_cut k s (events (now ∷ past))) → CallActs s (task_cut k s (events past)) now.event.act
job_law k s past now w is party laws =
    subst (λ p. TaskMayAct s (is_some_worker p) (task_cut k s (events past)) now.event.act) party
    (now_law (TaskLaw s) (is_by_task k now.event || is_of_job s now.event) now.event (task_cut k s (events past))
    (either (is_by_task k now.event) (is_of_job s now.event) is) laws)

-- ---- the job of a call never waits in its turn

abbrev is_wait : Turn → Bool
is_wait IsWaiting = true
is_wait _ = false

no_parking : (cut : List Event) (action : JobAction) → Calls cut action JobParked → ⊥
no_parking cut AskCall is = is
no_parking cut Finish is = absurd cc
no_parking cut WakeHolder is = absurd cc
no_parking cut _ is = is

wait_if : (b : Bool) (new before : Turn) → is_wait new ≡ false → is_wait before ≡ false
    → is_wait (if b then new else before) ≡ false
wait_if true new before e f = e
wait_if false new before e f = f

parks_not : (b : Bool) (before : Turn) → b ≡ false → is_wait before ≡ false
    → is_wait (if b then IsWaiting else before) ≡ false
parks_not true before e f = absurd cc
parks_not false before e f = f

waits_not : (act : Act) (mine : Bool) (s : ℕ) (before : Turn) → (act ≡ JobParked → mine ≡ false)
    → is_wait before ≡ false → is_wait (turn_by act mine s before) ≡ false
waits_not JobParked mine s before never e = parks_not mine before (never refl) e
waits_not (GaveUp waker) mine s before never e = wait_if mine HasGivenUp before refl e
waits_not (Took t) mine s before never e = wait_if (t == s) GoesOn before refl e
waits_not (TookDropped t) mine s before never e = wait_if (t == s) MustGiveUp before refl e
waits_not (HandedOut t) mine s before never e = wait_if (t == s) MustGiveUp before refl e
waits_not _ mine s before never e = e

not_of : (b : Bool) → (b ≡ true → ⊥) → b ≡ false
not_of true never = absurd (never refl)
not_of false never = refl

never_waits : (setting : ℕ) (plan : List Bool) (past : List Moment) → EachMayFollow (PoolLaw setting plan) past
    → (k s : ℕ) → TaskLaws s (task_cut k s (events past)) → is_wait (turn past s) ≡ false
never_waits setting plan [] pool k s laws = refl
never_waits setting plan (now ∷ past) pool k s laws =
    waits_not now.event.act (is_of_job s now.event) s (turn past s)
    (λ parked. not_of (is_of_job s now.event) (λ is.
    let t = of_turn past now s pool.0.turns is in
    let law : CallActs s (task_cut k s (events past)) JobParked =
    subst (CallActs s (task_cut k s (events past))) parked (job_law k s past now t.worker is t.by laws) in
    no_parking (task_cut k s (events past)) (next_of_job Calling (acts_of s (task_cut k s (events past)))) law))
    (never_waits setting plan past pool.1 k s (task_before k s past now laws))

-- ---- a call's job that rests is over

abbrev is_final : Standing → Bool
is_final Done = true
is_final Dropped = true
is_final _ = false

how_is : {t s : ℕ} {how other : Standing} → Ended t how ≡ Ended s other → how ≡ other
how_is e = cc

final_end : (at : Turn) (drop woken : Bool) (t : ℕ) (how : Standing) → is_wait at ≡ false
    → Ended t how ≡ end_of at drop woken t → is_final how ≡ true
final_end IsWaiting drop woken t how goes e = absurd cc
final_end HasGivenUp drop woken t how goes e = ap is_final (how_is e)
final_end MustGiveUp drop woken t how goes e = ap is_final (how_is e)
final_end GoesOn drop woken t how goes e = ap is_final (how_is e)

for_good : (t s : ℕ) (how : Standing) → is_final how ≡ true → (t == s) ≡ true
    → ends_for_good (Ended t how) s ≡ true
for_good t s Done final is = is
for_good t s Dropped final is = is
for_good t s Queued final is = absurd cc
for_good t s Running final is = absurd cc
for_good t s Parked final is = absurd cc

over_now : (setting : ℕ) (past : List Moment) (now : Moment) (act : Act) (s : ℕ) → PoolAnswers setting past now act
    → is_wait (turn past s) ≡ false → ends act s ≡ true → ends_for_good act s ≡ true
over_now setting past now (Ended t how) s answers goes is = for_good t s how
    (final_end (turn past t) (is_to_drop past t) (is_woken past t) t how
    (subst (λ u. is_wait (turn past u) ≡ false) (sym (eqb-true t s is)) goes) answers) is
over_now setting past now _ s answers goes is = absurd cc

call_over : (setting : ℕ) (plan : List Bool) (past : List Moment) → EachMayFollow (PoolLaw setting plan) past
    → (k s : ℕ) → TaskLaws s (task_cut k s (events past)) → rests s past ≡ true → has_ended past s ≡ true
call_over setting plan [] pool k s laws e = absurd cc
call_over setting plan (now ∷ past) pool k s laws e = at (ends now.event.act s) refl
    (λ f. call_over setting plan past pool.1 k s (task_before k s past now laws)
    (unless (ends now.event.act s) (rests s past)
    (then_so (not (is_in s (entered now.event.act ++ taken_by now.event.act))) _ e) f))
  where
    at : (b : Bool) → ends now.event.act s ≡ b → (ends now.event.act s ≡ false → has_ended past s ≡ true)
        → (ends_for_good now.event.act s || has_ended past s) ≡ true
    at true is before = or_left (ends_for_good now.event.act s) (has_ended past s)
        (over_now setting past now now.event.act s pool.0.answers
        (never_waits setting plan past pool.1 k s (task_before k s past now laws)) is)
    at false is before = either (ends_for_good now.event.act s) (has_ended past s) (before is)

-- ---- a waker that was taken is called

-- a job that took a waker calls it next
pub waker_first : (kind : Kind) (acts : List Act) → has_waker acts ≡ true → next_of_job kind acts ≡ WakeHolder
waker_first kind [] e = absurd cc
waker_first kind (act ∷ past) e = ap (λ b. wake_first b (next_but_wake kind (act ∷ past))) e

pub gives_up_stopped : (at : Turn) (waker : HolderWaker) → FitsTurn at (GaveUp waker) → is_stopped at ≡ true
gives_up_stopped GoesOn waker fits = absurd cc
gives_up_stopped IsWaiting waker fits = refl
gives_up_stopped MustGiveUp waker fits = refl
gives_up_stopped HasGivenUp waker fits = absurd cc

-- where a job has a waker to call, its act is that call
calls_waker : (cut : List Event) (s : ℕ) (at : Turn) (act : Act) → has_waker (acts_of s cut) ≡ true
    → (is_stopped at ≡ true → has_waker (acts_of s cut) ≡ false) → FitsTurn at act → CallActs s cut act
    → act ≡ HolderWoken
calls_waker cut s at (GaveUp waker) has stopped fits law =
    absurd (let bad : true ≡ false = sym has ∙ stopped (gives_up_stopped at waker fits) in cc)
calls_waker cut s at act has stopped fits law =
    subst (λ a. Calls cut a act) (waker_first Calling (acts_of s cut) has) law

swapped : (a b : Bool) → (not a && b) ≡ false → not (b && not a) ≡ true
swapped true true e = refl
swapped true false e = refl
swapped false true e = absurd cc
swapped false false e = refl

pub told_before : (worker taken before : Bool) → (worker && (taken || before)) ≡ true → taken ≡ false → before ≡ true
told_before true true before e f = absurd cc
told_before true false before e f = e
told_before false taken before e f = absurd cc

-- the call of a waker by this job
pub wakes_now : (s : ℕ) (job : Option ℕ) (act : Act) → job ≡ Some s → act ≡ HolderWoken
    → (is_this s job && is_wake act) ≡ true
wakes_now s job act of is = rw (of, is) (rw (same_self s) refl)

-- Where the law sees that the job took its task's waker, the page sees that it called it.
module _ (setting : ℕ) (plan : List Bool) (k s : ℕ) where
  task_moment : (b c : Bool) (past : List Moment) (now : Moment) → is_by_task k now.event ≡ b
      → is_of_job s now.event ≡ c → TurnLaw past now → IsRid past s
      → TaskLaws s (task_cut k s (events (now ∷ past)))
      → was_told (cond (b || c) (now.event ∷ task_cut k s (events past)) (task_cut k s (events past))) ≡ true
      → has_waker (map (λ e. e.act) (cond c (now.event ∷ filter (is_of_job s) (events past))
      (filter (is_of_job s) (events past)))) ≡ false
      → (was_told (task_cut k s (events past)) ≡ true → has_waker (acts_of s (events past)) ≡ false
      → was_woken (Task k) s past ≡ true) → was_woken (Task k) s (now ∷ past) ≡ true
  task_moment true c past now is of turns rid laws told free before =
      let worker = first_so (is_some_worker now.event.party) _ told in
      absurd (let bad : true ≡ false = sym worker ∙ in_task_cut k s now.event is in cc)
  task_moment false false past now is of turns rid laws told free before =
      and_so (not (by (Task k) now.event)) _ (swapped (is_nothing now.event.act) (is_task k now.event.party) is)
      (either (is_this s now.event.job && is_wake now.event.act) (was_woken (Task k) s past) (before told free))
  task_moment false true past now is of turns rid laws told free before =
      and_so (not (by (Task k) now.event)) _ (swapped (is_nothing now.event.act) (is_task k now.event.party) is)
      (at (has_waker (acts_of s (events past))) refl)
    where
      at : (h : Bool) → has_waker (acts_of s (events past)) ≡ h
          → (is_this s now.event.job && is_wake now.event.act || was_woken (Task k) s past) ≡ true
      at false none = either (is_this s now.event.job && is_wake now.event.act) (was_woken (Task k) s past)
          (before (told_before (is_some_worker now.event.party) (takes_waker now.event.act)
          (was_told (task_cut k s (events past))) told free) none)
      at true has =
          let t = of_turn past now s turns of in
          let same = job_of_task k s (events past) in
          let called = calls_waker (task_cut k s (events past)) s (turn past s) now.event.act
          (ap has_waker same ∙ has) (λ e. ap has_waker same ∙ rid.stopped e) t.fits
          (job_law k s past now t.worker of t.by laws) in
          or_left (is_this s now.event.job && is_wake now.event.act) (was_woken (Task k) s past)
          (wakes_now s now.event.job now.event.act t.of called)

  task_called : (past : List Moment) → EachMayFollow StepLaw past → EachMayFollow (PoolLaw setting plan) past
      → TaskLaws s (task_cut k s (events past)) → was_told (task_cut k s (events past)) ≡ true
      → has_waker (acts_of s (events past)) ≡ false → was_woken (Task k) s past ≡ true
  task_called [] steps pool laws told free = absurd cc
  task_called (now ∷ past) steps pool laws told free =
      task_moment (is_by_task k now.event) (is_of_job s now.event) past now refl refl pool.0.turns
      (rid_of setting plan past steps.1 pool.1 s) laws told free
      (task_called past steps.1 pool.1 (task_before k s past now laws))

-- ---- so no wake of a task is lost

pub tasks : (setting : ℕ) (plan : List Bool) (seen : List Moment) → Legal setting plan seen
    → (k s : ℕ) → get_or (calls seen) k 0 ≡ s → IsNotLost (Task k) s (acts_of_task k (events seen)) seen
tasks setting plan seen legal k s at waits resting =
    let there = waiting_there seen legal.steps k waits in
    let within : k < length (calls seen) = subst (λ n. k < n) (tasks_are seen) there in
    let held : holder seen s ≡ Some (Task k) =
    subst (λ t. holder seen t ≡ Some (Task k)) at (call_held setting plan seen legal.pool k within) in
    let laws = legal.tasks k s held in
    let over = call_over setting plan seen legal.pool k s laws resting in
    let told = (now_wakes seen legal.wakes).tasks k s held
    (ap is_waiting (own_of_task k s (events seen)) ∙ waits)
    (either (is_parked (standing seen s)) (has_ended seen s) over) in
    task_called setting plan k s seen legal.steps legal.pool laws told
    (rests_rid setting plan seen legal.steps legal.pool s resting)
  where
    now_wakes : (seen : List Moment) → AtEveryBeginning NoLostWake seen → NoLostWake seen
    now_wakes [] wakes = wakes
    now_wakes (now ∷ past) wakes = wakes.0
