-- To each step there is one event.
use Rattle.std.proofs.Common.{◌≡◌, refl, ℕ, ◌<◌, ◌&&◌, ◌||◌, if◌then◌else◌, nat_lt, Bool, true}
use Rattle.std.proofs.Common.{false, List, ◌∷◌, Option, Some, ap, ◌∙◌, arith}
use Rattle.std.specs.Prelude.{not}
use Rattle.std.proofs.lemmas.Bool.Decides.{nat_tests}
use mathlib.Core.Path.{subst, sym}
use Rattle.blocking_pool.specs.declared.pool.answer.Refusal.TheVariants.{Memory}
use Rattle.blocking_world_laws.specs.Seen.{events, own, cut, task_cut, acts_of_task, is_owner}
use Rattle.blocking_world_laws.specs.Seen.{is_some_worker, is_this, is_of_pool, is_nothing}
use Rattle.blocking_world_laws.specs.Jobs.{client_of_step, tasks, holder}
use Rattle.blocking_world_laws.specs.Turns.{Turn, GoesOn, IsWaiting, MustGiveUp, HasGivenUp, turn}
use Rattle.blocking_world_laws.specs.Turns.{hand, is_giving_up, FitsTurn, FitsTurnOf, ActsInTurn}
use Rattle.blocking_world_laws.specs.Turns.{is_job_act, TurnLaw}
use Rattle.blocking_world_laws.specs.TaskLaws.{TaskLaw}
use Rattle.blocking_world_laws.specs.Sessions.{under_way, is_poll_over}
use Rattle.blocking_world_laws.specs.OwnerTable.{OwnerAction, Begin, CloseOwn, WakeJob, Drain, Fill}
use Rattle.blocking_world_laws.specs.OwnerTable.{Receive, PollSlot, PollPlace, Say, Rest}
use Rattle.blocking_world_laws.specs.OwnerTable.{next_of_owner}
use Rattle.blocking_world_laws.specs.OwnerLaws.{IsBegunAnew, Polls, OwnerActs, OwnerMayAct}
use Rattle.blocking_world_laws.specs.Steps.{StepLaw, Happens, IsBegun, has_action, is_pool_step}
use Rattle.blocking_world_laws.specs.Steps.{is_out_of_memory, may_call, named, party}
use Rattle.blocking_world_laws.specs.Legal.{Legal, PoolLaw}
use Rattle.blocking_world_laws.specs.declared.event.Act.{Act}
use Rattle.blocking_world_laws.specs.declared.event.Act.TheVariants.{Accepted, Refused}
use Rattle.blocking_world_laws.specs.declared.event.Event.{Event}
use Rattle.blocking_world_laws.specs.declared.event.Moment.{Moment}
use Rattle.blocking_world_laws.specs.declared.event.Party.{Party}
use Rattle.blocking_world_laws.specs.declared.event.Party.TheVariants.{Owner, Task}
use Rattle.blocking_world_laws.specs.declared.step.Step.{Step}
use Rattle.blocking_world_laws.specs.declared.step.Step.TheVariants.{Own, OfTask, Job}
use Rattle.blocking_world_laws.specs.declared.step.TaskCall.{TaskCall}
use Rattle.blocking_world_laws.specs.declared.step.TaskCall.TheVariants.{Poll, Cancel, Detach, Drop}
use Rattle.blocking_world_laws.proofs.Beginnings.{before, keeps, owner_keeps, task_keeps}
use Rattle.blocking_world_laws.proofs.Queues.{same_self}
use Rattle.blocking_world_law_tests.proofs.OneAct.{one_poll, one_action}
use Rattle.blocking_world_law_tests.proofs.OneOwnerAct.{by_poll, polled, one_line}
use Rattle.blocking_world_law_tests.proofs.OneOwnerAct.{one_action as owners_action}
use Rattle.blocking_world_law_tests.proofs.OneAnswer.{CountsNew, counts_pooled, wake_is, same_job}
use Rattle.blocking_world_law_tests.proofs.OneAnswer.{same_step, one_event}
use Rattle.blocking_world_law_tests.proofs.Holders.{each_task, has_hand, IsJobEvent, job_event}
use Rattle.blocking_world_law_tests.proofs.Holders.{job_law, owner_job_law, MayHold, holder_in_hand}

-- ---- the steps of tasks

both_are : (b c : Bool) → (b && c) ≡ true → b ≡ true
both_are true c e = refl
both_are false c e = e

is_less : (k n : ℕ) → nat_lt k n ≡ true → k < n
is_less k n e = grind (arith, nat_tests)

-- a poll of a task keeps the law of that task
poll_law : (setting : ℕ) (plan : List Bool) (past : List Moment) (now : Moment) (k s : ℕ)
    → Legal setting plan (now ∷ past) → is_nothing now.event.act ≡ false → now.event.party ≡ Task k
    → holder past s ≡ Some (Task k) → TaskLaw s (task_cut k s (events past)) now.event
poll_law setting plan past now k s legal done by held =
    task_keeps setting plan past now k s (keeps setting plan past now legal.pool s (Task k) held)
    (rw (done, by, same_self k) refl) legal

-- by whom a task's step is taken
by_task : (past : List Moment) (now : Moment) (k : ℕ) (c : TaskCall) → StepLaw past now
    → now.step ≡ OfTask k c → is_nothing now.event.act ≡ false → now.event.party ≡ Task k
by_task past now k c law step done =
    law.by ∙ ap (λ b. if b then named now.step else party past now.step) done ∙ ap (party past) step

same_poll : (setting : ℕ) (plan : List Bool) (past : List Moment) (now other : Moment) (k : ℕ)
    → Legal setting plan (now ∷ past) → Legal setting plan (other ∷ past)
    → has_action past (OfTask k Poll) ≡ true → now.step ≡ OfTask k Poll → other.step ≡ OfTask k Poll
    → Happens true past (OfTask k Poll) now.event.act
    → Happens true past (OfTask k Poll) other.event.act → now.event.act ≡ other.event.act
same_poll setting plan past now other k legal other_legal has step other_step happens
    other_happens =
    let there = is_less k (tasks past)
    (both_are (nat_lt k (tasks past)) (may_call (acts_of_task k (events past)) Poll) has) in
    let its = each_task setting plan past legal.pool.1 k there in
    let by = by_task past now k Poll legal.steps.0 step happens.0 in
    let other_by = by_task past other k Poll other_legal.steps.0 other_step other_happens.0 in
    one_poll its.job (task_cut k its.job (events past)) now.event other.event (ap is_some_worker by)
    (ap is_some_worker other_by) happens.1 other_happens.1
    (poll_law setting plan past now k its.job legal happens.0 by its.held)
    (poll_law setting plan past other k its.job other_legal other_happens.0 other_by its.held)

same_call : (setting : ℕ) (plan : List Bool) (past : List Moment) (now other : Moment) (k : ℕ)
    (c : TaskCall) → Legal setting plan (now ∷ past) → Legal setting plan (other ∷ past)
    → has_action past (OfTask k c) ≡ true → now.step ≡ OfTask k c → other.step ≡ OfTask k c
    → Happens true past (OfTask k c) now.event.act → Happens true past (OfTask k c) other.event.act
    → now.event.act ≡ other.event.act
same_call setting plan past now other k Poll legal other_legal has step other_step happens
    other_happens =
    same_poll setting plan past now other k legal other_legal has step other_step happens
    other_happens
same_call setting plan past now other k Cancel legal other_legal has step other_step happens
    other_happens = happens.1 ∙ sym other_happens.1
same_call setting plan past now other k Detach legal other_legal has step other_step happens
    other_happens = happens.1 ∙ sym other_happens.1
same_call setting plan past now other k Drop legal other_legal has step other_step happens
    other_happens = happens.1 ∙ sym other_happens.1

-- ---- the steps of jobs

-- where a job is in its turn, it gives up or it doesn't
turn_says : (at : Turn) (act other : Act) → FitsTurn at act → FitsTurn at other
    → is_giving_up act ≡ is_giving_up other
turn_says GoesOn act other fits other_fits = fits ∙ sym other_fits
turn_says IsWaiting act other fits other_fits = absurd fits
turn_says MustGiveUp act other fits other_fits = fits ∙ sym other_fits
turn_says HasGivenUp act other fits other_fits = ap is_giving_up (fits ∙ sym other_fits)

-- what a job's event keeps of the law of turns
fits_turn : (past : List Moment) (now : Moment) (w s : ℕ) → TurnLaw past now
    → IsJobEvent past w now.event → hand past w ≡ Some s → FitsTurn (turn past s) now.event.act
fits_turn past now w s law event in_hand =
    let of : now.event.job ≡ Some s = event.of ∙ in_hand in
    let is_act : is_job_act now.event ≡ true = rw (of, event.own) refl in
    let acts : ActsInTurn true past now.event =
    subst (λ b. ActsInTurn b past now.event) is_act law.acts in
    subst (λ j. FitsTurnOf j past now.event.act) of acts.1

-- whoever holds the job, its action is one act
by_holder : (p : Party) (setting : ℕ) (plan : List Bool) (past : List Moment) (now other : Moment)
    (w s : ℕ) → MayHold p → Legal setting plan (now ∷ past) → Legal setting plan (other ∷ past)
    → IsJobEvent past w now.event → IsJobEvent past w other.event → hand past w ≡ Some s
    → holder past s ≡ Some p
    → is_giving_up now.event.act ≡ is_giving_up other.event.act → now.event.act ≡ other.event.act
by_holder (Task k) setting plan past now other w s may legal other_legal event other_event in_hand
    held gives =
    one_action s (task_cut k s (events past)) now.event other.event (ap is_some_worker event.by)
    (ap is_some_worker other_event.by) gives event.unanswered
    (job_law setting plan past now w s k legal event in_hand held)
    (job_law setting plan past other w s k other_legal other_event in_hand held)
by_holder (Owner h) setting plan past now other w s may legal other_legal event other_event in_hand
    held gives =
    owners_action (cut h (events past)) s now.event other.event (ap is_some_worker event.by)
    (ap is_some_worker other_event.by) (event.of ∙ in_hand) (other_event.of ∙ in_hand) gives
    event.unanswered
    (owner_job_law setting plan past now w s h legal event in_hand held)
    (owner_job_law setting plan past other w s h other_legal other_event in_hand held)
by_holder _ setting plan past now other w s may legal other_legal event other_event in_hand held
    gives = absurd may

same_action : (setting : ℕ) (plan : List Bool) (past : List Moment) (now other : Moment) (w : ℕ)
    → Legal setting plan (now ∷ past) → Legal setting plan (other ∷ past)
    → has_action past (Job w) ≡ true → now.step ≡ Job w → other.step ≡ Job w
    → now.event.act ≡ other.event.act
same_action setting plan past now other w legal other_legal has step other_step =
    let event = job_event past now w legal.steps.0 step has in
    let other_event = job_event past other w other_legal.steps.0 other_step has in
    let found = has_hand past w has in
    let its = holder_in_hand setting plan past (before setting plan past now legal) w found.job
    found.is in
    let gives = turn_says (turn past found.job) now.event.act other.event.act
    (fits_turn past now w found.job legal.pool.0.turns event found.is)
    (fits_turn past other w found.job other_legal.pool.0.turns other_event found.is) in
    by_holder its.by setting plan past now other w found.job its.may legal other_legal event
    other_event found.is its.held gives

-- ---- the polls of owners

-- by whom the step of a poll is taken
by_its_owner : (past : List Moment) (now : Moment) (h : ℕ) → StepLaw past now → now.step ≡ Own h
    → is_nothing now.event.act ≡ false → now.event.party ≡ Owner h
by_its_owner past now h law step done =
    law.by ∙ ap (λ b. if b then named now.step else party past now.step) done ∙ ap (party past) step

in_cut_of_owner : (b c : Bool) (party : Party) (owner : Option ℕ) (h : ℕ) → b ≡ false → c ≡ false
    → party ≡ Owner h
    → (not b && not c && (is_owner h party || is_some_worker party && is_this h owner)) ≡ true
in_cut_of_owner b c party owner h own done by = rw (own, done, by, same_self h) refl

goes_on : (over : Bool) → not over ≡ true → over ≡ false
goes_on false e = refl
goes_on true e = absurd cc

-- what is done by a poll is what its next action gives
poll_gives : (setting : ℕ) (plan : List Bool) (past : List Moment) (now : Moment) (h : ℕ)
    → Legal setting plan (now ∷ past) → has_action past (Own h) ≡ true → now.step ≡ Own h
    → Happens true past (Own h) now.event.act
    → Polls (cut h (events past)) (next_of_owner (cut h (events past))) now.event.act
poll_gives setting plan past now h legal has step happens =
    let its = cut h (events past) in
    let by = by_its_owner past now h legal.steps.0 step happens.0 in
    let law = owner_keeps setting plan past now h (in_cut_of_owner (is_of_pool now.event.act)
    (is_nothing now.event.act) now.event.party now.event.owner h happens.1 happens.0 by)
    legal in
    let acts : OwnerActs its now.event.act =
    subst (λ p. OwnerMayAct (is_some_worker p) its now.event) by law.acts in
    by_poll its now.event.act
    (polled its now.event.act (goes_on (is_poll_over (under_way (own its))) has) acts) acts

memory_is : (act : Act) → is_out_of_memory act ≡ true → act ≡ Refused Memory
memory_is (Refused Memory) e = refl
memory_is _ e = absurd cc

begun : (cut : List Event) (act : Act) → IsBegunAnew (own cut) act → IsBegun act
begun cut (Accepted s) law = tt
begun cut (Refused why) law = tt
begun cut _ law = law

-- a session begins alike, by the pool's answer
same_begin : (b : Bool) (setting : ℕ) (plan : List Bool) (past : List Moment) (now other : Moment)
    → CountsNew past → now.step ≡ other.step → is_out_of_memory now.event.act ≡ b
    → is_out_of_memory other.event.act ≡ b
    → IsBegun now.event.act → IsBegun other.event.act → PoolLaw setting plan past now
    → PoolLaw setting plan past other → now.event.act ≡ other.event.act
same_begin true setting plan past now other counts step memory other_memory kind other_kind law
    other_law =
    memory_is now.event.act memory ∙ sym (memory_is other.event.act other_memory)
same_begin false setting plan past now other counts step memory other_memory kind other_kind law
    other_law =
    same_job setting plan past now other now.event.act other.event.act
    counts (ap (client_of_step past) step) kind other_kind memory other_memory law.answers
    other_law.answers law.growth other_law.growth

-- an action of a poll is one act: by the cut, or by the pool's answer
by_action : (action : OwnerAction) (setting : ℕ) (plan : List Bool) (past : List Moment)
    (now other : Moment) (cut : List Event) → CountsNew past → now.step ≡ other.step
    → is_out_of_memory now.event.act ≡ is_out_of_memory other.event.act
    → Polls cut action now.event.act → Polls cut action other.event.act
    → PoolLaw setting plan past now → PoolLaw setting plan past other
    → now.event.act ≡ other.event.act
by_action Begin setting plan past now other cut counts step memory act other_act law other_law =
    same_begin (is_out_of_memory other.event.act) setting plan past now other counts step memory
    refl (begun cut now.event.act act) (begun cut other.event.act other_act) law other_law
by_action (WakeJob s) setting plan past now other cut counts step memory act other_act law
    other_law =
    wake_is setting past now s now.event.act act law.answers
    ∙ sym (wake_is setting past other s other.event.act other_act other_law.answers)
by_action CloseOwn setting plan past now other cut counts step memory act other_act law other_law =
    one_line cut CloseOwn now.event.act other.event.act refl act other_act
by_action (Drain n) setting plan past now other cut counts step memory act other_act law other_law =
    one_line cut (Drain n) now.event.act other.event.act refl act other_act
by_action (Fill bytes) setting plan past now other cut counts step memory act other_act law
    other_law = one_line cut (Fill bytes) now.event.act other.event.act refl act other_act
by_action Receive setting plan past now other cut counts step memory act other_act law other_law =
    one_line cut Receive now.event.act other.event.act refl act other_act
by_action PollPlace setting plan past now other cut counts step memory act other_act law other_law =
    one_line cut PollPlace now.event.act other.event.act refl act other_act
by_action PollSlot setting plan past now other cut counts step memory act other_act law other_law =
    one_line cut PollSlot now.event.act other.event.act refl act other_act
by_action (Say reply) setting plan past now other cut counts step memory act other_act law
    other_law = one_line cut (Say reply) now.event.act other.event.act refl act other_act
by_action Rest setting plan past now other cut counts step memory act other_act law other_law =
    absurd act

same_owners_poll : (setting : ℕ) (plan : List Bool) (past : List Moment) (now other : Moment)
    (h : ℕ) → is_out_of_memory now.event.act ≡ is_out_of_memory other.event.act
    → Legal setting plan (now ∷ past) → Legal setting plan (other ∷ past)
    → has_action past (Own h) ≡ true → now.step ≡ Own h → other.step ≡ Own h
    → Happens true past (Own h) now.event.act → Happens true past (Own h) other.event.act
    → now.event.act ≡ other.event.act
same_owners_poll setting plan past now other h memory legal other_legal has step other_step happens
    other_happens =
    by_action (next_of_owner (cut h (events past))) setting plan past now other
    (cut h (events past)) (counts_pooled setting plan past legal.pool.1) (step ∙ sym other_step)
    memory
    (poll_gives setting plan past now h legal has step happens) (poll_gives setting plan past other
    h other_legal has other_step other_happens) legal.pool.0 other_legal.pool.0

-- ---- every step

abbrev Same : Moment → Moment → Type 0
Same now other = now.event.act ≡ other.event.act

-- nothing is done twice alike
idle_or : (b : Bool) (past : List Moment) (step : Step) (now other : Moment)
    → has_action past step ≡ b → Happens b past step now.event.act
    → Happens b past step other.event.act
    → (has_action past step ≡ true → Happens true past step now.event.act
    → Happens true past step other.event.act → Same now other) → Same now other
idle_or true past step now other has happens other_happens acts = acts has happens other_happens
idle_or false past step now other has happens other_happens acts = happens ∙ sym other_happens

-- what is done by a task, by a job or by a poll of an owner is the same
same_elsewhere : (setting : ℕ) (plan : List Bool) (past : List Moment) (step : Step)
    (now other : Moment) → is_out_of_memory now.event.act ≡ is_out_of_memory other.event.act
    → Legal setting plan (now ∷ past) → Legal setting plan (other ∷ past)
    → is_pool_step step ≡ false → now.step ≡ step → other.step ≡ step
    → Happens (has_action past step) past step now.event.act
    → Happens (has_action past step) past step other.event.act → Same now other
same_elsewhere setting plan past (OfTask k c) now other memory legal other_legal own at other_at
    happens other_happens =
    idle_or (has_action past (OfTask k c)) past (OfTask k c) now other refl happens other_happens
    (λ has acts other_acts. same_call setting plan past now other k c legal other_legal has at
    other_at acts other_acts)
same_elsewhere setting plan past (Job w) now other memory legal other_legal own at other_at happens
    other_happens =
    idle_or (has_action past (Job w)) past (Job w) now other refl happens other_happens
    (λ has acts other_acts.
    same_action setting plan past now other w legal other_legal has at other_at)
same_elsewhere setting plan past (Own h) now other memory legal other_legal own at other_at happens
    other_happens =
    idle_or (has_action past (Own h)) past (Own h) now other refl happens other_happens
    (λ has acts other_acts. same_owners_poll setting plan past now other h memory legal other_legal
    has at other_at acts other_acts)
same_elsewhere setting plan past _ now other memory legal other_legal own at other_at happens
    other_happens = absurd cc

-- what is done at the pool is the same, want of memory too
same_at_pool : (b : Bool) (setting : ℕ) (plan : List Bool) (past : List Moment) (now other : Moment)
    → now.step ≡ other.step → is_pool_step now.step ≡ true
    → is_out_of_memory now.event.act ≡ b → is_out_of_memory other.event.act ≡ b
    → Legal setting plan (now ∷ past) → Legal setting plan (other ∷ past) → now.event ≡ other.event
same_at_pool true setting plan past now other step of_pool memory other_memory legal other_legal =
    same_step setting plan past now
    other step (memory_is now.event.act memory ∙ sym (memory_is other.event.act other_memory))
    legal.steps.0 other_legal.steps.0 legal.pool.0 other_legal.pool.0
same_at_pool false setting plan past now other step of_pool memory other_memory legal other_legal =
    one_event setting plan past now other (counts_pooled setting plan past legal.pool.1)
    step of_pool memory other_memory legal.steps.0 other_legal.steps.0 legal.pool.0
    other_legal.pool.0

one_by : (b : Bool) (setting : ℕ) (plan : List Bool) (past : List Moment) (now other : Moment)
    → is_pool_step now.step ≡ b → now.step ≡ other.step
    → is_out_of_memory now.event.act ≡ is_out_of_memory other.event.act
    → Legal setting plan (now ∷ past) → Legal setting plan (other ∷ past) → now.event ≡ other.event
one_by true setting plan past now other of_pool step memory legal other_legal =
    same_at_pool (is_out_of_memory other.event.act) setting plan past now other step of_pool memory
    refl legal other_legal
one_by false setting plan past now other own step memory legal other_legal =
    let other_happens = subst (λ s. Happens (has_action past s) past s other.event.act) (sym step)
    other_legal.steps.0.act in
    same_step setting plan past now other step
    (same_elsewhere setting plan past now.step now other memory legal other_legal own refl
    (sym step) legal.steps.0.act other_happens)
    legal.steps.0 other_legal.steps.0 legal.pool.0 other_legal.pool.0

pub one_legal_event : (setting : ℕ) (plan : List Bool) (past : List Moment) (now other : Moment)
    → now.step ≡ other.step → is_out_of_memory now.event.act ≡ is_out_of_memory other.event.act
    → Legal setting plan (now ∷ past) → Legal setting plan (other ∷ past) → now.event ≡ other.event
one_legal_event setting plan past now other =
    one_by (is_pool_step now.step) setting plan past now other refl
