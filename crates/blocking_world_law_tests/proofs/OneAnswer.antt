-- To a step that the pool answers there is one event.
use Rattle.std.proofs.Common.{◌≡◌, refl, ℕ, ◌+◌, ◌-◌, ◌∷◌, ◌++◌, arith, add-zero, length-append}
use Rattle.std.proofs.Common.{◌||◌, ◌&&◌, ◌==◌, if◌then◌else◌, nat_lt, Bool, true, false, List, []}
use Rattle.std.proofs.Common.{length, Option, Some, None, ap, ◌∙◌}
use mathlib.Core.Path.{subst, sym}
use Rattle.blocking_pool.specs.Growth.{limit_after, StartAnswer, IsGrowth}
use Rattle.blocking_pool.specs.declared.pool.answer.Refusal.TheVariants.{Memory, NoWorker, Numbers}
use Rattle.blocking_pool.specs.Wakes.{wake_of, cancel_of}
use Rattle.blocking_world_laws.specs.Core.{is_below}
use Rattle.blocking_world_laws.specs.Seen.{EachMayFollow, joined, is_nothing, has_timed_out}
use Rattle.blocking_world_laws.specs.Jobs.{accepted_jobs, client, client_of_step, standing}
use Rattle.blocking_world_laws.specs.Queue.{queue, running, client_limit, of_client, has_room}
use Rattle.blocking_world_laws.specs.Queue.{ready, to_sweep}
use Rattle.blocking_world_laws.specs.Counts.{workers, limit}
use Rattle.blocking_world_laws.specs.Growth.{GrowthLaw, IsPlanned, StartsRightly, grows}
use Rattle.blocking_world_laws.specs.Turns.{hand}
use Rattle.blocking_world_laws.specs.Answers.{take_answer, end_answer, wait_act, PoolAnswers}
use Rattle.blocking_world_laws.specs.Lent.{Copier, copiers, copier_in}
use Rattle.blocking_world_laws.specs.Steps.{StepLaw, Fits, IsOfCopier, Happens, has_action}
use Rattle.blocking_world_laws.specs.Steps.{is_pool_step, is_out_of_memory, is_take, IsBegun}
use Rattle.blocking_world_laws.specs.Steps.{IsEndOf, IsWaitOf, IsSweep, IsWakeOf, IsCancelOf, named}
use Rattle.blocking_world_laws.specs.Steps.{party, job_of, owner_of}
use Rattle.blocking_world_laws.specs.Legal.{PoolLaw}
use Rattle.blocking_world_laws.proofs.Clients.{part, all_kept}
use Rattle.blocking_world_laws.proofs.Queues.{all_ready, client_by, ready_by, ready_new}
use Rattle.blocking_world_law_tests.proofs.Growths.{same_event, same_by, same_starts, growth_of}
use Rattle.blocking_world_laws.specs.declared.event.Act.{Act}
use Rattle.blocking_world_laws.specs.declared.event.Act.TheVariants.{Accepted, Refused, JobWoken}
use Rattle.blocking_world_laws.specs.declared.event.Act.TheVariants.{JobCancelled, Swept, Took}
use Rattle.blocking_world_laws.specs.declared.event.Act.TheVariants.{TookDropped, TookNone, Stays}
use Rattle.blocking_world_laws.specs.declared.event.Act.TheVariants.{Stopped, Ended, HandedOut}
use Rattle.blocking_world_laws.specs.declared.event.Act.TheVariants.{NoAction}
use Rattle.blocking_world_laws.specs.declared.event.Event.{Event}
use Rattle.blocking_world_laws.specs.declared.event.Moment.{Moment}
use Rattle.blocking_world_laws.specs.declared.event.Party.{Party}
use Rattle.blocking_world_laws.specs.declared.event.WaitEnd.{WaitEnd}
use Rattle.blocking_world_laws.specs.declared.event.WaitEnd.TheVariants.{Woken, TimedOut}
use Rattle.blocking_world_laws.specs.declared.step.Step.{Step}
use Rattle.blocking_world_laws.specs.declared.step.Step.TheVariants.{New, Ask, DropOwner, Spawn}
use Rattle.blocking_world_laws.specs.declared.step.Step.TheVariants.{Arrive, Take, Io, End, Wait}
use Rattle.blocking_world_laws.specs.declared.step.Step.TheVariants.{Late, SetLimit, Sweep, Stray}
use Rattle.blocking_world_laws.specs.declared.step.Step.TheVariants.{Strike, SetClientLimit, Link}
use Rattle.blocking_world_laws.specs.declared.step.Step.TheVariants.{Copy}

-- ---- what each step is answered

take_is : (setting : ℕ) (past : List Moment) (now : Moment) (act : Act) → is_take act ≡ true
    → PoolAnswers setting past now act → act ≡ take_answer past
take_is setting past now (Took s) kind answer = answer
take_is setting past now (TookDropped s) kind answer = answer
take_is setting past now TookNone kind answer = answer
take_is setting past now _ kind answer = absurd cc

pub wake_is : (setting : ℕ) (past : List Moment) (now : Moment) (s : ℕ) (act : Act) → IsWakeOf s act
    → PoolAnswers setting past now act → act ≡ JobWoken s (wake_of (standing past s))
wake_is setting past now s (JobWoken t woke) kind answer = subst
    (λ u. JobWoken t woke ≡ JobWoken u (wake_of (standing past u))) kind (ap (JobWoken t) answer)
wake_is setting past now s _ kind answer = absurd kind

cancel_is : (setting : ℕ) (past : List Moment) (now : Moment) (s : ℕ) (act : Act) → IsCancelOf s act
    → PoolAnswers setting past now act → act ≡ JobCancelled s (cancel_of (standing past s))
cancel_is setting past now s (JobCancelled t woke) kind answer = subst (λ u. JobCancelled t woke
    ≡ JobCancelled u (cancel_of (standing past u))) kind (ap (JobCancelled t) answer)
cancel_is setting past now s _ kind answer = absurd kind

sweep_is : (setting : ℕ) (past : List Moment) (now : Moment) (act : Act) → IsSweep act
    → PoolAnswers setting past now act → act ≡ Swept (length (to_sweep past))
sweep_is setting past now (Swept n) kind answer = ap Swept answer
sweep_is setting past now _ kind answer = absurd kind

-- the end of the turn of the job in a hand
abbrev end_in : Option ℕ → List Moment → Act
end_in None past = NoAction
end_in (Some s) past = end_answer past s

end_is : (setting : ℕ) (past : List Moment) (now : Moment) (held : Option ℕ) (act : Act)
    → IsEndOf held act → PoolAnswers setting past now act → act ≡ end_in held past
end_is setting past now held (Ended t how) kind answer =
    subst (λ h. Ended t how ≡ end_in h past) (sym kind) answer
end_is setting past now held (HandedOut t) kind answer =
    subst (λ h. HandedOut t ≡ end_in h past) (sym kind) answer
end_is setting past now held _ kind answer = absurd kind

-- ---- waits

-- what a wait is answered, by the starts of its growth
abbrev stops_by : ℕ → List Moment → WaitEnd → ℕ → Bool → Bool
stops_by setting past end started refused =
    nat_lt (limit_after (limit setting past) (workers past + started) refused)
    (workers past + started)
    || has_timed_out end
    && length (joined (queue past) (if has_timed_out end then to_sweep past else [])) == 0

-- the same moment, with this act
abbrev with_act : Moment → Act → Moment
with_act now act = record now { event = record now.event { act = act } }

-- whichever it is, the worker and what was asked of it are the same
waited : (stop : Bool) (setting : ℕ) (past : List Moment) (now : Moment) (w v : ℕ)
    (end told : WaitEnd) → v ≡ w → told ≡ end
    → stops_by setting past told now.event.started now.event.start_refused ≡ stop
    → wait_act v told stop
    ≡ wait_act w end (stops_by setting past end now.event.started now.event.start_refused)
waited stop setting past now w v end told same time answer =
    ap (wait_act v told) (sym answer)
    ∙ ap (λ u. wait_act u told
    (stops_by setting past told now.event.started now.event.start_refused)) same
    ∙ ap (λ t. wait_act w t (stops_by setting past t now.event.started now.event.start_refused))
    time

wait_is : (setting : ℕ) (past : List Moment) (now : Moment) (w : ℕ) (end : WaitEnd) (act : Act)
    → IsWaitOf w end act → PoolAnswers setting past (with_act now act) act
    → act ≡ wait_act w end (stops_by setting past end now.event.started now.event.start_refused)
wait_is setting past now w end (Stays v told) kind answer =
    waited false setting past now w v end told kind.0 kind.1 answer
wait_is setting past now w end (Stopped v told) kind answer =
    waited true setting past now w v end told kind.0 kind.1 answer
wait_is setting past now w end _ kind answer = absurd kind

-- whether a wait stays or stops, its growth is the same
abbrev WaitStarts : ℕ → List Bool → List Moment → Moment → Act → Type 0
WaitStarts setting plan past now act =
    StartsRightly (grows past act) setting plan past (with_act now act)

stay_starts : (b : Bool) (setting : ℕ) (plan : List Bool) (past : List Moment) (now : Moment)
    (w v : ℕ) (end : WaitEnd)
    → StartsRightly b setting plan past (with_act now (Stays v end))
    → StartsRightly b setting plan past (with_act now (Stays w end))
stay_starts true setting plan past now w v end starts = starts
stay_starts false setting plan past now w v end starts = starts

stop_starts : (b : Bool) (setting : ℕ) (plan : List Bool) (past : List Moment) (now : Moment)
    (w v : ℕ) (end : WaitEnd)
    → StartsRightly b setting plan past (with_act now (Stopped v end))
    → StartsRightly b setting plan past (with_act now (Stays w end))
stop_starts true setting plan past now w v end starts = starts
stop_starts false setting plan past now w v end starts = starts

wait_starts : (setting : ℕ) (plan : List Bool) (past : List Moment) (now : Moment) (w : ℕ)
    (end : WaitEnd) (act : Act) → IsWaitOf w end act
    → WaitStarts setting plan past now act → WaitStarts setting plan past now (Stays w end)
wait_starts setting plan past now w end (Stays v told) kind starts =
    subst (λ t. WaitStarts setting plan past now (Stays w t)) kind.1
    (stay_starts (grows past (Stays v told)) setting plan past now w v told starts)
wait_starts setting plan past now w end (Stopped v told) kind starts =
    subst (λ t. WaitStarts setting plan past now (Stays w t)) kind.1
    (stop_starts (grows past (Stopped v told)) setting plan past now w v told starts)
wait_starts setting plan past now w end _ kind starts = absurd kind

same_wait : (setting : ℕ) (plan : List Bool) (past : List Moment) (now other : Moment)
    (w : ℕ) (end : WaitEnd) → now.step ≡ other.step → IsWaitOf w end now.event.act
    → IsWaitOf w end other.event.act
    → PoolLaw setting plan past now → PoolLaw setting plan past other
    → now.event.act ≡ other.event.act
same_wait setting plan past now other w end step kind other_kind law other_law =
    let starts = wait_starts setting plan past now w end now.event.act kind law.growth.starting in
    let other_starts = wait_starts setting plan past other w end other.event.act other_kind
    other_law.growth.starting in
    let same = same_by (grows past (Stays w end)) setting plan past (with_act now (Stays w end))
    (with_act other (Stays w end)) (ap (client_of_step past) (sym step)) refl
    (other_law.growth.first ∙ sym law.growth.first) starts other_starts in
    let one = wait_is setting past now w end now.event.act kind law.answers in
    let two = wait_is setting past other w end other.event.act other_kind other_law.answers in
    let answers : stops_by setting past end now.event.started now.event.start_refused
    ≡ stops_by setting past end other.event.started other.event.start_refused =
    rw (same.0, same.1) refl in
    one ∙ ap (wait_act w end) answers ∙ sym two

-- ---- new jobs

-- what the law of growth says of an event with this act
abbrev LawAt : ℕ → List Bool → List Moment → Moment → Act → Type 0
LawAt setting plan past now act = GrowthLaw setting plan past (with_act now act)

-- the ready jobs, and one more where this client has room
abbrev ready_with : List Moment → ℕ → ℕ
ready_with past c = length (ready past) + (if has_room past c then 1 else 0)

-- A new job is ready where its client has room, and changes nothing for the others.
abbrev pub CountsNew : List Moment → Type 0
CountsNew past = (s c : ℕ) → s ≡ 1 + length (accepted_jobs past)
    → length (ready_by past (Accepted s) c) ≡ ready_with past c

one_more : (b : Bool) (s : ℕ) (ns : List ℕ)
    → length (ns ++ (if b then s ∷ [] else [])) ≡ length ns + (if b then 1 else 0)
one_more true s ns = length-append ns (s ∷ [])
one_more false s ns = length-append ns []

-- So it is where the pool's law was kept, and where no client limit is set.
pub counts_pooled : (setting : ℕ) (plan : List Bool) (past : List Moment)
    → EachMayFollow (PoolLaw setting plan) past → CountsNew past
counts_pooled setting plan past laws s c next =
    ap length (ready_new setting plan past laws s c next)
    ∙ one_more (has_room past c) s (ready past)

pub counts_unlimited : (past : List Moment) → client_limit past ≡ None → CountsNew past
counts_unlimited past none s c next =
    ap length (all_kept
    (λ t. is_below (client_limit past) (length (part (client_by (Accepted s) c (client past))
    (client_by (Accepted s) c (client past) t) (running past)))) (queue past ++ s ∷ [])
    (λ t. ap (λ (l : Option ℕ). is_below l (length (part (client_by (Accepted s) c (client past))
    (client_by (Accepted s) c (client past) t) (running past)))) none))
    ∙ length-append (queue past) (s ∷ [])
    ∙ ap (λ (ns : List ℕ). length ns + 1) (sym (all_ready past none))
    ∙ ap (λ (b : Bool). length (ready past) + (if b then 1 else 0))
    (sym (ap (λ (l : Option ℕ). is_below l (length (of_client past c (running past)))) none))

-- the growth of a new job, accepted or not
abbrev NewJobGrows : ℕ → List Bool → List Moment → ℕ → ℕ → Moment → Type 0
NewJobGrows setting plan past c first now =
    IsGrowth (StartAnswer (IsPlanned plan)) (ready_with past c)
    (workers past - length (running past)) (workers past) (limit setting past) first
    (growth_of now)

accepted_grows : (setting : ℕ) (plan : List Bool) (past : List Moment) (now : Moment) (s : ℕ)
    → CountsNew past → s ≡ 1 + length (accepted_jobs past)
    → LawAt setting plan past now (Accepted s)
    → NewJobGrows setting plan past (client_of_step past now.step) now.event.first now
accepted_grows setting plan past now s counts next law =
    let count : length (ready_by past (Accepted s) (client_of_step past now.step)) + 0
    ≡ ready_with past (client_of_step past now.step) =
    add-zero (length (ready_by past (Accepted s) (client_of_step past now.step)))
    ∙ counts s (client_of_step past now.step) next in
    subst (λ q. IsGrowth (StartAnswer (IsPlanned plan)) q (workers past - length (running past))
    (workers past) (limit setting past) now.event.first (growth_of now)) count law.starting

-- a job isn't both accepted and refused for want of a worker
not_both : (setting : ℕ) (plan : List Bool) (past : List Moment) (now other : Moment) (s : ℕ)
    → CountsNew past → client_of_step past now.step ≡ client_of_step past other.step
    → s ≡ 1 + length (accepted_jobs past) → LawAt setting plan past now (Accepted s)
    → LawAt setting plan past other (Refused NoWorker) → ⊥
not_both setting plan past now other s counts client next law other_law =
    let c = client_of_step past other.step in
    let first : now.event.first ≡ other.event.first = law.first ∙ sym other_law.first in
    let grows_now : NewJobGrows setting plan past c other.event.first now =
    subst (λ n. NewJobGrows setting plan past c n now)
    first (subst (λ d. NewJobGrows setting plan past d now.event.first now) client
    (accepted_grows setting plan past now s counts next law)) in
    let same : now.event.started ≡ other.event.started = same_starts plan (ready_with past c)
    (workers past - length (running past)) (workers past) (limit setting past) other.event.first
    (growth_of now) (growth_of other) grows_now other_law.starting in
    let some = law.worker in
    let none = other_law.worker in
    omega arith

pub same_job :
    (setting : ℕ) (plan : List Bool) (past : List Moment) (now other : Moment) (act other_act : Act)
    → CountsNew past → client_of_step past now.step ≡ client_of_step past other.step
    → IsBegun act → IsBegun other_act
    → is_out_of_memory act ≡ false → is_out_of_memory other_act ≡ false
    → PoolAnswers setting past (with_act now act) act
    → PoolAnswers setting past (with_act other other_act) other_act
    → LawAt setting plan past now act → LawAt setting plan past other other_act → act ≡ other_act
same_job setting plan past now other (Accepted s) (Accepted t) counts client kind other_kind memory
    other_memory answer other_answer law other_law = ap Accepted (answer.0 ∙ sym other_answer.0)
same_job setting plan past now other (Accepted s) (Refused NoWorker) counts client kind other_kind
    memory other_memory answer other_answer law other_law =
    absurd (not_both setting plan past now other s counts client answer.0 law other_law)
same_job setting plan past now other (Accepted s) (Refused Numbers) counts client kind other_kind
    memory other_memory answer other_answer law other_law = absurd (omega arith)
same_job setting plan past now other (Refused NoWorker) (Accepted t) counts client kind other_kind
    memory other_memory answer other_answer law other_law =
    absurd (not_both setting plan past other now t counts (sym client) other_answer.0 other_law law)
same_job setting plan past now other (Refused NoWorker) (Refused NoWorker) counts client kind
    other_kind memory other_memory answer other_answer law other_law = refl
same_job setting plan past now other (Refused NoWorker) (Refused Numbers) counts client kind
    other_kind memory other_memory answer other_answer law other_law = absurd (omega arith)
same_job setting plan past now other (Refused Numbers) (Accepted t) counts client kind other_kind
    memory other_memory answer other_answer law other_law = absurd (omega arith)
same_job setting plan past now other (Refused Numbers) (Refused NoWorker) counts client kind
    other_kind memory other_memory answer other_answer law other_law = absurd (omega arith)
same_job setting plan past now other (Refused Numbers) (Refused Numbers) counts client kind
    other_kind memory other_memory answer other_answer law other_law = refl
same_job setting plan past now other (Refused Memory) _ counts client kind other_kind memory
    other_memory answer other_answer law other_law = absurd cc
same_job setting plan past now other _ (Refused Memory) counts client kind other_kind memory
    other_memory answer other_answer law other_law = absurd cc
same_job setting plan past now other (Accepted s) _ counts client kind other_kind memory
    other_memory answer other_answer law other_law = absurd other_kind
same_job setting plan past now other (Refused why) _ counts client kind other_kind memory
    other_memory answer other_answer law other_law = absurd other_kind
same_job setting plan past now other _ _ counts client kind other_kind memory other_memory answer
    other_answer law other_law = absurd kind

-- ---- both events

-- so is what a copier does
same_copy : (o : Option Copier) (past : List Moment) (act other : Act) → IsOfCopier o past act
    → IsOfCopier o past other → act ≡ other
same_copy None past act other kind other_kind = absurd kind
same_copy (Some c) past act other kind other_kind = kind ∙ sym other_kind

-- what is done in two events of one step is the same
acts_of_kind : (setting : ℕ) (plan : List Bool) (past : List Moment) (step : Step)
    (now other : Moment) → CountsNew past → now.step ≡ other.step → is_pool_step step ≡ true
    → is_out_of_memory now.event.act ≡ false → is_out_of_memory other.event.act ≡ false
    → Fits past step now.event.act → Fits past step other.event.act → PoolLaw setting plan past now
    → PoolLaw setting plan past other → now.event.act ≡ other.event.act
acts_of_kind setting plan past (Spawn c) now other counts same of_pool memory other_memory kind
    other_kind law other_law =
    same_job setting plan past now other now.event.act other.event.act
    counts (ap (client_of_step past) same) kind other_kind memory other_memory law.answers
    other_law.answers law.growth other_law.growth
acts_of_kind setting plan past Arrive now other counts same of_pool memory other_memory kind
    other_kind law other_law = kind ∙ sym other_kind
acts_of_kind setting plan past (New capacity c) now other counts same of_pool memory other_memory
    kind other_kind law other_law = kind ∙ sym other_kind
acts_of_kind setting plan past (Ask h call) now other counts same of_pool memory other_memory kind
    other_kind law other_law = kind ∙ sym other_kind
acts_of_kind setting plan past (DropOwner h) now other counts same of_pool memory other_memory kind
    other_kind law other_law = kind ∙ sym other_kind
acts_of_kind setting plan past (Take w) now other counts same of_pool memory other_memory kind
    other_kind law other_law =
    take_is setting past now now.event.act kind law.answers
    ∙ sym (take_is setting past other other.event.act other_kind other_law.answers)
acts_of_kind setting plan past (Io w answer) now other counts same of_pool memory other_memory kind
    other_kind law other_law = kind ∙ sym other_kind
acts_of_kind setting plan past (End w) now other counts same of_pool memory other_memory kind
    other_kind law other_law =
    end_is setting past now (hand past w) now.event.act kind law.answers
    ∙ sym (end_is setting past other (hand past w) other.event.act other_kind other_law.answers)
acts_of_kind setting plan
    past (Wait w) now other counts same of_pool memory other_memory kind other_kind law other_law =
    same_wait setting plan past now other w Woken same kind other_kind law other_law
acts_of_kind setting plan
    past (Late w) now other counts same of_pool memory other_memory kind other_kind law other_law =
    same_wait setting plan past now other w TimedOut same kind other_kind law other_law
acts_of_kind setting plan past (SetLimit n) now other counts same of_pool memory other_memory kind
    other_kind law other_law = kind ∙ sym other_kind
acts_of_kind setting plan past Sweep now other counts same of_pool memory other_memory kind
    other_kind law other_law =
    sweep_is setting past now now.event.act kind law.answers
    ∙ sym (sweep_is setting past other other.event.act other_kind other_law.answers)
acts_of_kind setting plan past (Stray s) now other counts same of_pool memory other_memory kind
    other_kind law other_law =
    wake_is setting past now s now.event.act kind law.answers
    ∙ sym (wake_is setting past other s other.event.act other_kind other_law.answers)
acts_of_kind setting plan past (Strike s) now other counts same of_pool memory other_memory kind
    other_kind law other_law =
    cancel_is setting past now s now.event.act kind law.answers
    ∙ sym (cancel_is setting past other s other.event.act other_kind other_law.answers)
acts_of_kind setting plan past (SetClientLimit n) now other counts same of_pool memory other_memory
    kind other_kind law other_law = kind ∙ sym other_kind
acts_of_kind setting plan past (Link a b n) now other counts same of_pool memory other_memory kind
    other_kind law other_law = kind ∙ sym other_kind
acts_of_kind setting plan past (Copy k) now other counts same of_pool memory other_memory kind
    other_kind law other_law =
    same_copy (copier_in k (copiers past)) past now.event.act other.event.act kind other_kind
acts_of_kind setting plan past _ now other counts same of_pool memory other_memory kind other_kind
    law other_law = absurd cc

same_act_by : (b : Bool) (setting : ℕ) (plan : List Bool) (past : List Moment) (step : Step)
    (now other : Moment) → CountsNew past → now.step ≡ other.step → is_pool_step step ≡ true
    → is_out_of_memory now.event.act ≡ false → is_out_of_memory other.event.act ≡ false
    → Happens b past step now.event.act → Happens b past step other.event.act
    → PoolLaw setting plan past now → PoolLaw setting plan past other
    → now.event.act ≡ other.event.act
same_act_by false setting plan past step now other counts same of_pool memory other_memory happens
    other_happens law other_law = happens ∙ sym other_happens
same_act_by true setting plan past step now other counts same of_pool memory other_memory happens
    other_happens law other_law =
    acts_of_kind setting plan past step now other counts same of_pool memory other_memory happens.1
    other_happens.1 law other_law

-- by whom a step's event is, of which job and of which owner
abbrev by_whom : List Moment → Step → Act → Party
by_whom past step act = if is_nothing act then named step else party past step

abbrev of_what : List Moment → Step → Act → Option ℕ
of_what past step act = if is_nothing act then None else job_of past step act

same_events : (event other : Event) → event.party ≡ other.party → event.owner ≡ other.owner
    → event.job ≡ other.job → event.act ≡ other.act → event.first ≡ other.first
    → event.started ≡ other.started → event.start_refused ≡ other.start_refused → event ≡ other
same_events event other party owner job act first started refused =
    λ i. record {
      party = party i;
      owner = owner i;
      job = job i;
      act = act i;
      first = first i;
      started = started i;
      start_refused = refused i;
    }

pub same_step : (setting : ℕ) (plan : List Bool) (past : List Moment) (now other : Moment)
    → now.step ≡ other.step → now.event.act ≡ other.event.act
    → StepLaw past now → StepLaw past other → PoolLaw setting plan past now
    → PoolLaw setting plan past other → now.event ≡ other.event
same_step setting plan past now other step act of_step of_other law other_law =
    let starts = same_event setting plan past now other (ap (client_of_step past) step) act
    law.growth other_law.growth in
    let by = of_step.by ∙ ap (λ s. by_whom past s now.event.act) step
    ∙ ap (by_whom past other.step) act ∙ sym of_other.by in
    let of = of_step.of ∙ ap (λ s. of_what past s now.event.act) step
    ∙ ap (of_what past other.step) act ∙ sym of_other.of in
    let owned = of_step.owned ∙ ap (λ j. owner_of j past) of ∙ sym of_other.owned in
    same_events now.event other.event by owned of act starts.0 starts.1 starts.2

pub one_event : (setting : ℕ) (plan : List Bool) (past : List Moment) (now other : Moment)
    → CountsNew past → now.step ≡ other.step → is_pool_step now.step ≡ true
    → is_out_of_memory now.event.act ≡ false → is_out_of_memory other.event.act ≡ false
    → StepLaw past now → StepLaw past other → PoolLaw setting plan past now
    → PoolLaw setting plan past other → now.event ≡ other.event
one_event setting plan past now other counts step of_pool memory other_memory of_step of_other law
    other_law =
    let other_act =
    subst (λ s. Happens (has_action past s) past s other.event.act) (sym step) of_other.act in
    let act = same_act_by (has_action past now.step) setting plan past now.step now other counts
    step of_pool memory other_memory of_step.act other_act law other_law in
    same_step setting plan past now other step act of_step of_other law other_law
