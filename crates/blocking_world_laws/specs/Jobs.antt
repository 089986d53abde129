-- The jobs: who holds them, of which client each is, how it stands, and whether it was woken,
-- cancelled or marked.
use Rattle.std.specs.Prelude.{ℕ, ◌==◌, ◌&&◌, ◌||◌, not, if◌then◌else◌, Bool, true, false, List, []}
use Rattle.std.specs.Prelude.{◌∷◌, length, filter, Option, Some, None}
use Rattle.blocking_pool.specs.declared.pool.answer.Woke.TheVariants.{Entered, Marked}
use Rattle.blocking_pool.specs.declared.pool.standing.Standing.{Standing}
use Rattle.blocking_pool.specs.declared.pool.standing.Standing.TheVariants.{Queued, Running, Parked}
use Rattle.blocking_pool.specs.declared.pool.standing.Standing.TheVariants.{Done, Dropped}
use Rattle.blocking_world_laws.specs.Seen.{joined, is_owner, is_task, has_timed_out}
use Rattle.blocking_world_laws.specs.declared.event.Act.{Act}
use Rattle.blocking_world_laws.specs.declared.event.Act.TheVariants.{Made, Accepted, JobWoken}
use Rattle.blocking_world_laws.specs.declared.event.Act.TheVariants.{JobCancelled, Took}
use Rattle.blocking_world_laws.specs.declared.event.Act.TheVariants.{TookDropped, Ended, Swept}
use Rattle.blocking_world_laws.specs.declared.event.Act.TheVariants.{Stays, Stopped, HolderDropped, TaskCancelled}
use Rattle.blocking_world_laws.specs.declared.event.Event.{Event}
use Rattle.blocking_world_laws.specs.declared.event.Moment.{Moment}
use Rattle.blocking_world_laws.specs.declared.event.Party.{Party}
use Rattle.blocking_world_laws.specs.declared.event.Party.TheVariants.{Owner, Task, Pool}
use Rattle.blocking_world_laws.specs.declared.step.Step.{Step}
use Rattle.blocking_world_laws.specs.declared.step.Step.TheVariants.{New, Own, Spawn}

-- ---- who holds a job

-- the job that an act accepts
abbrev pub accepted_by : Act → List ℕ
accepted_by (Accepted s) = s ∷ []
accepted_by _ = []

-- the jobs that were accepted, in order
abbrev pub accepted_jobs : List Moment → List ℕ
accepted_jobs [] = []
accepted_jobs (now ∷ past) = joined (accepted_jobs past) (accepted_by now.event.act)

-- whether an act accepts this job
abbrev pub accepts : ℕ → Act → Bool
accepts s (Accepted t) = t == s
accepts s _ = false

-- whether the pool itself took the step
abbrev pub is_pool : Party → Bool
is_pool Pool = true
is_pool _ = false

-- whether an event accepts the job of a call, which makes a new task
abbrev pub makes_a_task : Event → Bool
makes_a_task e = is_pool e.party && not (length (accepted_by e.act) == 0)

-- how many tasks there are
abbrev pub tasks : List Moment → ℕ
tasks past = length (filter (λ now. makes_a_task now.event) past)

-- who holds a job that this party brings now: for the pool, the task that comes with it; else the
-- owner whose session begins
abbrev pub newcomer : List Moment → Party → Party
newcomer past Pool = Task (tasks past)
newcomer past party = party

-- who holds the job: whose waker it calls, and who may let it go
abbrev pub holder : List Moment → ℕ → Option Party
holder [] s = None
holder (now ∷ past) s =
    if accepts s now.event.act then Some (newcomer past now.event.party) else holder past s

-- the owner that a holder is: a task is none
abbrev pub as_owner : Option Party → Option ℕ
as_owner (Some (Owner h)) = Some h
as_owner _ = None

-- whether this holder is this party
abbrev pub is_holder : Option Party → Party → Bool
is_holder (Some (Owner h)) party = is_owner h party
is_holder (Some (Task k)) party = is_task k party
is_holder _ party = false

-- ---- of which client a job is

-- the client of the owner that a step makes
abbrev pub client_made : Step → ℕ
client_made (New capacity c) = c
client_made _ = 0

-- whether an act makes this owner
abbrev pub makes : ℕ → Act → Bool
makes h (Made g capacity) = g == h
makes h _ = false

-- the client that an owner was made for
abbrev pub client_of_owner : List Moment → ℕ → ℕ
client_of_owner [] h = 0
client_of_owner (now ∷ past) h =
    if makes h now.event.act then client_made now.step else client_of_owner past h

-- the client of the job that a step brings: a call's is the one that the step names, a session's
-- that of its owner
abbrev pub client_of_step : List Moment → Step → ℕ
client_of_step past (Spawn c) = c
client_of_step past (Own h) = client_of_owner past h
client_of_step past _ = 0

-- the client of a job
abbrev pub client : List Moment → ℕ → ℕ
client [] s = 0
client (now ∷ past) s =
    if accepts s now.event.act then client_of_step past now.step else client past s

-- ---- woken, cancelled, marked

-- whether a wake has met the job since its last take, after one more act
abbrev pub woken_by : Act → ℕ → Bool → Bool
woken_by (JobWoken t Marked) s before = t == s || before
woken_by (Took t) s before = not (t == s) && before
woken_by (TookDropped t) s before = not (t == s) && before
woken_by _ s before = before

-- Woken: a wake has met the job while it ran, since its last take.
abbrev pub is_woken : List Moment → ℕ → Bool
is_woken [] s = false
is_woken (now ∷ past) s = woken_by now.event.act s (is_woken past s)

-- whether an act cancels the job
abbrev pub cancels : Act → ℕ → Bool
cancels (JobCancelled t Entered) s = t == s
cancels (JobCancelled t Marked) s = t == s
cancels _ s = false

-- Cancelled: a cancel has met the job before it was over.
abbrev pub is_cancelled : List Moment → ℕ → Bool
is_cancelled [] s = false
is_cancelled (now ∷ past) s = cancels now.event.act s || is_cancelled past s

-- whether an act ends the job for good
abbrev pub ends_for_good : Act → ℕ → Bool
ends_for_good (Ended t Done) s = t == s
ends_for_good (Ended t Dropped) s = t == s
ends_for_good _ s = false

-- whether the job is over: done or dropped
abbrev pub has_ended : List Moment → ℕ → Bool
has_ended [] s = false
has_ended (now ∷ past) s = ends_for_good now.event.act s || has_ended past s

-- whether by this act a party lets go of the job that it holds
abbrev pub lets_go : Act → Bool
lets_go HolderDropped = true
lets_go TaskCancelled = true
lets_go _ = false

-- Marked: its holder let it go while it wasn't over.
abbrev pub is_marked : List Moment → ℕ → Bool
is_marked [] s = false
is_marked (now ∷ past) s =
    lets_go now.event.act && is_holder (holder past s) now.event.party && not (has_ended past s)
    || is_marked past s

-- whether the job is to be dropped where it is met next
abbrev pub is_to_drop : List Moment → ℕ → Bool
is_to_drop past s = is_cancelled past s || is_marked past s

-- ---- standing

-- whether an act sweeps: a sweep by itself, or a wait that timed out
abbrev pub sweeps : Act → Bool
sweeps (Swept n) = true
sweeps (Stays w end) = has_timed_out end
sweeps (Stopped w end) = has_timed_out end
sweeps _ = false

-- how the job stands after an act that names it; any other act leaves it as it stood
abbrev pub stands_by : Act → ℕ → Option Standing → Option Standing
stands_by (Accepted t) s before = if t == s then Some Queued else before
stands_by (JobWoken t Entered) s before = if t == s then Some Queued else before
stands_by (JobCancelled t Entered) s before = if t == s then Some Queued else before
stands_by (Took t) s before = if t == s then Some Running else before
stands_by (TookDropped t) s before = if t == s then Some Running else before
stands_by (Ended t how) s before = if t == s then Some how else before
stands_by _ s before = before

-- whether that is queued
abbrev pub is_queued : Option Standing → Bool
is_queued (Some Queued) = true
is_queued _ = false

-- whether that is running
abbrev pub is_running : Option Standing → Bool
is_running (Some Running) = true
is_running _ = false

-- whether that is parked
abbrev pub is_parked : Option Standing → Bool
is_parked (Some Parked) = true
is_parked _ = false

-- How the job stands: queued by a sweep that found it parked and marked, else as the newest act
-- says that names it. A job that was never accepted stands nowhere.
abbrev pub standing : List Moment → ℕ → Option Standing
standing [] s = None
standing (now ∷ past) s =
    if sweeps now.event.act && is_parked (standing past s) && is_marked past s then Some Queued
    else stands_by now.event.act s (standing past s)
