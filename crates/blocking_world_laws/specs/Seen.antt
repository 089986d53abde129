-- What was seen. A past is the list of the moments so far, the newest first: a beginning of the
-- trace is a tail of it.
use Rattle.std.specs.Prelude.{◌≡◌, ℕ, ◌==◌, ◌&&◌, ◌||◌, not, Bool, true, false, List, [], ◌∷◌, ◌++◌}
use Rattle.std.specs.Prelude.{map, filter, Option, Some, None}
use Rattle.blocking_pool.specs.Lists.{without}
use Rattle.blocking_world_laws.specs.declared.event.Act.{Act}
use Rattle.blocking_world_laws.specs.declared.event.Act.TheVariants.{Took, TookDropped, Ended}
use Rattle.blocking_world_laws.specs.declared.event.Act.TheVariants.{HandedOut, NoAction}
use Rattle.blocking_world_laws.specs.declared.event.Event.{Event}
use Rattle.blocking_world_laws.specs.declared.event.Moment.{Moment}
use Rattle.blocking_world_laws.specs.declared.event.Party.{Party}
use Rattle.blocking_world_laws.specs.declared.event.Party.TheVariants.{Owner, Task, Worker}
use Rattle.blocking_world_laws.specs.declared.event.WaitEnd.{WaitEnd}
use Rattle.blocking_world_laws.specs.declared.event.WaitEnd.TheVariants.{Woken, TimedOut}

-- It holds of the list, and of each beginning of it.
abbrev pub AtEveryBeginning : {X : Type 0} → (List X → Type 0) → List X → Type 0
AtEveryBeginning Holds [] = Holds []
AtEveryBeginning Holds (now ∷ past) = Holds (now ∷ past) × AtEveryBeginning Holds past

-- Each member may follow those before it.
abbrev pub EachMayFollow : {X : Type 0} → (List X → X → Type 0) → List X → Type 0
EachMayFollow MayFollow [] = Unit {0}
EachMayFollow MayFollow (now ∷ past) = MayFollow past now × EachMayFollow MayFollow past

-- The first list is a beginning of the second.
abbrev pub IsBeginning : List ℕ → List ℕ → Type 0
IsBeginning xs ys = (rest : List ℕ) × (ys ≡ xs ++ rest)

-- the events, without the steps
abbrev pub events : List Moment → List Event
events past = map (λ now. now.event) past

-- the list without these numbers
abbrev pub without_all : List ℕ → List ℕ → List ℕ
without_all [] ns = ns
without_all (n ∷ gone) ns = without_all gone (without n ns)

-- the list with these numbers at its end
abbrev pub joined : List ℕ → List ℕ → List ℕ
joined ns [] = ns
joined ns (m ∷ ms) = ns ++ m ∷ ms

-- whether it is this number
abbrev pub is_this : ℕ → Option ℕ → Bool
is_this n None = false
is_this n (Some m) = m == n

-- whether the party is this owner
abbrev pub is_owner : ℕ → Party → Bool
is_owner h (Owner g) = g == h
is_owner h _ = false

-- whether the party is this task
abbrev pub is_task : ℕ → Party → Bool
is_task k (Task j) = j == k
is_task k _ = false

-- whether the party is this worker
abbrev pub is_worker : ℕ → Party → Bool
is_worker w (Worker v) = v == w
is_worker w _ = false

-- whether the party is a worker
abbrev pub is_some_worker : Party → Bool
is_some_worker (Worker v) = true
is_some_worker _ = false

-- what the pool alone decides: takes, and the ends of turns
abbrev pub is_of_pool : Act → Bool
is_of_pool (Took s) = true
is_of_pool (TookDropped s) = true
is_of_pool (Ended s how) = true
is_of_pool (HandedOut s) = true
is_of_pool _ = false

-- whether a wait ended since its time was up
abbrev pub has_timed_out : WaitEnd → Bool
has_timed_out Woken = false
has_timed_out TimedOut = true

-- whether nothing was done
abbrev pub is_nothing : Act → Bool
is_nothing NoAction = true
is_nothing _ = false

-- whether an event is an act of this job: a worker's, with the job's serial, and none that the pool
-- decides
abbrev pub is_of_job : ℕ → Event → Bool
is_of_job s e =
    not (is_of_pool e.act) && not (is_nothing e.act) && is_some_worker e.party && is_this s e.job

-- whether an event is an act of this task
abbrev pub is_by_task : ℕ → Event → Bool
is_by_task k e = not (is_nothing e.act) && is_task k e.party

-- the acts of a job, the newest first
abbrev pub acts_of : ℕ → List Event → List Act
acts_of s seen = map (λ e. e.act) (filter (is_of_job s) seen)

-- the acts of a task, the newest first
abbrev pub acts_of_task : ℕ → List Event → List Act
acts_of_task k seen = map (λ e. e.act) (filter (is_by_task k) seen)

-- The cut of a task: the events of the task and of its job s. The laws of a task see nothing else.
abbrev pub task_cut : ℕ → ℕ → List Event → List Event
task_cut k s seen = filter (λ e. is_by_task k e || is_of_job s e) seen

-- whether an event is of this owner or of one of its jobs: none that the pool decides, and
-- something was done
abbrev pub is_in_cut : ℕ → Event → Bool
is_in_cut h e = not (is_of_pool e.act) && not (is_nothing e.act)
    && (is_owner h e.party || is_some_worker e.party && is_this h e.owner)

-- The cut of an owner: the events of the owner and of its jobs. The laws of an owner see nothing
-- else.
abbrev pub cut : ℕ → List Event → List Event
cut h seen = filter (is_in_cut h) seen

-- in a cut, the acts of the holder itself: those that are no worker's, the newest first
abbrev pub own : List Event → List Act
own cut = map (λ e. e.act) (filter (λ e. not (is_some_worker e.party)) cut)

-- the acts of an owner, the newest first
abbrev pub acts_of_owner : ℕ → List Event → List Act
acts_of_owner h seen = own (cut h seen)
