-- Growth: when the pool grows, which starts are due and which are refused.
use Rattle.std.specs.Prelude.{◌≡◌, ℕ, ◌+◌, ◌-◌, ◌<◌, min, ◌==◌, not, Bool, true, false, List, []}
use Rattle.std.specs.Prelude.{◌∷◌, length, get_or, ◌||◌, if◌then◌else◌, Option, Some, None}
use Rattle.blocking_pool.specs.declared.pool.answer.Refusal.TheVariants.{NoWorker}
use Rattle.blocking_world_laws.specs.Core.{greatest, StartAnswer, IsGrowth}
use Rattle.blocking_world_laws.specs.Jobs.{client_of_step}
use Rattle.blocking_world_laws.specs.Queue.{entered_by, has_room, ready, running}
use Rattle.blocking_world_laws.specs.Counts.{starts, refused_starts, workers, limit}
use Rattle.blocking_world_laws.specs.declared.event.Act.{Act}
use Rattle.blocking_world_laws.specs.declared.event.Act.TheVariants.{Accepted, Refused, LimitSet}
use Rattle.blocking_world_laws.specs.declared.event.Act.TheVariants.{Took, TookDropped, Ended}
use Rattle.blocking_world_laws.specs.declared.event.Moment.{Moment}

-- Whether the pool grows at an act: at a new job, also one that is refused for want of a worker; at
-- a take; and where a wake, a cancel or a sweep puts a job back. It doesn't grow where the end of a
-- turn puts its job back.
abbrev pub grows : List Moment → Act → Bool
grows past (Accepted s) = true
grows past (Refused NoWorker) = true
grows past (Took s) = true
grows past (TookDropped s) = true
grows past (Ended s how) = false
grows past act = not (length (entered_by past act) == 0)

-- the jobs beside the queue that a growth counts: a new job that is refused for want of a worker,
-- where its client has room
abbrev pub turned_away : List Moment → Moment → Act → ℕ
turned_away past now (Refused NoWorker) = if has_room past (client_of_step past now.step) then 1 else 0
turned_away past now _ = 0

-- Start number n may be answered so (true: it is refused) as the plan of the starts says, which
-- begins with start 1. Beyond its end no start is refused.
abbrev pub IsPlanned : List Bool → ℕ → Bool → Type 0
IsPlanned plan n refused = get_or plan (n - 1) false ≡ refused

-- The starts of an event: none where the pool doesn't grow. Else they are due by the jobs that are
-- ready after the event's own entry or take, the workers that are idle then, and the workers and
-- the limit before it; and they are refused as planned, the greatest number always.
abbrev pub StartsRightly : Bool → ℕ → List Bool → List Moment → Moment → Type 0
StartsRightly false setting plan past now =
    (now.event.started ≡ 0) × (now.event.start_refused ≡ false)
StartsRightly true setting plan past now =
    IsGrowth (StartAnswer (IsPlanned plan))
    (length (ready (now ∷ past)) + turned_away past now now.event.act)
    (workers past - length (running (now ∷ past)))
    (workers past) (limit setting past) now.event.first
    (record { started = now.event.started; refused = now.event.start_refused })

-- A new job is accepted only where a worker is counted after its growth, and refused for want of
-- one only where none is.
abbrev pub HasWorker : Act → ℕ → Type 0
HasWorker (Accepted s) workers_now = 0 < workers_now
HasWorker (Refused NoWorker) workers_now = workers_now ≡ 0
HasWorker _ workers_now = Unit {0}

-- The law of growth.
pub record GrowthLaw (setting : ℕ) (plan : List Bool) (past : List Moment) (now : Moment) :
    Type 0 where
  -- starts are numbered on, refused ones too
  pub first : now.event.first ≡ min (1 + starts past + refused_starts past) greatest
  -- what is due is started, and no more
  pub starting : StartsRightly (grows past now.event.act) setting plan past now
  -- no job is accepted that nobody could run
  pub worker : HasWorker now.event.act (workers past + now.event.started)

-- ---- the limit as it is told

-- whether an act sets the limit
abbrev pub is_limit_set : Act → Bool
is_limit_set (LimitSet n) = true
is_limit_set _ = false

-- whether the limit stands: it was set, or the pool has grown, whatever became of that growth's job
abbrev pub has_limit : List Moment → Bool
has_limit [] = false
has_limit (now ∷ past) = is_limit_set now.event.act || grows past now.event.act || has_limit past

-- the limit as it is told: none, before it stands
abbrev pub known_limit : ℕ → List Moment → Option ℕ
known_limit setting past = if has_limit past then Some (limit setting past) else None
