-- Turns: which worker has which job in hand, and what the job may do there.
use Rattle.std.specs.Prelude.{◌≡◌, ℕ, ◌==◌, ◌&&◌, not, if◌then◌else◌, Bool, true, false, List, []}
use Rattle.std.specs.Prelude.{◌∷◌, Option, Some, None}
use Rattle.blocking_pool.specs.Lists.{is_in}
use Rattle.blocking_world_laws.specs.Seen.{is_worker, is_of_job, is_of_pool}
use Rattle.blocking_world_laws.specs.Queue.{running}
use Rattle.blocking_world_laws.specs.declared.event.Act.{Act}
use Rattle.blocking_world_laws.specs.declared.event.Act.TheVariants.{Took, TookDropped, Ended}
use Rattle.blocking_world_laws.specs.declared.event.Act.TheVariants.{HandedOut, JobParked, GaveUp}
use Rattle.blocking_world_laws.specs.declared.event.Act.TheVariants.{HolderWoken}
use Rattle.blocking_world_laws.specs.declared.event.Event.{Event}
use Rattle.blocking_world_laws.specs.declared.event.Moment.{Moment}
use Rattle.blocking_world_laws.specs.declared.event.Party.{Party}
use Rattle.blocking_world_laws.specs.declared.event.Party.TheVariants.{Worker}

-- Where a job is in its turn: it goes on, it waits for a wake, it has to give up, or it gave up.
pub data Turn : Type 0 where
  GoesOn : Turn
  IsWaiting : Turn
  MustGiveUp : Turn
  HasGivenUp : Turn

-- the turn of job s after an act, which may be the job's own
abbrev pub turn_by : Act → Bool → ℕ → Turn → Turn
turn_by JobParked is_own s before = if is_own then IsWaiting else before
turn_by (GaveUp waker) is_own s before = if is_own then HasGivenUp else before
turn_by (Took t) is_own s before = if t == s then GoesOn else before
turn_by (TookDropped t) is_own s before = if t == s then MustGiveUp else before
turn_by (HandedOut t) is_own s before = if t == s then MustGiveUp else before
turn_by _ is_own s before = before

-- where a job is in its turn
abbrev pub turn : List Moment → ℕ → Turn
turn [] s = GoesOn
turn (now ∷ past) s = turn_by now.event.act (is_of_job s now.event) s (turn past s)

-- what is in a worker's hand after an act, which may be the worker's
abbrev pub hand_by : Act → Bool → Option ℕ → Option ℕ
hand_by (Took s) is_own before = if is_own then Some s else before
hand_by (TookDropped s) is_own before = if is_own then Some s else before
hand_by (Ended s how) is_own before = if is_own then None else before
hand_by _ is_own before = before

-- the job in the hand of a worker
abbrev pub hand : List Moment → ℕ → Option ℕ
hand [] w = None
hand (now ∷ past) w = hand_by now.event.act (is_worker w now.event.party) (hand past w)

-- the job in the hand of a party; only workers have hands
abbrev pub hand_of : List Moment → Party → Option ℕ
hand_of past (Worker w) = hand past w
hand_of past _ = None

-- One worker at a time runs a job, and a worker one job: a take finds the worker's hand empty and
-- the job not running, and the end of a turn finds the job in that hand.
abbrev pub HoldsOne : List Moment → Event → Act → Type 0
HoldsOne past now (Took s) = (hand_of past now.party ≡ None) × (is_in s (running past) ≡ false)
HoldsOne past now (TookDropped s) = (hand_of past now.party ≡ None) × (is_in s (running past) ≡ false)
HoldsOne past now (Ended s how) = hand_of past now.party ≡ Some s
HoldsOne past now (HandedOut s) = hand_of past now.party ≡ Some s
HoldsOne past now act = Unit {0}

-- whether a job gives up
abbrev pub is_giving_up : Act → Bool
is_giving_up (GaveUp waker) = true
is_giving_up _ = false

-- What a job may do by where it is in its turn: while it goes on it doesn't give up; while it waits
-- it does nothing; one that has to give up does that; and then it calls the waker that it took, no
-- more.
abbrev pub FitsTurn : Turn → Act → Type 0
FitsTurn GoesOn act = is_giving_up act ≡ false
FitsTurn IsWaiting act = ⊥
FitsTurn MustGiveUp act = is_giving_up act ≡ true
FitsTurn HasGivenUp act = act ≡ HolderWoken

-- the same, of the job that an event is of
abbrev pub FitsTurnOf : Option ℕ → List Moment → Act → Type 0
FitsTurnOf None past act = ⊥
FitsTurnOf (Some s) past act = FitsTurn (turn past s) act

-- whether an event is of a job
abbrev pub has_job : Option ℕ → Bool
has_job (Some s) = true
has_job None = false

-- whether an event is a job's own act
abbrev pub is_job_act : Event → Bool
is_job_act now = has_job now.job && not (is_of_pool now.act)

-- A job acts only in the hand of the worker that took it, and as its turn allows.
abbrev pub ActsInTurn : Bool → List Moment → Event → Type 0
ActsInTurn false past now = Unit {0}
ActsInTurn true past now = (hand_of past now.party ≡ now.job) × FitsTurnOf now.job past now.act

-- The law of turns.
pub record TurnLaw (past : List Moment) (now : Moment) : Type 0 where
  pub one : HoldsOne past now.event now.event.act
  pub acts : ActsInTurn (is_job_act now.event) past now.event
