-- The parts of a crew as contracts see them: the pool and the hands, and what each small step does
-- to a hand.
use Rattle.std.specs.Prelude.{◌≡◌, ◌+◌, ◌-◌, ◌==◌, ℕ, Bool, true, false, if◌then◌else◌, List, []}
use Rattle.std.specs.Prelude.{◌∷◌, ◌++◌, length, ◌<◌, slice_get, slice_set, refl, Option, Some}
use Rattle.std.specs.Prelude.{None}
use Rattle.std.specs.Coded.{Coded, code_by, coded×, coded_list}
use Rattle.blocking_pool.specs.Counts.{after_arrival}
use Rattle.blocking_pool.specs.Jobs.{is_running_as}
use Rattle.blocking_pool.specs.declared.pool.standing.Standing.{Standing}
use Rattle.blocking_pool.specs.declared.pool.standing.Standing.TheVariants as standing
use Rattle.blocking_pool.specs.declared.pool.token.WorkerPass.{WorkerPass}
use Rattle.blocking_world_laws.specs.declared.event.Act.{Act}
use Rattle.blocking_world_laws.specs.declared.event.Act.TheVariants.{Answered, RoomFree, RoomShut}
use Rattle.blocking_world_laws.specs.declared.event.Act.TheVariants.{JobParked, Put, Lost, Peeked}
use Rattle.blocking_world_laws.specs.declared.event.Act.TheVariants.{Drained, Taken as TakenOut}
use Rattle.blocking_world_laws.specs.declared.event.Act.TheVariants.{JobClosed, ResultPut, Finished}
use Rattle.blocking_world_laws.specs.declared.event.Act.TheVariants.{GaveUp as GivesUp, HolderWoken}
use Rattle.blocking_world_laws.specs.declared.event.HolderWaker.TheVariants.{Taken, Absent}
use Rattle.blocking_world_pool.specs.Tickets.{JobPool, job_pool_code, AreValued}
use Rattle.blocking_world_pool.specs.contracts.hand.Hand.{the_row as hands}
use Rattle.blocking_world_pool.specs.declared.hand.Hand.{Hand}
use Rattle.blocking_world_pool.specs.declared.hand.Hand.TheVariants.{Out, Free, Holds}
use Rattle.blocking_world_pool.specs.declared.hand.JobInHand.{JobInHand}
use Rattle.blocking_world_pool.specs.declared.hand.TurnStage.{TurnStage}
use Rattle.blocking_world_pool.specs.declared.hand.TurnStage.TheVariants.{Runs, Waits, MustGiveUp}
use Rattle.blocking_world_pool.specs.declared.hand.TurnStage.TheVariants.{MustWake, GaveUp}
use Rattle.blocking_world_pool.specs.declared.crew.InHand.{InHand}
use Rattle.blocking_world_pool.specs.declared.tickets.Outcome.{Outcome}
use Rattle.blocking_world_pool.specs.declared.tickets.Outcome.TheVariants as outcome

-- The parts: the pool, and the hands of the workers from 1 on.
pub record Crew : Type 0 where
  pub pool : JobPool
  pub hands : List Hand

abbrev pub crew_code : Coded Crew
crew_code = code_by (JobPool × List Hand) (coded× job_pool_code (coded_list hands.coded))
    (λ c. (c.pool, c.hands)) (λ parts. record { pool = parts.0; hands = parts.1 }) (λ _. refl)

-- ---- one job in hand

-- Whether a job may act so, where it is in its turn: while it runs it doesn't give up; while it
-- waits it does nothing; one that has to give up does that; and then it calls the waker that it
-- took, no more.
abbrev pub may_act : TurnStage → Act → Bool
may_act Runs (Answered answer) = true
may_act Runs (RoomFree n) = true
may_act Runs RoomShut = true
may_act Runs JobParked = true
may_act Runs (Put n waker) = true
may_act Runs (Lost n) = true
may_act Runs (Peeked bytes) = true
may_act Runs Drained = true
may_act Runs (TakenOut n waker) = true
may_act Runs (JobClosed waker) = true
may_act Runs (ResultPut waker) = true
may_act Runs (Finished waker) = true
may_act Runs HolderWoken = true
may_act MustGiveUp (GivesUp waker) = true
may_act MustWake HolderWoken = true
may_act _ act = false

-- where it is after that
abbrev pub stage_after : Act → TurnStage → TurnStage
stage_after JobParked stage = Waits
stage_after (GivesUp Taken) stage = MustWake
stage_after (GivesUp Absent) stage = GaveUp
stage_after HolderWoken MustWake = GaveUp
stage_after _ stage = stage

-- whether a turn may end here, and its job with it
abbrev pub may_end : TurnStage → Bool
may_end Runs = true
may_end GaveUp = true
may_end _ = false

-- whether the job waits
abbrev pub is_waiting : TurnStage → Bool
is_waiting Waits = true
is_waiting _ = false

-- how a job ends whose turn ends here
abbrev pub outcome_of : TurnStage → Outcome
outcome_of Runs = outcome.Done
outcome_of Waits = outcome.Done
outcome_of MustGiveUp = outcome.Dropped
outcome_of MustWake = outcome.Dropped
outcome_of GaveUp = outcome.Dropped

-- how it stands then
abbrev pub standing_after : Outcome → Standing
standing_after outcome.Done = standing.Done
standing_after outcome.Dropped = standing.Dropped

-- ---- one hand

-- The hand of a worker, by its number, from 1: one that hasn't arrived has none.
abbrev pub hand_in : Option Hand → Hand
hand_in None = Out
hand_in (Some hand) = hand

abbrev pub hand_at : List Hand → ℕ → Hand
hand_at row worker = if worker == 0 then Out else hand_in (slice_get row (worker - 1))

-- the hands, of which that of this worker has changed
abbrev pub with_hand : List Hand → ℕ → Hand → List Hand
with_hand row worker hand = slice_set row (worker - 1) hand

-- the hand of a worker that is there
abbrev pub hand_of : List Hand → ℕ → Option Hand
hand_of row worker = if worker == 0 then None else slice_get row (worker - 1)

-- whether a hand is that of an idle worker
abbrev pub is_free_hand : Hand → Bool
is_free_hand (Free pass) = true
is_free_hand _ = false

-- the pass of an idle worker
abbrev pub pass_in : Hand → Option WorkerPass
pass_in (Free pass) = Some pass
pass_in _ = None

-- the job in a hand
abbrev pub held_in : Hand → Option JobInHand
held_in (Holds held) = Some held
held_in _ = None

-- the job in a hand, if this holds of where it is in its turn
abbrev pub held_if : (TurnStage → Bool) → Hand → Option JobInHand
held_if test (Holds held) = if test held.stage then Some held else None
held_if test _ = None

-- the job in a hand whose turn may end
abbrev pub over_in : Hand → Option JobInHand
over_in hand = held_if may_end hand

-- the job in a hand that waits
abbrev pub waiting_in : Hand → Option JobInHand
waiting_in hand = held_if is_waiting hand

-- the serial of the job in a hand, if it may act so
abbrev pub acting_in : Hand → Act → Option ℕ
acting_in (Holds held) act = if may_act held.stage act then Some held.turn.serial else None
acting_in _ act = None

-- a job after it acted so
abbrev pub held_after_act : JobInHand → Act → JobInHand
held_after_act held act = record held { stage = stage_after act held.stage }

-- the hand after that
abbrev pub hand_after_act : Hand → Act → Hand
hand_after_act (Holds held) act = Holds (held_after_act held act)
hand_after_act hand act = hand

-- the job in a hand, as the crew tells it
abbrev pub in_hand_of : Hand → Option InHand
in_hand_of (Holds held) = Some (record { number = held.turn; stage = held.stage })
in_hand_of _ = None

-- A worker that was started arrives, with its pass in hand, and is the next one; no worker, where
-- none is left to arrive.
abbrev pub Joins : JobPool → List Hand → Option ℕ → JobPool → List Hand → Type 0
Joins pool hands None pool' hands' = (pool.counts.arriving ≡ 0) × (pool' ≡ pool) × (hands' ≡ hands)
Joins pool hands (Some worker) pool' hands' =
    (0 < pool.counts.arriving) × (worker ≡ length hands + 1)
    × (pool' ≡ record pool { counts = after_arrival pool.counts })
    × ((pass : WorkerPass) × (hands' ≡ hands ++ Free pass ∷ []))

-- ---- what every crew keeps, so that each call may be made

-- a sum of what each hand adds
abbrev pub sum_of : (Hand → ℕ) → List Hand → ℕ
sum_of one [] = 0
sum_of one (hand ∷ row) = one hand + sum_of one row

-- how many workers are idle, of those that arrived
abbrev pub one_if_free : Hand → ℕ
one_if_free (Free pass) = 1
one_if_free _ = 0

abbrev pub free_hands : List Hand → ℕ
free_hands hands = sum_of one_if_free hands

-- how many workers hold a job
abbrev pub one_if_busy : Hand → ℕ
one_if_busy (Holds held) = 1
one_if_busy _ = 0

abbrev pub busy_hands : List Hand → ℕ
busy_hands hands = sum_of one_if_busy hands

-- The idle workers are those that haven't arrived and those with a free hand; what is in a hand
-- runs, and is in no other; each job that doesn't run has its ticket in the pool.
pub record IsReady (crew : Crew) : Type 0 where
  pub idle : crew.pool.counts.idle ≡ crew.pool.counts.arriving + free_hands crew.hands
  pub runs : (v : ℕ) (held : JobInHand) → hand_at crew.hands v ≡ Holds held
      → is_running_as crew.pool.jobs held.turn ≡ true
  pub apart :
      (v w : ℕ) (one other : JobInHand) → hand_at crew.hands v ≡ Holds one
      → hand_at crew.hands w ≡ Holds other
      → one.turn.serial ≡ other.turn.serial → v ≡ w
  pub valued : AreValued crew.pool.jobs
