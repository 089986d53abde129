-- The moves of a crew: each call of it is one of them, and each is seen as one event. A move bears
-- what its event doesn't tell.
use Rattle.std.specs.Prelude.{◌≡◌, ◌<◌, ◌+◌, ◌==◌, nat_lt, not, ℕ, Bool, true, false, [], ◌∷◌, ◌++◌}
use Rattle.std.specs.Prelude.{length, Option, Some, None, Result, Ok, Err, is_some, IfSome}
use Rattle.blocking_pool.specs.Counts.{after_arrival, after_limit}
use Rattle.blocking_pool.specs.Growth.{Growth}
use Rattle.blocking_pool.specs.Jobs.{JobNumber}
use Rattle.blocking_pool.specs.Pools.{ready, without_job}
use Rattle.blocking_pool.specs.declared.pool.answer.Refusal.{Refusal}
use Rattle.blocking_pool.specs.declared.pool.answer.Took.{Took as Taken}
use Rattle.blocking_pool.specs.declared.pool.answer.Took.TheVariants.{Run, Drop, Idle}
use Rattle.blocking_pool.specs.declared.pool.answer.Waited.{Waited}
use Rattle.blocking_pool.specs.declared.pool.answer.Waited.TheVariants.{Stay, Stop}
use Rattle.blocking_pool.specs.declared.pool.answer.Woke.{Woke}
use Rattle.blocking_pool.specs.declared.pool.standing.Standing.TheVariants.{Queued, Parked}
use Rattle.blocking_pool.specs.declared.pool.token.WorkerPass.{WorkerPass}
use Rattle.blocking_world_laws.specs.Answers.{wait_act}
use Rattle.blocking_world_laws.specs.Jobs.{lets_go}
use Rattle.blocking_world_laws.specs.Seen.{has_timed_out}
use Rattle.blocking_world_laws.specs.Steps.{may_limit}
use Rattle.blocking_world_laws.specs.declared.event.Act.{Act}
use Rattle.blocking_world_laws.specs.declared.event.Act.TheVariants.{Made, Asked, OwnerClosed, Got}
use Rattle.blocking_world_laws.specs.declared.event.Act.TheVariants.{GotItem, GotEnd, Filled}
use Rattle.blocking_world_laws.specs.declared.event.Act.TheVariants.{FillShut, Back, ResultGot}
use Rattle.blocking_world_laws.specs.declared.event.Act.TheVariants.{Replied, Accepted, Refused}
use Rattle.blocking_world_laws.specs.declared.event.Act.TheVariants.{JobWoken, JobCancelled}
use Rattle.blocking_world_laws.specs.declared.event.Act.TheVariants.{LimitSet, ClientLimitSet}
use Rattle.blocking_world_laws.specs.declared.event.Act.TheVariants.{Swept, Waits, TaskGot}
use Rattle.blocking_world_laws.specs.declared.event.Act.TheVariants.{TaskGotNone, TaskDetached}
use Rattle.blocking_world_laws.specs.declared.event.Act.TheVariants.{Arrived, Took, TookDropped}
use Rattle.blocking_world_laws.specs.declared.event.Act.TheVariants.{TookNone, Ended, HandedOut}
use Rattle.blocking_world_laws.specs.declared.event.Act.TheVariants.{Linked, Copied, CopyFailed}
use Rattle.blocking_world_laws.specs.declared.event.Act.TheVariants.{NoAction}
use Rattle.blocking_world_laws.specs.declared.event.Event.{Event}
use Rattle.blocking_world_laws.specs.declared.event.Party.{Party}
use Rattle.blocking_world_laws.specs.declared.event.Party.TheVariants.{Worker, Pool}
use Rattle.blocking_world_laws.specs.declared.event.WaitEnd.{WaitEnd}
use Rattle.blocking_world_pool.specs.Crews.{Crew, hand_at, with_hand, is_free_hand, over_in}
use Rattle.blocking_world_pool.specs.Crews.{waiting_in, acting_in, may_end, may_act, held_after_act}
use Rattle.blocking_world_pool.specs.Crews.{outcome_of, standing_after}
use Rattle.blocking_world_pool.specs.Tickets.{JobPool, no_growth, AddsTo, TakesFront, Wakes}
use Rattle.blocking_world_pool.specs.Tickets.{Cancels, SweepsTo, to_sweep, WaitsSo, ParksSo}
use Rattle.blocking_world_pool.specs.Tickets.{pool_after_let_go, with_client_limit}
use Rattle.blocking_world_pool.specs.declared.hand.Hand.{Hand}
use Rattle.blocking_world_pool.specs.declared.hand.Hand.TheVariants.{Out, Free, Holds}
use Rattle.blocking_world_pool.specs.declared.hand.JobInHand.{JobInHand}
use Rattle.blocking_world_pool.specs.declared.hand.TurnStage.{TurnStage}
use Rattle.blocking_world_pool.specs.declared.hand.TurnStage.TheVariants as stage
use Rattle.blocking_world_pool.specs.declared.ticket.Ticket.{Ticket}
use Rattle.blocking_world_pool.specs.declared.tickets.Parking.{Parking}
use Rattle.blocking_world_pool.specs.declared.tickets.Parking.TheVariants as parking

-- What a crew may be asked for, with what it answers beside the event.
pub data Call : Type 0 where
  -- a new job of this client, which this party brings, gets this number or is refused
  Add : Party → ℕ → Result JobNumber Refusal → Call
  -- a started worker arrives
  Arrive : Call
  -- worker v takes a job
  Take : ℕ → Call
  -- the job in the hand of worker v acts so
  Work : ℕ → Act → Call
  -- the turn of worker v's job ends, and the job is over
  End : ℕ → Call
  -- the turn of worker v's job ends, which waits and has this ticket from now on
  Park : ℕ → Ticket → Call
  -- worker v has waited, and its wait ended so
  Wait : ℕ → WaitEnd → Call
  -- the limit is set
  SetLimit : ℕ → Call
  -- the client limit is set, or taken away
  SetClientLimit : Option ℕ → Call
  -- the parked jobs that bear a mark are put back
  Sweep : Call
  -- a wake of this job, by this party
  Wake : Party → JobNumber → Call
  -- a cancel of this job, by this party
  Cancel : Party → JobNumber → Call
  -- by this act this party lets go of this job, or of none that is queued or parked
  LetGo : Party → Act → Option JobNumber → Call
  -- this party does what is nothing to the crew
  Tell : Party → Act → Call

pub data Move : Type 0 where
  -- the call has no action
  Idles : Call → Move
  -- a new job of a client, by what the pool answers
  Adds : Party → ℕ → Result JobNumber Refusal → Growth → JobPool → Move
  -- a worker arrives
  Arrives : WorkerPass → Move
  -- worker v takes a job, to be dropped (true) or to be run
  TakesJob : ℕ → WorkerPass → Bool → JobNumber → Ticket → Growth → JobPool → Move
  -- worker v finds no job
  TakesNone : ℕ → WorkerPass → WorkerPass → Move
  -- the job in the hand of worker v acts so
  Works : ℕ → JobInHand → Act → Move
  -- the turn of worker v's job ends, and the job is over
  EndsTurn : ℕ → JobInHand → WorkerPass → Move
  -- the turn of worker v's job ends, which waits, and this becomes of it
  Parks : ℕ → JobInHand → Ticket → Parking → JobPool → Move
  -- worker v has waited, and stays or stops
  HasWaited : ℕ → WorkerPass → WaitEnd → Waited → Growth → JobPool → Move
  -- the limit is set
  SetsLimit : ℕ → Move
  -- the client limit is set, or taken away
  SetsClientLimit : Option ℕ → Move
  -- a sweep
  Sweeps : Growth → JobPool → Move
  -- a wake of a job, and what it does
  IsWoken : Party → JobNumber → Woke → Growth → JobPool → Move
  -- a cancel of a job, and what it does
  IsCancelled : Party → JobNumber → Woke → Growth → JobPool → Move
  -- by this act a party lets go of a job, or of none that is queued or parked
  IsLetGo : Party → Act → Option JobNumber → Move
  -- a party does what is nothing to the crew
  Tells : Party → Act → Move

-- ---- which call it is

-- the call of a move
abbrev pub call_of : Move → Call
call_of (Idles call) = call
call_of (Adds party client added growth pool) = Add party client added
call_of (Arrives pass) = Arrive
call_of (TakesJob v old to_drop turn ticket growth pool) = Take v
call_of (TakesNone v old pass) = Take v
call_of (Works v held act) = Work v act
call_of (EndsTurn v held pass) = End v
call_of (Parks v held ticket parked pool) = Park v ticket
call_of (HasWaited v pass end waited growth pool) = Wait v end
call_of (SetsLimit n) = SetLimit n
call_of (SetsClientLimit limit) = SetClientLimit limit
call_of (Sweeps growth pool) = Sweep
call_of (IsWoken party number woke growth pool) = Wake party number
call_of (IsCancelled party number woke growth pool) = Cancel party number
call_of (IsLetGo party act number) = LetGo party act number
call_of (Tells party act) = Tell party act

-- ---- what is seen of it

-- the number of the next start
abbrev pub next_start : Crew → ℕ
next_start crew = crew.pool.counts.next_worker

-- What is seen where something was done. Whose owner's job it is, the layer above knows.
abbrev pub seen : Party → Option ℕ → Act → ℕ → Growth → Event
seen who job act first growth =
    record {
      party = who;
      owner = None;
      job = job;
      act = act;
      first = first;
      started = growth.started;
      start_refused = growth.refused;
    }

-- what is seen where nothing was done
abbrev pub nothing : Party → ℕ → Event
nothing who first = seen who None NoAction first no_growth

-- whom a call without an action names
abbrev pub named : Call → Party
named (Take v) = Worker v
named (Work v act) = Worker v
named (End v) = Worker v
named (Park v ticket) = Worker v
named (Wait v end) = Worker v
named _ = Pool

-- what is seen of a new job
abbrev pub added_act : Result JobNumber Refusal → Act
added_act (Ok number) = Accepted number.serial
added_act (Err why) = Refused why

-- what is seen of a job that is taken
abbrev pub took_act : Bool → ℕ → Act
took_act false s = Took s
took_act true s = TookDropped s

-- the same, by what the pool answers: the job that is taken, and the act
abbrev pub job_of_take : Taken Ticket → Option ℕ
job_of_take (Run turn ticket) = Some turn.serial
job_of_take (Drop turn ticket) = Some turn.serial
job_of_take (Idle pass) = None

abbrev pub act_of_take : Taken Ticket → Act
act_of_take (Run turn ticket) = took_act false turn.serial
act_of_take (Drop turn ticket) = took_act true turn.serial
act_of_take (Idle pass) = TookNone

-- whether a worker stops after its wait
abbrev pub is_stop : Waited → Bool
is_stop (Stay pass) = false
is_stop Stop = true

-- what is seen of a run that ends waiting
abbrev pub parked_act : Parking → ℕ → Act
parked_act (parking.Parked pass) s = Ended s Parked
parked_act (parking.Queued pass) s = Ended s Queued
parked_act (parking.HandedOut turn) s = HandedOut s

-- the event of a move
abbrev pub event_of : Crew → Move → Event
event_of crew (Idles call) = nothing (named call) (next_start crew)
event_of crew (Adds party client added growth pool) =
    seen party None (added_act added) (next_start crew) growth
event_of crew (Arrives pass) = seen (Worker (length crew.hands + 1)) None
    (Arrived (length crew.hands + 1)) (next_start crew) no_growth
event_of crew (TakesJob v old to_drop turn ticket growth pool) =
    seen (Worker v) (Some turn.serial) (took_act to_drop turn.serial) (next_start crew) growth
event_of crew (TakesNone v old pass) = seen (Worker v) None TookNone (next_start crew) no_growth
event_of crew (Works v held act) =
    seen (Worker v) (Some held.turn.serial) act (next_start crew) no_growth
event_of crew (EndsTurn v held pass) = seen (Worker v) (Some held.turn.serial)
    (Ended held.turn.serial (standing_after (outcome_of held.stage))) (next_start crew) no_growth
event_of crew (Parks v held ticket parked pool) = seen (Worker v) (Some held.turn.serial)
    (parked_act parked held.turn.serial) (next_start crew) no_growth
event_of crew (HasWaited v pass end waited growth pool) =
    seen (Worker v) None (wait_act v end (is_stop waited)) (next_start crew) growth
event_of crew (SetsLimit n) = seen Pool None (LimitSet n) (next_start crew) no_growth
event_of crew (SetsClientLimit limit) =
    seen Pool None (ClientLimitSet limit) (next_start crew) no_growth
event_of crew (Sweeps growth pool) =
    seen Pool None (Swept (length (to_sweep crew.pool))) (next_start crew) growth
event_of crew (IsWoken party number woke growth pool) =
    seen party None (JobWoken number.serial woke) (next_start crew) growth
event_of crew (IsCancelled party number woke growth pool) =
    seen party None (JobCancelled number.serial woke) (next_start crew) growth
event_of crew (IsLetGo party act number) = seen party None act (next_start crew) no_growth
event_of crew (Tells party act) = seen party None act (next_start crew) no_growth

-- ---- what it leaves

-- where a job that is taken begins its turn
abbrev pub first_stage : Bool → TurnStage
first_stage false = stage.Runs
first_stage true = stage.MustGiveUp

-- the hand after a take
abbrev pub hand_after_take : Taken Ticket → Hand
hand_after_take (Run turn ticket) = Holds (record { turn = turn; stage = first_stage false })
hand_after_take (Drop turn ticket) = Holds (record { turn = turn; stage = first_stage true })
hand_after_take (Idle pass) = Free pass

-- the hand after a run ended waiting: a job that was handed out goes on in its turn, and has to
-- give up
abbrev pub hand_after_park : Parking → Hand
hand_after_park (parking.Parked pass) = Free pass
hand_after_park (parking.Queued pass) = Free pass
hand_after_park (parking.HandedOut turn) = Holds (record { turn = turn; stage = stage.MustGiveUp })

-- the hand after a wait
abbrev pub hand_after_wait : Waited → Hand
hand_after_wait (Stay pass) = Free pass
hand_after_wait Stop = Out

-- the crew after a move
abbrev pub after : Crew → Move → Crew
after crew (Idles call) = crew
after crew (Adds party client added growth pool) = record crew { pool = pool }
after crew (Arrives pass) =
    record {
      pool = record crew.pool { counts = after_arrival crew.pool.counts };
      hands = crew.hands ++ Free pass ∷ [];
    }
after crew (TakesJob v old to_drop turn ticket growth pool) = record {
  pool = pool;
  hands = with_hand crew.hands v (Holds (record { turn = turn; stage = first_stage to_drop }));
}
after crew (TakesNone v old pass) = record crew { hands = with_hand crew.hands v (Free pass) }
after crew (Works v held act) =
    record crew { hands = with_hand crew.hands v (Holds (held_after_act held act)) }
after crew (EndsTurn v held pass) = record {
  pool = without_job crew.pool held.turn.serial;
  hands = with_hand crew.hands v (Free pass);
}
after crew (Parks v held ticket parked pool) =
    record { pool = pool; hands = with_hand crew.hands v (hand_after_park parked) }
after crew (HasWaited v pass end waited growth pool) =
    record { pool = pool; hands = with_hand crew.hands v (hand_after_wait waited) }
after crew (SetsLimit n) =
    record crew { pool = record crew.pool { counts = after_limit n crew.pool.counts } }
after crew (SetsClientLimit limit) = record crew { pool = with_client_limit limit crew.pool }
after crew (Sweeps growth pool) = record crew { pool = pool }
after crew (IsWoken party number woke growth pool) = record crew { pool = pool }
after crew (IsCancelled party number woke growth pool) = record crew { pool = pool }
after crew (IsLetGo party act number) = record crew { pool = pool_after_let_go crew.pool number }
after crew (Tells party act) = crew

-- ---- which calls have an action, and which moves there may be

-- whether a call has an action
abbrev pub has_action : Crew → Call → Bool
has_action crew Arrive = nat_lt 0 crew.pool.counts.arriving
has_action crew (Take v) = is_free_hand (hand_at crew.hands v)
has_action crew (Work v act) = is_some (acting_in (hand_at crew.hands v) act)
has_action crew (End v) = is_some (over_in (hand_at crew.hands v))
has_action crew (Park v ticket) = is_some (waiting_in (hand_at crew.hands v))
has_action crew (Wait v end) = is_free_hand (hand_at crew.hands v)
has_action crew (SetLimit n) = not (n == 0)
has_action crew (SetClientLimit limit) = may_limit limit
has_action crew _ = true

-- whether an act of a party is nothing to the crew
abbrev pub is_aside : Act → Bool
is_aside (Made h capacity) = true
is_aside (Asked call) = true
is_aside (OwnerClosed told) = true
is_aside (Got bytes told) = true
is_aside (GotItem x told) = true
is_aside GotEnd = true
is_aside (Filled n told) = true
is_aside FillShut = true
is_aside Back = true
is_aside (ResultGot n) = true
is_aside (Replied reply) = true
is_aside Waits = true
is_aside (TaskGot n) = true
is_aside TaskGotNone = true
is_aside TaskDetached = true
is_aside (Linked k) = true
is_aside (Copied n) = true
is_aside (CopyFailed side) = true
is_aside NoAction = true
is_aside _ = false

abbrev pub May : (ℕ → Bool → Type 0) → Crew → Move → Type 0
May may_answer crew (Idles call) = has_action crew call ≡ false
May may_answer crew (Adds party client added growth pool) =
    AddsTo may_answer crew.pool client added growth pool
May may_answer crew (Arrives pass) = 0 < crew.pool.counts.arriving
May may_answer crew (TakesJob v old to_drop turn ticket growth pool) =
    (hand_at crew.hands v ≡ Free old)
    × TakesFront may_answer crew.pool turn ticket to_drop growth pool
May may_answer crew (TakesNone v old pass) =
    (hand_at crew.hands v ≡ Free old) × (ready crew.pool ≡ [])
May may_answer crew (Works v held act) =
    (hand_at crew.hands v ≡ Holds held) × (may_act held.stage act ≡ true)
May may_answer crew (EndsTurn v held pass) =
    (hand_at crew.hands v ≡ Holds held) × (may_end held.stage ≡ true)
May may_answer crew (Parks v held ticket parked pool) = (hand_at crew.hands v ≡ Holds held)
    × (held.stage ≡ stage.Waits) × ParksSo crew.pool held.turn ticket parked pool
May may_answer crew (HasWaited v pass end waited growth pool) = (hand_at crew.hands v ≡ Free pass)
    × WaitsSo may_answer (has_timed_out end) crew.pool waited growth pool
May may_answer crew (SetsLimit n) = 0 < n
May may_answer crew (SetsClientLimit limit) = IfSome limit (λ most. 0 < most)
May may_answer crew (Sweeps growth pool) =
    SweepsTo may_answer crew.pool (to_sweep crew.pool) growth pool
May may_answer crew (IsWoken party number woke growth pool) =
    Wakes may_answer crew.pool number woke growth pool
May may_answer crew (IsCancelled party number woke growth pool) =
    Cancels may_answer crew.pool number woke growth pool
May may_answer crew (IsLetGo party act number) = lets_go act ≡ true
May may_answer crew (Tells party act) = is_aside act ≡ true

-- A call is a move that there may be.
pub record Moves (may_answer : ℕ → Bool → Type 0) (call : Call) (crew : Crew) (e : Event)
    (crew' : Crew) : Type 0 where
  pub move : Move
  pub may : May may_answer crew move
  pub call_is : call ≡ call_of move
  pub event_is : e ≡ event_of crew move
  pub after_is : crew' ≡ after crew move

-- what a starter may answer that is never asked
abbrev pub NeverAsked : ℕ → Bool → Type 0
NeverAsked number refused = ⊥
