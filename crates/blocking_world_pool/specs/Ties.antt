-- How a crew hangs together with what was seen.
use Rattle.std.specs.Prelude.{◌≡◌, ◌<◌, ◌+◌, ◌==◌, ◌||◌, min, ℕ, Bool, true, false, List, ◌∷◌}
use Rattle.std.specs.Prelude.{length, Option, Some, None, IfSome}
use Rattle.std.specs.FinMap.{get}
use Rattle.blocking_pool.specs.Counts.{limit_of}
use Rattle.blocking_pool.specs.Growth.{greatest}
use Rattle.blocking_pool.specs.Jobs.{Job as Entry, JobNumber}
use Rattle.blocking_pool.specs.Sweeps.{serials_below}
use Rattle.blocking_pool.specs.declared.pool.standing.Standing.{Standing}
use Rattle.blocking_pool.specs.declared.pool.standing.Standing.TheVariants.{Queued, Running, Parked}
use Rattle.blocking_pool.specs.declared.pool.standing.Standing.TheVariants.{Done, Dropped}
use Rattle.blocking_world_laws.specs.Counts.{starts, stops, refused_starts, arrivals, limit}
use Rattle.blocking_world_laws.specs.Growth.{known_limit}
use Rattle.blocking_world_laws.specs.Jobs.{accepted_jobs, client, client_of_step, holder, is_holder}
use Rattle.blocking_world_laws.specs.Jobs.{standing, is_woken, is_cancelled, is_marked, has_ended}
use Rattle.blocking_world_laws.specs.Legal.{PoolLaw}
use Rattle.blocking_world_laws.specs.Queue.{client_limit, queue, running}
use Rattle.blocking_world_laws.specs.Seen.{EachMayFollow, is_nothing}
use Rattle.blocking_world_laws.specs.Served.{IsServed}
use Rattle.blocking_world_laws.specs.Staffed.{passes, turns}
use Rattle.blocking_world_laws.specs.Steps.{is_there}
use Rattle.blocking_world_laws.specs.Turns.{Turn, GoesOn, IsWaiting, MustGiveUp, HasGivenUp, turn}
use Rattle.blocking_world_laws.specs.Turns.{hand}
use Rattle.blocking_world_laws.specs.declared.event.Event.{Event}
use Rattle.blocking_world_laws.specs.declared.event.Moment.{Moment}
use Rattle.blocking_world_laws.specs.declared.event.Party.{Party}
use Rattle.blocking_world_laws.specs.declared.step.Step.{Step}
use Rattle.blocking_world_pool.specs.Crews.{Crew, IsReady, hand_at, free_hands, busy_hands}
use Rattle.blocking_world_pool.specs.Moves.{Move, Call, Add, Park, Wake, Cancel, LetGo, event_of}
use Rattle.blocking_world_pool.specs.Moves.{next_start, is_aside}
use Rattle.blocking_world_pool.specs.Tickets.{JobPool}
use Rattle.blocking_world_pool.specs.declared.hand.Hand.{Hand}
use Rattle.blocking_world_pool.specs.declared.hand.Hand.TheVariants.{Out, Free, Holds}
use Rattle.blocking_world_pool.specs.declared.hand.JobInHand.{JobInHand}
use Rattle.blocking_world_pool.specs.declared.hand.TurnStage.{TurnStage}
use Rattle.blocking_world_pool.specs.declared.hand.TurnStage.TheVariants as stage
use Rattle.blocking_world_pool.specs.declared.ticket.Ticket.{Ticket}

-- ---- the pool's jobs

-- A job that is queued or parked has its ticket, which bears its mark; a running one's is made anew
-- where its turn ends waiting.
abbrev pub ValueAs : Standing → Option Ticket → Bool → Type 0
ValueAs Queued value mark = value ≡ Some (record { is_marked = mark })
ValueAs Running value mark = value ≡ None
ValueAs Parked value mark = value ≡ Some (record { is_marked = mark })
ValueAs Done value mark = ⊥
ValueAs Dropped value mark = ⊥

-- a job that isn't in the pool was never accepted, or is over
abbrev pub AbsentAs : Option Standing → Bool → Bool → Bool → Bool → Type 0
AbsentAs None wake cancel mark ended =
    (wake ≡ false) × (cancel ≡ false) × (mark ≡ false) × (ended ≡ false)
AbsentAs (Some Done) wake cancel mark ended = ended ≡ true
AbsentAs (Some Dropped) wake cancel mark ended = ended ≡ true
AbsentAs _ wake cancel mark ended = ⊥

-- an entry of the pool, by what was seen of its job: how it stands, whether it was woken,
-- cancelled, marked, and whether it is over
abbrev pub FiledAs : Option (Entry Ticket) → Option Standing → Bool → Bool → Bool → Bool → Type 0
FiledAs None stand wake cancel mark ended = AbsentAs stand wake cancel mark ended
FiledAs (Some entry) stand wake cancel mark ended =
    (stand ≡ Some entry.standing) × (wake ≡ entry.woken) × (cancel ≡ entry.cancelled)
    × (ended ≡ false) × ValueAs entry.standing entry.value mark

-- what was seen of a job, of which the pool has this
abbrev pub FiledHere : Option (Entry Ticket) → List Moment → ℕ → Type 0
FiledHere found past s = FiledAs found (standing past s) (is_woken past s) (is_cancelled past s)
    (is_marked past s) (has_ended past s)

-- each job of the pool is as it was seen
abbrev pub Filed : JobPool → List Moment → Type 0
Filed pool past = (s : ℕ) → FiledHere (get pool.jobs s) past s

-- ---- clients

-- each job of the pool is of the client that was seen
abbrev pub Assigned : JobPool → List Moment → Type 0
Assigned pool past = (s : ℕ) (entry : Entry Ticket) → get pool.jobs s ≡ Some entry
    → entry.client ≡ client past s

-- The client limit is the one that was seen, and lets at least one job run.
pub record Limited (pool : JobPool) (past : List Moment) : Type 0 where
  pub limit_is : pool.client_limit ≡ client_limit past
  pub positive : IfSome pool.client_limit (λ most. 0 < most)

-- ---- the queue

-- The pool's queue is that of the past. That it has the queued jobs, each once, is a theorem of the
-- laws.
abbrev pub Lined : JobPool → List Moment → Type 0
Lined pool past = pool.queue ≡ queue past

-- ---- serials and numbers

-- jobs are numbered from 1 on, as they were accepted
pub record Numbered (pool : JobPool) (past : List Moment) : Type 0 where
  pub next : pool.next_serial ≡ 1 + length (accepted_jobs past)
  pub all_are : serials_below pool.next_serial ≡ 0 ∷ accepted_jobs past

-- A number is that of a job, if the pool has the job at no other place.
abbrev pub IsNumberOf : JobPool → JobNumber → Type 0
IsNumberOf pool number = (entry : Entry Ticket) → get pool.jobs number.serial ≡ Some entry
    → entry.place ≡ number.place

-- ---- the counts

-- The counts of the pool and of the hands are those of what was seen.
pub record Counted (setting : ℕ) (crew : Crew) (past : List Moment) : Type 0 where
  pub workers_are : starts past ≡ crew.pool.counts.workers + stops past
  pub idle_are : crew.pool.counts.workers ≡ crew.pool.counts.idle + length (running past)
  pub arriving_are : starts past ≡ crew.pool.counts.arriving + arrivals past
  pub hands_are : length crew.hands ≡ arrivals past
  pub busy_are : busy_hands crew.hands ≡ length (running past)
  pub setting_is : crew.pool.counts.setting ≡ setting
  pub limit_is : limit_of crew.pool.counts ≡ limit setting past
  pub known_is : crew.pool.counts.limit ≡ known_limit setting past
  pub next_is : crew.pool.counts.next_worker ≡ min (1 + starts past + refused_starts past) greatest

-- ---- the hands

-- whether the worker is there, and which job it has
abbrev pub HandAs : Hand → Bool → Option ℕ → Type 0
HandAs Out there job = (there ≡ false) × (job ≡ None)
HandAs (Free pass) there job = (there ≡ true) × (job ≡ None)
HandAs (Holds held) there job = (there ≡ true) × (job ≡ Some held.turn.serial)

-- where a job is in its turn, in the words of the laws
abbrev pub turn_of : TurnStage → Turn
turn_of stage.Runs = GoesOn
turn_of stage.Waits = IsWaiting
turn_of stage.MustGiveUp = MustGiveUp
turn_of stage.MustWake = HasGivenUp
turn_of stage.GaveUp = HasGivenUp

-- Each hand is as it was seen, and the job in it is there in its turn.
pub record Handed (crew : Crew) (past : List Moment) : Type 0 where
  pub each : (v : ℕ) → HandAs (hand_at crew.hands v) (is_there past v) (hand past v)
  pub turn_is : (v : ℕ) (held : JobInHand) → hand_at crew.hands v ≡ Holds held
      → turn past held.turn.serial ≡ turn_of held.stage

-- ---- all of it

-- A crew hangs together with what was seen.
pub record Crewed (setting : ℕ) (crew : Crew) (past : List Moment) : Type 0 where
  pub numbered : Numbered crew.pool past
  pub filed : Filed crew.pool past
  pub assigned : Assigned crew.pool past
  pub limited : Limited crew.pool past
  pub lined : Lined crew.pool past
  pub counted : Counted setting crew past
  pub handed : Handed crew past

-- What the workers hold: as many passes and as many turns as were seen to be held, and one turn for
-- each running job.
pub record Holding (crew : Crew) (past : List Moment) : Type 0 where
  pub passes_are : free_hands crew.hands ≡ passes past
  pub turns_are : busy_hands crew.hands ≡ turns past
  pub jobs_are : turns past ≡ length (running past)

-- Queued jobs are served: the limit is above 0, and where no worker is left for them, the last
-- start that was tried was refused.
pub record Served (setting : ℕ) (past : List Moment) : Type 0 where
  pub positive : 0 < limit setting past
  pub served : IsServed past

-- What every crew keeps: it hangs together with what was seen, its calls may be made, and the law
-- of the pool has held at every moment.
pub record CrewHolds (setting : ℕ) (plan : List Bool) (crew : Crew) (past : List Moment) :
    Type 0 where
  pub tied : Crewed setting crew past
  pub ready : IsReady crew
  pub laws : EachMayFollow (PoolLaw setting plan) past

-- ---- what the layer above adds to a move, and what it owes

-- The moment of an event: the layer above knows which step it was, and whose owner's job it is.
abbrev pub seen_as : Step → Event → Option ℕ → Moment
seen_as step e owner = record { step = step; event = record e { owner = owner } }

-- the moment of a move
abbrev pub moment_of : Crew → Move → Step → Option ℕ → Moment
moment_of crew move step owner = seen_as step (event_of crew move) owner

-- whether a job's ticket lies in the pool: it is queued or parked
abbrev pub has_ticket : Option Standing → Bool
has_ticket (Some Queued) = true
has_ticket (Some Parked) = true
has_ticket _ = false

-- whether it is the number of job s
abbrev pub is_serial_of : Option JobNumber → ℕ → Bool
is_serial_of None s = false
is_serial_of (Some number) s = number.serial == s

-- Of the jobs that are queued or parked, a party holds the one of this number and no other. Which
-- jobs of its own run or are over doesn't matter, nor whether it ever had any.
abbrev pub HoldsAtRest : List Moment → Party → Option JobNumber → Type 0
HoldsAtRest past party number = (s : ℕ) → has_ticket (standing past s) ≡ true
    → is_holder (holder past s) party ≡ is_serial_of number s

-- What a call asks of the layer above, which knows what each job is for, and by which step the call
-- is made: that a new job is of the client of that step; that a number is its job's; that the
-- ticket of a job that waits bears its mark; and that who lets go of a job holds it, and no other
-- job that is queued or parked.
abbrev pub IsAsked : Crew → List Moment → Step → Call → Type 0
IsAsked crew past step (Add party client added) = client ≡ client_of_step past step
IsAsked crew past step (Park v ticket) = (held : JobInHand) → hand_at crew.hands v ≡ Holds held
    → ticket.is_marked ≡ is_marked past held.turn.serial
IsAsked crew past step (Wake party number) = IsNumberOf crew.pool number
IsAsked crew past step (Cancel party number) = IsNumberOf crew.pool number
IsAsked crew past step (LetGo party act number) =
    IfSome number (IsNumberOf crew.pool) × HoldsAtRest past party number
IsAsked crew past step call = Unit {0}

-- An event of the layer above that is nothing to the crew: it starts nobody, and is no act of a job
-- or of the pool.
pub record IsAside (crew : Crew) (e : Event) : Type 0 where
  pub act : is_aside e.act || is_nothing e.act ≡ true
  pub job : e.job ≡ None
  pub first : e.first ≡ next_start crew
  pub started : e.started ≡ 0
  pub refused : e.start_refused ≡ false
