-- What holds of each act that a job, a holder or a worker may be seen to do here holds of the one
-- that was seen.
use Rattle.std.proofs.Common.{arith, [], ◌≡◌, ℕ, ◌==◌, not, Bool, true, false, List, ◌∷◌, length}
use Rattle.std.proofs.Common.{refl, Option}
use Rattle.blocking_world_pool.proofs.Types.{NoWorker, Done, Dropped, Act, Accepted, Arrived, Ended}
use Rattle.blocking_world_pool.proofs.Types.{GaveUp, HandedOut, HolderDropped, JobCancelled}
use Rattle.blocking_world_pool.proofs.Types.{JobParked, JobWoken, ClientLimitSet, LimitSet, Refused}
use Rattle.blocking_world_pool.proofs.Types.{Stays, Stopped, Swept, TaskCancelled, TookDropped}
use Rattle.blocking_world_pool.proofs.Types.{TookNone, HolderWaker, Moment, Party, Step, TurnStage}
use Rattle.blocking_world_pool.proofs.Types.{Ticket}
use Rattle.blocking_world_pool.proofs.Words.{Growth, Job as Entry, one_if, PoolAnswers, is_arrival}
use Rattle.blocking_world_pool.proofs.Words.{is_stop, limit_by, grows, turned_away, HasWorker}
use Rattle.blocking_world_pool.proofs.Words.{is_limit_set, accepted_jobs, lets_go, entered_by}
use Rattle.blocking_world_pool.proofs.Words.{taken_by, ended_by, is_of_pool, is_there, turn, hand}
use Rattle.blocking_world_pool.proofs.Words.{HoldsOne, FitsTurn, Crew, may_act, stage_after}
use Rattle.blocking_world_pool.proofs.Words.{outcome_of, standing_after, seen, is_aside, FiledHere}
use Rattle.blocking_world_pool.proofs.Words.{turn_of, Handed}
use Rattle.blocking_world_laws.specs.Jobs.{client}
use Rattle.blocking_world_laws.specs.Queue.{client_limit}
use Rattle.blocking_world_laws.specs.declared.event.Act.TheVariants.{Took}
use Rattle.blocking_world_pool.specs.declared.hand.TurnStage.TheVariants as stage

-- the moment of an act, as the layer above sees it
abbrev pub now_with : Step → Option ℕ → Party → Option ℕ → Act → ℕ → Growth → Moment
now_with step owner who job act first growth =
    record { step = step; event = record (seen who job act first growth) { owner = owner } }

-- how an act itself changes workers and limit: no worker arrives, so many stop, and the limit stays
pub record Steady (gone : ℕ) (act : Act) : Type 0 where
  pub came : is_arrival act ≡ false
  pub stop : one_if (is_stop act) ≡ gone
  pub most : (l : ℕ) → limit_by act l ≡ l
  pub set : is_limit_set act ≡ false

-- whether jobs may enter at an act, and no job is taken, no turn ends, no worker arrives or stops,
-- and no limit is set
abbrev pub enters_only : Act → Bool
enters_only (Refused NoWorker) = false
enters_only (LimitSet n) = false
enters_only (ClientLimitSet n) = false
enters_only (Arrived v) = false
enters_only (Took s) = false
enters_only (TookDropped s) = false
enters_only (Stopped v end) = false
enters_only (Ended s how) = false
enters_only _ = true

pub record EntersOnly (past : List Moment) (now : Moment) (act : Act) : Type 0 where
  pub steady : Steady 0 act
  pub grew_is : grows past act ≡ not (length (entered_by past act) == 0)
  pub away : turned_away past now act ≡ 0
  pub taken : taken_by act ≡ []
  pub ended : ended_by act ≡ []

pub only_enters : (past : List Moment) (now : Moment) (act : Act) → enters_only act ≡ true
    → EntersOnly past now act
only_enters past now act is = grind arith

-- whether an act is one of a holder that lets go of nothing, or of a job that goes on in its turn,
-- or none at all
abbrev pub is_plain : Act → Bool
is_plain (Accepted s) = false
is_plain (Refused why) = false
is_plain (JobWoken s woke) = false
is_plain (JobCancelled s woke) = false
is_plain (LimitSet n) = false
is_plain (ClientLimitSet n) = false
is_plain (Swept n) = false
is_plain TaskCancelled = false
is_plain HolderDropped = false
is_plain (Arrived v) = false
is_plain (Took s) = false
is_plain (TookDropped s) = false
is_plain TookNone = false
is_plain (Stays v end) = false
is_plain (Stopped v end) = false
is_plain (Ended s how) = false
is_plain (HandedOut s) = false
is_plain JobParked = false
is_plain (GaveUp waker) = false
is_plain _ = true

-- What a plain act leaves: all that was seen of jobs, hands and turns, and no question to the pool.
pub record Plain (setting : ℕ) (past : List Moment) (last : Moment) : Type 0 where
  pub only : enters_only last.event.act ≡ true
  pub none : entered_by past last.event.act ≡ []
  pub worker : (n : ℕ) → HasWorker last.event.act n
  pub accepted : accepted_jobs (last ∷ past) ≡ accepted_jobs past
  pub client_is : (s : ℕ) → client (last ∷ past) s ≡ client past s
  pub limit_is : client_limit (last ∷ past) ≡ client_limit past
  pub filed : (entry : Option (Entry Ticket)) (s : ℕ) → FiledHere entry past s
      → FiledHere entry (last ∷ past) s
  pub there : (v : ℕ) → is_there (last ∷ past) v ≡ is_there past v
  pub hand_is : (v : ℕ) → hand (last ∷ past) v ≡ hand past v
  pub turn_is : (s : ℕ) → turn (last ∷ past) s ≡ turn past s
  pub one : HoldsOne past last.event last.event.act
  pub answered : PoolAnswers setting past last last.event.act
  pub own : is_of_pool last.event.act ≡ false
  pub handed : (crew : Crew) → Handed crew past → Handed crew (last ∷ past)

module _ (setting : ℕ) (past : List Moment) (step : Step) (owner : Option ℕ) (who : Party)
    (job : Option ℕ) (first : ℕ) (growth : Growth) where
  pub plain : (act : Act) → is_plain act ≡ true
      → Plain setting past (now_with step owner who job act first growth)
  plain (Accepted s) is = absurd cc
  plain (Refused why) is = absurd cc
  plain (JobWoken s woke) is = absurd cc
  plain (JobCancelled s woke) is = absurd cc
  plain (LimitSet n) is = absurd cc
  plain (ClientLimitSet n) is = absurd cc
  plain (Swept n) is = absurd cc
  plain TaskCancelled is = absurd cc
  plain HolderDropped is = absurd cc
  plain (Arrived v) is = absurd cc
  plain (Took s) is = absurd cc
  plain (TookDropped s) is = absurd cc
  plain TookNone is = absurd cc
  plain (Stays v end) is = absurd cc
  plain (Stopped v end) is = absurd cc
  plain (Ended s how) is = absurd cc
  plain (HandedOut s) is = absurd cc
  plain JobParked is = absurd cc
  plain (GaveUp waker) is = absurd cc
  plain act is = record {
    only = refl;
    none = refl;
    worker = λ n. tt;
    accepted = refl;
    client_is = λ s. refl;
    limit_is = refl;
    filed = λ entry s filed. filed;
    there = λ v. refl;
    hand_is = λ v. refl;
    turn_is = λ s. refl;
    one = tt;
    answered = tt;
    own = refl;
    handed = λ crew h. record { each = h.each; turn_is = h.turn_is };
  }

-- an act that is nothing to the crew is plain
pub aside_plain : (act : Act) → is_aside act ≡ true → is_plain act ≡ true
aside_plain act is = grind arith

-- an act of a job: it goes on in its turn, or waits from then on, or gives up
pub by_work : (P : TurnStage → Act → Type 0) → ((at : TurnStage) (act : Act) → is_plain act ≡ true
    → turn_of (stage_after act at) ≡ turn_of at → FitsTurn (turn_of at) act → P at act)
    → P stage.Runs JobParked → ((waker : HolderWaker) → P stage.MustGiveUp (GaveUp waker))
    → (at : TurnStage) (act : Act) → may_act at act ≡ true → P at act
by_work P goes_on parks gives_up at act may = grind arith

-- an act by which a holder lets go
pub by_let_go : (P : Act → Type 0) → P HolderDropped → P TaskCancelled → (act : Act)
    → lets_go act ≡ true → P act
by_let_go P dropped cancelled act is = grind arith

-- the end of a job
pub by_end : (P : Act → Type 0) (s : ℕ) → P (Ended s Done) → P (Ended s Dropped) → (at : TurnStage)
    → P (Ended s (standing_after (outcome_of at)))
by_end P s done dropped at = grind arith
