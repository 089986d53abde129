-- Each call of a crew is a move, by what its parts did.
use Rattle.std.proofs.Common.{◌≡◌, ◌-◌, ◌<◌, nat_lt, ℕ, Bool, true, false, List, if◌then◌else◌, ap}
use Rattle.std.proofs.Common.{refl, ◌∙◌, arith, Option, Some, None, IfSome}
use Rattle.std.proofs.lemmas.List.{set-set}
use Rattle.std.proofs.lemmas.Bool.Decides.{nat_tests}
use Rattle.blocking_world_laws.specs.Steps.{may_limit}
use Rattle.blocking_world_pool.proofs.Types.{Took, Drop, Idle, Run, WorkerPass, Act, Arrived, Event}
use Rattle.blocking_world_pool.proofs.Types.{Pool, Worker, Hand, Free}
use Rattle.blocking_world_pool.proofs.Types.{Holds, Out, JobInHand, TurnStage}
use Rattle.blocking_world_pool.proofs.Types.{Ticket}
use Rattle.blocking_world_pool.proofs.Words.{after_arrival, Growth, Crew, may_act, is_waiting}
use Rattle.blocking_world_pool.proofs.Words.{hand_at, with_hand, hand_of, is_free_hand, pass_in}
use Rattle.blocking_world_pool.proofs.Words.{held_if, acting_in, hand_after_act, Joins, IsReady}
use Rattle.blocking_world_pool.proofs.Words.{Call, Arrive, Take, Work, Idles, Arrives, TakesJob}
use Rattle.blocking_world_pool.proofs.Words.{TakesNone, Works, next_start, seen, nothing, named}
use Rattle.blocking_world_pool.proofs.Words.{job_of_take, act_of_take, hand_after_take, has_action}
use Rattle.blocking_world_pool.proofs.Words.{Moves, no_growth, JobPool, TakesTo}
use Rattle.blocking_world_pool.specs.declared.hand.TurnStage.TheVariants as stage
use Rattle.blocking_world_pool.proofs.hands.Loans.{pass_is, held_is, is_out}
use Rattle.blocking_world_pool.proofs.hands.Rows.{at_free, at_held}
use Rattle.blocking_world_pool.proofs.ready.Hands.{one_free}

-- ---- a call without an action

pub idles : (may_answer : ℕ → Bool → Type 0) (call : Call) (crew : Crew) (hands : List Hand)
    {first : ℕ} {event : Event} → has_action crew call ≡ false → hands ≡ crew.hands
    → first ≡ next_start crew → event ≡ nothing (named call) first
    → Moves may_answer call crew event (record { pool = crew.pool; hands = hands })
idles may_answer call crew hands none same start event = record {
  move = Idles call;
  may = none;
  call_is = refl;
  event_is = event ∙ ap (nothing (named call)) start;
  after_is = ap (λ (row : List Hand). record crew { hands = row }) same;
}

-- a client limit that may be set lets one job run
pub limit_above : (limit : Option ℕ) → may_limit limit ≡ true → IfSome limit (λ most. 0 < most)
limit_above None may = tt
limit_above (Some most) may = grind (arith, nat_tests, may)

-- a worker that isn't idle neither takes nor waits
pub no_pass : (hand : Hand) → None ≡ pass_in hand → is_free_hand hand ≡ false
no_pass hand none = grind arith

-- ---- a hand that was let out and filled

module _ (row out : List Hand) (v : ℕ) (outs : out ≡ with_hand row v Out) where
  pub refilled : (hands : List Hand) (hand : Hand) → hands ≡ with_hand out v hand
      → hands ≡ with_hand row v hand
  refilled hands hand is =
      is ∙ ap (λ (r : List Hand). with_hand r v hand) outs ∙ set-set row (v - 1) Out hand

  -- a pass was taken out
  pub pass_is_out : (pass : WorkerPass) → Some pass ≡ pass_in (hand_at row v)
      → hand_of out v ≡ Some Out
  pass_is_out pass is = ap (λ (r : List Hand). hand_of r v) outs
      ∙ is_out row v (Free pass) (at_free row v pass (pass_is (hand_at row v) pass is))

  -- a job was taken out
  pub held_is_out : (test : TurnStage → Bool) (held : JobInHand)
      → Some held ≡ held_if test (hand_at row v)
      → hand_of out v ≡ Some Out
  held_is_out test held is = ap (λ (r : List Hand). hand_of r v) outs
      ∙ is_out row v (Holds held) (at_held row v held (held_is test (hand_at row v) held is).0)

-- whose pass it is
pub pass_free : (crew : Crew) (v : ℕ) (pass : WorkerPass) → IsReady crew
    → Some pass ≡ pass_in (hand_at crew.hands v) → crew.pool.counts.arriving < crew.pool.counts.idle
pass_free crew v pass ready is = one_free crew v pass ready (pass_is (hand_at crew.hands v) pass is)

-- ---- takes

pub takes_by : (may_answer : ℕ → Bool → Type 0) (crew : Crew) (v : ℕ) (old : WorkerPass)
    (took : Took Ticket) (growth : Growth) (pool : JobPool) (event : Event) (hands : List Hand)
    → hand_at crew.hands v ≡ Free old
    → TakesTo may_answer crew.pool took growth pool
    → event ≡ seen (Worker v) (job_of_take took) (act_of_take took) (next_start crew) growth
    → hands ≡ with_hand crew.hands v (hand_after_take took)
    → Moves may_answer (Take v) crew event (record { pool = pool; hands = hands })
takes_by may_answer crew v old (Run turn ticket) growth pool event hands at takes is after =
    record {
      move = TakesJob v old false turn ticket growth pool;
      may = (at, takes);
      call_is = refl;
      event_is = is;
      after_is = ap (λ (row : List Hand). record { pool = pool; hands = row }) after;
    }
takes_by may_answer crew v old (Drop turn ticket) growth pool event hands at takes is after =
    record {
      move = TakesJob v old true turn ticket growth pool;
      may = (at, takes);
      call_is = refl;
      event_is = is;
      after_is = ap (λ (row : List Hand). record { pool = pool; hands = row }) after;
    }
takes_by may_answer crew v old (Idle pass) growth pool event hands at takes is after = record {
  move = TakesNone v old pass;
  may = (at, takes.0);
  call_is = refl;
  event_is = is ∙ ap
      (λ (g : Growth). seen (Worker v) None (act_of_take (Idle pass)) (next_start crew) g) takes.1;
  after_is = ap (λ (p : JobPool). record { pool = p; hands = hands }) takes.2
      ∙ ap (λ (row : List Hand). record { pool = crew.pool; hands = row }) after;
}

-- ---- turns

-- what is in a hand runs
pub held_runs : (crew : Crew) (v : ℕ) (test : TurnStage → Bool) (held : JobInHand)
    → Some held ≡ held_if test (hand_at crew.hands v) → hand_at crew.hands v ≡ Holds held
held_runs crew v test held is = (held_is test (hand_at crew.hands v) held is).0

-- where a job is in its turn that waits
pub waits_at : (at : TurnStage) → is_waiting at ≡ true → at ≡ stage.Waits
waits_at at is = grind arith

pub acts_by : (may_answer : ℕ → Bool → Type 0) (crew : Crew) (v : ℕ) (hand : Hand)
    (act : Act) (serial : ℕ) (event : Event) (hands : List Hand) → hand_at crew.hands v ≡ hand
    → Some serial ≡ acting_in hand act
    → hands ≡ with_hand crew.hands v (hand_after_act hand act)
    → event ≡ seen (Worker v) (Some serial) act (next_start crew) no_growth
    → Moves may_answer (Work v act) crew event (record { pool = crew.pool; hands = hands })
acts_by may_answer crew v Out act serial event hands at acts after is = absurd cc
acts_by may_answer crew v (Free pass) act serial event hands at acts after is = absurd cc
acts_by may_answer crew v (Holds held) act serial event hands at acts after is =
    by (may_act held.stage act) refl acts
  where
    by : (b : Bool)
        → may_act held.stage act ≡ b → Some serial ≡ (if b then Some held.turn.serial else None)
        → Moves may_answer (Work v act) crew event (record { pool = crew.pool; hands = hands })
    by true may acts = record {
      move = Works v held act;
      may = (at, may);
      call_is = refl;
      event_is =
          is ∙ ap (λ (job : Option ℕ). seen (Worker v) job act (next_start crew) no_growth) acts;
      after_is = ap (λ (row : List Hand). record { pool = crew.pool; hands = row }) after;
    }
    by false may acts = absurd cc

-- ---- arrivals

pub arrives_by : (may_answer : ℕ → Bool → Type 0) (crew : Crew) (worker : Option ℕ) (pool : JobPool)
    (hands : List Hand) (event : Event) → Joins crew.pool crew.hands worker pool hands
    → ((v : ℕ)
    → worker ≡ Some v → event ≡ seen (Worker v) None (Arrived v) (next_start crew) no_growth)
    → (worker ≡ None → event ≡ nothing Pool (next_start crew))
    → Moves may_answer Arrive crew event (record { pool = pool; hands = hands })
arrives_by may_answer crew None pool hands event joins some none =
    let never : nat_lt 0 crew.pool.counts.arriving ≡ false =
    (let zero = joins.0 in grind (arith, nat_tests, zero)) in
    record {
      move = Idles Arrive;
      may = never;
      call_is = refl;
      event_is = none refl;
      after_is = ap (λ (p : JobPool). record { pool = p; hands = hands }) joins.1
          ∙ ap (λ (row : List Hand). record { pool = crew.pool; hands = row }) joins.2;
    }
arrives_by may_answer crew (Some v) pool hands event joins some none = record {
  move = Arrives joins.3.0;
  may = joins.0;
  call_is = refl;
  event_is = some v refl
      ∙ ap (λ (n : ℕ). seen (Worker n) None (Arrived n) (next_start crew) no_growth) joins.1;
  after_is =
      ap (λ (p : JobPool). record { pool = p; hands = hands }) joins.2
      ∙ ap (λ (row : List Hand). record {
        pool = record crew.pool
            { counts = after_arrival crew.pool.counts };
        hands = row;
      }) joins.3.1;
}
