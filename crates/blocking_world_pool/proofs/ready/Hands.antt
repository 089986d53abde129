-- A crew stays ready where a worker's hand changes with its pool.
use Rattle.std.proofs.Common.{◌≡◌, ℕ, ◌+◌, ◌-◌, ◌<◌, ◌==◌, Bool, true, false, refl, sym, ap, ◌∙◌}
use Rattle.std.proofs.Common.{arith, Option, Some, None, if◌then◌else◌}
use Rattle.std.specs.FinMap.{get, insert}
use Rattle.std.proofs.lemmas.Bool.{ne_eqb, eqb-false, cond_both}
use Rattle.blocking_world_pool.proofs.Types.{Standing, WorkerPass, Hand, Free}
use Rattle.blocking_world_pool.proofs.Types.{Holds, Out, JobInHand}
use Rattle.blocking_world_pool.proofs.Types.{TurnStage, Ticket}
use Rattle.blocking_world_pool.proofs.Words.{Growth, JobNumber, Job, Jobs, entry_after_take}
use Rattle.blocking_world_pool.proofs.Words.{is_running_job, if_at, is_running_as, without_job}
use Rattle.blocking_world_pool.proofs.Words.{Crew, hand_at, with_hand, one_if_free, free_hands}
use Rattle.blocking_world_pool.proofs.Words.{IsReady, Move, after, May, JobPool, TakesFront}
use Rattle.blocking_world_pool.proofs.Words.{is_valued, AreValued}
use Rattle.blocking_world_pool.proofs.hands.Rows.{at_free, at_held, sum_set}
use Rattle.blocking_world_pool.proofs.jobs.Changes.{change_of, found_after}
use Rattle.blocking_world_pool.proofs.jobs.Lookups.{job_out, taken_runs, runs_at}
use Rattle.blocking_world_pool.proofs.ready.Changes.{hand_ready}
use Rattle.blocking_world_pool.proofs.ready.Jobs.{IsKept, kept_after}

-- a free hand is that of an idle worker that has arrived
pub one_free : (crew : Crew) (v : ℕ) (pass : WorkerPass) → IsReady crew
    → hand_at crew.hands v ≡ Free pass → crew.pool.counts.arriving < crew.pool.counts.idle
one_free crew v pass ready at =
    let is = at_free crew.hands v pass at in
    let idle = ready.idle in
    let more : free_hands (with_hand crew.hands v Out) + 1 ≡ free_hands crew.hands + 0 =
    sum_set one_if_free crew.hands (v - 1) (Free pass) Out is.got in
    omega (arith, idle, more)

-- ---- no turn ends

-- a worker that held no job holds none
pub free_ready : (crew : Crew) (pool : JobPool) (v : ℕ) (old : WorkerPass) (new : Hand)
    → IsReady crew → hand_at crew.hands v ≡ Free old → ((held : JobInHand) → new ≡ Holds held → ⊥)
    → ((s : ℕ) → IsKept false (get crew.pool.jobs s) (get pool.jobs s)) → pool.counts.idle + 1
    + crew.pool.counts.arriving ≡ crew.pool.counts.idle + pool.counts.arriving + one_if_free new
    → IsReady (record { pool = pool; hands = with_hand crew.hands v new })
free_ready crew pool v old new ready at jobless kept level =
    hand_ready crew pool v (Free old) new ready (record {
      at = at_free crew.hands v old at;
      level = level;
      others = λ u held apart there.
          (kept held.turn.serial).runs refl held.turn.place (ready.runs u held there);
      own = λ held is. absurd (jobless held is);
      alone = λ u held other apart is there serial. jobless held is;
      valued = λ s. (kept s).valued (ready.valued s);
    })

turn_in : (turn : JobNumber) (stage : TurnStage) (held : JobInHand)
    → Holds (record { turn = turn; stage = stage }) ≡ Holds held → turn ≡ held.turn
turn_in turn stage held is = let e : record { turn = turn; stage = stage } ≡ held = cc in
    ap (λ (h : JobInHand). h.turn) e

-- a job in hand goes on in its turn
pub turn_ready : (crew : Crew) (v : ℕ) (held : JobInHand) (turn : JobNumber) (stage : TurnStage)
    → IsReady crew → hand_at crew.hands v ≡ Holds held → turn ≡ held.turn
    → IsReady (record {
      pool = crew.pool;
      hands = with_hand crew.hands v (Holds (record { turn = turn; stage = stage }));
    })
turn_ready crew v held turn stage ready at same =
    hand_ready crew crew.pool v (Holds held) (Holds (record { turn = turn; stage = stage })) ready
    (record {
      at = at_held crew.hands v held at;
      level = omega arith;
      others = λ u other apart there. ready.runs u other there;
      own = λ other is. ap (λ (n : JobNumber). is_running_as crew.pool.jobs n)
          (sym (turn_in turn stage other is) ∙ same) ∙ ready.runs v held at;
      alone = λ u one other apart is there serial.
          eqb-false v u apart (ready.apart v u held other at there
          (ap (λ (n : JobNumber). n.serial) (sym same ∙ turn_in turn stage one is) ∙ serial));
      valued = ready.valued;
    })

-- ---- a turn ends

module _ (crew : Crew) (pool : JobPool) (v : ℕ) (held : JobInHand) (pass : WorkerPass)
    (ready : IsReady crew) (at : hand_at crew.hands v ≡ Holds held)
    (idle : pool.counts.idle ≡ crew.pool.counts.idle + 1)
    (arriving : pool.counts.arriving ≡ crew.pool.counts.arriving)
    (others : (number : JobNumber) → (held.turn.serial == number.serial) ≡ false
    → is_running_as pool.jobs number ≡ is_running_as crew.pool.jobs number)
    (valued : AreValued pool.jobs) where
  differs : (u : ℕ) (other : JobInHand) → (v == u) ≡ false → hand_at crew.hands u ≡ Holds other
      → (held.turn.serial == other.turn.serial) ≡ false
  differs u other apart there = ne_eqb held.turn.serial other.turn.serial
      (λ same. eqb-false v u apart (ready.apart v u held other at there same))

  -- its worker is free then, and all others run on
  pub ended_ready : IsReady (record { pool = pool; hands = with_hand crew.hands v (Free pass) })
  ended_ready = hand_ready crew pool v (Holds held) (Free pass) ready (record {
    at = at_held crew.hands v held at;
    level = omega (arith, idle, arriving);
    others = λ u other apart there. others other.turn (differs u other apart there)
        ∙ ready.runs u other there;
    own = λ other is. absurd cc;
    alone = λ u one other apart is there serial. absurd cc;
    valued = valued;
  })

-- the job is over
pub over_ready : (crew : Crew) (v : ℕ) (held : JobInHand) (pass : WorkerPass) → IsReady crew
    → hand_at crew.hands v ≡ Holds held
    → IsReady (record {
      pool = without_job crew.pool held.turn.serial;
      hands = with_hand crew.hands v (Free pass);
    })
over_ready crew v held pass ready at =
    ended_ready crew (without_job crew.pool held.turn.serial) v held pass ready at refl refl
    (λ number apart. ap (λ (o : Option (Job Ticket)). is_running_job (if_at number.place o))
    (job_out crew.pool.jobs held.turn.serial number.serial false apart))
    (λ s. ap is_valued (job_out crew.pool.jobs held.turn.serial s (held.turn.serial == s) refl)
    ∙ cond_both (held.turn.serial == s) None (get crew.pool.jobs s)
    (λ found. is_valued found ≡ true) (λ is. refl) (λ is. ready.valued s))

-- the job waits, or is queued again
pub left_ready : (may_answer : ℕ → Bool → Type 0) (crew : Crew) (move : Move)
    (v : ℕ) (held : JobInHand) (pass : WorkerPass) → IsReady crew → May may_answer crew move
    → hand_at crew.hands v ≡ Holds held
    → ((s : ℕ) → (change_of crew move).which s ≡ (held.turn.serial == s))
    → (after crew move).pool.counts.idle ≡ crew.pool.counts.idle + 1
    → (after crew move).pool.counts.arriving ≡ crew.pool.counts.arriving
    → IsReady (record { pool = (after crew move).pool; hands = with_hand crew.hands v (Free pass) })
left_ready may_answer crew move v held pass ready may at which idle arriving =
    ended_ready crew (after crew move).pool v held pass ready at idle arriving
    (λ number apart. ap (λ (o : Option (Job Ticket)). is_running_job (if_at number.place o))
    (found_after may_answer crew move number.serial may ∙ ap
    (λ (b : Bool). if b then (change_of crew move).becomes (get crew.pool.jobs number.serial)
    else get crew.pool.jobs number.serial) (which number.serial ∙ apart)))
    (λ s. (kept_after may_answer crew move s may).valued (ready.valued s))

-- ---- a job is taken

queued_runs : (found : Option (Job Ticket)) (job : Job Ticket) (place : ℕ) → found ≡ Some job
    → is_running_job (Some job) ≡ false → is_running_job (if_at place found) ≡ true → ⊥
queued_runs found job place there idle runs = let bad : true ≡ false =
    sym (runs_at place found runs) ∙ ap is_running_job there ∙ idle in cc

module _ (may_answer : ℕ → Bool → Type 0) (crew : Crew) (pool : JobPool) (v : ℕ) (pass : WorkerPass)
    (turn : JobNumber) (ticket : Ticket) (to_drop : Bool) (stage : TurnStage) (growth : Growth)
    (ready : IsReady crew) (at : hand_at crew.hands v ≡ Free pass)
    (takes : TakesFront may_answer crew.pool turn ticket to_drop growth pool) (kept : (s : ℕ)
    → IsKept false (get crew.pool.jobs s) (get pool.jobs s)) where
  taken_jobs : pool.jobs ≡ insert crew.pool.jobs turn.serial (entry_after_take takes.job)
  taken_jobs = ap (λ (p : JobPool). p.jobs) takes.after_is

  -- the front job is in no hand
  unheld : (u : ℕ) (held : JobInHand) → hand_at crew.hands u ≡ Holds held
      → turn.serial ≡ held.turn.serial → ⊥
  unheld u held there same =
      queued_runs (get crew.pool.jobs held.turn.serial) takes.job held.turn.place
      (ap (get crew.pool.jobs) (sym same) ∙ takes.found)
      (ap (λ (s : Standing). is_running_job (Some (record takes.job { standing = s })))
      takes.stands) (ready.runs u held there)

  pub taken_ready : IsReady (record {
    pool = pool;
    hands = with_hand crew.hands v (Holds (record { turn = turn; stage = stage }));
  })
  taken_ready = hand_ready crew pool v (Free pass) (Holds (record { turn = turn; stage = stage }))
      ready (record {
        at = at_free crew.hands v pass at;
        level =
            let some = one_free crew v pass ready at in
            let idle : pool.counts.idle ≡ crew.pool.counts.idle - 1 + growth.started =
            ap (λ (p : JobPool). p.counts.idle) takes.after_is in
            let arriving : pool.counts.arriving ≡ crew.pool.counts.arriving + growth.started =
            ap (λ (p : JobPool). p.counts.arriving) takes.after_is in
            omega (arith, some, idle, arriving);
        others = λ u held apart there.
            (kept held.turn.serial).runs refl held.turn.place (ready.runs u held there);
        own = λ held is.
            ap (λ (n : JobNumber). is_running_as pool.jobs n) (sym (turn_in turn stage held is))
            ∙ ap (λ (jobs : Jobs Ticket). is_running_as jobs turn) taken_jobs
            ∙ taken_runs crew.pool.jobs turn takes.job takes.place;
        alone = λ u held other apart is there serial. unheld u other there
            (ap (λ (n : JobNumber). n.serial) (turn_in turn stage held is) ∙ serial);
        valued = λ s. (kept s).valued (ready.valued s);
      })
