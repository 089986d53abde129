-- How jobs and workers come and go at each move: what enters the queue and what leaves it, who is
-- started, and who is idle then. By how many ready jobs the pool grew is said of the pool here.
use Rattle.std.proofs.Common.{[], ◌≡◌, ℕ, suc, ◌≤◌, ◌+◌, ◌-◌, ◌==◌, List, ◌∷◌, ◌++◌, Bool, true}
use Rattle.std.proofs.Common.{false, length, length-append, length-set, refl, sym, ap, ◌∙◌, arith}
use Rattle.std.proofs.Common.{if◌then◌else◌, Option, Some, None, ◌<◌, ◌⊎◌, inl, inr, not, slice_get}
use Rattle.std.proofs.Common.{Ok, Err}
use Rattle.std.proofs.lemmas.Bool.Decides.{nat_tests}
use Rattle.blocking_world_pool.proofs.Types.{Memory, NoWorker, Numbers, Stay, Stop}
use Rattle.blocking_world_pool.proofs.Types.{Entered as PutBack, One, Standing, Parked, Queued}
use Rattle.blocking_world_pool.proofs.Types.{WorkerPass, Act, Accepted, Ended, Refused, Stopped}
use Rattle.blocking_world_pool.proofs.Types.{Moment, Party, Worker, WaitEnd, Step, Hand, Free}
use Rattle.blocking_world_pool.proofs.Types.{Holds, Out, JobInHand, Ticket}
use Rattle.blocking_world_pool.proofs.Words.{Counts, limit_of, louder, after_pickup, after_release}
use Rattle.blocking_world_pool.proofs.Words.{after_stop, greatest, Growth, number_after}
use Rattle.blocking_world_pool.proofs.Words.{limit_after, after_growth, one_if, ready, ready_with}
use Rattle.blocking_world_pool.proofs.Words.{JobNumber, without, is_empty, without_job}
use Rattle.blocking_world_pool.proofs.Words.{serials_below, workers, grows, turned_away, IsPlanned}
use Rattle.blocking_world_pool.proofs.Words.{HasWorker, accepted_by, accepted_jobs, seen_to_sweep}
use Rattle.blocking_world_pool.proofs.Words.{entered_by, queue, running, joined, has_timed_out}
use Rattle.blocking_world_pool.proofs.Words.{Crew, outcome_of, standing_after, hand_at, with_hand}
use Rattle.blocking_world_pool.proofs.Words.{held_after_act, one_if_free, one_if_busy, busy_hands}
use Rattle.blocking_world_pool.proofs.Words.{Move, Idles, Adds, Arrives, TakesJob, TakesNone, Works}
use Rattle.blocking_world_pool.proofs.Words.{EndsTurn, Parks, HasWaited, SetsLimit, SetsClientLimit}
use Rattle.blocking_world_pool.proofs.Words.{Sweeps, IsWoken, IsCancelled, IsLetGo, Tells, call_of}
use Rattle.blocking_world_pool.proofs.Words.{next_start, first_stage, hand_after_park, after, May}
use Rattle.blocking_world_pool.proofs.Words.{no_growth, JobPool, GrowsBy, Accepts, FindsNoWorker}
use Rattle.blocking_world_pool.proofs.Words.{TakesFront, SweepsTo, SweepsIf, Lined, Numbered}
use Rattle.blocking_world_pool.proofs.Words.{CrewHolds, moment_of, IsAsked}
use Rattle.blocking_pool.specs.Pools.{has_room}
use Rattle.blocking_world_laws.specs.Jobs.{client_of_step}
use Rattle.blocking_world_laws.specs.Queue.{has_room as has_room_by_law}
use Rattle.blocking_world_pool.specs.declared.tickets.Parking.TheVariants as parking
use Rattle.blocking_world_pool.proofs.growth.Reads.{numbers_last}
use Rattle.blocking_world_pool.proofs.growth.Sweeps.{sweep_serial}
use Rattle.blocking_world_pool.proofs.hands.Rows.{at_held, at_free, sum_set}
use Rattle.blocking_world_pool.proofs.jobs.Marks.{let_go_alone}
use Rattle.blocking_world_pool.proofs.ties.Acts.{now_with, enters_only, only_enters, is_plain}
use Rattle.blocking_world_pool.proofs.ties.Acts.{plain, aside_plain, by_work, by_let_go, Steady}
use Rattle.blocking_world_pool.proofs.ties.Acts.{by_end}
use Rattle.blocking_world_pool.proofs.ties.Standings.{held_once, room_seen}
use Rattle.blocking_world_pool.proofs.ties.Sweeps.{sweep_same}

-- ---- how a growth changes the counts

-- What a growth, or none, leaves of the counts, where so many workers stop after it.
pub record GrewBy (gone : ℕ) (old new : Counts) (growth : Growth) (grew : Bool) : Type 0 where
  pub workers : new.workers + gone ≡ old.workers + growth.started
  pub idle : new.idle + gone ≡ old.idle + growth.started
  pub arriving : new.arriving ≡ old.arriving + growth.started
  pub setting : new.setting ≡ old.setting
  pub most : limit_of new ≡ limit_after (limit_of old) (old.workers + growth.started) growth.refused
  pub limit : new.limit ≡ (if grew then Some (limit_of new) else old.limit)
  pub none : grew ≡ false → growth ≡ no_growth
  pub next : new.next_worker ≡ number_after (old.next_worker + growth.started) growth.refused
  pub numbers : old.next_worker ≤ greatest → old.next_worker + growth.started ≤ greatest

-- no growth
pub ungrown : (old new : Counts) (bell : _) → new ≡ record old { bell = bell }
    → GrewBy 0 old new no_growth false
ungrown old new bell same = grind arith

-- the counts are those after a growth, but for the bell
abbrev pub AreGrown : Counts → Growth → Counts → Type 0
AreGrown old growth new = new ≡ record (after_growth old growth) { bell = new.bell }

-- a growth
pub grew_so : (may_answer : ℕ → Bool → Type 0) (ready : ℕ) (old new : Counts) (growth : Growth)
    → GrowsBy may_answer ready old growth → AreGrown old growth new → GrewBy 0 old new growth true
grew_so may_answer ready old new growth starting same = grind (arith, numbers_last)

-- and a worker stops after it
stop_grew : (rings : Bool) (old between new : Counts) (growth : Growth) (grew : Bool)
    → 0 < between.idle → between.idle ≤ between.workers → new ≡ after_stop rings between
    → GrewBy 0 old between growth grew → GrewBy 1 old new growth grew
stop_grew rings old between new growth grew some fewer stopped g = grind arith

-- ---- what enters a queue

pub more_than_none : (n : ℕ) (ns : List ℕ) → not (length (n ∷ ns) == 0) ≡ true
more_than_none n ns = let some : (length (n ∷ ns) == 0) ≡ false = grind (arith, nat_tests) in
    ap not some

-- These entered the queue of a pool, which grew by all jobs that are ready then; where none did,
-- nobody was started.
pub record Entered (may_answer : ℕ → Bool → Type 0) (old : JobPool) (serials : List ℕ)
    (growth : Growth) (new : JobPool) : Type 0 where
  pub line : new.queue ≡ joined old.queue serials
  pub grew : GrewBy 0 old.counts new.counts growth (not (length serials == 0))
  pub starts : (serials ≡ [] → ⊥) → GrowsBy may_answer (length (ready new)) old.counts growth

none_entered : (may_answer : ℕ → Bool → Type 0) (old new : JobPool) (growth : Growth)
    → growth ≡ no_growth → new ≡ record old { jobs = new.jobs }
    → Entered may_answer old [] growth new
none_entered may_answer old new growth none alone = rw (none, alone) (record {
  line = refl;
  grew =
      ungrown old.counts old.counts old.counts.bell refl;
  starts = λ some. absurd (some refl);
})

some_entered :
    (may_answer : ℕ → Bool → Type 0) (old new : JobPool) (growth : Growth) (n : ℕ) (ns : List ℕ)
    → GrowsBy may_answer (length (ready new)) old.counts growth → new.queue ≡ old.queue ++ n ∷ ns
    → AreGrown old.counts growth new.counts → Entered may_answer old (n ∷ ns) growth new
some_entered may_answer old new growth n ns starts line counts =
    record {
      line = line;
      grew = rw (more_than_none n ns) (grew_so may_answer _ old.counts
          new.counts growth starts counts);
      starts = λ some. starts;
    }

sweep_entered : (may_answer : ℕ → Bool → Type 0) (old new : JobPool) (growth : Growth) (ns : List ℕ)
    → SweepsTo may_answer old ns growth new → Entered may_answer old ns growth new
sweep_entered may_answer old new growth [] sweeps =
    none_entered may_answer old new growth sweeps.0 (rw sweeps.1 refl)
sweep_entered may_answer old new growth (n ∷ ns) sweeps = some_entered may_answer old new growth n
    ns sweeps.starts (rw sweeps.after_is refl) (rw sweeps.after_is refl)

-- no queued number is left out
none_there : (ns : List ℕ) → not (length ns == 0) ≡ false → ns ≡ []
none_there [] none = refl
none_there (n ∷ ns) none = let some = more_than_none n ns in absurd cc

-- ---- each move

abbrev pub growth_in : Moment → Growth
growth_in now = record { started = now.event.started; refused = now.event.start_refused }

-- whether neither a worker arrives nor a limit is set
abbrev pub is_flow : Move → Bool
is_flow (Arrives pass) = false
is_flow (SetsLimit n) = false
is_flow (SetsClientLimit limit) = false
is_flow move = true

-- how many workers stop
abbrev pub gone_of : Move → ℕ
gone_of (HasWaited v pass end Stop growth pool) = 1
gone_of move = 0

module _ (setting : ℕ) (plan : List Bool) (crew : Crew) (past : List Moment) (step : Step)
    (owner : Option ℕ) (h : CrewHolds setting plan crew past) where
  abbrev now : Party → Option ℕ → Act → Growth → Moment
  now who job act growth = now_with step owner who job act (next_start crew) growth

  -- What a move does to the queue, the workers and the serials, where so many workers stop: how
  -- many were idle as the pool grew, by which ready jobs it did, and whether a worker is there
  -- where jobs enter without a growth.
  pub record Flow (gone : ℕ) (last : Moment) (new : Crew) : Type 0 where
    pub free : ℕ
    pub steady : Steady gone last.event.act
    pub grew : GrewBy gone (record crew.pool.counts { idle = free }) new.pool.counts
        (growth_in last) (grows past last.event.act)
    pub balance : crew.pool.counts.workers ≡ free + length (running (last ∷ past))
    pub starts : grows past last.event.act ≡ true
        → GrowsBy (IsPlanned plan) (length (ready new.pool) + turned_away past last last.event.act)
        (record crew.pool.counts { idle = free }) (growth_in last)
    pub queued : grows past last.event.act ≡ false
        → (new.pool.queue ≡ crew.pool.queue) ⊎ (0 < new.pool.counts.workers)
    pub lined : Lined new.pool (last ∷ past)
    pub numbered : Numbered new.pool (last ∷ past)
    pub worker : HasWorker last.event.act (workers past + last.event.started)
    pub first : last.event.first ≡ next_start crew
    pub hands : length new.hands ≡ length crew.hands
    pub busy : busy_hands new.hands ≡ length (running (last ∷ past))

  -- ---- workers and hands

  -- the workers, as the past tells them
  pub workers_now : crew.pool.counts.workers ≡ workers past
  workers_now = let e = h.tied.counted.workers_are in omega (arith, e)

  -- a worker is idle where a hand is free
  pub idle_some : (v : ℕ) (pass : WorkerPass) → hand_at crew.hands v ≡ Free pass
      → 0 < crew.pool.counts.idle
  idle_some v pass e =
      let one = sum_set one_if_free crew.hands (v - 1) (Free pass) Out
      (at_free crew.hands v pass e).got in
      let all = h.ready.idle in
      omega (arith, one, all)

  -- a free hand changes, or one that holds a job
  busy_free : (v : ℕ) (pass : WorkerPass) (new : Hand) → hand_at crew.hands v ≡ Free pass
      → busy_hands (with_hand crew.hands v new) ≡ length (running past) + one_if_busy new
  busy_free v pass new e = omega (
    arith,
    sum_set one_if_busy crew.hands (v - 1) (Free pass) new
        (at_free crew.hands v pass e).got,
    h.tied.counted.busy_are,
  )

  busy_held : (v : ℕ) (held : JobInHand) (new : Hand) → hand_at crew.hands v ≡ Holds held
      → busy_hands (with_hand crew.hands v new) + 1 ≡ length (running past) + one_if_busy new
  busy_held v held new e = omega (
    arith,
    sum_set one_if_busy crew.hands (v - 1) (Holds held) new
        (at_held crew.hands v held e).got,
    h.tied.counted.busy_are,
  )

  level : (v : ℕ) (old new : Hand) → slice_get crew.hands (v - 1) ≡ Some old → one_if_busy old
      ≡ one_if_busy new → busy_hands (with_hand crew.hands v new) ≡ busy_hands crew.hands
  level v old new at same =
      (let set = sum_set one_if_busy crew.hands (v - 1) old new at in omega (arith, set, same))

  -- ---- jobs

  -- no job was accepted
  pub kept : (new : JobPool) (last : Moment) → new.next_serial ≡ crew.pool.next_serial
      → accepted_jobs (last ∷ past) ≡ accepted_jobs past → Numbered new (last ∷ past)
  kept new last same none = grind arith

  -- a job was accepted
  accepted : (who : Party) (c : ℕ) (number : JobNumber) (growth : Growth) (pool : JobPool)
      → Accepts (IsPlanned plan) crew.pool c number growth pool
      → Numbered pool
      (now_with step owner who None (Accepted number.serial) (next_start crew) growth ∷ past)
  accepted who c number growth pool accepts =
      let n = crew.pool.next_serial in
      let next : pool.next_serial ≡ suc n =
      ap (λ (p : JobPool). p.next_serial) accepts.after_is ∙ omega arith in
      let before = h.tied.numbered.next in
      let longer = length-append (accepted_jobs past) (number.serial ∷ []) in
      record {
        next = omega (arith, next, before, longer);
        all_are = ap serials_below next ∙ ap (λ (ns : List ℕ). ns ++ n ∷ []) h.tied.numbered.all_are
            ∙ ap (λ (s : ℕ). 0 ∷ (accepted_jobs past ++ s ∷ [])) (sym accepts.serial);
      }

  -- a sweep, if there was one
  pub swept : (late : Bool) (growth : Growth) (between : JobPool)
      → SweepsIf late (IsPlanned plan) crew.pool growth between
      → Entered (IsPlanned plan) crew.pool (if late then seen_to_sweep past else []) growth between
  swept late growth between sweeps = grind (arith, sweep_same, sweep_entered, none_entered)

  starts_by : (last : Moment) (serials : List ℕ) (between : JobPool)
      → Entered (IsPlanned plan) crew.pool serials (growth_in last) between
      → grows past last.event.act ≡ not (length serials == 0)
      → turned_away past last last.event.act ≡ 0 → grows past last.event.act ≡ true
      → GrowsBy (IsPlanned plan) (length (ready between) + turned_away past last last.event.act)
      crew.pool.counts (growth_in last)
  starts_by last [] between entered grew away is =
      absurd (let bad : false ≡ true = sym grew ∙ is in cc)
  starts_by last (n ∷ ns) between entered grew away is =
      let none : length (ready between) + turned_away past last last.event.act
      ≡ length (ready between) = omega (arith, away) in
      rw none (entered.starts (λ empty. absurd cc))

  -- ---- moves at which jobs may enter, and nothing else happens

  entering : (last : Moment) (new : Crew) → enters_only last.event.act ≡ true → Entered
      (IsPlanned plan) crew.pool (entered_by past last.event.act) (growth_in last) new.pool
      → Numbered new.pool (last ∷ past)
      → HasWorker last.event.act (workers past + last.event.started)
      → last.event.first ≡ next_start crew → length new.hands ≡ length crew.hands
      → busy_hands new.hands ≡ busy_hands crew.hands → Flow 0 last new
  entering last new only entered numbered worker first hands busy =
      let act = only_enters past last last.event.act only in
      let same_running : running (last ∷ past) ≡ running past = rw (act.ended, act.taken) refl in
      record {
        free = crew.pool.counts.idle;
        steady = act.steady;
        grew = rw act.grew_is entered.grew;
        balance = h.tied.counted.idle_are
            ∙ ap (λ (ns : List ℕ). crew.pool.counts.idle + length ns) (sym same_running);
        starts =
            starts_by last (entered_by past last.event.act) new.pool entered act.grew_is act.away;
        queued = λ still. inl
            (entered.line ∙ ap (joined crew.pool.queue) (none_there _ (sym act.grew_is ∙ still)));
        lined = entered.line ∙ ap (λ (ns : List ℕ). joined ns (entered_by past last.event.act))
            h.tied.lined ∙ rw act.taken refl;
        numbered = numbered;
        worker = worker;
        first = first;
        hands = hands;
        busy = busy ∙ h.tied.counted.busy_are ∙ ap length (sym same_running);
      }

  -- an act at which nothing enters, and no job is accepted
  abbrev Quiet : Act → Type 0
  Quiet act = (enters_only act ≡ true) × (entered_by past act ≡ []) × ((n : ℕ) → HasWorker act n)
      × (joined (accepted_jobs past) (accepted_by act) ≡ accepted_jobs past)

  quiet : (who : Party) (job : Option ℕ) (act : Act) → is_plain act ≡ true → Quiet act
  quiet who job act is =
      let p = plain setting past step owner who job (next_start crew) no_growth act is in
      (p.only, p.none, p.worker, p.accepted)

  -- nobody is started either, and of the pool the jobs alone have changed
  still : (last : Moment) (new : Crew) → Quiet last.event.act → last.event.first ≡ next_start crew
      → growth_in last ≡ no_growth → new.pool ≡ record crew.pool { jobs = new.pool.jobs }
      → length new.hands ≡ length crew.hands → busy_hands new.hands ≡ busy_hands crew.hands
      → Flow 0 last new
  still last new quiet first growth alone hands busy =
      entering last new quiet.0 (rw quiet.1
      (none_entered (IsPlanned plan) crew.pool new.pool (growth_in last) growth alone))
      (kept new.pool last (ap (λ (p : JobPool). p.next_serial) alone) quiet.3) (quiet.2 _) first
      hands busy

  -- ---- other moves

  -- a new job is refused, since nobody works after its growth
  unstaffed : (who : Party) (c : ℕ) (growth : Growth) (pool : JobPool)
      → c ≡ client_of_step past step → FindsNoWorker (IsPlanned plan) crew.pool c growth pool
      → Flow 0 (now who None (Refused NoWorker) growth) (record crew { pool = pool })
  unstaffed who c growth pool asked finds =
      let room : has_room crew.pool c ≡ has_room_by_law past (client_of_step past step) =
      room_seen setting plan crew past h c ∙ ap (has_room_by_law past) asked in
      let away : ready_with crew.pool c
      ≡ length (ready pool) + one_if (has_room_by_law past (client_of_step past step)) =
      ap (λ (p : JobPool). length (ready p) + one_if (has_room crew.pool c)) (sym finds.after_is)
      ∙ ap (λ (b : Bool). length (ready pool) + one_if b) room in
      let hired = h.tied.counted.workers_are in
      let nobody = finds.unstaffed in
      record {
        free = crew.pool.counts.idle;
        steady = record { came = refl; stop = refl; most = λ l. refl; set = refl };
        grew = rw finds.after_is (grew_so (IsPlanned plan) (ready_with crew.pool c) crew.pool.counts
            (after_growth crew.pool.counts growth) growth finds.starts refl);
        balance = h.tied.counted.idle_are;
        starts = λ is. rw (← away) finds.starts;
        queued = λ still. absurd cc;
        lined = ap (λ (p : JobPool). p.queue) finds.after_is ∙ h.tied.lined;
        numbered = kept pool _ (ap (λ (p : JobPool). p.next_serial) finds.after_is) refl;
        worker = omega (arith, hired, nobody);
        first = refl;
        hands = refl;
        busy = h.tied.counted.busy_are;
      }

  -- a job is taken
  took : (v : ℕ) (old : WorkerPass) (turn : JobNumber) (ticket : Ticket) (to_drop : Bool)
      (growth : Growth) (pool : JobPool) (last : Moment) → hand_at crew.hands v ≡ Free old
      → TakesFront (IsPlanned plan) crew.pool turn ticket to_drop growth pool
      → Steady 0 last.event.act → growth_in last ≡ growth → grows past last.event.act ≡ true
      → turned_away past last last.event.act ≡ 0
      → running (last ∷ past) ≡ running past ++ turn.serial ∷ []
      → queue (last ∷ past) ≡ without turn.serial (queue past)
      → accepted_jobs (last ∷ past) ≡ accepted_jobs past
      → HasWorker last.event.act (workers past + last.event.started)
      → last.event.first ≡ next_start crew
      → Flow 0 last (record {
        pool = pool;
        hands = with_hand crew.hands v
            (Holds (record { turn = turn; stage = first_stage to_drop }));
      })
  took v old turn ticket to_drop growth pool last at takes steady same grew away runs line none
      worker first =
      let some = idle_some v old at in
      let idle_are = h.tied.counted.idle_are in
      let taken =
      busy_free v old (Holds (record { turn = turn; stage = first_stage to_drop })) at in
      let longer : length (running (last ∷ past)) ≡ length (running past) + 1 =
      ap length runs ∙ length-append (running past) (turn.serial ∷ []) in
      let none_more : length (ready pool) + turned_away past last last.event.act
      ≡ length (ready pool) = omega (arith, away) in
      record {
        free = crew.pool.counts.idle - 1;
        steady = steady;
        grew = rw (same, grew) (grew_so (IsPlanned plan) _ (after_pickup crew.pool.counts)
            pool.counts growth takes.starts (rw takes.after_is refl));
        balance = omega (arith, idle_are, longer, some);
        starts = λ is. rw (same, none_more) takes.starts;
        queued = λ still. absurd (let bad : true ≡ false = sym grew ∙ still in cc);
        lined = ap (λ (p : JobPool). p.queue) takes.after_is ∙ ap (without turn.serial) h.tied.lined
            ∙ sym line;
        numbered = kept pool last (ap (λ (p : JobPool). p.next_serial) takes.after_is) none;
        worker = worker;
        first = first;
        hands = length-set crew.hands (v - 1) _;
        busy = omega (arith, taken, longer);
      }

  -- a turn ends
  ended : (v : ℕ) (held : JobInHand) (how : Standing) (pool : JobPool) (pass : WorkerPass)
      (bell : _)
      → hand_at crew.hands v ≡ Holds held
      → pool.counts ≡ record (after_release crew.pool.counts) { bell = bell }
      → pool.next_serial ≡ crew.pool.next_serial → Lined pool
      (now (Worker v) (Some held.turn.serial) (Ended held.turn.serial how) no_growth ∷ past)
      → Flow 0 (now (Worker v) (Some held.turn.serial) (Ended held.turn.serial how) no_growth)
      (record { pool = pool; hands = with_hand crew.hands v (Free pass) })
  ended v held how pool pass bell at same serial lined =
      let idle_are = h.tied.counted.idle_are in
      let fewer = held_once setting plan crew past h v held at in
      let left = busy_held v held (Free pass) at in
      let all : pool.counts.workers ≡ crew.pool.counts.workers =
      ap (λ (c : Counts). c.workers) same in
      record {
        free = crew.pool.counts.idle + 1;
        steady = record { came = refl; stop = refl; most = λ l. refl; set = refl };
        grew = ungrown (after_release crew.pool.counts) pool.counts bell same;
        balance = omega (arith, idle_are, fewer);
        starts = λ grew. absurd cc;
        queued = λ still. inr (omega (arith, all, idle_are, fewer));
        lined = lined;
        numbered = kept pool _ serial refl;
        worker = tt;
        first = refl;
        hands = length-set crew.hands (v - 1) (Free pass);
        busy = omega (arith, left, fewer);
      }

  -- a worker stops
  stopped : (v : ℕ) (pass : WorkerPass) (end : WaitEnd) (growth : Growth) (pool : JobPool)
      → May (IsPlanned plan) crew (HasWaited v pass end Stop growth pool)
      → Flow 1 (now (Worker v) None (Stopped v end) growth)
      (record { pool = pool; hands = with_hand crew.hands v Out })
  stopped v pass end growth pool may =
      let entered = swept (has_timed_out end) growth may.1.between may.1.sweep in
      let lined : Lined may.1.between (now (Worker v) None (Stopped v end) growth ∷ past) =
      entered.line ∙ ap (λ (ns : List ℕ).
      joined ns (if has_timed_out end then seen_to_sweep past else [])) h.tied.lined in
      let some = idle_some v pass may.0 in
      let idle_are = h.tied.counted.idle_are in
      let gw = entered.grew.workers in
      let gi = entered.grew.idle in
      let out = busy_free v pass Out may.0 in
      record {
        free = crew.pool.counts.idle;
        steady = record { came = refl; stop = refl; most = λ l. refl; set = refl };
        grew = stop_grew (not (is_empty may.1.between.queue)) crew.pool.counts may.1.between.counts
            pool.counts growth _ (omega (arith, gi, some)) (omega (arith, gi, gw, idle_are))
            (ap (λ (p : JobPool). p.counts) may.1.answer.1) entered.grew;
        balance = idle_are;
        starts = λ is. rw may.1.answer.1 (starts_by (now (Worker v) None (Stopped v end) growth)
            (if has_timed_out end then seen_to_sweep past else []) may.1.between entered refl refl
            is);
        queued = λ still. inl (ap (λ (p : JobPool). p.queue) may.1.answer.1 ∙ entered.line
            ∙ ap (joined crew.pool.queue) (none_there _ still));
        lined = ap (λ (p : JobPool). p.queue) may.1.answer.1 ∙ lined;
        numbered = kept pool _ (rw may.1.answer.1 (sweep_serial (has_timed_out end) (IsPlanned plan)
            crew.pool may.1.between growth may.1.sweep)) refl;
        worker = tt;
        first = refl;
        hands = length-set crew.hands (v - 1) Out;
        busy = omega (arith, out);
      }

  -- ---- every move

  pub flows : (move : Move) → May (IsPlanned plan) crew move → IsAsked crew past step (call_of move)
      → is_flow move ≡ true → Flow (gone_of move) (moment_of crew move step owner) (after crew move)
  flows (Idles call) may asked is =
      still _ crew (refl, refl, λ n. tt, refl) refl refl refl refl refl
  flows (Adds who c (Ok number) growth pool) may asked is =
      let e = h.tied.counted.workers_are in
      let staffed = may.staffed in
      entering _ (record crew { pool = pool })
      refl (some_entered (IsPlanned plan) crew.pool pool growth number.serial [] may.starts
      (rw (may.after_is, may.serial) refl) (rw may.after_is refl))
      (accepted who c number growth pool may) (omega (arith, e, staffed)) refl refl refl
  flows (Adds who c (Err Memory) growth pool) may asked is = still _ (record crew { pool = pool })
      (refl, refl, λ n. tt, refl) refl may.0 (rw may.1 refl) refl refl
  flows (Adds who c (Err Numbers) growth pool) may asked is = still _ (record crew { pool = pool })
      (refl, refl, λ n. tt, refl) refl may.1 (rw may.2 refl) refl refl
  flows (Adds who c (Err NoWorker) growth pool) may asked is = unstaffed who c growth pool asked may
  flows (Arrives pass) may asked is = absurd cc
  flows (TakesJob v old true turn ticket growth pool) may asked is =
      took v old turn ticket true growth pool _ may.0 may.1
      (record { came = refl; stop = refl; most = λ l. refl; set = refl }) refl refl refl refl
      refl refl tt refl
  flows (TakesJob v old false turn ticket growth pool) may asked is =
      took v old turn ticket false growth pool _ may.0 may.1
      (record { came = refl; stop = refl; most = λ l. refl; set = refl }) refl refl refl refl
      refl refl tt refl
  flows (TakesNone v old pass) may asked is =
      still _ (after crew (TakesNone v old pass)) (refl, refl, λ n. tt, refl) refl
      refl refl (length-set crew.hands (v - 1) (Free pass))
      (level v (Free old) (Free pass) (at_free crew.hands v old may.0).got refl)
  flows (Works v held act) may asked is =
      still _ (after crew (Works v held act))
      (by_work (λ at act. Quiet act)
      (λ at act is same fits. quiet (Worker v) (Some held.turn.serial) act is)
      (refl, refl, λ n. tt, refl) (λ w. (refl, refl, λ n. tt, refl)) held.stage act may.1)
      refl refl refl (length-set crew.hands (v - 1) _) (level v (Holds held)
      (Holds (held_after_act held act)) (at_held crew.hands v held may.0).got refl)
  flows (EndsTurn v held pass) may asked is =
      ended v held (standing_after (outcome_of held.stage)) (without_job crew.pool held.turn.serial)
      pass crew.pool.counts.bell may.0 refl refl
      (by_end (λ act. crew.pool.queue ≡ queue (now (Worker v) (Some held.turn.serial) act no_growth
      ∷ past)) held.turn.serial h.tied.lined h.tied.lined held.stage)
  flows (Parks v held ticket (parking.Parked pass) pool) may asked is =
      ended v held Parked pool pass crew.pool.counts.bell
      may.0 (ap (λ (p : JobPool). p.counts) may.2.effect.2) (rw may.2.effect.2 refl)
      (ap (λ (p : JobPool). p.queue) may.2.effect.2 ∙ h.tied.lined)
  flows (Parks v held ticket (parking.Queued pass) pool) may asked is =
      ended v held Queued pool pass (louder One crew.pool.counts.bell) may.0
      (ap (λ (p : JobPool). p.counts) may.2.effect.2) (rw may.2.effect.2 refl)
      (ap (λ (p : JobPool). p.queue) may.2.effect.2
      ∙ ap (λ (ns : List ℕ). ns ++ held.turn.serial ∷ []) h.tied.lined)
  flows (Parks v held ticket (parking.HandedOut back) pool) may asked is =
      still _ (after crew (Parks v held ticket (parking.HandedOut back) pool)) (
        refl,
        refl,
        λ n. tt,
        refl,
      ) refl refl (rw may.2.effect.2 refl) (length-set crew.hands (v - 1) _)
      (level v (Holds held) (hand_after_park (parking.HandedOut back))
      (at_held crew.hands v held may.0).got refl)
  flows (HasWaited v pass end (Stay back) growth pool) may asked is =
      entering _ (after crew (HasWaited v pass end (Stay back) growth pool)) refl
      (rw may.1.answer.1 (swept (has_timed_out end) growth may.1.between may.1.sweep))
      (kept pool _ (rw may.1.answer.1 (sweep_serial (has_timed_out end) (IsPlanned plan) crew.pool
      may.1.between growth may.1.sweep)) refl) tt refl
      (length-set crew.hands (v - 1) (Free back))
      (level v (Free pass) (Free back) (at_free crew.hands v pass may.0).got refl)
  flows (HasWaited v pass end Stop growth pool) may asked is = stopped v pass end growth pool may
  flows (SetsLimit n) may asked is = absurd cc
  flows (SetsClientLimit limit) may asked is = absurd cc
  flows (Sweeps growth pool) may asked is =
      entering _ (record crew { pool = pool }) refl (swept true growth pool may) (kept pool _
      (sweep_serial true (IsPlanned plan) crew.pool pool growth may) refl) tt refl refl refl
  flows (IsWoken who number PutBack growth pool) may asked is =
      entering _ (record crew { pool = pool }) refl
      (sweep_entered (IsPlanned plan) crew.pool pool growth (number.serial ∷ []) may.effect)
      (kept pool _ (rw may.effect.after_is refl) refl) tt refl refl refl
  flows (IsWoken who number _ growth pool) may asked is = still _ (record crew { pool = pool })
      (refl, refl, λ n. tt, refl) refl may.effect.0 (rw may.effect.1 refl) refl refl
  flows (IsCancelled who number PutBack growth pool) may asked is =
      entering _ (record crew { pool = pool }) refl
      (some_entered (IsPlanned plan) crew.pool pool growth number.serial [] may.effect.starts
      (rw may.effect.after_is refl) (rw may.effect.after_is refl))
      (kept pool _ (rw may.effect.after_is refl) refl) tt refl refl refl
  flows (IsCancelled who number _ growth pool) may asked is = still _ (record crew { pool = pool })
      (refl, refl, λ n. tt, refl) refl may.effect.0 (rw may.effect.1 refl) refl refl
  flows (IsLetGo who act number) may asked is =
      still _ (after crew (IsLetGo who act number)) (by_let_go Quiet (refl, refl, λ n. tt, refl)
      (refl, refl, λ n. tt, refl) act may) refl refl (let_go_alone crew.pool number) refl refl
  flows (Tells who act) may asked is =
      still _ crew (quiet who None act (aside_plain act may)) refl refl refl refl refl
