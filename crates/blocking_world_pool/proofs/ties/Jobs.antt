-- Each move keeps the pool's jobs as they were seen.
use Rattle.std.proofs.Common.{◌≡◌, ℕ, ◌==◌, ◌&&◌, ◌||◌, not, if◌then◌else◌, List, ◌∷◌, Bool, true}
use Rattle.std.proofs.Common.{false, refl, sym, ap, ◌∙◌, Option, Some, None, Ok, Err, option_map}
use Rattle.std.proofs.Common.{IfSome, arith}
use Rattle.std.specs.FinMap.{get, remove}
use Rattle.blocking_world_pool.proofs.Types.{Stay, Stop, Woke, Entered, Marked, Nothing, Standing}
use Rattle.blocking_world_pool.proofs.Types.{Done, Dropped, Parked, Queued, Running, WorkerPass}
use Rattle.blocking_world_pool.proofs.Types.{Act, JobCancelled, JobWoken, Moment, Party, Worker}
use Rattle.blocking_world_pool.proofs.Types.{Step, Holds, JobInHand, Ticket}
use Rattle.blocking_world_pool.proofs.Words.{Growth, JobNumber, Job as Entry, new_job}
use Rattle.blocking_world_pool.proofs.Words.{entry_after_take, entry_after_requeue}
use Rattle.blocking_world_pool.proofs.Words.{entry_after_park, entry_after_wake, entry_after_cancel}
use Rattle.blocking_world_pool.proofs.Words.{is_in, wake_of, cancel_of, IsPlanned, holder}
use Rattle.blocking_world_pool.proofs.Words.{is_holder, is_woken, is_cancelled, has_ended}
use Rattle.blocking_world_pool.proofs.Words.{is_marked, standing, has_timed_out, Crew, hand_at}
use Rattle.blocking_world_pool.proofs.Words.{Move, Adds, TakesJob, Works, EndsTurn, Parks}
use Rattle.blocking_world_pool.proofs.Words.{HasWaited, Sweeps, IsWoken, IsCancelled, IsLetGo}
use Rattle.blocking_world_pool.proofs.Words.{Tells, call_of, next_start, after, May, no_growth}
use Rattle.blocking_world_pool.proofs.Words.{new_ticket, JobPool, to_sweep, pool_after_let_go}
use Rattle.blocking_world_pool.proofs.Words.{AbsentAs, FiledAs, FiledHere, Filed, IsNumberOf}
use Rattle.blocking_world_pool.proofs.Words.{CrewHolds, moment_of, HoldsAtRest, IsAsked}
use Rattle.blocking_world_laws.specs.Jobs.{is_parked}
use Rattle.blocking_world_pool.specs.declared.tickets.Parking.TheVariants as parking
use Rattle.blocking_pool.proofs.Lists.{by_eq}
use Rattle.blocking_world_pool.proofs.jobs.Changes.{found_after}
use Rattle.blocking_world_pool.proofs.jobs.Lookups.{woken_is, cancelled_is}
use Rattle.blocking_world_pool.proofs.jobs.Marks.{job_let_go}
use Rattle.blocking_world_pool.proofs.ties.Acts.{now_with, plain, aside_plain, by_work, by_let_go}
use Rattle.blocking_world_pool.proofs.ties.Acts.{by_end}
use Rattle.blocking_world_pool.proofs.ties.Entries.{accepted_filed, taken_filed, parked_filed}
use Rattle.blocking_world_pool.proofs.ties.Entries.{requeued_filed, woken_filed, woken_there}
use Rattle.blocking_world_pool.proofs.ties.Entries.{cancelled_filed, cancelled_there, marked_filed}
use Rattle.blocking_world_pool.proofs.ties.Standings.{fresh, unheld, met, held_runs, front_stands}
use Rattle.blocking_world_pool.proofs.ties.Sweeps.{due_test}

module _ (setting : ℕ) (plan : List Bool) (crew : Crew) (past : List Moment) (step : Step)
    (owner : Option ℕ) (h : CrewHolds setting plan crew past) where
  abbrev now : Party → Option ℕ → Act → Growth → Moment
  now who job act growth = now_with step owner who job act (next_start crew) growth

  -- a job of the pool that stands so
  stood : (t s : ℕ) (stand : Option Standing) → t ≡ s → standing past t ≡ stand
      → FiledAs (get crew.pool.jobs s) stand (is_woken past s) (is_cancelled past s)
      (is_marked past s) (has_ended past s)
  stood t s stand same is = rw (ap (standing past) (sym same) ∙ is) at (h.tied.filed s)

  -- ---- each kind of move

  took_filed : (v : ℕ) (old : WorkerPass) (turn : JobNumber)
      (ticket : Ticket) (to_drop : Bool) (growth : Growth) (pool : JobPool) (s : ℕ)
      → May (IsPlanned plan) crew (TakesJob v old to_drop turn ticket growth pool)
      → FiledAs (get pool.jobs s) (if turn.serial == s then Some Running else standing past s)
      (not (turn.serial == s) && is_woken past s) (is_cancelled past s) (is_marked past s)
      (has_ended past s)
  took_filed v old turn ticket to_drop growth pool s may =
      rw (found_after (IsPlanned plan) crew (TakesJob v old to_drop turn ticket growth pool) s may)
      (by_eq turn.serial s (λ b. FiledAs (if b
      then option_map entry_after_take (get crew.pool.jobs s) else get crew.pool.jobs s)
      (if b then Some Running else standing past s) (not b && is_woken past s)
      (is_cancelled past s) (is_marked past s) (has_ended past s))
      (λ same. taken_filed _ _ _ _ (get crew.pool.jobs s)
      (stood turn.serial s (Some Queued) same (front_stands setting plan crew past h
      (IsPlanned plan) turn ticket to_drop growth pool may.1)))
      (λ other. h.tied.filed s))

  ended_filed : (v : ℕ) (held : JobInHand) (pass : WorkerPass) (how : Standing) (s : ℕ)
      → May (IsPlanned plan) crew (EndsTurn v held pass)
      → ((wake cancel mark : Bool) → AbsentAs (Some how) wake cancel mark true)
      → FiledAs (get (remove crew.pool.jobs held.turn.serial) s)
      (if held.turn.serial == s then Some how else standing past s) (is_woken past s)
      (is_cancelled past s) (is_marked past s) (held.turn.serial == s || has_ended past s)
  ended_filed v held pass how s may over =
      rw (found_after (IsPlanned plan) crew (EndsTurn v held pass) s may)
      (by_eq held.turn.serial s (λ b. FiledAs (if b then None else get crew.pool.jobs s)
      (if b then Some how else standing past s) (is_woken past s) (is_cancelled past s)
      (is_marked past s) (b || has_ended past s))
      (λ same. over _ _ _) (λ other. h.tied.filed s))

  -- one job becomes this, and stands so then
  stands_as : (t s : ℕ) (how : Standing) (becomes : Option (Entry Ticket))
      → (t ≡ s → FiledAs becomes (Some how) (is_woken past s) (is_cancelled past s)
      (is_marked past s) (has_ended past s))
      → FiledAs (if t == s then becomes else get crew.pool.jobs s)
      (if t == s then Some how else standing past s) (is_woken past s) (is_cancelled past s)
      (is_marked past s) (has_ended past s)
  stands_as t s how becomes filed = grind arith

  parked_here : (v : ℕ) (held : JobInHand) (ticket : Ticket) (s : ℕ)
      → hand_at crew.hands v ≡ Holds held
      → ticket.is_marked ≡ is_marked past held.turn.serial → held.turn.serial ≡ s
      → FiledAs (option_map (entry_after_park ticket) (get crew.pool.jobs s)) (Some Parked)
      (is_woken past s) (is_cancelled past s) (is_marked past s) (has_ended past s)
  parked_here v held ticket s at marked same = grind (arith, parked_filed, held_runs)

  swept_filed : (late : Bool) (found : Option (Entry Ticket)) (s : ℕ)
      → found ≡ (if late && is_in s (to_sweep crew.pool)
      then option_map entry_after_requeue (get crew.pool.jobs s) else get crew.pool.jobs s)
      → FiledAs found (if late && is_parked (standing past s) && is_marked past s then Some Queued
      else standing past s) (is_woken past s) (is_cancelled past s) (is_marked past s)
      (has_ended past s)
  swept_filed false found s is = rw is (h.tied.filed s)
  swept_filed true found s is = rw (is, due_test setting plan crew past h s)
      (by (is_parked (standing past s) && is_marked past s) refl)
    where
      due_parked : (stand : Option Standing) (mark : Bool) → (is_parked stand && mark) ≡ true
          → stand ≡ Some Parked
      due_parked stand mark e = grind arith

      by : (b : Bool) → (is_parked (standing past s) && is_marked past s) ≡ b
          → FiledAs (if b then option_map entry_after_requeue (get crew.pool.jobs s)
          else get crew.pool.jobs s) (if b then Some Queued else standing past s)
          (is_woken past s) (is_cancelled past s) (is_marked past s) (has_ended past s)
      by b due = grind arith

  let_go_filed : (who : Party) (number : Option JobNumber) (s : ℕ)
      → IfSome number (IsNumberOf crew.pool) → HoldsAtRest past who number
      → FiledAs (get (pool_after_let_go crew.pool number).jobs s) (standing past s)
      (is_woken past s) (is_cancelled past s)
      (is_holder (holder past s) who && not (has_ended past s) || is_marked past s)
      (has_ended past s)
  let_go_filed who number s placed holds = grind (arith, job_let_go, marked_filed, unheld)

  -- ---- wakes and cancels

  woken_here : (who : Party) (number : JobNumber) (woke : Woke) (growth : Growth)
      (pool : JobPool) (s : ℕ) → May (IsPlanned plan) crew (IsWoken who number woke growth pool)
      → woke ≡ wake_of (standing past number.serial)
      → FiledHere (get pool.jobs s) (now who None (JobWoken number.serial woke) growth ∷ past) s
  woken_here who number Entered growth pool s may answer =
      rw (found_after (IsPlanned plan) crew (IsWoken who number Entered growth pool) s may)
      (stands_as number.serial s Queued (option_map entry_after_requeue (get crew.pool.jobs s))
      (λ same. requeued_filed _ _ _ _ (get crew.pool.jobs s) (stood number.serial s (Some Parked)
      same (woken_is (standing past number.serial) answer))))
  woken_here who number Marked growth pool s may answer =
      rw (found_after (IsPlanned plan) crew (IsWoken who number Marked growth pool) s may)
      (by_eq number.serial s (λ b. FiledAs (if b then option_map
      entry_after_wake (get crew.pool.jobs s) else get crew.pool.jobs s) (standing past s)
      (b || is_woken past s) (is_cancelled past s) (is_marked past s) (has_ended past s))
      (λ same. woken_filed _ _ _ _ (get crew.pool.jobs s) (standing past s) (woken_there
      _ _ _ _ (standing past s) (answer ∙ ap (λ t. wake_of (standing past t)) same))
      (h.tied.filed s)) (λ other. h.tied.filed s))
  woken_here who number Nothing growth pool s may answer =
      rw (found_after (IsPlanned plan) crew (IsWoken who number Nothing growth pool) s may)
      (h.tied.filed s)

  cancelled_here : (who : Party) (number : JobNumber) (woke : Woke) (growth : Growth)
      (pool : JobPool) (s : ℕ) → May (IsPlanned plan) crew (IsCancelled who number woke growth pool)
      → woke ≡ cancel_of (standing past number.serial)
      → FiledHere (get pool.jobs s) (now who None (JobCancelled number.serial woke) growth ∷ past) s
  cancelled_here who number Entered growth pool s may answer =
      rw (found_after (IsPlanned plan) crew (IsCancelled who number Entered growth pool) s may)
      (by_eq number.serial s (λ b. FiledAs (if b then option_map entry_after_requeue
      (option_map entry_after_cancel (get crew.pool.jobs s)) else get crew.pool.jobs s)
      (if b then Some Queued else standing past s) (is_woken past s)
      (b || is_cancelled past s) (is_marked past s) (has_ended past s))
      (λ same. requeued_filed _ _ _ _ (option_map entry_after_cancel (get crew.pool.jobs s))
      (cancelled_filed _ _ _ _ (get crew.pool.jobs s)
      (Some Parked) (λ absent. absent) (stood number.serial s (Some Parked) same
      (cancelled_is (standing past number.serial) answer)))) (λ other. h.tied.filed s))
  cancelled_here who number Marked growth pool s may answer =
      rw (found_after (IsPlanned plan) crew (IsCancelled who number Marked growth pool) s may)
      (by_eq number.serial s (λ b. FiledAs (if b then option_map entry_after_cancel
      (get crew.pool.jobs s) else get crew.pool.jobs s) (standing past s)
      (is_woken past s) (b || is_cancelled past s) (is_marked past s) (has_ended past s))
      (λ same. cancelled_filed _ _ _ _ (get crew.pool.jobs s) (standing past s) (cancelled_there
      _ _ _ _ (standing past s) (answer ∙ ap (λ t. cancel_of (standing past t)) same))
      (h.tied.filed s)) (λ other. h.tied.filed s))
  cancelled_here who number Nothing growth pool s may answer =
      rw (found_after (IsPlanned plan) crew (IsCancelled who number Nothing growth pool) s may)
      (h.tied.filed s)

  -- ---- every move

  -- Each move keeps the pool's jobs as they were seen.
  pub jobs_after : (move : Move)
      → May (IsPlanned plan) crew move → IsAsked crew past step (call_of move)
      → Filed (after crew move).pool (moment_of crew move step owner ∷ past)
  jobs_after (Adds who c (Ok number) growth pool) may asked s =
      rw (found_after (IsPlanned plan) crew (Adds who c (Ok number) growth pool) s may)
      (stands_as number.serial s Queued (Some (new_job number.place c new_ticket))
      (λ same. accepted_filed _ _ _ _ (get crew.pool.jobs s) number.place c (stood number.serial s
      None same (ap (standing past) may.serial ∙ fresh setting plan crew past h))))
  jobs_after (Adds who c (Err why) growth pool) may asked s = rw
      (found_after (IsPlanned plan) crew (Adds who c (Err why) growth pool) s may) (h.tied.filed s)
  jobs_after (TakesJob v old true turn ticket growth pool) may asked s =
      took_filed v old turn ticket true growth pool s may
  jobs_after (TakesJob v old false turn ticket growth pool) may asked s =
      took_filed v old turn ticket false growth pool s may
  jobs_after (Works v held act) may asked s =
      by_work (λ at act. FiledHere (get crew.pool.jobs s)
      (now (Worker v) (Some held.turn.serial) act no_growth ∷ past) s)
      (λ at act is same fits. (plain setting past step owner (Worker v) (Some held.turn.serial)
      (next_start crew) no_growth act is).filed (get crew.pool.jobs s) s (h.tied.filed s))
      (h.tied.filed s) (λ w. h.tied.filed s) held.stage act may.1
  jobs_after (EndsTurn v held pass) may asked s =
      by_end (λ act. FiledHere (get (remove crew.pool.jobs held.turn.serial) s)
      (now (Worker v) (Some held.turn.serial) act no_growth ∷ past) s) held.turn.serial
      (ended_filed v held pass Done s may (λ w c m. refl))
      (ended_filed v held pass Dropped s may (λ w c m. refl)) held.stage
  jobs_after (Parks v held ticket (parking.Parked pass) pool) may asked s =
      rw (found_after (IsPlanned plan) crew (Parks v held ticket (parking.Parked pass) pool) s may)
      (stands_as held.turn.serial s Parked _ (parked_here v held ticket s may.0 (asked held may.0)))
  jobs_after (Parks v held ticket (parking.Queued pass) pool) may asked s =
      rw (found_after (IsPlanned plan) crew (Parks v held ticket (parking.Queued pass) pool) s may)
      (stands_as held.turn.serial s Queued _ (λ same.
      requeued_filed _ _ _ _ _ (parked_here v held ticket s may.0 (asked held may.0) same)))
  jobs_after (Parks v held ticket (parking.HandedOut back) pool) may asked s =
      rw (found_after (IsPlanned plan) crew (Parks v held ticket (parking.HandedOut back) pool) s
      may) (h.tied.filed s)
  jobs_after (HasWaited v pass end (Stay back) growth pool) may asked s =
      swept_filed (has_timed_out end) (get pool.jobs s) s
      (found_after (IsPlanned plan) crew (HasWaited v pass end (Stay back) growth pool) s may)
  jobs_after (HasWaited v pass end Stop growth pool) may asked s =
      swept_filed (has_timed_out end) (get pool.jobs s) s
      (found_after (IsPlanned plan) crew (HasWaited v pass end Stop growth pool) s may)
  jobs_after (Sweeps growth pool) may asked s = swept_filed true (get pool.jobs s) s
      (found_after (IsPlanned plan) crew (Sweeps growth pool) s may)
  jobs_after (IsWoken who number woke growth pool) may asked s = woken_here who number woke growth
      pool s may (may.answer ∙ met setting plan crew past h wake_of number refl refl asked)
  jobs_after (IsCancelled who number woke growth pool) may asked s = cancelled_here who number woke
      growth pool s may (may.answer ∙ met setting plan crew past h cancel_of number refl refl asked)
  jobs_after (IsLetGo who act number) may asked s =
      by_let_go (λ act. FiledHere (get (pool_after_let_go crew.pool number).jobs s)
      (now who None act no_growth ∷ past) s)
      (let_go_filed who number s asked.0 asked.1) (let_go_filed who number s asked.0 asked.1) act
      may
  jobs_after (Tells who act) may asked s = (plain setting past step owner who None (next_start crew)
      no_growth act (aside_plain act may)).filed (get crew.pool.jobs s) s (h.tied.filed s)
  jobs_after move may asked s = h.tied.filed s
