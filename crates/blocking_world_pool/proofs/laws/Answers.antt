-- Each move is answered as the law of answers says.
use Rattle.std.proofs.Common.{[], ◌≡◌, ◌<◌, ◌==◌, ◌+◌, ◌&&◌, ◌||◌, nat_lt, ℕ, Bool, true}
use Rattle.std.proofs.Common.{if◌then◌else◌, List, length, refl, sym, ap, ap₂, ◌∙◌, subst, arith}
use Rattle.std.proofs.Common.{Option, Some, None, Ok, Err}
use Rattle.std.specs.FinMap.{get}
use Rattle.blocking_world_pool.proofs.Types.{Memory, NoWorker, Numbers, Stay, Stop, Standing, Ended}
use Rattle.blocking_world_pool.proofs.Types.{TookDropped, Moment, Worker, WaitEnd, Step, Holds}
use Rattle.blocking_world_pool.proofs.Types.{JobInHand, TurnStage, Ticket, Parking}
use Rattle.blocking_world_pool.proofs.Words.{limit_of, greatest, Growth, limit_after, JobNumber}
use Rattle.blocking_world_pool.proofs.Words.{Job as Entry, is_empty, must_stop, wake_of, cancel_of}
use Rattle.blocking_world_pool.proofs.Words.{take_from, take_answer, end_of, end_answer}
use Rattle.blocking_world_pool.proofs.Words.{PoolAnswers, AnswerLaw, workers, limit, IsPlanned}
use Rattle.blocking_world_pool.proofs.Words.{is_woken, is_cancelled, is_marked, has_ended}
use Rattle.blocking_world_pool.proofs.Words.{is_to_drop, standing, first_of, seen_to_sweep, queue}
use Rattle.blocking_world_pool.proofs.Words.{joined, has_timed_out, turn, Crew, may_end, outcome_of}
use Rattle.blocking_world_pool.proofs.Words.{standing_after, hand_at, Move, Adds, Arrives, TakesJob}
use Rattle.blocking_world_pool.proofs.Words.{TakesNone, Works, EndsTurn, Parks, HasWaited, Sweeps}
use Rattle.blocking_world_pool.proofs.Words.{IsWoken, IsCancelled, IsLetGo, Tells, call_of}
use Rattle.blocking_world_pool.proofs.Words.{next_start, took_act, parked_act, May, no_growth}
use Rattle.blocking_world_pool.proofs.Words.{JobPool, TakesFront, SweepsIf, ParksTo, ParksSo}
use Rattle.blocking_world_pool.proofs.Words.{ValueAs, FiledAs, FiledHere, turn_of, CrewHolds}
use Rattle.blocking_world_pool.proofs.Words.{moment_of, IsAsked}
use Rattle.blocking_world_laws.specs.Queue.{ready as ready_by_law}
use Rattle.blocking_world_laws.proofs.Queues.{answer_of_first}
use Rattle.blocking_world_laws.specs.declared.event.Act.TheVariants.{Took}
use Rattle.blocking_world_pool.specs.declared.hand.TurnStage.TheVariants as stage
use Rattle.blocking_world_pool.specs.declared.tickets.Parking.TheVariants as parking
use Rattle.blocking_world_pool.proofs.jobs.Lookups.{found_at}
use Rattle.blocking_world_pool.proofs.ties.Acts.{plain, aside_plain, by_work, by_let_go}
use Rattle.blocking_world_pool.proofs.ties.Flows.{workers_now, swept}
use Rattle.blocking_world_pool.proofs.ties.Standings.{met, front_filed, ready_seen}
use Rattle.blocking_world_pool.proofs.ties.Sweeps.{sweep_same}

-- ---- takes

-- the mark of a ticket that is there
mark_is : (stand : Standing) (found : Option Ticket) (mark : Bool) (value : Ticket)
    → found ≡ Some value → ValueAs stand found mark → value.is_marked ≡ mark
mark_is stand found mark value e v = grind arith

-- whether a job is to be dropped, by its entry
to_drop_is : (entry : Entry Ticket) (stand : Option Standing) (wake cancel mark ended : Bool)
    (value : Ticket) → entry.value ≡ Some value
    → FiledAs (Some entry) stand wake cancel mark ended
    → (entry.cancelled || value.is_marked) ≡ (cancel || mark)
to_drop_is entry stand wake cancel mark ended value e f =
    ap₂ (λ (a b : Bool). a || b) (sym f.2) (mark_is entry.standing entry.value mark value e f.4)

took_if : (b : Bool) (s : ℕ) → took_act b s ≡ (if b then TookDropped s else Took s)
took_if b s = grind arith

took_rightly : (setting : ℕ) (past : List Moment) (now : Moment) (b : Bool) (s : ℕ)
    → took_act b s ≡ take_answer past → PoolAnswers setting past now (took_act b s)
took_rightly setting past now b s e = grind arith

-- ---- the ends of turns

end_is : (at : TurnStage) (drop woken : Bool) (s : ℕ) → may_end at ≡ true
    → Ended s (standing_after (outcome_of at)) ≡ end_of (turn_of at) drop woken s
end_is at drop woken s may = grind arith

-- ---- waits

none_left : (ns : List ℕ) → (length ns == 0) ≡ is_empty ns
none_left ns = grind arith

module _ (setting : ℕ) (plan : List Bool) (crew : Crew) (past : List Moment) (step : Step)
    (owner : Option ℕ) (h : CrewHolds setting plan crew past) where
  take_is : (number : JobNumber) (value : Ticket) (to_drop : Bool) (growth : Growth)
      (pool : JobPool) → TakesFront (IsPlanned plan) crew.pool number value to_drop growth pool
      → took_act to_drop number.serial ≡ take_answer past
  take_is number value to_drop growth pool front =
      let s = number.serial in
      let drop : to_drop ≡ is_to_drop past s =
      front.wanted
      ∙ to_drop_is front.job (standing past s) (is_woken past s) (is_cancelled past s)
      (is_marked past s) (has_ended past s) value front.value_is
      (front_filed setting plan crew past h (IsPlanned plan) number value to_drop growth pool
      front) in
      took_if to_drop s ∙ ap (λ (b : Bool). if b then TookDropped s else Took s) drop
      ∙ sym (answer_of_first past s (ready_by_law past)
      (ap first_of (sym (ready_seen setting plan crew past h)) ∙ front.front))

  ends : (held : JobInHand) (v : ℕ) → hand_at crew.hands v ≡ Holds held
      → may_end held.stage ≡ true → Ended held.turn.serial (standing_after (outcome_of held.stage))
      ≡ end_answer past held.turn.serial
  ends held v at may = rw (h.tied.handed.turn_is v held at) (end_is held.stage
      (is_to_drop past held.turn.serial) (is_woken past held.turn.serial) held.turn.serial may)

  -- the end of a run that waits
  parks : (held : JobInHand) (v : ℕ) (ticket : Ticket) (parked : Parking) (pool : JobPool)
      → hand_at crew.hands v ≡ Holds held
      → held.stage ≡ stage.Waits → ParksSo crew.pool held.turn ticket parked pool
      → ticket.is_marked ≡ is_marked past held.turn.serial
      → parked_act parked held.turn.serial ≡ end_answer past held.turn.serial
  parks held v ticket parked pool at waits so marked = by parked so.effect
    where
      s : ℕ
      s = held.turn.serial

      filed : FiledHere (Some so.job) past s
      filed = subst (λ o. FiledHere o past s)
          (found_at held.turn.place (get crew.pool.jobs s) so.job so.found) (h.tied.filed s)

      drop : (so.job.cancelled || ticket.is_marked) ≡ is_to_drop past s
      drop = ap₂ (λ (a b : Bool). a || b) (sym filed.2) marked

      waiting : turn past s ≡ turn_of stage.Waits
      waiting = h.tied.handed.turn_is v held at ∙ ap turn_of waits

      by : (p : Parking) → ParksTo crew.pool held.turn ticket so.job p pool
          → parked_act p s ≡ end_answer past s
      by p e = grind arith

  -- the laws stop a worker where the pool does
  stop_is : (end : WaitEnd) (growth : Growth) (between : JobPool)
      → SweepsIf (has_timed_out end) (IsPlanned plan) crew.pool growth between
      → (nat_lt (limit_after (limit setting past) (workers past + growth.started) growth.refused)
      (workers past + growth.started)
      || has_timed_out end
      && length (joined (queue past) (if has_timed_out end then seen_to_sweep past else []))
      == 0) ≡ must_stop (has_timed_out end) between
  stop_is end growth between sweeps =
      let entered =
      swept setting plan crew past step owner h (has_timed_out end) growth between sweeps in
      let g = entered.grew in
      let line : between.queue ≡ joined
      (queue past) (if has_timed_out end then seen_to_sweep past else []) = entered.line
      ∙ ap (λ (ns : List ℕ). joined ns (if has_timed_out end then seen_to_sweep past else []))
      h.tied.lined in
      let all = workers_now setting plan crew past step owner h in
      let gw = g.workers in
      let hired : workers past + growth.started ≡ between.counts.workers = omega (arith, gw, all) in
      let most : limit_after (limit setting past) (workers past + growth.started) growth.refused
      ≡ limit_of between.counts =
      ap₂ (λ l n. limit_after l (n + growth.started) growth.refused) (sym h.tied.counted.limit_is)
      (sym all) ∙ sym g.most in
      ap₂ (λ (a b : Bool). a || has_timed_out end && b) (ap₂ nat_lt most hired)
      (ap (λ (ns : List ℕ). length ns == 0) (sym line) ∙ none_left between.queue)

  -- Each move is answered as the law of answers says.
  pub answer_law : (move : Move)
      → May (IsPlanned plan) crew move → IsAsked crew past step (call_of move)
      → AnswerLaw setting past (moment_of crew move step owner)
  answer_law (Adds who c (Ok number) growth pool) may asked =
      (may.serial ∙ h.tied.numbered.next, subst (λ (s : ℕ). s < greatest) (sym may.serial) may.left)
  answer_law (Adds who c (Err NoWorker) growth pool) may asked =
      subst (λ (s : ℕ). s < greatest) h.tied.numbered.next may.left
  answer_law (Adds who c (Err Numbers) growth pool) may asked = sym h.tied.numbered.next ∙ may.0
  answer_law (Adds who c (Err Memory) growth pool) may asked =
      subst (λ (s : ℕ). s < greatest) h.tied.numbered.next may.2
  answer_law (Arrives pass) may asked =
      let hands = h.tied.counted.hands_are in let arriving = h.tied.counted.arriving_are in
      (omega (arith, hands), omega (arith, hands, arriving, may))
  answer_law (TakesJob v old to_drop number ticket growth pool) may asked =
      took_rightly setting past (moment_of crew (TakesJob v old to_drop number ticket growth pool)
      step owner) to_drop number.serial (take_is number ticket to_drop growth pool may.1)
  answer_law (TakesNone v old pass) may asked =
      ap (take_from past) (sym may.1 ∙ ready_seen setting plan crew past h)
  answer_law (Works v held act) may asked =
      by_work (λ at act. AnswerLaw setting past (moment_of crew (Works v held act) step owner))
      (λ at act is same fits. (plain setting past step owner (Worker v) (Some held.turn.serial)
      (next_start crew) no_growth act is).answered) tt (λ w. tt) held.stage act may.1
  answer_law (EndsTurn v held pass) may asked = ends held v may.0 may.1
  answer_law (Parks v held ticket (parking.Parked pass) pool) may asked =
      parks held v ticket (parking.Parked pass) pool may.0 may.1 may.2 (asked held may.0)
  answer_law (Parks v held ticket parked pool) may asked =
      parks held v ticket parked pool may.0 may.1 may.2 (asked held may.0)
  answer_law (HasWaited v pass end (Stay back) growth pool) may asked =
      stop_is end growth may.1.between may.1.sweep ∙ may.1.answer.0
  answer_law (HasWaited v pass end Stop growth pool) may asked =
      stop_is end growth may.1.between may.1.sweep ∙ may.1.answer.0
  answer_law (Sweeps growth pool) may asked = ap length (sweep_same setting plan crew past h)
  answer_law (IsWoken who number woke growth pool) may asked =
      may.answer ∙ met setting plan crew past h wake_of number refl refl asked
  answer_law (IsCancelled who number woke growth pool) may asked =
      may.answer ∙ met setting plan crew past h cancel_of number refl refl asked
  answer_law (IsLetGo who act number) may asked = by_let_go (λ act. PoolAnswers setting past
      (moment_of crew (IsLetGo who act number) step owner) act) tt tt act may
  answer_law (Tells who act) may asked = (plain setting past step owner who None (next_start crew)
      no_growth act (aside_plain act may)).answered
  answer_law move may asked = tt
