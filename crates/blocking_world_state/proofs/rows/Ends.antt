-- A job that ends for good is over: the end of a turn alone ends one so, and comes where nothing is
-- left to do.
use Rattle.std.proofs.Common.{◌≡◌, ℕ, List, [], ◌∷◌, Bool, true, refl, sym, ap, ◌∙◌, subst, Some}
use Rattle.std.proofs.Common.{arith}
use Rattle.std.proofs.lemmas.Bool.{or_right}
use Rattle.blocking_world_state.proofs.Types.{Action, Running, Act, Answered, Drained, Finished}
use Rattle.blocking_world_state.proofs.Types.{GaveUp, JobClosed, Lost, Peeked, Put, ResultPut}
use Rattle.blocking_world_state.proofs.Types.{RoomFree, RoomShut, TakenOut}
use Rattle.blocking_world_state.proofs.Types.{Event, Moment, HandleAnswer}
use Rattle.blocking_world_state.proofs.Types.{Holds, JobInHand, TurnStage, SessionJob, Core}
use Rattle.blocking_world_state.proofs.Words.{IsPlanned, Kind, Calling, JobAction, Over}
use Rattle.blocking_world_state.proofs.Words.{next_after_answer, next_but_wake, wake_first, is_over}
use Rattle.blocking_world_state.proofs.Words.{has_finished, ends_for_good, events, acts_of}
use Rattle.blocking_world_state.proofs.Words.{next_in_turn, is_turn_end, GoesOn, Crew, may_end}
use Rattle.blocking_world_state.proofs.Words.{hand_at, turn_of, RanAs, JobAs, is_pass, IsDue, Parts}
use Rattle.blocking_world_state.proofs.Words.{call_action, is_at_first, CoreAs, PlaceAs, Tied}
use Rattle.blocking_world_laws.specs.JobTable.{after_put}
use Rattle.blocking_world_pool.specs.Moves as crew
use Rattle.blocking_world_holders.specs.Reads.{has_waker}
use Rattle.blocking_world_holders.specs.SessionJobs.{action_of, kind_of}
use Rattle.blocking_world_state.specs.Rows.{next_of}
use Rattle.blocking_world_state.proofs.rows.Places.{IsOver}
use Rattle.blocking_world_state.proofs.rows.SessionJobs.{job_action_is, next_by}
use Rattle.blocking_world_state.proofs.ties.Jobs.{hand_job, job_place, next_here}

-- ---- a job that has nothing left to do

-- after an answer there is something to do
not_answered : (before : JobAction) (answer : HandleAnswer) → next_after_answer before answer ≡ Over
    → ⊥
not_answered before answer is = grind arith

-- after a put there is more to do
put_goes_on : (kind : Kind) → after_put kind ≡ Over → ⊥
put_goes_on kind is = grind arith

-- a job that has nothing left to do by its table has put its result or given up
table_over : (kind : Kind) (acts : List Act) → next_but_wake kind acts ≡ Over → IsOver acts
table_over Calling [] is = absurd cc
table_over kind (Finished waker ∷ past) is = refl
table_over kind (GaveUp waker ∷ past) is = or_right (has_finished past) true refl
table_over kind (Answered answer ∷ past) is =
    absurd (not_answered (next_but_wake kind past) answer is)
table_over kind (RoomFree n ∷ past) is = absurd cc
table_over kind (RoomShut ∷ past) is = absurd cc
table_over kind (Put n waker ∷ past) is = absurd (put_goes_on kind is)
table_over kind (Lost n ∷ past) is = absurd cc
table_over kind (Peeked bytes ∷ past) is = absurd cc
table_over kind (Drained ∷ past) is = absurd cc
table_over kind (TakenOut n waker ∷ past) is = absurd cc
table_over kind (JobClosed waker ∷ past) is = absurd cc
table_over kind (ResultPut waker ∷ past) is = absurd cc
table_over kind (_ ∷ past) is = table_over kind past is
table_over _ [] is = absurd cc

call_over : (next : Action) (n : ℕ) (acts : List Act)
    → is_turn_end (next_in_turn GoesOn (call_action next)) ≡ true → RanAs next n acts → IsOver acts
call_over next n acts ends ran = grind arith

-- a turn that goes on ends where nothing is left to do
end_over : (next : JobAction) → is_turn_end (next_in_turn GoesOn next) ≡ true → is_over next ≡ true
end_over next ends = grind arith

-- and no waker is to be called
none_to_wake : (waker : Bool) (next : JobAction) → is_over (wake_first waker next) ≡ true
    → next ≡ Over
none_to_wake waker next is = grind arith

-- the job of a session whose turn ends while it goes on is over
session_over : (job : SessionJob) (acts : List Act)
    → is_turn_end (next_in_turn GoesOn (action_of job)) ≡ true → JobAs job acts → IsOver acts
session_over job acts ends so =
    let kind = kind_of job in
    table_over kind acts
    (none_to_wake (has_waker acts) (next_but_wake kind acts) (sym (ap is_over (next_by kind acts))
    ∙ sym (ap is_over (job_action_is job acts so)) ∙ end_over (action_of job) ends))

-- a job whose turn may end, with nothing left to do, is over
over_here : (at : TurnStage) (c : Core) (acts : List Act)
    → may_end at ≡ true → is_turn_end (next_of at c) ≡ true → CoreAs c acts
    → PlaceAs (Some Running) (turn_of at) (is_at_first c) acts → IsOver acts
over_here at c acts may ends far place = grind (arith, call_over, session_over, or_right)

-- ---- what ends a job for good

-- A crew's call that is a step ends a job for good only at the end of its turn.
record EndsFor (crew_now : Crew) (call : crew.Call) (s : ℕ) : Type 0 where
  worker : ℕ
  held : JobInHand
  at : hand_at crew_now.hands worker ≡ Holds held
  may : may_end held.stage ≡ true
  this : held.turn.serial ≡ s
  call_is : call ≡ crew.End worker

ends_by : (may_answer : ℕ → Bool → Type 0) (crew_now : Crew) (move : crew.Move)
    → crew.May may_answer crew_now move → is_pass (crew.call_of move) ≡ true → (s : ℕ)
    → ends_for_good (crew.event_of crew_now move).act s ≡ true
    → EndsFor crew_now (crew.call_of move) s
ends_by may_answer crew_now move may is s ends = grind arith

-- What a call of the crew alone ends for good is over.
pub pass_over : (setting : ℕ) (plan : List Bool) (w : Parts) (past : List Moment)
    (t : Tied setting plan w past) (call : crew.Call) (new : Crew) (e : Event)
    → is_pass call ≡ true → IsDue w call → crew.Moves (IsPlanned plan) call w.crew e new → (s : ℕ)
    → ends_for_good e.act s ≡ true → IsOver (acts_of s (events past))
pass_over setting plan w past t call new e pass is_due does s ends =
    let end =
    ends_by (IsPlanned plan) w.crew does.move does.may (ap is_pass (sym does.call_is) ∙ pass) s
    (ap (λ (f : Event). ends_for_good f.act s) (sym does.event_is) ∙ ends) in
    let found = hand_job setting plan w past t end.worker end.held end.at in
    let job = found.0 in
    let n = job.held.turn.serial in
    let due_end : IsDue w (crew.End end.worker) =
    subst (IsDue w) (does.call_is ∙ end.call_is) is_due in
    subst (λ m. IsOver (acts_of m (events past)))
    (ap (λ (h : JobInHand). h.turn.serial) found.2 ∙ end.this)
    (over_here job.held.stage job.row.core (acts_of n (events past))
    (ap (λ (h : JobInHand). may_end h.stage) found.2 ∙ end.may)
    (sym (ap is_turn_end (next_here w end.worker job found.1)) ∙ due_end.0)
    (t.rowed.each n job.row found.1.has_row).core
    (job_place setting plan w past t end.worker job found.1))
