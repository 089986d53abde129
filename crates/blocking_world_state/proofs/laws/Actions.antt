-- A step has an action in the parts exactly where it has one by what was seen.
use Rattle.std.proofs.Common.{◌≡◌, ℕ, ◌+◌, List, length, Bool, false, refl, sym, ap, ◌∙◌, arith}
use Rattle.std.proofs.Common.{Option, Some, None, ◌&&◌, ◌||◌, ◌==◌, nat_lt, not, slice_get, is_some}
use Rattle.std.proofs.Common.{is_none}
use Rattle.std.proofs.lemmas.Bool.{lt-ltb}
use Rattle.std.proofs.lemmas.Bool.Decides.{nat_tests}
use Rattle.std.proofs.lemmas.Option.{slice_get_within}
use Rattle.blocking_world_state.proofs.Types.{Event, Moment, Party, HandleCall, Step, Arrive, Ask}
use Rattle.blocking_world_state.proofs.Types.{Copy, DropOwner, End, Io, Job, Late, Link, New}
use Rattle.blocking_world_state.proofs.Types.{OfTask, Own, SetClientLimit, SetLimit, Spawn, Stray}
use Rattle.blocking_world_state.proofs.Types.{Strike, Sweep, Take, Wait, TaskCall, Hand, Row}
use Rattle.blocking_world_state.proofs.Words.{starts, arrivals, tasks, holder, standing, events}
use Rattle.blocking_world_state.proofs.Words.{acts_of_task, task_cut, cut, own, acts_of_owner}
use Rattle.blocking_world_state.proofs.Words.{under_way, is_poll_over, is_there, is_job_action}
use Rattle.blocking_world_state.proofs.Words.{is_answered_action, is_turn_end, is_for_cancelled}
use Rattle.blocking_world_state.proofs.Words.{may_call, may_cancel, has_action, hand, hand_at}
use Rattle.blocking_world_state.proofs.Words.{is_free_hand, HandAs, OwnerAs, Owner, next_of, did}
use Rattle.blocking_world_state.proofs.Words.{Task, may_be, is_gone_as, CancelAs, TaskAs}
use Rattle.blocking_world_state.proofs.Words.{may_call_in, rests_in, may_ask_in, may_own}
use Rattle.blocking_world_state.proofs.Words.{may_own_in, has_action_in, Parts, row_of, let_go_by}
use Rattle.blocking_world_state.proofs.Words.{Tied, IsFree}
use Rattle.blocking_world_laws.specs.Lent.{copiers, has_owner}
use Rattle.blocking_world_laws.specs.Sessions as sessions
use Rattle.blocking_world_laws.specs.TaskLaws.{is_gone}
use Rattle.blocking_world_holders.specs.declared.task.TaskStage.{TaskStage}
use Rattle.blocking_world_holders.proofs.cuts.Acts.{own_cut}
use Rattle.blocking_world_holders.proofs.owners.Actions.{acts_some, is_rest, rests_is, may_ask_is}
use Rattle.blocking_world_holders.proofs.owners.Actions.{rests_next}
use Rattle.blocking_world_state.proofs.laws.NextActions.{missing, unseen, next_agrees, own_is}
use Rattle.blocking_world_state.proofs.ties.Jobs.{has_row, holder_stands, owner_tie, task_tie}
use Rattle.blocking_world_state.proofs.ties.Releases.{let_go_is}

-- ---- workers and limits

-- an idle worker is there and has no job in hand
free_by : (h : Hand) (there : Bool) (job : Option ℕ) → HandAs h there job
    → is_free_hand h ≡ (there && is_none job)
free_by h there job holds = grind arith

-- as many are to arrive as were started and haven't arrived
arrive_by : (m n s : ℕ) → s ≡ m + n → (x y : Bool) → nat_lt 0 m ≡ x → nat_lt n s ≡ y → x ≡ y
arrive_by m n s sum x y left right = grind arith

-- a limit is above 0 exactly where it isn't 0
limit_by : (n : ℕ) (x y : Bool) → (n == 0) ≡ x → nat_lt 0 n ≡ y → not x ≡ y
limit_by n x y zeroed above = grind arith

-- ---- tasks

stage_may : (at : TaskStage) (call : TaskCall) (gone was : Bool) → gone ≡ is_gone_as at
    → CancelAs at was → may_be at call ≡ (not gone && (not was || is_for_cancelled call))
stage_may at call gone was is_gone is_cancelled = grind arith

-- a task may be called so exactly where its own acts allow it
task_may : (k s : ℕ) (task : Task) (seen : List Event) (call : TaskCall)
    → TaskAs task s (task_cut k s seen)
    → may_be task.stage call ≡ may_call (acts_of_task k seen) call
task_may k s task seen call tie = grind (arith, stage_may, own_cut)

-- ---- owners

-- the poll of an owner has something to do where it doesn't rest
owner_may : (owner : Owner) (seen : List Event) → OwnerAs owner seen
    → may_own (next_of owner) (did owner) ≡ not (is_rest (next_of owner))
owner_may owner seen tie = grind (arith, is_rest, acts_some)

-- ---- steps

module _ (setting : ℕ) (plan : List Bool) (w : Parts) (past : List Moment)
    (t : Tied setting plan w past) where
  pub asks_by : (h : ℕ) (found : Option Owner) → slice_get w.owners h ≡ found
      → rests_in found ≡ sessions.rests (acts_of_owner h (events past))
  asks_by h found o = grind (arith, unseen, rests_is, owner_tie)

  pub asked_by : (h : ℕ) (call : HandleCall) (found : Option Owner) → slice_get w.owners h ≡ found
      → may_ask_in found call ≡ sessions.may_ask (acts_of_owner h (events past)) call
  asked_by h call found o = grind (arith, unseen, may_ask_is, owner_tie)

  owns_by : (h : ℕ) (found : Option Owner) → slice_get w.owners h ≡ found
      → may_own_in found ≡ not (is_poll_over (under_way (acts_of_owner h (events past))))
  owns_by h None found =
      sym (ap (λ l. not (is_poll_over (under_way (own l)))) (unseen setting plan w past t h found))
  owns_by h (Some owner) found =
      let tie = owner_tie setting plan w past t h owner found in
      owner_may owner (cut h (events past)) tie
      ∙ ap not (sym (rests_next owner (cut h (events past)) tie))

  calls_by : (k : ℕ) (call : TaskCall) (found : Option Task)
      → slice_get w.tasks k ≡ found → may_call_in found call
      ≡ (nat_lt k (tasks past) && may_call (acts_of_task k (events past)) call)
  calls_by k call None found =
      let beyond = missing w.tasks k found in
      let none : nat_lt k (length w.tasks) ≡ false = grind (arith, nat_tests) in
      sym (ap (λ n. nat_lt k n && may_call (acts_of_task k (events past)) call) (sym t.tasked.count)
      ∙ ap (λ b. b && may_call (acts_of_task k (events past)) call) none)
  calls_by k call (Some task) found =
      task_may k task.number.serial task (events past) call
      (task_tie setting plan w past t k task found)
      ∙ sym
      (ap (λ n. nat_lt k n && may_call (acts_of_task k (events past)) call) (sym t.tasked.count)
      ∙ ap (λ b. b && may_call (acts_of_task k (events past)) call)
      (lt-ltb k (length w.tasks) (slice_get_within w.tasks k task found)))

  stray_by : (s : ℕ) (found : Option Row) → row_of w.rows s ≡ found
      → is_some found ≡ is_some (holder past s)
  stray_by s None found =
      by (is_some (standing past s)) refl ∙ sym (holder_stands setting plan w past t s)
    where
      by : (b : Bool) → is_some (standing past s) ≡ b → false ≡ b
      by b some = grind (arith, has_row)
  stray_by s (Some row) found = sym (ap is_some (t.rowed.each s row found).held_by)

  strike_by : (s : ℕ) (found : Option Row) → row_of w.rows s ≡ found
      → let_go_by w found ≡ may_cancel (holder past s) past
  strike_by s None found = by (holder past s) (stray_by s None found)
    where
      by : (o : Option Party) → false ≡ is_some o → false ≡ may_cancel o past
      by o none = grind arith
  strike_by s (Some row) found = let_go_is setting plan w past t s row found

  -- where an owner isn't lent
  not_lent : (b : Bool) → b ≡ false → (a : Bool) → a ≡ (a && not b)
  not_lent b is a = grind arith

  -- A step has an action in the parts exactly where it has one by what was seen, unless it is a
  -- copier's, or one at an owner lent to one.
  pub has_is : (step : Step) → IsFree past step → has_action_in w step ≡ has_action past step
  has_is (Ask h call) free = asked_by h call (slice_get w.owners h) refl ∙ not_lent
      (has_owner h (copiers past)) free (sessions.may_ask (acts_of_owner h (events past)) call)
  has_is (Own h) free = owns_by h (slice_get w.owners h) refl
  has_is (DropOwner h) free = asks_by h (slice_get w.owners h) refl
      ∙ not_lent (has_owner h (copiers past)) free (sessions.rests (acts_of_owner h (events past)))
  has_is (OfTask k call) free = calls_by k call (slice_get w.tasks k) refl
  has_is Arrive free =
      arrive_by w.crew.pool.counts.arriving (arrivals past)
      (starts past) t.crewed.tied.counted.arriving_are (nat_lt 0 w.crew.pool.counts.arriving)
      (nat_lt (arrivals past) (starts past)) refl refl
  has_is (Take v) free =
      free_by (hand_at w.crew.hands v) (is_there past v) (hand past v) (t.crewed.tied.handed.each v)
  has_is (Job v) free =
      own_is setting plan w past t v ∙ ap is_job_action (sym (next_agrees setting plan w past t v))
  has_is (Io v answer) free =
      ap (λ d. is_answered_action d answer) (sym (next_agrees setting plan w past t v))
  has_is (End v) free = ap is_turn_end (sym (next_agrees setting plan w past t v))
  has_is (Wait v) free =
      free_by (hand_at w.crew.hands v) (is_there past v) (hand past v) (t.crewed.tied.handed.each v)
  has_is (Late v) free =
      free_by (hand_at w.crew.hands v) (is_there past v) (hand past v) (t.crewed.tied.handed.each v)
  has_is (SetLimit n) free = limit_by n (n == 0) (nat_lt 0 n) refl refl
  has_is (Stray s) free = stray_by s (row_of w.rows s) refl
  has_is (Strike s) free = strike_by s (row_of w.rows s) refl
  has_is (New capacity client) free = refl
  has_is (Spawn client) free = refl
  has_is (SetClientLimit limit) free = refl
  has_is Sweep free = refl
  has_is (Link a b n) free = absurd free
  has_is (Copy k) free = absurd free
