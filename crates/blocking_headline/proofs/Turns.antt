-- A waker that a job took is called before its turn ends, and a job that rests is in no hand.
use Rattle.std.proofs.Common.{◌≡◌, refl, ℕ, ◌==◌, ◌&&◌, ◌||◌, Bool, true, false, if◌then◌else◌, List, []}
use Rattle.std.proofs.Common.{◌∷◌, ◌++◌, ◌⊎◌, inl, inr, Option, Some, None, ap, sym, ◌∙◌}
use Rattle.std.specs.Prelude.{not}
use Rattle.std.proofs.lemmas.Bool.{eqb-true}
use mathlib.Core.Path.{subst}
use Rattle.blocking_pool.specs.Lists.{is_in}
use Rattle.blocking_world_laws.specs.Copies.{CopierAction, AskReader, AskWriter, Tells, next_of_copier}
use Rattle.blocking_world_laws.specs.Jobs.{is_running, holder}
use Rattle.blocking_world_laws.specs.JobTable.{Kind, JobAction, takes_waker, next_of_job, next_but_wake, is_over}
use Rattle.blocking_world_laws.specs.JobTable.{wake_first}
use Rattle.blocking_world_laws.specs.Legal.{PoolLaw}
use Rattle.blocking_world_laws.specs.Lent.{Copier, copiers, copier_in}
use Rattle.blocking_world_laws.specs.Queue.{taken_by}
use Rattle.blocking_world_laws.specs.Seen.{EachMayFollow, events, acts_of, is_of_job, is_of_pool, is_nothing}
use Rattle.blocking_world_laws.specs.Seen.{is_some_worker, is_this, is_worker}
use Rattle.blocking_world_laws.specs.Steps.{StepLaw, Happens, has_action, named, party, asked_by, copier_party}
use Rattle.blocking_world_laws.specs.Steps.{job_taken, kind_by, next_in_turn, next_with, is_turn_end}
use Rattle.blocking_world_laws.specs.Turns.{Turn, GoesOn, IsWaiting, MustGiveUp, HasGivenUp, turn, turn_by}
use Rattle.blocking_world_laws.specs.Turns.{hand, hand_by, hand_of, HoldsOne, FitsTurn, FitsTurnOf, is_job_act}
use Rattle.blocking_world_laws.specs.Turns.{ActsInTurn, TurnLaw, has_job, is_giving_up}
use Rattle.blocking_world_laws.specs.declared.event.Act.{Act}
use Rattle.blocking_world_laws.specs.declared.event.Act.TheVariants.{Took, TookDropped, Ended, HandedOut}
use Rattle.blocking_world_laws.specs.declared.event.Act.TheVariants.{JobParked, GaveUp}
use Rattle.blocking_world_laws.specs.declared.event.Event.{Event}
use Rattle.blocking_world_laws.specs.declared.event.Moment.{Moment}
use Rattle.blocking_world_laws.specs.declared.event.Party.{Party}
use Rattle.blocking_world_laws.specs.declared.event.Party.TheVariants.{Owner, Task, Worker, Pool}
use Rattle.blocking_world_laws.specs.declared.step.Step.{Step}
use Rattle.blocking_world_laws.specs.declared.step.Step.TheVariants.{End, Wait, Late, Copy}
use Rattle.blocking_world_laws.proofs.Queues.{held_so, sound_of, take_first, first_so as front_so}
use Rattle.blocking_headline.specs.Headline.{entered, ends, rests}
use Rattle.blocking_headline.proofs.Bools.{same_self, first_so, then_so, unless}

-- ---- an act of a job

-- a job is in no hand
abbrev pub InNoHand : List Moment → ℕ → Type 0
InNoHand past s = (v : ℕ) → hand past v ≡ Some s → ⊥

-- An event of job s is by the worker that has it in hand, and fits its turn.
pub record IsOfTurn (past : List Moment) (s : ℕ) (now : Event) : Type 0 where
  pub worker : ℕ
  pub by : now.party ≡ Worker worker
  pub of : now.job ≡ Some s
  pub holds : hand past worker ≡ Some s
  pub plain : is_of_pool now.act ≡ false
  pub fits : FitsTurn (turn past s) now.act

parts : (a b c d : Bool) → (not a && not b && c && d) ≡ true → (a ≡ false) × (c ≡ true) × (d ≡ true)
parts false false true d e = (refl, refl, e)
parts false false false d e = absurd cc
parts false true c d e = absurd cc
parts true b c d e = absurd cc

some_of : (s : ℕ) (job : Option ℕ) → is_this s job ≡ true → job ≡ Some s
some_of s None e = absurd cc
some_of s (Some t) e = ap Some (eqb-true t s e)

worker_of : (p : Party) → is_some_worker p ≡ true → (w : ℕ) × (p ≡ Worker w)
worker_of (Worker w) e = (w, refl)
worker_of _ e = absurd cc

pub of_turn : (past : List Moment) (now : Moment) (s : ℕ) → TurnLaw past now → is_of_job s now.event ≡ true
    → IsOfTurn past s now.event
of_turn past now s law is =
    let p = parts (is_of_pool now.event.act) (is_nothing now.event.act) (is_some_worker now.event.party)
    (is_this s now.event.job) is in
    let of = some_of s now.event.job p.2 in
    let w = worker_of now.event.party p.1 in
    let own : is_job_act now.event ≡ true = ap (λ j. has_job j && not (is_of_pool now.event.act)) of ∙ ap not p.0 in
    let acts : (hand_of past now.event.party ≡ now.event.job) × FitsTurnOf now.event.job past now.event.act =
    subst (λ b. ActsInTurn b past now.event) own law.acts in
    record {
      worker = w.0;
      by = w.1;
      of = of;
      holds = ap (hand_of past) (sym w.1) ∙ acts.0 ∙ of;
      plain = p.0;
      fits = subst (λ j. FitsTurnOf j past now.event.act) of acts.1;
    }

-- ---- the end of a turn

-- whether a job waits for a wake in its turn, or has to give up
abbrev pub is_stopped : Turn → Bool
is_stopped IsWaiting = true
is_stopped MustGiveUp = true
is_stopped _ = false

-- whether the newest act took a waker
abbrev pub has_waker : List Act → Bool
has_waker [] = false
has_waker (act ∷ past) = takes_waker act

over_rid : (kind : Kind) (acts : List Act) → is_over (next_of_job kind acts) ≡ true → has_waker acts ≡ false
over_rid kind [] over = refl
over_rid kind (act ∷ past) over = at (takes_waker act) over
  where
    at : (b : Bool) → is_over (wake_first b (next_but_wake kind (act ∷ past))) ≡ true → b ≡ false
    at true e = absurd cc
    at false e = refl

goes_over : (over : Bool) (action : JobAction) → is_over action ≡ over
    → is_turn_end (next_in_turn GoesOn action) ≡ true → is_over action ≡ true
goes_over true action e is = e
goes_over false action e is = absurd (let bad : false ≡ true = sym (rw e refl) ∙ is in cc)

given_over : (over : Bool) (action : JobAction) → is_over action ≡ over
    → is_turn_end (next_in_turn HasGivenUp action) ≡ true → is_over action ≡ true
given_over true action e is = e
given_over false action e is = absurd (let bad : false ≡ true = sym (rw e refl) ∙ is in cc)

end_rid : (at : Turn) (kind : Kind) (acts : List Act)
    → is_turn_end (next_in_turn at (next_of_job kind acts)) ≡ true
    → (is_stopped at ≡ true → has_waker acts ≡ false) → has_waker acts ≡ false
end_rid IsWaiting kind acts is stopped = stopped refl
end_rid MustGiveUp kind acts is stopped = absurd cc
end_rid GoesOn kind acts is stopped =
    over_rid kind acts (goes_over (is_over (next_of_job kind acts)) (next_of_job kind acts) refl is)
end_rid HasGivenUp kind acts is stopped =
    over_rid kind acts (given_over (is_over (next_of_job kind acts)) (next_of_job kind acts) refl is)

-- an act ends a turn of this job
abbrev pub Stops : Act → ℕ → Type 0
Stops (Ended t how) s = t ≡ s
Stops (HandedOut t) s = t ≡ s
Stops _ s = ⊥

no_asking_worker : (action : CopierAction) (c : Copier) (w : ℕ) → asked_by action c ≡ Worker w → ⊥
no_asking_worker (AskReader call) c w by = cc
no_asking_worker (AskWriter call) c w by = cc
no_asking_worker (Tells act) c w by = cc

pub no_copying_worker : (o : Option Copier) (past : List Moment) (w : ℕ) → copier_party o past ≡ Worker w → ⊥
no_copying_worker None past w by = cc
no_copying_worker (Some c) past w by = no_asking_worker (next_of_copier c past) c w by

-- a worker ends a turn by that step alone, with the job in its hand
ends_at : (b : Bool) (past : List Moment) (step : Step) (act : Act) (s w : ℕ) → has_action past step ≡ b
    → Happens b past step act → Stops act s → party past step ≡ Worker w
    → (v : ℕ) × (has_action past (End v) ≡ true) × (hand past v ≡ Some s)
ends_at false past step (Ended t how) s w has happens stops by = absurd cc
ends_at false past step (HandedOut t) s w has happens stops by = absurd cc
ends_at true past (End v) (Ended t how) s w has happens stops by = (v, has, happens.1 ∙ ap Some stops)
ends_at true past (End v) (HandedOut t) s w has happens stops by = (v, has, happens.1 ∙ ap Some stops)
ends_at true past (Wait v) (Ended t how) s w has happens stops by = absurd happens.1
ends_at true past (Wait v) (HandedOut t) s w has happens stops by = absurd happens.1
ends_at true past (Late v) (Ended t how) s w has happens stops by = absurd happens.1
ends_at true past (Late v) (HandedOut t) s w has happens stops by = absurd happens.1
ends_at true past (Copy k) act s w has happens stops by =
    absurd (no_copying_worker (copier_in k (copiers past)) past w by)
ends_at true past step (Ended t how) s w has happens stops by = absurd cc
ends_at true past step (HandedOut t) s w has happens stops by = absurd cc
ends_at b past step act s w has happens stops by = absurd stops

hand_worker : (past : List Moment) (p : Party) (s : ℕ) → hand_of past p ≡ Some s → (w : ℕ) × (p ≡ Worker w)
hand_worker past (Worker w) s e = (w, refl)
hand_worker past _ s e = absurd cc

stop_holds : (past : List Moment) (now : Event) (act : Act) (s : ℕ) → HoldsOne past now act → Stops act s
    → hand_of past now.party ≡ Some s
stop_holds past now (Ended t how) s one stops = one ∙ ap Some stops
stop_holds past now (HandedOut t) s one stops = one ∙ ap Some stops
stop_holds past now _ s one stops = absurd stops

something : (act : Act) (s : ℕ) → Stops act s → is_nothing act ≡ false
something (Ended t how) s stops = refl
something (HandedOut t) s stops = refl
something _ s stops = absurd stops

-- at the end of a turn no waker is left that the job took
rid_at_end : (past : List Moment) (now : Moment) (s : ℕ) → StepLaw past now → TurnLaw past now
    → Stops now.event.act s → (is_stopped (turn past s) ≡ true → has_waker (acts_of s (events past)) ≡ false)
    → has_waker (acts_of s (events past)) ≡ false
rid_at_end past now s step law stops stopped =
    let w = hand_worker past now.event.party s (stop_holds past now.event now.event.act s law.one stops) in
    let by = sym (step.by ∙ ap (λ b. if b then named now.step else party past now.step)
    (something now.event.act s stops)) ∙ w.1 in
    let at = ends_at (has_action past now.step) past now.step now.event.act s w.0 refl step.act stops by in
    end_rid (turn past s) (kind_by (holder past s) past s) (acts_of s (events past))
    (subst (λ h. is_turn_end (next_with h past) ≡ true) at.2 at.1) stopped

-- ---- no waker is left

-- A job in no hand, one that waits in its turn and one that has to give up have no waker left to call.
pub record IsRid (past : List Moment) (s : ℕ) : Type 0 where
  pub away : InNoHand past s → has_waker (acts_of s (events past)) ≡ false
  pub stopped : is_stopped (turn past s) ≡ true → has_waker (acts_of s (events past)) ≡ false

plain_hand : (act : Act) (is_own : Bool) (before : Option ℕ) → is_of_pool act ≡ false
    → hand_by act is_own before ≡ before
plain_hand (Took t) is_own before e = absurd cc
plain_hand (TookDropped t) is_own before e = absurd cc
plain_hand (Ended t how) is_own before e = absurd cc
plain_hand _ is_own before e = refl

fitting_stop : (before : Turn) (act : Act) → FitsTurn before act → is_giving_up act ≡ false
    → is_stopped before ≡ true → ⊥
fitting_stop IsWaiting act fits none is = fits
fitting_stop MustGiveUp act fits none is = let bad : true ≡ false = sym fits ∙ none in cc
fitting_stop GoesOn act fits none is = cc
fitting_stop HasGivenUp act fits none is = cc

own_stop : (act : Act) (s : ℕ) (before : Turn) → is_of_pool act ≡ false → FitsTurn before act
    → is_stopped (turn_by act true s before) ≡ true → takes_waker act ≡ false
own_stop JobParked s before plain fits is = refl
own_stop (GaveUp waker) s before plain fits is = absurd cc
own_stop (Took t) s before plain fits is = absurd cc
own_stop (TookDropped t) s before plain fits is = absurd cc
own_stop (HandedOut t) s before plain fits is = absurd cc
own_stop act s before plain fits is = absurd (fitting_stop before act fits refl is)

rid_by_own : (past : List Moment) (now : Moment) (s : ℕ) → TurnLaw past now → is_of_job s now.event ≡ true
    → IsRid (now ∷ past) s
rid_by_own past now s law is =
    let t = of_turn past now s law is in
    let mine : acts_of s (events (now ∷ past)) ≡ now.event.act ∷ acts_of s (events past) = rw is refl in
    record {
      away = λ none. absurd (none t.worker
          (plain_hand now.event.act (is_worker t.worker now.event.party) (hand past t.worker) t.plain ∙ t.holds));
      stopped = λ e. ap has_waker mine ∙ own_stop now.event.act s (turn past s) t.plain t.fits
          (subst (λ b. is_stopped (turn_by now.event.act b s (turn past s)) ≡ true) is e);
    }

-- ---- another act

hand_stays : (b : Bool) (t s : ℕ) (before : Option ℕ) → before ≡ Some s → (b ≡ true → before ≡ None)
    → (if b then Some t else before) ≡ Some s
hand_stays true t s before e none = absurd (let bad = sym (none refl) ∙ e in cc)
hand_stays false t s before e none = e

worker_is : (v : ℕ) (p : Party) → is_worker v p ≡ true → p ≡ Worker v
worker_is v (Worker w) e = ap Worker (eqb-true w v e)
worker_is v _ e = absurd cc

-- a hand that the end of another job's turn leaves
other_stays : (past : List Moment) (p : Party) (t s v : ℕ) (b : Bool) → is_worker v p ≡ b
    → hand_of past p ≡ Some t → (t ≡ s → ⊥) → hand past v ≡ Some s → (if b then None else hand past v) ≡ Some s
other_stays past p t s v true own holds other e =
    let there = sym (subst (λ q. hand_of past q ≡ Some t) (worker_is v p own) holds) ∙ e in
    absurd (other cc)
other_stays past p t s v false own holds other e = e

none_held : (past : List Moment) (p : Party) (v : ℕ) → hand_of past p ≡ None → is_worker v p ≡ true
    → hand past v ≡ None
none_held past p v none own = subst (λ q. hand_of past q ≡ None) (worker_is v p own) none

is_stop : (act : Act) (s : ℕ) → (Stops act s) ⊎ (Stops act s → ⊥)
is_stop (Ended t how) s = at t s (t == s) refl
  where
    at : (t s : ℕ) (b : Bool) → (t == s) ≡ b → (t ≡ s) ⊎ (t ≡ s → ⊥)
    at t s true e = inl (eqb-true t s e)
    at t s false e = inr (λ is. let bad : true ≡ false = sym (same_self t) ∙ ap (λ u. t == u) is ∙ e in cc)
is_stop (HandedOut t) s = at t s (t == s) refl
  where
    at : (t s : ℕ) (b : Bool) → (t == s) ≡ b → (t ≡ s) ⊎ (t ≡ s → ⊥)
    at t s true e = inl (eqb-true t s e)
    at t s false e = inr (λ is. let bad : true ≡ false = sym (same_self t) ∙ ap (λ u. t == u) is ∙ e in cc)
is_stop _ s = inr (λ stops. stops)

-- whoever had the job in hand has it still, unless its turn ended
hand_after : (past : List Moment) (now : Event) (act : Act) (s v : ℕ) → HoldsOne past now act
    → (Stops act s → ⊥) → hand past v ≡ Some s → hand_by act (is_worker v now.party) (hand past v) ≡ Some s
hand_after past now (Took t) s v one goes e = hand_stays (is_worker v now.party) t s (hand past v) e
    (none_held past now.party v one.0)
hand_after past now (TookDropped t) s v one goes e = hand_stays (is_worker v now.party) t s (hand past v) e
    (none_held past now.party v one.0)
hand_after past now (Ended t how) s v one goes e =
    other_stays past now.party t s v (is_worker v now.party) refl one goes e
hand_after past now _ s v one goes e = e

-- a job that a take gives is in no hand
taken_away : (setting : ℕ) (plan : List Bool) (past : List Moment) (now : Moment)
    → EachMayFollow (PoolLaw setting plan) (now ∷ past) → (s : ℕ) → job_taken now.event.act ≡ Some s → InNoHand past s
taken_away setting plan past now laws s taken v e =
    let first = take_first setting past now now.event.act s laws.0.answers taken in
    let queued = (front_so setting plan past laws.1 s first).stands in
    let bad : true ≡ false = sym (ap is_running (held_so setting plan past laws.1 v s e)) ∙ ap is_running queued in cc

stop_if : (b : Bool) (new before : Turn) → is_stopped (if b then new else before) ≡ true
    → (is_stopped before ≡ true) ⊎ (b ≡ true)
stop_if true new before e = inr refl
stop_if false new before e = inl e

-- how a job comes to wait in its turn or to have to give up, by no act of its own
stop_from : (act : Act) (s : ℕ) (before : Turn) → is_stopped (turn_by act false s before) ≡ true
    → (is_stopped before ≡ true) ⊎ ((job_taken act ≡ Some s) ⊎ Stops act s)
stop_from (Took t) s before e = at (stop_if (t == s) GoesOn before e)
  where
    at : (is_stopped before ≡ true) ⊎ ((t == s) ≡ true)
        → (is_stopped before ≡ true) ⊎ ((Some t ≡ Some s) ⊎ ⊥)
    at (inl was) = inl was
    at (inr is) = inr (inl (ap Some (eqb-true t s is)))
stop_from (TookDropped t) s before e = at (stop_if (t == s) MustGiveUp before e)
  where
    at : (is_stopped before ≡ true) ⊎ ((t == s) ≡ true)
        → (is_stopped before ≡ true) ⊎ ((Some t ≡ Some s) ⊎ ⊥)
    at (inl was) = inl was
    at (inr is) = inr (inl (ap Some (eqb-true t s is)))
stop_from (HandedOut t) s before e = at (stop_if (t == s) MustGiveUp before e)
  where
    at : (is_stopped before ≡ true) ⊎ ((t == s) ≡ true)
        → (is_stopped before ≡ true) ⊎ ((None ≡ Some s) ⊎ (t ≡ s))
    at (inl was) = inl was
    at (inr is) = inr (inr (eqb-true t s is))
stop_from _ s before e = inl e

rid_by_other : (setting : ℕ) (plan : List Bool) (past : List Moment) (now : Moment) (s : ℕ)
    → EachMayFollow StepLaw (now ∷ past) → EachMayFollow (PoolLaw setting plan) (now ∷ past)
    → is_of_job s now.event ≡ false → IsRid past s → IsRid (now ∷ past) s
rid_by_other setting plan past now s steps laws is rid = record {
  away = λ none. ap has_waker same ∙ away none (is_stop now.event.act s);
  stopped = λ e. ap has_waker same ∙ stopped (stop_from now.event.act s (turn past s)
      (subst (λ b. is_stopped (turn_by now.event.act b s (turn past s)) ≡ true) is e));
}
  where
    same : acts_of s (events (now ∷ past)) ≡ acts_of s (events past)
    same = rw is refl

    away : InNoHand (now ∷ past) s → (Stops now.event.act s) ⊎ (Stops now.event.act s → ⊥)
        → has_waker (acts_of s (events past)) ≡ false
    away none (inl stops) = rid_at_end past now s steps.0 laws.0.turns stops rid.stopped
    away none (inr goes) = rid.away (λ v e.
        none v (hand_after past now.event now.event.act s v laws.0.turns.one goes e))

    stopped : (is_stopped (turn past s) ≡ true) ⊎ ((job_taken now.event.act ≡ Some s) ⊎ Stops now.event.act s)
        → has_waker (acts_of s (events past)) ≡ false
    stopped (inl was) = rid.stopped was
    stopped (inr (inl taken)) = rid.away (taken_away setting plan past now laws s taken)
    stopped (inr (inr stops)) = rid_at_end past now s steps.0 laws.0.turns stops rid.stopped

rid_by : (b : Bool) (setting : ℕ) (plan : List Bool) (past : List Moment) (now : Moment) (s : ℕ)
    → EachMayFollow StepLaw (now ∷ past) → EachMayFollow (PoolLaw setting plan) (now ∷ past)
    → is_of_job s now.event ≡ b → IsRid past s → IsRid (now ∷ past) s
rid_by true setting plan past now s steps laws is rid = rid_by_own past now s laws.0.turns is
rid_by false setting plan past now s steps laws is rid = rid_by_other setting plan past now s steps laws is rid

pub rid_of : (setting : ℕ) (plan : List Bool) (past : List Moment) → EachMayFollow StepLaw past
    → EachMayFollow (PoolLaw setting plan) past → (s : ℕ) → IsRid past s
rid_of setting plan [] steps laws s = record { away = λ none. refl; stopped = λ e. refl }
rid_of setting plan (now ∷ past) steps laws s =
    rid_by (is_of_job s now.event) setting plan past now s steps laws refl (rid_of setting plan past steps.1 laws.1 s)

-- ---- a job that rests is in no hand

-- a job that an act names, which isn't this one
pub another : (t s : ℕ) → not ((s == t) || false) ≡ true → t ≡ s → ⊥
another t s e is = let off : not ((s == s) || false) ≡ true = subst (λ u. not ((s == u) || false) ≡ true) is e in
    let bad : false ≡ true = sym (ap (λ b. not (b || false)) (same_self s)) ∙ off in cc

took_other : (b : Bool) (t s : ℕ) (before : Option ℕ) → (t ≡ s → ⊥) → (if b then Some t else before) ≡ Some s
    → before ≡ Some s
took_other true t s before other e = absurd (other cc)
took_other false t s before other e = e

-- one that holds nothing held before
ended_other : (b : Bool) (s : ℕ) (before : Option ℕ) → (if b then None else before) ≡ Some s
    → (b ≡ false) × (before ≡ Some s)
ended_other true s before e = absurd cc
ended_other false s before e = (refl, e)

ender_alone : (setting : ℕ) (plan : List Bool) (past : List Moment) → EachMayFollow (PoolLaw setting plan) past
    → (p : Party) (s v : ℕ) → hand_of past p ≡ Some s → hand past v ≡ Some s → is_worker v p ≡ false → ⊥
ender_alone setting plan past laws (Worker w) s v holds e other =
    let same = (sound_of setting plan past laws).hands.alone v w s e holds in
    let bad : true ≡ false = sym (same_self w) ∙ ap (λ u. w == u) (sym same) ∙ other in cc
ender_alone setting plan past laws (Owner h) s v holds e other = cc
ender_alone setting plan past laws (Task k) s v holds e other = cc
ender_alone setting plan past laws Pool s v holds e other = cc

away_after : (setting : ℕ) (plan : List Bool) (past : List Moment) (now : Event) (act : Act) (s v : ℕ)
    → EachMayFollow (PoolLaw setting plan) past → HoldsOne past now act
    → not (is_in s (entered act ++ taken_by act)) ≡ true → (ends act s ≡ false → InNoHand past s)
    → hand_by act (is_worker v now.party) (hand past v) ≡ Some s → ⊥
away_after setting plan past now (Took t) s v laws one off before e =
    before refl v (took_other (is_worker v now.party) t s (hand past v) (another t s off) e)
away_after setting plan past now (TookDropped t) s v laws one off before e =
    before refl v (took_other (is_worker v now.party) t s (hand past v) (another t s off) e)
away_after setting plan past now (Ended t how) s v laws one off before e = at (t == s) refl
  where
    at : (b : Bool) → (t == s) ≡ b → ⊥
    at true is =
        let left = ended_other (is_worker v now.party) s (hand past v) e in
        ender_alone setting plan past laws now.party s v (one ∙ ap Some (eqb-true t s is)) left.1 left.0
    at false is = before is v (ended_other (is_worker v now.party) s (hand past v) e).1
away_after setting plan past now _ s v laws one off before e = before refl v e

pub away_of : (setting : ℕ) (plan : List Bool) (past : List Moment) → EachMayFollow (PoolLaw setting plan) past
    → (s : ℕ) → rests s past ≡ true → InNoHand past s
away_of setting plan [] laws s e v holds = cc
away_of setting plan (now ∷ past) laws s e v holds =
    away_after setting plan past now.event now.event.act s v laws.1 laws.0.turns.one
    (first_so _ (ends now.event.act s || rests s past) e)
    (λ f. away_of setting plan past laws.1 s (unless (ends now.event.act s) (rests s past)
    (then_so (not (is_in s (entered now.event.act ++ taken_by now.event.act))) _ e) f)) holds

-- so a job that rests has no waker left to call
pub rests_rid : (setting : ℕ) (plan : List Bool) (past : List Moment) → EachMayFollow StepLaw past
    → EachMayFollow (PoolLaw setting plan) past → (s : ℕ) → rests s past ≡ true
    → has_waker (acts_of s (events past)) ≡ false
rests_rid setting plan past steps laws s e =
    (rid_of setting plan past steps laws s).away (away_of setting plan past laws s e)
