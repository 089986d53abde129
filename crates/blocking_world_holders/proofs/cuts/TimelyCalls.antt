-- A call that finished in time has finished, where its task kept the laws.
use Rattle.std.proofs.Common.{arith, ◌≡◌, ℕ, List, [], ◌∷◌, Bool, true, false, refl, sym, subst}
use Rattle.std.proofs.Common.{◌&&◌, ◌||◌, not, cond}
use Rattle.blocking_world_holders.proofs.Types.{Act, Finished, Event, HolderWaker}
use Rattle.blocking_world_holders.proofs.Words.{has_finished, poll_task, acts_of, is_by_task}
use Rattle.blocking_world_holders.proofs.Words.{is_nothing, is_of_job, is_some_worker, is_task, own}
use Rattle.blocking_world_holders.proofs.Words.{task_cut, TaskActs, TaskLaws, TaskMayAct}
use Rattle.blocking_world_holders.proofs.Words.{in_time_by, is_in_time, was_cancelled}
use Rattle.blocking_world_holders.proofs.cuts.Acts.{no_task, acts_more}

no_finish : (in_time over : Bool) (n : ℕ) (waker : HolderWaker)
    → Finished waker ≡ poll_task in_time over n → ⊥
no_finish true over n wake e = cc
no_finish false true n wake e = cc
no_finish false false n wake e = cc

-- no task finishes
by_a_job : (b : Bool) (s : ℕ) (cut : List Event) (act : Act) (waker : HolderWaker)
    → act ≡ Finished waker → TaskMayAct s b cut act → b ≡ true
by_a_job true s cut act wake is law = refl
by_a_job false s cut act wake is law =
    let acts = subst (TaskActs s cut) is law.1 in
    absurd (no_finish (is_in_time cut) _ _ wake acts)

of_job : (n t j : Bool) → t ≡ false → (not n && t) || j ≡ true → j ≡ true
of_job n t j out e = grind arith

finished_by : (act : Act) (j cancel in_time : Bool) (acts : List Act)
    → ((waker : HolderWaker) → act ≡ Finished waker → j ≡ true)
    → (in_time ≡ true → has_finished acts ≡ true)
    → in_time_by act cancel in_time ≡ true → has_finished (cond j (act ∷ acts) acts) ≡ true
finished_by (Finished waker) j cancel in_time acts of earlier e = let is = of waker refl in
    rw is refl
finished_by _ true cancel in_time acts of earlier e = earlier e
finished_by _ false cancel in_time acts of earlier e = earlier e

timely_step : (k s : ℕ) (e : Event) (cut : List Event) (b : Bool)
    → is_by_task k e || is_of_job s e ≡ b
    → (TaskLaws s cut → is_in_time cut ≡ true → has_finished (acts_of s cut) ≡ true)
    → TaskLaws s (cond b (e ∷ cut) cut) → is_in_time (cond b (e ∷ cut) cut) ≡ true
    → has_finished (acts_of s (cond b (e ∷ cut) cut)) ≡ true
timely_step k s e cut false is earlier laws in_time = earlier laws in_time
timely_step k s e cut true is earlier laws in_time =
    subst (λ (l : List Act). has_finished l ≡ true) (sym (acts_more s e cut (is_of_job s e) refl))
    (finished_by e.act (is_of_job s e) (was_cancelled (own cut)) (is_in_time cut) (acts_of s cut)
    (λ wake act. of_job (is_nothing e.act) (is_task k e.party) (is_of_job s e)
    (no_task k e.party (by_a_job (is_some_worker e.party) s cut e.act wake act laws.0)) is)
    (earlier laws.1) in_time)

-- a call that finished in time has finished
pub timely : (k s : ℕ) (seen : List Event) → TaskLaws s (task_cut k s seen)
    → is_in_time (task_cut k s seen) ≡ true → has_finished (acts_of s (task_cut k s seen)) ≡ true
timely k s [] laws in_time = absurd (cc)
timely k s (e ∷ seen) laws in_time = timely_step k s e (task_cut k s seen)
    (is_by_task k e || is_of_job s e) refl (timely k s seen) laws in_time
