-- No task waits for a call that is over without having been woken.
use Rattle.std.proofs.Common.{◌≡◌, refl, ℕ, ◌+◌, ◌<◌, nat_lt, ◌==◌, ◌&&◌, inl, inr}
use Rattle.std.proofs.Common.{Bool, true, false, cond, if◌then◌else◌, List, []}
use Rattle.std.proofs.Common.{◌∷◌, ◌++◌, length, Option, Some, None, ap, sym, ◌∙◌, arith, length-append}
use Rattle.std.specs.Prelude.{not, map, filter, get_or}
use Rattle.std.proofs.lemmas.Bool.{cases_eq, eqb-true, ltb-true}
use Rattle.std.proofs.lemmas.List.{get_or_append_left}
use Rattle.std.proofs.Math.Seq.{get_or-append_seam}
use mathlib.Core.Path.{subst}
use Rattle.blocking_world_laws.specs.Copies.{CopierAction, AskReader, AskWriter, Tells, next_of_copier}
use Rattle.blocking_world_laws.specs.Jobs.{accepted_by, accepts, is_pool, makes_a_task, tasks, newcomer, holder}
use Rattle.blocking_world_laws.specs.Legal.{PoolLaw}
use Rattle.blocking_world_laws.specs.Lent.{Copier, copiers, copier_in}
use Rattle.blocking_world_laws.specs.Seen.{EachMayFollow, events, own, acts_of, acts_of_task, task_cut, is_by_task}
use Rattle.blocking_world_laws.specs.Seen.{is_of_job, is_of_pool, is_nothing, is_some_worker, is_task, is_this}
use Rattle.blocking_world_laws.specs.Steps.{StepLaw, Happens, has_action, named, party, asked_by, copier_party}
use Rattle.blocking_world_laws.specs.Wakes.{is_waiting}
use Rattle.blocking_world_laws.specs.declared.event.Act.{Act}
use Rattle.blocking_world_laws.specs.declared.event.Act.TheVariants.{Accepted}
use Rattle.blocking_world_laws.specs.declared.event.Event.{Event}
use Rattle.blocking_world_laws.specs.declared.event.Moment.{Moment}
use Rattle.blocking_world_laws.specs.declared.event.Party.{Party}
use Rattle.blocking_world_laws.specs.declared.event.Party.TheVariants.{Owner, Task, Worker, Pool}
use Rattle.blocking_world_laws.specs.declared.step.Step.{Step}
use Rattle.blocking_world_laws.specs.declared.step.Step.TheVariants.{OfTask, Copy}
use Rattle.blocking_world_laws.proofs.Beginnings.{keeps}
use Rattle.blocking_headline.specs.Headline.{by, called, calls}
use Rattle.blocking_headline.proofs.Bools.{same_self, first_so, and_parts}

-- ---- whose task a call's job is

new_task : (p : Party) (act : Act) → (if (is_pool p && not (length (accepted_by act) == 0)) then 1 else 0)
    ≡ length (called p act)
new_task Pool (Accepted s) = refl
new_task Pool _ = refl
new_task (Owner h) act = refl
new_task (Task k) act = refl
new_task (Worker w) act = refl

counted : (b : Bool) (m : Moment) (ms : List Moment) → length (cond b (m ∷ ms) ms) ≡ (if b then 1 else 0) + length ms
counted true m ms = omega arith
counted false m ms = omega arith

pub tasks_are : (past : List Moment) → tasks past ≡ length (calls past)
tasks_are [] = refl
tasks_are (now ∷ past) =
    let one = counted (makes_a_task now.event) now (filter (λ m. makes_a_task m.event) past) in
    let new = new_task now.event.party now.event.act in
    let before = tasks_are past in
    let both : length (calls past ++ called now.event.party now.event.act)
    ≡ length (calls past) + length (called now.event.party now.event.act) =
    length-append (calls past) (called now.event.party now.event.act) in
    omega (arith, one, new, before, both)

held_still : (setting : ℕ) (plan : List Bool) (past : List Moment) (now : Moment)
    → EachMayFollow (PoolLaw setting plan) (now ∷ past) → (k : ℕ) (new : List ℕ) → k < length (calls past)
    → holder past (get_or (calls past) k 0) ≡ Some (Task k)
    → holder (now ∷ past) (get_or (calls past ++ new) k 0) ≡ Some (Task k)
held_still setting plan past now laws k new within held = subst (λ s. holder (now ∷ past) s ≡ Some (Task k))
    (sym (get_or_append_left (calls past) new 0 k within))
    (keeps setting plan past now laws (get_or (calls past) k 0) (Task k) held)

new_is : (past : List Moment) (p : Party) (act : Act) (s : ℕ) → p ≡ Pool → act ≡ Accepted s
    → (if accepts s act then Some (newcomer past p) else holder past s) ≡ Some (Task (tasks past))
new_is past p act s by is = rw (by, is) (rw (same_self s) refl)

held_new : (setting : ℕ) (plan : List Bool) (past : List Moment) (now : Moment)
    → EachMayFollow (PoolLaw setting plan) (now ∷ past) → (k s : ℕ)
    → now.event.party ≡ Pool → now.event.act ≡ Accepted s → k < length (calls past ++ s ∷ [])
    → (k < length (calls past) → holder past (get_or (calls past) k 0) ≡ Some (Task k))
    → holder (now ∷ past) (get_or (calls past ++ s ∷ []) k 0) ≡ Some (Task k)
held_new setting plan past now laws k s by is less before = elim (cases_eq k (length (calls past))) [
  | inl same ↦
      let at : get_or (calls past ++ s ∷ []) k 0 ≡ s =
      ap (λ n. get_or (calls past ++ s ∷ []) n 0) same ∙ get_or-append_seam (calls past) s [] 0 in
      let held : holder (now ∷ past) s ≡ Some (Task k) = new_is past now.event.party now.event.act s by is
      ∙ ap (λ n. Some (Task n)) (tasks_are past ∙ sym same) in
      subst (λ t. holder (now ∷ past) t ≡ Some (Task k)) (sym at) held
  | inr other ↦ let both : length (calls past ++ s ∷ []) ≡ length (calls past) + 1 =
      length-append (calls past) (s ∷ []) in
      let within : k < length (calls past) = omega (arith, less, other, both) in
      held_still setting plan past now laws k (s ∷ []) within (before within)
]

held_none : (setting : ℕ) (plan : List Bool) (past : List Moment) (now : Moment)
    → EachMayFollow (PoolLaw setting plan) (now ∷ past) → (k : ℕ) → k < length (calls past ++ [])
    → (k < length (calls past) → holder past (get_or (calls past) k 0) ≡ Some (Task k))
    → holder (now ∷ past) (get_or (calls past ++ []) k 0) ≡ Some (Task k)
held_none setting plan past now laws k less before =
    let both : length (calls past ++ []) ≡ length (calls past) + 0 = length-append (calls past) [] in
    let within : k < length (calls past) = omega (arith, less, both) in
    held_still setting plan past now laws k [] within (before within)

held_at : (setting : ℕ) (plan : List Bool) (past : List Moment) (now : Moment)
    → EachMayFollow (PoolLaw setting plan) (now ∷ past) → (k : ℕ) (p : Party) (act : Act)
    → now.event.party ≡ p → now.event.act ≡ act → k < length (calls past ++ called p act)
    → (k < length (calls past) → holder past (get_or (calls past) k 0) ≡ Some (Task k))
    → holder (now ∷ past) (get_or (calls past ++ called p act) k 0) ≡ Some (Task k)
held_at setting plan past now laws k Pool (Accepted s) by is less before =
    held_new setting plan past now laws k s by is less before
held_at setting plan past now laws k Pool act by is less before =
    held_none setting plan past now laws k less before
held_at setting plan past now laws k (Owner h) act by is less before =
    held_none setting plan past now laws k less before
held_at setting plan past now laws k (Task j) act by is less before =
    held_none setting plan past now laws k less before
held_at setting plan past now laws k (Worker w) act by is less before =
    held_none setting plan past now laws k less before

-- the job of the call at place k is held by task k
pub call_held : (setting : ℕ) (plan : List Bool) (past : List Moment) → EachMayFollow (PoolLaw setting plan) past
    → (k : ℕ) → k < length (calls past) → holder past (get_or (calls past) k 0) ≡ Some (Task k)
call_held setting plan [] laws k less = absurd (omega (arith, less))
call_held setting plan (now ∷ past) laws k less = held_at setting plan past now laws k now.event.party
    now.event.act refl refl less (call_held setting plan past laws.1 k)

-- ---- a task that did something is there

no_asking_task : (action : CopierAction) (c : Copier) (k : ℕ) → asked_by action c ≡ Task k → ⊥
no_asking_task (AskReader call) c k by = cc
no_asking_task (AskWriter call) c k by = cc
no_asking_task (Tells act) c k by = cc

no_copying_task : (o : Option Copier) (past : List Moment) (k : ℕ) → copier_party o past ≡ Task k → ⊥
no_copying_task None past k by = cc
no_copying_task (Some c) past k by = no_asking_task (next_of_copier c past) c k by

task_is : (j k : ℕ) → Task j ≡ Task k → j ≡ k
task_is j k e = cc

step_of_task : (b : Bool) (past : List Moment) (step : Step) (act : Act) (k : ℕ) → has_action past step ≡ b
    → Happens b past step act → is_nothing act ≡ false → party past step ≡ Task k → k < tasks past
step_of_task false past step act k has happens some by =
    absurd (let bad : true ≡ false = sym (ap is_nothing happens) ∙ some in cc)
step_of_task true past (OfTask j c) act k has happens some by =
    subst (λ n. n < tasks past) (task_is j k by) (ltb-true j (tasks past) (first_so (nat_lt j (tasks past)) _ has))
step_of_task true past (Copy n) act k has happens some by =
    absurd (no_copying_task (copier_in n (copiers past)) past k by)
step_of_task true past step act k has happens some by = absurd cc

more_tasks : (past : List Moment) (now : Moment) (k : ℕ) → k < tasks past → k < tasks (now ∷ past)
more_tasks past now k less =
    let one = counted (makes_a_task now.event) now (filter (λ m. makes_a_task m.event) past) in omega (arith, one, less)

task_party : (k : ℕ) (p : Party) → is_task k p ≡ true → p ≡ Task k
task_party k (Task j) e = ap Task (eqb-true j k e)
task_party k _ e = absurd cc

task_there : (b : Bool) (past : List Moment) (now : Moment) (k : ℕ) → StepLaw past now → is_by_task k now.event ≡ b
    → (is_waiting (acts_of_task k (events past)) ≡ true → k < tasks past)
    → is_waiting (map (λ e. e.act) (cond b (now.event ∷ filter (is_by_task k) (events past))
    (filter (is_by_task k) (events past)))) ≡ true → k < tasks (now ∷ past)
task_there true past now k law is before e =
    let p = and_parts (is_nothing now.event.act) (is_task k now.event.party) is in
    let by = sym (law.by ∙ ap (λ b. if b then named now.step else party past now.step) p.0)
    ∙ task_party k now.event.party p.1 in
    more_tasks past now k
    (step_of_task (has_action past now.step) past now.step now.event.act k refl law.act p.0 by)
task_there false past now k law is before e = more_tasks past now k (before e)

pub waiting_there : (past : List Moment) → EachMayFollow StepLaw past → (k : ℕ)
    → is_waiting (acts_of_task k (events past)) ≡ true → k < tasks past
waiting_there [] steps k e = absurd cc
waiting_there (now ∷ past) steps k e = task_there (is_by_task k now.event) past now k steps.0 refl
    (waiting_there past steps.1 k) e

-- ---- the cut of a task

pub in_task_cut : (k s : ℕ) (e : Event) → is_by_task k e ≡ true → (is_some_worker e.party ≡ false)
in_task_cut k s e is = let p = and_parts (is_nothing e.act) (is_task k e.party) is in
    ap is_some_worker (task_party k e.party p.1)

of_worker : (s : ℕ) (e : Event) → is_of_job s e ≡ true → is_some_worker e.party ≡ true
of_worker s e is = third (not (is_of_pool e.act)) (not (is_nothing e.act)) (is_some_worker e.party) (is_this s e.job) is
  where
    third : (a b c d : Bool) → (a && b && c && d) ≡ true → c ≡ true
    third true true true d e = refl
    third true true false d e = absurd cc
    third true false c d e = absurd cc
    third false b c d e = absurd cc

-- the own acts in it are those of the task
pub own_of_task : (k s : ℕ) (es : List Event) → own (task_cut k s es) ≡ acts_of_task k es
own_of_task k s [] = refl
own_of_task k s (e ∷ es) = at (is_by_task k e) (is_of_job s e) refl refl (own_of_task k s es)
  where
    at : (b c : Bool) → is_by_task k e ≡ b → is_of_job s e ≡ c → own (task_cut k s es) ≡ acts_of_task k es
        → own (task_cut k s (e ∷ es)) ≡ acts_of_task k (e ∷ es)
    at true c is of before = rw is (rw (in_task_cut k s e is) (ap (λ l. e.act ∷ l) before))
    at false true is of before = rw is (rw of (rw (of_worker s e of) before))
    at false false is of before = rw is (rw of before)

-- and the acts of its job those of the job
pub job_of_task : (k s : ℕ) (es : List Event) → acts_of s (task_cut k s es) ≡ acts_of s es
job_of_task k s [] = refl
job_of_task k s (e ∷ es) = at (is_by_task k e) (is_of_job s e) refl refl (job_of_task k s es)
  where
    at : (b c : Bool) → is_by_task k e ≡ b → is_of_job s e ≡ c → acts_of s (task_cut k s es) ≡ acts_of s es
        → acts_of s (task_cut k s (e ∷ es)) ≡ acts_of s (e ∷ es)
    at true true is of before = rw is (rw of (ap (λ l. e.act ∷ l) before))
    at true false is of before = rw is (rw of before)
    at false true is of before = rw is (rw of (rw of (ap (λ l. e.act ∷ l) before)))
    at false false is of before = rw is (rw of before)
