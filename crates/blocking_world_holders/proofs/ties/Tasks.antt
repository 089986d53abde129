-- The tie of the tasks and their laws hold after one more moment, where they held before it.
use Rattle.std.proofs.Common.{◌≡◌, ℕ, ◌+◌, ◌<◌, ◌≤◌, ◌==◌, List, [], ◌∷◌, ◌++◌, length}
use Rattle.std.proofs.Common.{length-append, Bool, true, false, refl, sym, ap, ◌∙◌, subst, arith}
use Rattle.std.proofs.Common.{if◌then◌else◌, Option, Some, None, ⊎_elim, ◌⊎◌, inl, inr, ◌||◌, ◌&&◌}
use Rattle.std.proofs.Common.{not, cond, filter, slice_get, slice_set, eq-eqb, length-set}
use Rattle.std.proofs.lemmas.Bool.{or_parts}
use Rattle.std.proofs.lemmas.Bool.Decides.{nat_tests}
use Rattle.std.proofs.lemmas.Option.{slice_get_within}
use Rattle.blocking_world_holders.proofs.Types.{Act, Accepted, Event, Moment, Party, ByOwner}
use Rattle.blocking_world_holders.proofs.Types.{ByTask}
use Rattle.blocking_world_holders.proofs.Words.{JobNumber, accepted_by, accepts, holder, is_pool}
use Rattle.blocking_world_holders.proofs.Words.{makes_a_task, newcomer, tasks, events, is_by_task}
use Rattle.blocking_world_holders.proofs.Words.{is_of_job, task_cut, TaskLaw, TaskLaws}
use Rattle.blocking_world_holders.proofs.Words.{TaskIsAside as IsAside, IsBeside, MakesTask}
use Rattle.blocking_world_holders.proofs.Words.{TaskMayTake as MayTake, TaskTakesStep as TakesStep}
use Rattle.blocking_world_holders.proofs.Words.{task_after, Task, new_task, TaskAs, Tasked}
use Rattle.blocking_world_holders.proofs.Words.{TasksHold}
use Rattle.blocking_pool.proofs.Places.{got_same, got_other, in_pushed}
use Rattle.blocking_world_holders.proofs.acts.TaskActs.{Goes}
use Rattle.blocking_world_holders.proofs.acts.Steps.{step_goes, is_call, in_cut, accepts_none}
use Rattle.blocking_world_holders.proofs.cuts.Acts.{acts_cut}
use Rattle.blocking_world_holders.proofs.cuts.Events.{cut_same, cut_more}
use Rattle.blocking_world_holders.proofs.cuts.TimelyCalls.{timely}
use Rattle.blocking_world_holders.proofs.ties.Holders.{accepts_no_job, holder_stays, tasks_stay}
use Rattle.blocking_world_holders.proofs.ties.Holders.{holder_grows, tasks_grow}

-- ---- an event of no task

module _ (past : List Moment) (now : Moment) (b : IsBeside past now.event) where
  -- a job that a task holds after it, that task held before
  held_before : (k s : ℕ) → holder (now ∷ past) s ≡ Some (ByTask k)
      → holder past s ≡ Some (ByTask k)
  held_before k s held = by (accepts s now.event.act) refl held
    where
      by : (new : Bool) → accepts s now.event.act ≡ new
          → (if new then Some (newcomer past now.event.party) else holder past s) ≡ Some (ByTask k)
          → holder past s ≡ Some (ByTask k)
      by true is held = let owner = (b.by_owner s is).1 in
          absurd (let brought = ap (newcomer past) owner in cc)
      by false is held = held

  -- a job that nobody holds after it, nobody held before
  unheld_before : (s : ℕ) → holder (now ∷ past) s ≡ None → holder past s ≡ None
  unheld_before s none = by (accepts s now.event.act) none
    where
      by : (new : Bool) → (if new then Some (newcomer past now.event.party) else holder past s)
          ≡ None → holder past s ≡ None
      by true none = absurd cc
      by false none = none

  -- and there are as many tasks
  as_many : tasks (now ∷ past) ≡ tasks past
  as_many = by now.event.act refl
    where
      by : (act : Act) → now.event.act ≡ act → tasks (now ∷ past) ≡ tasks past
      by (Accepted s) is =
          let owner = b.by_owner s (ap (accepts s) is ∙ eq-eqb s s refl) in
          let old : makes_a_task now.event ≡ false =
          ap (λ p. is_pool p && not (length (accepted_by now.event.act) == 0)) owner.1 in
          ap (λ new. length (cond new (now ∷ filter (λ m. makes_a_task m.event) past)
          (filter (λ m. makes_a_task m.event) past))) old
      by _ is = tasks_stay past now (ap accepted_by is)

  -- it stands in the cut of a task only if an owner holds that job
  beside_cut : (k s : ℕ) → ((h : ℕ) → holder past s ≡ Some (ByOwner h) → ⊥)
      → task_cut k s (now.event ∷ events past) ≡ task_cut k s (events past)
  beside_cut k s of_none = cut_same k s now.event (events past)
      (ap (λ a. a || is_of_job s now.event) (b.out k) ∙ by (is_of_job s now.event) refl)
    where
      by : (its : Bool) → is_of_job s now.event ≡ its → is_of_job s now.event ≡ false
      by true is = let owner = b.of_owner s is in absurd (of_none owner.0 owner.1)
      by false is = is

pub beside : (row : List Task) (past : List Moment) (now : Moment) → IsBeside past now.event
    → TasksHold row past → TasksHold row (now ∷ past)
beside row past now b h =
    let held = λ (k s : ℕ) (holds : holder (now ∷ past) s ≡ Some (ByTask k)).
    held_before past now b k s holds in
    let same = λ (k s : ℕ) (holds : holder (now ∷ past) s ≡ Some (ByTask k)).
    beside_cut past now b k s (λ g owner. let task = held k s holds in cc) in
    record {
      tied = record {
        count = h.tied.count ∙ sym (as_many past now b);
        there = λ k s holds. h.tied.there k s (held k s holds);
        once = λ k s t one other. h.tied.once k s t (held k s one) (held k t other);
        each = λ k s task holds found. subst (TaskAs task s) (sym (same k s holds))
            (h.tied.each k s task (held k s holds) found);
        unborn = λ k s over none.
            let nobody = unheld_before past now b s none in
            beside_cut past now b k s (λ g owner. cc) ∙ h.tied.unborn k s over nobody;
      };
      laws = λ k s holds. subst (TaskLaws s) (sym (same k s holds)) (h.laws k s (held k s holds));
    }

-- such is an event of no job too, with which no job is accepted
pub aside_beside : (past : List Moment) (e : Event) → IsAside e → IsBeside past e
aside_beside past e a = record {
  out = λ k. (or_parts (is_by_task k e) (is_of_job 0 e) (a.out k 0)).0;
  of_owner =
      λ s its. absurd (let none = (or_parts (is_by_task 0 e) (is_of_job s e) (a.out 0 s)).1 in cc);
  by_owner = λ s new. absurd (let none = accepts_no_job e.act s a.none_new in cc);
}

pub aside : (row : List Task) (past : List Moment) (now : Moment) → IsAside now.event
    → TasksHold row past → TasksHold row (now ∷ past)
aside row past now a h = beside row past now (aside_beside past now.event a) h

-- ---- a step of one task

one_task : (one other : Task) (o : Option Task) → o ≡ Some one → o ≡ Some other → one ≡ other
one_task one other o a b = cc

one_holder : (j k : ℕ) (o : Option Party) → o ≡ Some (ByTask j) → o ≡ Some (ByTask k) → j ≡ k
one_holder j k o a b = cc

-- it stands in the cut of a task exactly if it is this task
cut_of_held : (b : Bool) (past : List Moment) (place job k s : ℕ)
    → ((j : ℕ) → holder past job ≡ Some (ByTask j) → holder past s ≡ Some (ByTask j) → job ≡ s)
    → holder past job ≡ Some (ByTask place) → holder past s ≡ Some (ByTask k)
    → (if b then place == k else job == s) ≡ (place == k)
cut_of_held true past place job k s once of is = refl
cut_of_held false past place job k s once of is = both (job == s) (place == k) refl refl
  where
    both : (a b : Bool) → (job == s) ≡ a → (place == k) ≡ b → a ≡ b
    both true true p q = refl
    both false false p q = refl
    both true false p q =
        let same : job ≡ s = grind (arith, nat_tests) in
        let one = one_holder place k (holder past s)
        (subst (λ j. holder past j ≡ Some (ByTask place)) same of) is in
        grind (arith, nat_tests)
    both false true p q =
        let same : place ≡ k = grind (arith, nat_tests) in
        let one = once place of (subst (λ j. holder past s ≡ Some (ByTask j)) (sym same) is) in
        grind (arith, nat_tests)

-- and in none of a task that isn't there
cut_of_none : (b : Bool) (past : List Moment) (place job k s n : ℕ) → place < n → n ≤ k
    → holder past job ≡ Some (ByTask place) → holder past s ≡ None
    → (if b then place == k else job == s) ≡ false
cut_of_none true past place job k s n within over of none = grind (arith, nat_tests)
cut_of_none false past place job k s n within over of none = by (job == s) refl
  where
    by : (b : Bool) → (job == s) ≡ b → b ≡ false
    by true test =
        let same : job ≡ s = grind (arith, nat_tests) in
        let held = subst (λ j. holder past j ≡ Some (ByTask place)) same of in
        absurd (cc)
    by false test = refl

tie_moved : (j k s t : ℕ) (one other : Task) (before : List Event) (e : Event)
    → j ≡ k → s ≡ t → one ≡ other → TaskAs one s (e ∷ task_cut j s before)
    → TaskAs other t (e ∷ task_cut k t before)
tie_moved j k s t one other before e place job same tie =
    subst (λ (o : Task). TaskAs o t (e ∷ task_cut k t before)) same
    (subst (λ i. TaskAs one i (e ∷ task_cut k i before)) job
    (subst (λ i. TaskAs one s (e ∷ task_cut i s before)) place tie))

law_moved : (j k s t : ℕ) (before : List Event) (e : Event) → j ≡ k → s ≡ t
    → TaskLaw s (task_cut j s before) e → TaskLaw t (task_cut k t before) e
law_moved j k s t before e place job law =
    subst (λ i. TaskLaw i (task_cut k i before) e) job
    (subst (λ i. TaskLaw s (task_cut i s before) e) place law)

-- the task that takes the step goes on as it may
goes_on : (past : List Moment) (old new : List Task) (e : Event) (q : TakesStep past old e new)
    → TasksHold old past
    → Goes (task_after q.step q.task) q.job (task_cut q.place q.job (events past)) e
goes_on past old new e q h =
    let cut = task_cut q.place q.job (events past) in
    subst (Goes (task_after q.step q.task) q.job cut) (sym q.event_is)
    (step_goes q.step q.task q.place q.worker q.job q.first q.growth cut
    (subst (MayTake q.step q.task) (sym (acts_cut q.place q.job (events past))) q.may)
    (timely q.place q.job (events past) (h.laws q.place q.job q.held))
    (h.tied.each q.place q.job q.task q.held q.there))

-- where the step stands
seen_in :
    (past : List Moment) (old new : List Task) (e : Event) (q : TakesStep past old e new) (k s : ℕ)
    → is_by_task k e || is_of_job s e ≡ (if is_call q.step then q.place == k else q.job == s)
seen_in past old new e q k s =
    subst (λ (x : Event). is_by_task k x || is_of_job s x
    ≡ (if is_call q.step then q.place == k else q.job == s)) (sym q.event_is)
    (in_cut q.step q.task q.place q.worker q.job q.first q.growth k s)

seen_held : (past : List Moment) (old new : List Task) (e : Event) (q : TakesStep past old e new)
    → TasksHold old past → (k s : ℕ) → holder past s ≡ Some (ByTask k)
    → is_by_task k e || is_of_job s e ≡ (q.place == k)
seen_held past old new e q h k s holds =
    seen_in past old new e q k s ∙ cut_of_held (is_call q.step) past q.place q.job k s
    (λ j one other. h.tied.once j q.job s one other) q.held holds

step_each : (past : List Moment) (old new : List Task) (e : Event) (q : TakesStep past old e new)
    → TasksHold old past → (k s : ℕ) (b : Bool) → (q.place == k) ≡ b
    → (task : Task) → holder past s ≡ Some (ByTask k) → slice_get new k ≡ Some task
    → TaskAs task s (task_cut k s (e ∷ events past))
step_each past old new e q h k s true is task holds found =
    let place : q.place ≡ k = grind (arith, nat_tests) in
    let job = h.tied.once q.place q.job s q.held
    (subst (λ j. holder past s ≡ Some (ByTask j)) (sym place) holds) in
    let there = got_same old q.place (task_after q.step q.task)
    (slice_get_within old q.place q.task q.there) in
    let here = ap (λ (l : List Task). slice_get l q.place) (sym q.after_is)
    ∙ subst (λ j. slice_get new j ≡ Some task) (sym place) found in
    let same = one_task (task_after q.step q.task) task
    (slice_get (slice_set old q.place (task_after q.step q.task)) q.place) there here in
    subst (TaskAs task s)
    (sym (cut_more k s e (events past) (seen_held past old new e q h k s holds ∙ is)))
    (tie_moved q.place k q.job s (task_after q.step q.task) task (events past) e place job same
    (goes_on past old new e q h).tie)
step_each past old new e q h k s false is task holds found =
    let other : q.place ≡ k → ⊥ = λ same. grind (arith, nat_tests) in
    let here = ap (λ (l : List Task). slice_get l k) (sym q.after_is) ∙ found in
    subst (TaskAs task s)
    (sym (cut_same k s e (events past) (seen_held past old new e q h k s holds ∙ is)))
    (h.tied.each k s task holds
    (sym (got_other old q.place k (task_after q.step q.task) other) ∙ here))

step_laws : (past : List Moment) (old new : List Task) (e : Event) (q : TakesStep past old e new)
    → TasksHold old past → (k s : ℕ) (b : Bool) → (q.place == k) ≡ b
    → holder past s ≡ Some (ByTask k) → TaskLaws s (task_cut k s (e ∷ events past))
step_laws past old new e q h k s true is holds =
    let place : q.place ≡ k = grind (arith, nat_tests) in
    let job = h.tied.once q.place q.job s q.held
    (subst (λ j. holder past s ≡ Some (ByTask j)) (sym place) holds) in
    subst (TaskLaws s)
    (sym (cut_more k s e (events past) (seen_held past old new e q h k s holds ∙ is))) (
      law_moved q.place k q.job s (events past) e place job (goes_on past old new e q h).law,
      h.laws k s holds,
    )
step_laws past old new e q h k s false is holds =
    subst (TaskLaws s)
    (sym (cut_same k s e (events past) (seen_held past old new e q h k s holds ∙ is)))
    (h.laws k s holds)

pub stepped : (old new : List Task) (past : List Moment) (now : Moment)
    → TakesStep past old now.event new → TasksHold old past → TasksHold new (now ∷ past)
stepped old new past now q h =
    let e = now.event in
    let none : accepted_by e.act ≡ [] = subst (λ (x : Event). accepted_by x.act ≡ [])
    (sym q.event_is) (accepts_none q.step q.task q.place q.worker q.job q.first q.growth) in
    let held = λ (s : ℕ). holder_stays past now none s in
    let count : length new ≡ length old = ap (λ (l : List Task). length l) q.after_is
    ∙ length-set old q.place (task_after q.step q.task) in
    record {
      tied = record {
        count = count ∙ h.tied.count ∙ sym (tasks_stay past now none);
        there =
            λ k s holds. subst (λ n. k < n) (sym count) (h.tied.there k s (sym (held s) ∙ holds));
        once = λ k s t one other. h.tied.once k s t (sym (held s) ∙ one) (sym (held t) ∙ other);
        each = λ k s task holds found.
            step_each past old new e q h k s (q.place == k) refl task (sym (held s) ∙ holds) found;
        unborn = λ k s over none_holds.
            let past_all : length old ≤ k = subst (λ n. n ≤ k) count over in
            let nobody = sym (held s) ∙ none_holds in
            let out = seen_in past old new e q k s ∙ cut_of_none (is_call q.step) past q.place q.job
            k s (length old) (h.tied.there q.place q.job q.held) past_all q.held nobody in
            cut_same k s e (events past) out ∙ h.tied.unborn k s past_all nobody;
      };
      laws =
          λ k s holds. step_laws past old new e q h k s (q.place == k) refl (sym (held s) ∙ holds);
    }

-- ---- a new task

-- it is tied to the empty cut
new_tied : (number : JobNumber) (s : ℕ) → TaskAs (new_task number) s []
new_tied number s =
    record {
      gone = refl;
      cancel = refl;
      let_go = refl;
      seat = refl;
      slot = (refl, refl, refl);
      told = λ w. absurd (cc);
    }

pushed_length : (row : List Task) (number : JobNumber)
    → length (row ++ new_task number ∷ []) ≡ length row + 1
pushed_length row number = length-append row (new_task number ∷ [])

-- its event stands in no cut
unseen : (e : Event) (t k s : ℕ) → MakesTask e t → is_by_task k e || is_of_job s e ≡ false
unseen e t k s makes = rw (makes.act_is, makes.party_is) refl

-- The job is the new one, whose task is the next; nothing was seen yet of either.
pub record Newcomer (past : List Moment) (row : List Task) (t k s : ℕ) : Type 0 where
  pub job : t ≡ s
  pub place : k ≡ length row
  pub fresh : task_cut k s (events past) ≡ []

-- a holder after a new call is the new task, or was a holder before
which : (row : List Task) (past : List Moment) (now : Moment) (number : JobNumber)
    → MakesTask now.event number.serial → holder past number.serial ≡ None → Tasked row past
    → (k s : ℕ) → holder (now ∷ past) s ≡ Some (ByTask k)
    → Newcomer past row number.serial k s ⊎ (holder past s ≡ Some (ByTask k))
which row past now number makes free t k s held =
    by (number.serial == s) refl (sym (holder_grows past now number.serial s makes) ∙ held)
  where
    by : (b : Bool) → (number.serial == s) ≡ b
        → (if b then Some (ByTask (tasks past)) else holder past s) ≡ Some (ByTask k)
        → Newcomer past row number.serial k s ⊎ (holder past s ≡ Some (ByTask k))
    by true test is =
        let job : number.serial ≡ s = grind (arith, nat_tests) in
        let last : tasks past ≡ k = cc in
        let count = t.count in
        let place : k ≡ length row = omega (arith, last, count) in
        inl (record {
          job = job;
          place = place;
          fresh = t.unborn k s (omega (arith, place)) (subst (λ j. holder past j ≡ None) job free);
        })
    by false test is = inr is

pub born : (row : List Task) (past : List Moment) (now : Moment) (number : JobNumber)
    → MakesTask now.event number.serial → holder past number.serial ≡ None → TasksHold row past
    → TasksHold (row ++ new_task number ∷ []) (now ∷ past)
born row past now number makes free h =
    let t = h.tied in
    let e = now.event in
    let more = pushed_length row number in
    let same = λ (k s : ℕ). cut_same k s e (events past) (unseen e number.serial k s makes) in
    let of = λ (k s : ℕ) (held : holder (now ∷ past) s ≡ Some (ByTask k)).
    which row past now number makes free t k s held in
    record {
      tied = record {
        count = more ∙ ap (λ n. n + 1) t.count ∙ sym (tasks_grow past now number.serial makes);
        there = λ k s held.
            ⊎_elim (λ new. let place = new.place in omega (arith, more, place))
            (λ old. let within = t.there k s old in omega (arith, more, within)) (of k s held);
        once = λ k s j one other.
            ⊎_elim
            (λ new. ⊎_elim (λ again. sym new.job ∙ again.job) (λ old. let place = new.place in
            let within = t.there k j old in
            absurd (omega (arith, place, within))) (of k j other))
            (λ old. ⊎_elim (λ new. let place = new.place in let within = t.there k s old in
            absurd (omega (arith, place, within))) (λ before. t.once k s j old before)
            (of k j other))
            (of k s one);
        each = λ k s task held found.
            subst (TaskAs task s) (sym (same k s))
            (⊎_elim
            (λ new. ⊎_elim
            (λ before. let place = new.place in let within = slice_get_within row k task before in
            absurd (omega (arith, place, within)))
            (λ last. subst (λ (o : Task). TaskAs o s (task_cut k s (events past))) last.1
            (subst (TaskAs (new_task number) s) (sym new.fresh) (new_tied number s)))
            (in_pushed row (new_task number) k task found))
            (λ old. ⊎_elim
            (λ before. t.each k s task old before)
            (λ last. let place = last.0 in let within = t.there k s old in
            absurd (omega (arith, place, within)))
            (in_pushed row (new_task number) k task found))
            (of k s held));
        unborn = λ k s over none.
            same k s ∙ t.unborn k s (omega (arith, more, over)) (nobody (number.serial == s)
            (holder past s) (sym (holder_grows past now number.serial s makes) ∙ none));
      };
      laws = λ k s held.
          subst (TaskLaws s) (sym (same k s))
          (⊎_elim (λ new. subst (TaskLaws s) (sym new.fresh) tt) (λ old. h.laws k s old)
          (of k s held));
    }
  where
    nobody : (b : Bool) (before : Option Party)
        → (if b then Some (ByTask (tasks past)) else before) ≡ None → before ≡ None
    nobody b before is = grind arith
