-- A legal past is legal at each beginning, and only a legal past is.
use Rattle.std.proofs.Common.{◌≡◌, refl, ℕ, ◌+◌, ◌≤◌, ◌||◌, ◌==◌, if◌then◌else◌, Bool, true, false}
use Rattle.std.proofs.Common.{cond, List, [], ◌∷◌, ◌++◌, length, Option, Some, arith, length-append}
use Rattle.std.proofs.lemmas.Bool.Decides.{nat_tests}
use mathlib.Core.Path.{subst}
use Rattle.blocking_world_laws.specs.Seen.{EachMayFollow, AtEveryBeginning, joined, events, cut}
use Rattle.blocking_world_laws.specs.Seen.{task_cut, is_by_task, is_of_job, is_in_cut}
use Rattle.blocking_world_laws.specs.Jobs.{accepts, accepted_by, accepted_jobs, newcomer, holder}
use Rattle.blocking_world_laws.specs.Answers.{PoolAnswers}
use Rattle.blocking_world_laws.specs.TaskLaws.{TaskLaw}
use Rattle.blocking_world_laws.specs.OwnerLaws.{OwnerLaw}
use Rattle.blocking_world_laws.specs.Wakes.{NoLostWake}
use Rattle.blocking_world_laws.specs.OwnerWakes.{NoLostOwnerWake}
use Rattle.blocking_world_laws.specs.Served.{IsServed}
use Rattle.blocking_world_laws.specs.Staffed.{IsStaffedAsSeen}
use Rattle.blocking_world_laws.specs.Steps.{StepLaw}
use Rattle.blocking_world_laws.specs.Copies.{CopyLaw}
use Rattle.blocking_world_laws.specs.Legal.{Legal, PoolLaw, LastFollows, HoldsNow}
use Rattle.blocking_world_laws.specs.Legal.{IsLegalThroughout}
use Rattle.blocking_world_laws.specs.declared.event.Act.{Act}
use Rattle.blocking_world_laws.specs.declared.event.Act.TheVariants.{Accepted}
use Rattle.blocking_world_laws.specs.declared.event.Moment.{Moment}
use Rattle.blocking_world_laws.specs.declared.event.Party.{Party}
use Rattle.blocking_world_laws.specs.declared.event.Party.TheVariants.{Task}

-- ---- a job keeps its holder

-- an act that accepts a job accepts the next one
abbrev pub AcceptsNext : List ℕ → Act → Type 0
AcceptsNext jobs (Accepted t) = t ≡ 1 + length jobs
AcceptsNext jobs _ = Unit {0}

pub accepts_next : (setting : ℕ) (past : List Moment) (now : Moment) (act : Act)
    → PoolAnswers setting past now act → AcceptsNext (accepted_jobs past) act
accepts_next setting past now (Accepted t) answers = answers.0
accepts_next setting past now _ answers = tt

-- what has a holder was accepted
abbrev IsKnown : Option Party → ℕ → ℕ → Type 0
IsKnown held s count = (p : Party) → held ≡ Some p → s ≤ count

known_new : (b : Bool) (t s : ℕ) (jobs : List ℕ) (new : Party) (held : Option Party) → (t == s) ≡ b
    → t ≡ 1 + length jobs
    → IsKnown held s (length jobs)
    → IsKnown (if b then Some new else held) s (length (jobs ++ t ∷ []))
known_new true t s jobs new held e next earlier p h = rw length-append (grind (arith, nat_tests))
known_new false t s jobs new held e next earlier p h = let within : s ≤ length jobs = earlier p h in
    rw length-append (omega arith)

known_by : (act : Act) (s : ℕ) (jobs : List ℕ) (new : Party) (held : Option Party)
    → AcceptsNext jobs act
    → IsKnown held s (length jobs)
    → IsKnown (if accepts s act then Some new else held) s (length (joined jobs (accepted_by act)))
known_by (Accepted t) s jobs new held next earlier =
    known_new (t == s) t s jobs new held refl next earlier
known_by _ s jobs new held next earlier = earlier

known : (setting : ℕ) (plan : List Bool) (past : List Moment)
    → EachMayFollow (PoolLaw setting plan) past → (s : ℕ)
    → IsKnown (holder past s) s (length (accepted_jobs past))
known setting plan [] laws s = λ p h. cc
known setting plan (now ∷ past) laws s =
    known_by now.event.act s (accepted_jobs past) (newcomer past now.event.party) (holder past s)
    (accepts_next setting past now now.event.act laws.0.answers) (known setting plan past laws.1 s)

keeps_new : (b : Bool) (t s : ℕ) (count : ℕ) (new p : Party) (held : Option Party) → (t == s) ≡ b
    → t ≡ 1 + count
    → s ≤ count → held ≡ Some p → (if b then Some new else held) ≡ Some p
keeps_new true t s count new p held e next within h = absurd (grind (arith, nat_tests))
keeps_new false t s count new p held e next within h = h

keeps_by : (act : Act) (s : ℕ) (jobs : List ℕ) (new p : Party) (held : Option Party)
    → AcceptsNext jobs act
    → s ≤ length jobs → held ≡ Some p → (if accepts s act then Some new else held) ≡ Some p
keeps_by (Accepted t) s jobs new p held next within h =
    keeps_new (t == s) t s (length jobs) new p held refl next within h
keeps_by _ s jobs new p held next within h = h

-- a holder stays
pub keeps : (setting : ℕ) (plan : List Bool) (past : List Moment) (now : Moment)
    → EachMayFollow (PoolLaw setting plan) (now ∷ past) → (s : ℕ) (p : Party)
    → holder past s ≡ Some p → holder (now ∷ past) s ≡ Some p
keeps setting plan past now laws s p h =
    keeps_by now.event.act s (accepted_jobs past) (newcomer past now.event.party) p (holder past s)
    (accepts_next setting past now now.event.act laws.0.answers)
    (known setting plan past laws.1 s p h) h

-- ---- a legal past is legal without its last moment

without_last : {X : Type 0} (MayFollow : List X → X → Type 0) (b : Bool) (x : X) (xs : List X)
    → EachMayFollow MayFollow (cond b (x ∷ xs) xs) → EachMayFollow MayFollow xs
without_last MayFollow true x xs laws = laws.1
without_last MayFollow false x xs laws = laws

pub before : (setting : ℕ) (plan : List Bool) (past : List Moment) (now : Moment)
    → Legal setting plan (now ∷ past) → Legal setting plan past
before setting plan past now legal = record {
  steps = legal.steps.1;
  pool = legal.pool.1;
  owners = λ h. without_last OwnerLaw (is_in_cut h now.event) now.event (cut h (events past))
      (legal.owners h);
  tasks = λ k s h. without_last (TaskLaw s) (is_by_task k now.event || is_of_job s now.event)
      now.event (task_cut k s (events past))
      (legal.tasks k s (keeps setting plan past now legal.pool s (Task k) h));
  wakes = legal.wakes.1;
  owner_wakes = legal.owner_wakes.1;
  served = legal.served.1;
  staffed = legal.staffed.1;
  copies = legal.copies.1;
}

-- ---- both forms

now_of : (setting : ℕ) (plan : List Bool) (past : List Moment) → Legal setting plan past
    → HoldsNow setting plan past
now_of setting plan [] legal = record {
  step = tt;
  pool = tt;
  owners = legal.owners;
  tasks = legal.tasks;
  wakes = legal.wakes;
  owner_wakes = legal.owner_wakes;
  served = legal.served;
  staffed = legal.staffed;
  copies = tt;
}
now_of setting plan (now ∷ past) legal = record {
  step = legal.steps.0;
  pool = legal.pool.0;
  owners = legal.owners;
  tasks = legal.tasks;
  wakes = legal.wakes.0;
  owner_wakes = legal.owner_wakes.0;
  served = legal.served.0;
  staffed = legal.staffed.0;
  copies = legal.copies.0;
}

at_beginning : (setting : ℕ) (plan : List Bool) (later beginning : List Moment)
    → Legal setting plan (later ++ beginning) → HoldsNow setting plan beginning
at_beginning setting plan [] beginning legal = now_of setting plan beginning legal
at_beginning setting plan (now ∷ later) beginning legal =
    at_beginning setting plan later beginning (before setting plan (later ++ beginning) now legal)

pub throughout : (setting : ℕ) (plan : List Bool) (past : List Moment) → Legal setting plan past
    → IsLegalThroughout setting plan past
throughout setting plan past legal later beginning split =
    at_beginning setting plan later beginning (subst (Legal setting plan) split legal)

each_follows : (MayFollow : List Moment → Moment → Type 0) (past : List Moment)
    → ((later beginning : List Moment) → past ≡ later ++ beginning
    → LastFollows MayFollow beginning) → EachMayFollow MayFollow past
each_follows MayFollow [] laws = tt
each_follows MayFollow (now ∷ past) laws = (
  laws [] (now ∷ past) refl,
  each_follows MayFollow past
      (λ later beginning split. laws (now ∷ later) beginning (rw split refl)),
)

at_each : (Holds : List Moment → Type 0) (past : List Moment)
    → ((later beginning : List Moment) → past ≡ later ++ beginning → Holds beginning)
    → AtEveryBeginning Holds past
at_each Holds [] laws = laws [] [] refl
at_each Holds (now ∷ past) laws = (
  laws [] (now ∷ past) refl,
  at_each Holds past
      (λ later beginning split. laws (now ∷ later) beginning (rw split refl)),
)

pub whole : (setting : ℕ) (plan : List Bool) (past : List Moment)
    → IsLegalThroughout setting plan past → Legal setting plan past
whole setting plan past laws = record {
  steps = each_follows StepLaw past (λ later beginning split. (laws later beginning split).step);
  pool = each_follows (PoolLaw setting plan) past
      (λ later beginning split. (laws later beginning split).pool);
  owners = (laws [] past refl).owners;
  tasks = (laws [] past refl).tasks;
  wakes = at_each NoLostWake past (λ later beginning split. (laws later beginning split).wakes);
  owner_wakes = at_each NoLostOwnerWake past
      (λ later beginning split. (laws later beginning split).owner_wakes);
  served = at_each IsServed past (λ later beginning split. (laws later beginning split).served);
  staffed =
      at_each IsStaffedAsSeen past (λ later beginning split. (laws later beginning split).staffed);
  copies = each_follows CopyLaw past (λ later beginning split. (laws later beginning split).copies);
}

-- ---- what the law of one owner or of one task refuses

with_last : {X : Type 0} (MayFollow : List X → X → Type 0) (b : Bool) (x : X) (xs : List X)
    → b ≡ true → EachMayFollow MayFollow (cond b (x ∷ xs) xs) → MayFollow xs x
with_last MayFollow true x xs e laws = laws.0
with_last MayFollow false x xs e laws = absurd cc

-- an event of an owner or of its job keeps the law of that owner
pub owner_keeps : (setting : ℕ) (plan : List Bool) (past : List Moment) (now : Moment) (h : ℕ)
    → is_in_cut h now.event ≡ true
    → Legal setting plan (now ∷ past) → OwnerLaw (cut h (events past)) now.event
owner_keeps setting plan past now h e legal =
    with_last OwnerLaw (is_in_cut h now.event) now.event (cut h (events past)) e (legal.owners h)

-- an event of a task or of its job keeps the law of that task
pub task_keeps : (setting : ℕ) (plan : List Bool) (past : List Moment) (now : Moment) (k s : ℕ)
    → holder (now ∷ past) s ≡ Some (Task k)
    → (is_by_task k now.event || is_of_job s now.event) ≡ true → Legal setting plan (now ∷ past)
    → TaskLaw s (task_cut k s (events past)) now.event
task_keeps setting plan past now k s h e legal =
    with_last (TaskLaw s) (is_by_task k now.event || is_of_job s now.event) now.event
    (task_cut k s (events past)) e (legal.tasks k s h)
