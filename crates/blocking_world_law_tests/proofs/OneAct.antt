-- A poll of a task, and an action of its job, is one act.
use Rattle.std.proofs.Common.{◌≡◌, refl, ℕ, Bool, true, false, List, ap, ◌∙◌}
use mathlib.Core.Path.{subst, sym}
use Rattle.blocking_world_laws.specs.Seen.{is_some_worker, acts_of}
use Rattle.blocking_world_laws.specs.Turns.{is_giving_up}
use Rattle.blocking_world_laws.specs.JobTable.{Calling, JobAction, AskCall, Finish, WakeHolder}
use Rattle.blocking_world_laws.specs.JobTable.{IsAnswerTo, next_of_job}
use Rattle.blocking_world_laws.specs.Seats.{task_seat, waker_in}
use Rattle.blocking_world_laws.specs.TaskLaws.{poll_answer, TaskActs, Calls, CallActs, TaskMayAct}
use Rattle.blocking_world_laws.specs.TaskLaws.{TaskLaw}
use Rattle.blocking_world_laws.specs.Steps.{IsPolled, is_answered}
use Rattle.blocking_world_laws.specs.declared.event.Act.{Act}
use Rattle.blocking_world_laws.specs.declared.event.Act.TheVariants.{Waits, TaskGot, TaskGotNone}
use Rattle.blocking_world_laws.specs.declared.event.Act.TheVariants.{Answered, GaveUp}
use Rattle.blocking_world_laws.specs.declared.event.Event.{Event}

poll_is : (s : ℕ) (cut : List Event) (act : Act) → IsPolled act → TaskActs s cut act
    → act ≡ poll_answer s cut
poll_is s cut (TaskGot n) polled law = law
poll_is s cut TaskGotNone polled law = law
poll_is s cut Waits polled law = law
poll_is s cut _ polled law = absurd polled

pub one_poll : (s : ℕ) (cut : List Event) (now other : Event) → is_some_worker now.party ≡ false
    → is_some_worker other.party ≡ false
    → IsPolled now.act → IsPolled other.act → TaskLaw s cut now → TaskLaw s cut other
    → now.act ≡ other.act
one_poll s cut now other of_task of_other polled other_polled law other_law =
    let may = subst (λ b. TaskMayAct s b cut now.act) of_task law in
    let other_may = subst (λ b. TaskMayAct s b cut other.act) of_other other_law in
    poll_is s cut now.act polled may.1 ∙ sym (poll_is s cut other.act other_polled other_may.1)

given_up : (s : ℕ) (cut : List Event) (act : Act) → is_giving_up act ≡ true → CallActs s cut act
    → act ≡ GaveUp (waker_in (task_seat cut))
given_up s cut (GaveUp waker) gives law = ap GaveUp law.2
given_up s cut _ gives law = absurd cc

by_table : (s : ℕ) (cut : List Event) (act : Act) → is_giving_up act ≡ false → CallActs s cut act
    → Calls cut (next_of_job Calling (acts_of s cut)) act
by_table s cut (GaveUp waker) goes law = absurd cc
by_table s cut _ goes law = law

unanswered : (act : Act) → is_answered act ≡ false → IsAnswerTo AskCall act → ⊥
unanswered (Answered answer) own law = cc
unanswered _ own law = law

one_line : (cut : List Event) (action : JobAction) (act other : Act) → is_answered act ≡ false
    → Calls cut action act → Calls cut action other → act ≡ other
one_line cut AskCall act other own law other_law = absurd (unanswered act own law)
one_line cut Finish act other own law other_law = law ∙ sym other_law
one_line cut WakeHolder act other own law other_law = law ∙ sym other_law
one_line cut _ act other own law other_law = absurd law

one_by : (b : Bool) (s : ℕ) (cut : List Event) (act other : Act) → is_giving_up act ≡ b
    → is_giving_up other ≡ b → is_answered act ≡ false → CallActs s cut act → CallActs s cut other
    → act ≡ other
one_by true s cut act other gives other_gives own law other_law =
    given_up s cut act gives law ∙ sym (given_up s cut other other_gives other_law)
one_by false s cut act other goes other_goes own law other_law =
    one_line cut (next_of_job Calling (acts_of s cut)) act other own (by_table s cut act goes law)
    (by_table s cut other other_goes other_law)

pub one_action : (s : ℕ) (cut : List Event) (now other : Event) → is_some_worker now.party ≡ true
    → is_some_worker other.party ≡ true
    → is_giving_up now.act ≡ is_giving_up other.act → is_answered now.act ≡ false
    → TaskLaw s cut now → TaskLaw s cut other → now.act ≡ other.act
one_action s cut now other of_job of_other same own law other_law =
    let may = subst (λ b. TaskMayAct s b cut now.act) of_job law in
    let other_may = subst (λ b. TaskMayAct s b cut other.act) of_other other_law in
    one_by (is_giving_up other.act) s cut now.act other.act same refl own may other_may
