-- What the job of a call keeps.
use Rattle.std.specs.Prelude.{◌≡◌, Bool, Option, refl}
use Rattle.std.specs.Coded.{Coded, code_by, coded×, coded_option}
use Rattle.blocking_core.specs.Cores.{call_after}
use Rattle.blocking_core.specs.declared.job.Action.{Action}
use Rattle.blocking_core.specs.declared.job.Action.TheVariants.{Call, Finish, Deliver, Done}
use Rattle.blocking_core.specs.declared.job.Answer.TheVariants.{Returned, Put, Delivered}
use Rattle.blocking_core.specs.contracts.job.Action.{the_row}
use Rattle.blocking_pool.specs.declared.pool.job.JobStep.{JobStep}
use Rattle.blocking_pool.specs.declared.pool.job.JobStep.TheVariants as step

-- what contracts see of the job of a call: its next action, and the call until it is made
pub record CallSeen (F : Type 0) : Type 0 where
  pub next : Action
  pub call : Option F

abbrev pub call_code : {F : Type 0} → Coded F → Coded (CallSeen F)
call_code {F} code =
    code_by (Action × Option F) (coded× the_row.coded (coded_option code))
    (λ seen. (seen.next, seen.call)) (λ parts. record { next = parts.0; call = parts.1 })
    (λ _. refl)

-- the core got one answer, to the action that was next; where nothing was, it got none
abbrev pub IsAnswered : Action → Action → Type 0
IsAnswered Call new = new ≡ call_after Call Returned
IsAnswered Finish new = (woke : Bool) × (new ≡ call_after Finish (Put woke))
IsAnswered Deliver new = new ≡ call_after Deliver Delivered
IsAnswered Done new = new ≡ Done

-- what a step tells its worker: a job that has nothing more to do is done, and else it goes on; it
-- never waits
abbrev pub told_by : Action → JobStep
told_by Done = step.Done
told_by next = step.Again
