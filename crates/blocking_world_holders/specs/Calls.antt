-- How far the job of a call is, and what it has done so far.
use Rattle.std.specs.Prelude.{◌≡◌, ◌⊎◌, ℕ, Bool, List, [], ◌∷◌}
use Rattle.blocking_core.specs.Cores.{call_after}
use Rattle.blocking_core.specs.declared.job.Action.{Action}
use Rattle.blocking_core.specs.declared.job.Action.TheVariants as action
use Rattle.blocking_core.specs.declared.job.Answer.TheVariants as answer
use Rattle.blocking_world_laws.specs.declared.event.Act.{Act}
use Rattle.blocking_world_laws.specs.declared.event.Act.TheVariants.{Answered, Finished}
use Rattle.blocking_world_laws.specs.declared.event.Act.TheVariants.{HolderWoken}
use Rattle.blocking_world_laws.specs.declared.event.HolderWaker.TheVariants.{Taken, Absent}
use Rattle.blocking_world_laws.specs.declared.step.HandleAnswer.TheVariants.{Number}

-- What the job of a call does next, and what its call was answered, once it was.
pub record Progress : Type 0 where
  pub next : Action
  pub number : ℕ

-- a call that hasn't been made
abbrev pub not_begun : Progress
not_begun = record { next = action.Call; number = 0 }

-- the call gave this number
abbrev pub progress_after_answer : Progress → ℕ → Progress
progress_after_answer progress number =
    record { next = call_after progress.next answer.Returned; number = number }

-- the result was put, and a waker taken or not
abbrev pub progress_after_finish : Progress → Bool → Progress
progress_after_finish progress woke =
    record progress { next = call_after progress.next (answer.Put woke) }

-- the waker was called
abbrev pub progress_after_wake : Progress → Progress
progress_after_wake progress = record progress { next = call_after progress.next answer.Delivered }

-- What a job that runs has done so far, the newest first, by its next action and the number that it
-- was answered.
abbrev pub RanAs : Action → ℕ → List Act → Type 0
RanAs action.Call n acts = acts ≡ []
RanAs action.Finish n acts = acts ≡ Answered (Number n) ∷ []
RanAs action.Deliver n acts = acts ≡ Finished Taken ∷ Answered (Number n) ∷ []
RanAs action.Done n acts = (acts ≡ Finished Absent ∷ Answered (Number n) ∷ [])
    ⊎ (acts ≡ HolderWoken ∷ Finished Taken ∷ Answered (Number n) ∷ [])
