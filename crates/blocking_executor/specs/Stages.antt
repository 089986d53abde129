-- What the job of a call holds. No public clause cites this file.
use Rattle.std.specs.Prelude.{Option, Some, None}
use Rattle.blocking_core.specs.declared.job.Action.{Action}
use Rattle.blocking_core.specs.declared.job.Action.TheVariants as next
use Rattle.blocking_executor.specs.declared.job.CallStage.{CallStage}
use Rattle.blocking_executor.specs.declared.job.CallStage.TheVariants as holds

module _ {F T : Type 0} where
  -- the call, until it is made
  abbrev pub call_of : CallStage F T → Option F
  call_of (holds.Call call) = Some call
  call_of (holds.Finish value) = None
  call_of (holds.Deliver waker) = None
  call_of holds.Done = None

  -- the job holds what its next action is about, and a value that the call may give
  abbrev pub Fits : (T → Type 0) → Action → CallStage F T → Type 0
  Fits may_give next.Call (holds.Call call) = Unit {0}
  Fits may_give next.Finish (holds.Finish value) = may_give value
  Fits may_give next.Deliver (holds.Deliver waker) = Unit {0}
  Fits may_give next.Done holds.Done = Unit {0}
  Fits may_give _ _ = ⊥
