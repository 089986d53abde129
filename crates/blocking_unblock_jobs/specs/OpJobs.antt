-- What contracts see of the job of an operation, and what each of its steps does.
use Rattle.std.specs.Prelude.{◌≡◌, Bool, Option, Some, None, IsSome, IfSome, refl}
use Rattle.std.specs.Coded.{Coded, code_by, coded×, coded_bool, coded_option}
use Rattle.blocking_core.specs.Machines.{Machine}
use Rattle.blocking_core.specs.Ops.{op_next, op_after}
use Rattle.blocking_core.specs.declared.job.op.OpAction.{OpAction}
use Rattle.blocking_core.specs.declared.job.op.OpAction.TheVariants.{Call, PutResult, Finish}
use Rattle.blocking_core.specs.declared.job.op.OpAction.TheVariants.{Deliver, Done}
use Rattle.blocking_core.specs.declared.job.op.OpAnswer.{OpAnswer}
use Rattle.blocking_core.specs.declared.job.op.OpAnswer.TheVariants as by
use Rattle.blocking_core.specs.contracts.job.op.OpAction.{the_row}
use Rattle.blocking_pool.specs.declared.pool.job.JobStep.{JobStep}
use Rattle.blocking_pool.specs.declared.pool.job.JobStep.TheVariants as step

-- the job of an operation: what it does next, the operation until it is called, its handle until
-- that is given back, and the result from the call until it is put
pub record OpSeen (F T R : Type 0) : Type 0 where
  pub core : Machine OpAction
  pub operation : Option F
  pub handle : Option T
  pub gave : Option R

abbrev pub op_code : {F T R : Type 0} → Coded F → Coded T → Coded R → Coded (OpSeen F T R)
op_code {F} {T} {R} operation code gave =
    code_by (OpAction × (Bool × (Option F × (Option T × Option R))))
    (coded× the_row.coded (coded× coded_bool
    (coded× (coded_option operation) (coded× (coded_option code) (coded_option gave)))))
    (λ seen. (seen.core.next, (seen.core.is_waking, (seen.operation, (seen.handle, seen.gave)))))
    (λ parts. record {
      core = record { next = parts.0; is_waking = parts.1.0 };
      operation = parts.1.1.0;
      handle = parts.1.1.1.0;
      gave = parts.1.1.1.1;
    }) (λ _. refl)

-- this is an answer to that action
abbrev pub Answers : OpAction → OpAnswer → Type 0
Answers Call by.Returned = Unit {0}
Answers PutResult (by.ResultPut woke) = Unit {0}
Answers Finish (by.Finished woke) = Unit {0}
Answers Deliver by.Delivered = Unit {0}
Answers action answer = ⊥

-- what a step tells its worker: a job that has nothing more to do is done, and else it goes on
abbrev pub told_by : OpAction → JobStep
told_by Done = step.Done
told_by next = step.Again

module _ {F T R : Type 0} where
  -- What becomes of the operation, its result and the handle: the operation is called on the handle
  -- and gone, what it gave is kept until it is put, and only a finish gives the handle away.
  abbrev pub Hands : (R → Type 0) → OpAnswer → OpSeen F T R → OpSeen F T R → Type 0
  Hands may_give by.Returned old new =
      (new.operation ≡ None) × IsSome new.handle × IsSome new.gave × IfSome new.gave may_give
  Hands may_give (by.ResultPut woke) old new = (new.gave ≡ None) × (new.handle ≡ old.handle)
  Hands may_give (by.Finished woke) old new = new.handle ≡ None
  Hands may_give by.Delivered old new = (new.gave ≡ old.gave) × (new.handle ≡ old.handle)

  -- the machine got one answer, to the action that was next, and what it says of the operation is
  -- what came of it
  abbrev pub OneAnswer : (R → Type 0) → OpAction → OpSeen F T R → OpSeen F T R → JobStep → Type 0
  OneAnswer may_give action old new told =
      (answer : OpAnswer) × (new.core ≡ op_after old.core answer) × Answers action answer
      × (told ≡ told_by (op_next new.core)) × Hands may_give answer old new

  -- What one step does: the machine gets one answer, to the action that was next; a job that is
  -- over does nothing.
  abbrev pub IsSteppedBy : (R → Type 0) → OpAction → OpSeen F T R → OpSeen F T R → JobStep → Type 0
  IsSteppedBy may_give Done old new told = (new ≡ old) × (told ≡ step.Done)
  IsSteppedBy may_give action old new told = OneAnswer may_give action old new told

  abbrev pub IsStepped : (R → Type 0) → OpSeen F T R → OpSeen F T R → JobStep → Type 0
  IsStepped may_give old new told = IsSteppedBy may_give (op_next old.core) old new told

-- The job has what its next action is about: the operation until it is called, its handle until
-- that is given back, and a result that the operation may give until it is put.
abbrev pub Fits : {F T R : Type 0} → (R → Type 0) → OpAction → Option F → Option T → Option R
    → Type 0
Fits may_give Call (Some operation) (Some handle) None = Unit {0}
Fits may_give PutResult None (Some handle) (Some gave) = may_give gave
Fits may_give Finish None (Some handle) None = Unit {0}
Fits may_give Done None handle None = Unit {0}
Fits may_give action operation handle gave = ⊥

-- a job that has its handle to give back has put the result of its operation
abbrev pub HasPut : {G : Type 0} → OpAction → Option G → Type 0
HasPut Finish put = IsSome put
HasPut action put = Unit {0}
