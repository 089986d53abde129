-- What a call that streams and an operation have got.
use Rattle.std.specs.Prelude.{◌≡◌, Bool, true, false, Option, Some, None, IsSome, Result, Ok, Err}
use Rattle.blocking_pool.specs.declared.pool.answer.Refused.{Refused}
use Rattle.blocking_unblock.specs.Polls.{Kept, Way, Item, Gave}
use Rattle.blocking_unblock.specs.declared.lend.OperationStage.{OperationStage}
use Rattle.blocking_unblock.specs.declared.lend.OperationStage.TheVariants as stage

-- a stream has the item that came
abbrev pub stream_keeps : {I : Type 0} → Option I → Kept → Type 0
stream_keeps item Item = IsSome item
stream_keeps item Way = Unit {0}
stream_keeps item Gave = Unit {0}

module _ {F S R : Type 0} where
  -- an operation whose session is still to begin
  abbrev pub IsGiven : OperationStage F S R → Type 0
  IsGiven (stage.Given operation) = Unit {0}
  IsGiven now = ⊥

  -- whether its session began, and its result is waited for
  abbrev pub has_begun : OperationStage F S R → Bool
  has_begun (stage.Begun seat) = true
  has_begun now = false

  -- an operation that has begun waits for its result, and one that has a result has one that it may
  -- give
  abbrev pub operation_keeps : (R → Type 0) → OperationStage F S R → Kept → Type 0
  operation_keeps may_give (stage.Begun seat) Way = Unit {0}
  operation_keeps may_give (stage.Gave gave) Gave = may_give gave
  operation_keeps may_give now Item = Unit {0}
  operation_keeps may_give now kept = ⊥

  -- the operation, until its session began
  abbrev pub given_in : OperationStage F S R → Option F
  given_in (stage.Given operation) = Some operation
  given_in now = None

  -- whether an operation is over: its result is there or was taken, or it was handed back
  abbrev pub is_over : OperationStage F S R → Bool
  is_over (stage.Given operation) = false
  is_over (stage.Begun seat) = false
  is_over (stage.Gave gave) = true
  is_over stage.Taken = true

  -- what an operation may answer: a result that it may give, or itself back
  abbrev pub OperationGives : (R → Type 0) → OperationStage F S R → Result R (Refused F) → Type 0
  OperationGives may_give now (Ok gave) = may_give gave
  OperationGives may_give now (Err refused) = given_in now ≡ Some refused.back
