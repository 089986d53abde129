-- What the job of an operation does after an answer.
use Rattle.std.specs.Prelude.{Bool, true, false}
use Rattle.blocking_core.specs.Machines.{Machine, machine, wake_first}
use Rattle.blocking_core.specs.declared.job.op.OpAction.{OpAction}
use Rattle.blocking_core.specs.declared.job.op.OpAction.TheVariants.{Call, PutResult, Finish}
use Rattle.blocking_core.specs.declared.job.op.OpAction.TheVariants.{Deliver, Done}
use Rattle.blocking_core.specs.declared.job.op.OpAnswer.{OpAnswer}
use Rattle.blocking_core.specs.declared.job.op.OpAnswer.TheVariants as by

-- a job that hasn't begun
abbrev pub new_op : Machine OpAction
new_op = machine Call false

-- the next action
abbrev pub op_next : Machine OpAction → OpAction
op_next core = wake_first core.is_waking Deliver core.next

-- What follows an answer to this action. An operation is called once; its result is in its place
-- before the handle comes back. An answer to another action changes nothing.
abbrev pub op_by : OpAction → OpAnswer → Machine OpAction
op_by Call by.Returned = machine PutResult false
op_by PutResult (by.ResultPut woke) = machine Finish woke
op_by Finish (by.Finished woke) = machine Done woke
op_by action answer = machine action false

-- a machine that has to call a waker waits for that alone
abbrev pub op_after_wake : OpAction → OpAnswer → Machine OpAction
op_after_wake action by.Delivered = machine action false
op_after_wake action answer = machine action true

abbrev pub op_in : Bool → OpAction → OpAnswer → Machine OpAction
op_in true action answer = op_after_wake action answer
op_in false action answer = op_by action answer

-- the machine after an answer
abbrev pub op_after : Machine OpAction → OpAnswer → Machine OpAction
op_after core answer = op_in core.is_waking core.next answer
