-- What a writing job does after an answer.
use Rattle.std.specs.Prelude.{zero, suc, nat_le, if◌then◌else◌, Bool, true, false, Option, Some}
use Rattle.std.specs.Prelude.{None}
use Rattle.blocking_core.specs.Machines.{Machine, machine, wake_first}
use Rattle.blocking_core.specs.declared.io.JobFault.{JobFault}
use Rattle.blocking_core.specs.declared.io.JobFault.TheVariants.{Io, WriteZero}
use Rattle.blocking_core.specs.declared.job.write.WriteAction.{WriteAction}
use Rattle.blocking_core.specs.declared.job.write.WriteAction.TheVariants.{Peek, Write, Consume}
use Rattle.blocking_core.specs.declared.job.write.WriteAction.TheVariants.{Flush, Close, Finish}
use Rattle.blocking_core.specs.declared.job.write.WriteAction.TheVariants.{Deliver, Done}
use Rattle.blocking_core.specs.declared.job.write.WriteAnswer.{WriteAnswer}
use Rattle.blocking_core.specs.declared.job.write.WriteAnswer.TheVariants as by

-- A writing job's machine: what it does next, whether it has to call a waker before that, and what
-- its writer did wrong first.
pub record WriteMachine (E : Type 0) : Type 0 where
  pub next : WriteAction
  pub is_waking : Bool
  pub fault : Option (JobFault E)

module _ {E : Type 0} where
  -- a job that hasn't begun
  abbrev pub new_write : WriteMachine E
  new_write = record { next = Peek; is_waking = false; fault = None }

  -- the next action
  abbrev pub write_next : WriteMachine E → WriteAction
  write_next core = wake_first core.is_waking Deliver core.next

  -- What follows an answer to this action. Bytes leave the pipe once the writer took them. A write
  -- that took none or failed, and a pipe that is drained, lead to the flush, and that leads to the
  -- close in any case. An answer to another action changes nothing.
  abbrev pub write_by : WriteAction → WriteAnswer E → Machine WriteAction
  write_by Peek (by.Peeked (suc count)) =
      machine (if nat_le (suc count) 65536 then Write (suc count) else Peek) false
  write_by Peek by.Drained = machine Flush false
  write_by (Write most) (by.Took zero) = machine Flush false
  write_by (Write most) (by.Took (suc count)) =
      machine (if nat_le (suc count) most then Consume (suc count) else Write most) false
  write_by (Write most) (by.Failed error) = machine Flush false
  write_by (Consume count) (by.Consumed woke) = machine Peek woke
  write_by Flush by.Flushed = machine Close false
  write_by Flush (by.Failed error) = machine Close false
  write_by Close (by.Closed woke) = machine Finish woke
  write_by Finish (by.Finished woke) = machine Done woke
  write_by action answer = machine action false

  -- what an answer to this action tells that the writer did wrong: a write took nothing, or it or a
  -- flush failed
  abbrev pub fault_in : WriteAction → WriteAnswer E → Option (JobFault E)
  fault_in (Write most) (by.Took zero) = Some WriteZero
  fault_in (Write most) (by.Failed error) = Some (Io error)
  fault_in Flush (by.Failed error) = Some (Io error)
  fault_in action answer = None

  -- of two faults the first counts
  abbrev pub first_fault : Option (JobFault E) → Option (JobFault E) → Option (JobFault E)
  first_fault None later = later
  first_fault (Some earlier) later = Some earlier

  -- a machine that has to call a waker waits for that alone
  abbrev pub write_after_wake : WriteAction → WriteAnswer E → Machine WriteAction
  write_after_wake action by.Delivered = machine action false
  write_after_wake action answer = machine action true

  abbrev pub write_in : Bool → WriteAction → WriteAnswer E → Machine WriteAction
  write_in true action answer = write_after_wake action answer
  write_in false action answer = write_by action answer

  abbrev pub noting : Machine WriteAction → Option (JobFault E) → WriteMachine E
  noting core fault = record { next = core.next; is_waking = core.is_waking; fault = fault }

  -- the machine after an answer
  abbrev pub write_after : WriteMachine E → WriteAnswer E → WriteMachine E
  write_after core answer = noting (write_in core.is_waking core.next answer)
      (first_fault core.fault (fault_in (write_next core) answer))
