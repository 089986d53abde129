-- What a reading job does after an answer.
use Rattle.std.specs.Prelude.{zero, suc, min, nat_le, if◌then◌else◌, Bool, true, false}
use Rattle.blocking_core.specs.Machines.{Machine, machine, wake_first}
use Rattle.blocking_core.specs.declared.job.read.ReadAction.{ReadAction}
use Rattle.blocking_core.specs.declared.job.read.ReadAction.TheVariants.{FindRoom, Read, Put, Close}
use Rattle.blocking_core.specs.declared.job.read.ReadAction.TheVariants.{Finish, Deliver, Done}
use Rattle.blocking_core.specs.declared.job.read.ReadAnswer.{ReadAnswer}
use Rattle.blocking_core.specs.declared.job.read.ReadAnswer.TheVariants as by

-- a job that hasn't begun
abbrev pub new_read : Machine ReadAction
new_read = machine FindRoom false

-- the next action
abbrev pub read_next : Machine ReadAction → ReadAction
read_next core = wake_first core.is_waking Deliver core.next

-- What follows an answer to this action. The reader is asked for a piece that fits; no bytes, a
-- fault and a closed end lead to the close of the job's own. An answer to another action changes
-- nothing.
abbrev pub read_by : ReadAction → ReadAnswer → Machine ReadAction
read_by FindRoom (by.Free (suc room)) = machine (Read (min (suc room) 65536)) false
read_by FindRoom by.Shut = machine Close false
read_by (Read most) (by.Gave zero) = machine Close false
read_by (Read most) (by.Gave (suc count)) =
    machine (if nat_le (suc count) most then Put (suc count) else Read most) false
read_by (Read most) by.Failed = machine Close false
read_by (Put count) (by.Put woke) = machine FindRoom woke
read_by (Put count) by.Lost = machine Close false
read_by Close (by.Closed woke) = machine Finish woke
read_by Finish (by.Finished woke) = machine Done woke
read_by action answer = machine action false

-- a machine that has to call a waker waits for that alone
abbrev pub read_after_wake : ReadAction → ReadAnswer → Machine ReadAction
read_after_wake action by.Delivered = machine action false
read_after_wake action answer = machine action true

abbrev pub read_in : Bool → ReadAction → ReadAnswer → Machine ReadAction
read_in true action answer = read_after_wake action answer
read_in false action answer = read_by action answer

-- the machine after an answer
abbrev pub read_after : Machine ReadAction → ReadAnswer → Machine ReadAction
read_after core answer = read_in core.is_waking core.next answer
