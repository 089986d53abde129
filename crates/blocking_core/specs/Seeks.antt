-- What a seeking job does after an answer.
use Rattle.std.specs.Prelude.{Bool, true, false}
use Rattle.blocking_core.specs.Machines.{Machine, machine, wake_first}
use Rattle.blocking_core.specs.declared.job.seek.SeekAction.{SeekAction}
use Rattle.blocking_core.specs.declared.job.seek.SeekAction.TheVariants.{Seek, Finish, Deliver}
use Rattle.blocking_core.specs.declared.job.seek.SeekAction.TheVariants.{Done}
use Rattle.blocking_core.specs.declared.job.seek.SeekAnswer.{SeekAnswer}
use Rattle.blocking_core.specs.declared.job.seek.SeekAnswer.TheVariants as by

-- a job that hasn't begun
abbrev pub new_seek : Machine SeekAction
new_seek = machine Seek false

-- the next action
abbrev pub seek_next : Machine SeekAction → SeekAction
seek_next core = wake_first core.is_waking Deliver core.next

-- What follows an answer to this action. A seek is made once, and what came of it, a position or a
-- fault, goes into the slot. An answer to another action changes nothing.
abbrev pub seek_by : SeekAction → SeekAnswer → Machine SeekAction
seek_by Seek by.Sought = machine Finish false
seek_by Seek by.Failed = machine Finish false
seek_by Finish (by.Finished woke) = machine Done woke
seek_by action answer = machine action false

-- a machine that has to call a waker waits for that alone
abbrev pub seek_after_wake : SeekAction → SeekAnswer → Machine SeekAction
seek_after_wake action by.Delivered = machine action false
seek_after_wake action answer = machine action true

abbrev pub seek_in : Bool → SeekAction → SeekAnswer → Machine SeekAction
seek_in true action answer = seek_after_wake action answer
seek_in false action answer = seek_by action answer

-- the machine after an answer
abbrev pub seek_after : Machine SeekAction → SeekAnswer → Machine SeekAction
seek_after core answer = seek_in core.is_waking core.next answer
