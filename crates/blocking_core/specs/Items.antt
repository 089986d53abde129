-- What the job of an iterator does after an answer.
use Rattle.std.specs.Prelude.{Bool, true, false}
use Rattle.blocking_core.specs.Machines.{Machine, machine, wake_first}
use Rattle.blocking_core.specs.declared.job.item.ItemAction.{ItemAction}
use Rattle.blocking_core.specs.declared.job.item.ItemAction.TheVariants.{Next, Send, Close, Finish}
use Rattle.blocking_core.specs.declared.job.item.ItemAction.TheVariants.{Deliver, Done}
use Rattle.blocking_core.specs.declared.job.item.ItemAnswer.{ItemAnswer}
use Rattle.blocking_core.specs.declared.job.item.ItemAnswer.TheVariants as by

-- a job that hasn't begun
abbrev pub new_item : Machine ItemAction
new_item = machine Next false

-- the next action
abbrev pub item_next : Machine ItemAction → ItemAction
item_next core = wake_first core.is_waking Deliver core.next

-- What follows an answer to this action. Each item that the iterator gave is sent before the next
-- is asked for, at a full pipe the same one once more; the iterator's end and a closed end lead to
-- the close of the job's own. An answer to another action changes nothing.
abbrev pub item_by : ItemAction → ItemAnswer → Machine ItemAction
item_by Next by.Gave = machine Send false
item_by Next by.Ended = machine Close false
item_by Send (by.Sent woke) = machine Next woke
item_by Send by.Parked = machine Send false
item_by Send by.Shut = machine Close false
item_by Close (by.Closed woke) = machine Finish woke
item_by Finish (by.Finished woke) = machine Done woke
item_by action answer = machine action false

-- a machine that has to call a waker waits for that alone
abbrev pub item_after_wake : ItemAction → ItemAnswer → Machine ItemAction
item_after_wake action by.Delivered = machine action false
item_after_wake action answer = machine action true

abbrev pub item_in : Bool → ItemAction → ItemAnswer → Machine ItemAction
item_in true action answer = item_after_wake action answer
item_in false action answer = item_by action answer

-- the machine after an answer
abbrev pub item_after : Machine ItemAction → ItemAnswer → Machine ItemAction
item_after core answer = item_in core.is_waking core.next answer
