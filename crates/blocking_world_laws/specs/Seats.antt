-- The seats: who waits where. A poll that waits seats its waker; the act that answers it takes the
-- waker out, and bears the wake.
use Rattle.std.specs.Prelude.{Bool, true, false, List, [], ◌∷◌}
use Rattle.blocking_world_laws.specs.declared.event.Act.{Act}
use Rattle.blocking_world_laws.specs.declared.event.Act.TheVariants.{Waits, Finished, GaveUp}
use Rattle.blocking_world_laws.specs.declared.event.Event.{Event}
use Rattle.blocking_world_laws.specs.declared.event.HolderWaker.{HolderWaker}
use Rattle.blocking_world_laws.specs.declared.event.HolderWaker.TheVariants.{Taken, Absent}

-- whether a waker is seated after an act. Nothing else empties a seat: no cancel, no detaching, no
-- drop of the task.
abbrev pub seated_by : Act → Bool → Bool
seated_by Waits before = true
seated_by (Finished waker) before = false
seated_by (GaveUp waker) before = false
seated_by _ before = before

-- whether a task's waker is seated, by its cut
abbrev pub task_seat : List Event → Bool
task_seat [] = false
task_seat (now ∷ cut) = seated_by now.act (task_seat cut)

-- what a job finds in its holder's seat, by whether a waker is seated there
abbrev pub waker_in : Bool → HolderWaker
waker_in true = Taken
waker_in false = Absent
