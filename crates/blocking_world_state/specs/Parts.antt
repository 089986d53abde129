-- The parts of a world as contracts see them: the crew, the rows of its jobs, the tasks and the
-- owners, and what is found in them.
use Rattle.std.specs.Prelude.{ℕ, Bool, false, ◌==◌, ◌-◌, if◌then◌else◌, List, slice_get, refl}
use Rattle.std.specs.Prelude.{Option, Some, None}
use Rattle.std.specs.Coded.{Coded, code_by, coded×, coded_list}
use Rattle.blocking_world_pool.specs.Crews.{Crew, crew_code, hand_at}
use Rattle.blocking_world_pool.specs.declared.hand.Hand.{Hand}
use Rattle.blocking_world_pool.specs.declared.hand.Hand.TheVariants.{Holds}
use Rattle.blocking_world_pool.specs.declared.hand.JobInHand.{JobInHand}
use Rattle.blocking_world_holders.specs.Owners.{Owner, is_gone}
use Rattle.blocking_world_holders.specs.Tasks.{Task, has_let_go}
use Rattle.blocking_world_holders.specs.contracts.owner.Owner.{the_row as owners}
use Rattle.blocking_world_holders.specs.contracts.task.Task.{the_row as tasks}
use Rattle.blocking_world_laws.specs.Steps.{WorkerAction, NoNext}
use Rattle.blocking_world_state.specs.Rows.{Done, done, next_of, owner_in}
use Rattle.blocking_world_state.specs.contracts.row.Row.{the_row as rows}
use Rattle.blocking_world_state.specs.declared.parts.JobAt.{JobAt}
use Rattle.blocking_world_state.specs.declared.row.Core.{Core}
use Rattle.blocking_world_state.specs.declared.row.Core.TheVariants as core
use Rattle.blocking_world_state.specs.declared.row.Row.{Row}

-- The parts: the crew, the rows of the jobs from 1 on, the tasks from 0 on, and the owners from 0
-- on.
pub record Parts : Type 0 where
  pub crew : Crew
  pub rows : List Row
  pub tasks : List Task
  pub owners : List Owner

abbrev pub parts_code : Coded Parts
parts_code =
    code_by (Crew × (List Row × (List Task × List Owner))) (coded× crew_code (coded×
    (coded_list rows.coded) (coded× (coded_list tasks.coded) (coded_list owners.coded))))
    (λ w. (w.crew, (w.rows, (w.tasks, w.owners)))) (λ parts. record {
      crew = parts.0;
      rows = parts.1.0;
      tasks = parts.1.1.0;
      owners = parts.1.1.1;
    }) (λ _. refl)

-- the row of the job of this serial
abbrev pub row_of : List Row → ℕ → Option Row
row_of rows serial = if serial == 0 then None else slice_get rows (serial - 1)

-- the owner whose job that is
abbrev pub owner_by : Option Row → Option ℕ
owner_by None = None
owner_by (Some row) = owner_in row.core

-- the owner whose job that of an event is, if the event is of a job of an owner
abbrev pub owner_of : List Row → Option ℕ → Option ℕ
owner_of all None = None
owner_of all (Some serial) = owner_by (row_of all serial)

-- ---- the job in a hand

-- A job in a hand, with its row.
pub record InHand : Type 0 where
  pub held : JobInHand
  pub row : Row

-- the job in a hand with its row, where the row is there
abbrev pub job_with : JobInHand → Option Row → Option InHand
job_with held None = None
job_with held (Some row) = Some (record { held = held; row = row })

-- the same of any hand
abbrev pub job_in : List Row → Hand → Option InHand
job_in all (Holds held) = job_with held (row_of all held.turn.serial)
job_in all hand = None

-- the job in the hand of this worker, where its row is there
abbrev pub job_at : Parts → ℕ → Option InHand
job_at w worker = job_in w.rows (hand_at w.crew.hands worker)

-- the place of its row, and how far it is in its turn
abbrev pub places_of : InHand → JobAt
places_of job = record { row = job.held.turn.serial - 1; stage = job.held.stage }

-- the next action of the worker of such a job
abbrev pub next_in : Option InHand → WorkerAction
next_in None = NoNext
next_in (Some job) = next_of job.held.stage job.row.core

-- the next action of this worker
abbrev pub next_at : Parts → ℕ → WorkerAction
next_at w worker = next_in (job_at w worker)

-- what the job in the hand of this worker does next that is its own to do
abbrev pub done_by : Parts → InHand → Option Done
done_by w job = done job.held.stage job.row.core w.tasks w.owners

-- the same of a hand that may hold no job
abbrev pub done_in : Parts → Option InHand → Option Done
done_in w None = None
done_in w (Some job) = done_by w job

-- ---- who let a job go

-- whether there is such a task, and it has let its job go; and the same of an owner, which lets it
-- go by its drop
abbrev pub task_let_go : Option Task → Bool
task_let_go None = false
task_let_go (Some task) = has_let_go task.stage

-- (of an owner)
abbrev pub owner_let_go : Option Owner → Bool
owner_let_go None = false
owner_let_go (Some owner) = is_gone owner.stage

-- whether the task or the owner of a job is there, and has let go of it
abbrev pub let_go_of : Parts → Core → Bool
let_go_of w (core.Call k call) = task_let_go (slice_get w.tasks k)
let_go_of w (core.Session h job) = owner_let_go (slice_get w.owners h)

-- the same, where there is such a job
abbrev pub let_go_by : Parts → Option Row → Bool
let_go_by w None = false
let_go_by w (Some row) = let_go_of w row.core
