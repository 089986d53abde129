use Rattle.std.proofs.Common.{◌≡◌, Option, arith}
use Rattle.blocking_world_state.proofs.Types.{Act, SessionJob}
use Rattle.blocking_world_state.proofs.Words.{act_of_work, owner_after_work, job_after_work, Owner}
use Rattle.blocking_world_state.proofs.Words.{Worked, worked, IsWorked}
use Rattle.blocking_world_state.proofs.moves.Steps.{ok_map}
use Rattle.blocking_world_state.proofs.row.act_for_owner.Goals as goal

-- what a job did at its owner is the step of that owner
works : (done : Option Worked) (job new_job : SessionJob) (owner new_owner : Owner)
    (seen : Option Act) → IsWorked done job owner seen new_job new_owner
    → (seen ≡ act_of_work done) × (new_job ≡ job_after_work done job)
    × (new_owner ≡ owner_after_work done owner)
works done job new_job owner new_owner seen does = grind arith

pub returns-in-Runs-clause-ok : goal.returns-in-Runs-clause-ok
returns-in-Runs-clause-ok c =
    rw (c.in-Runs.is)
    (ok_map c.work.result _ _ (λ seen does. works (worked c.args.job.now c.args.owner.now)
    c.args.job.now c.work.new.job c.args.owner.now c.work.new.self seen does)
    c.work.ensures.ok)
