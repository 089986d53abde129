use Rattle.std.proofs.Common.{get_or}
use Rattle.std.proofs.lemmas.Option.{slice_get-get_or}
use Rattle.blocking_world_state.proofs.moves.Holders.{call_acts, session_acts}
use Rattle.blocking_world_state.proofs.moves.Steps.{ok_map}
use Rattle.blocking_world_state.proofs.row.Core.act.Goals as goal

pub returns-else-place-tasks-clause-ok : goal.returns-else-place-tasks-clause-ok
returns-else-place-tasks-clause-ok c =
    rw (c.in-Call.is)
    (call_acts c.args.tasks.now c.args.owners.now c.in-Call.place c.in-Call.call
    c.act_for_task.new.call c.args.stage (get_or c.args.tasks.now c.in-Call.place
    c.index-tasks-place.result) c.act_for_task.new.task c.act_for_task.result
    (slice_get-get_or c.args.tasks.now c.in-Call.place c.index-tasks-place.result
    c.if-place-tasks.false) c.act_for_task.ensures)

pub returns-else-place-owners-clause-ok : goal.returns-else-place-owners-clause-ok
returns-else-place-owners-clause-ok c =
    rw (c.in-Session.is)
    (ok_map c.act_for_owner.result _ _ (λ seen does.
    session_acts c.args.tasks.now c.args.owners.now c.in-Session.place c.in-Session.job
    c.act_for_owner.new.job c.args.stage (get_or c.args.owners.now c.in-Session.place
    c.index-owners-place.result) c.act_for_owner.new.owner seen
    (slice_get-get_or c.args.owners.now c.in-Session.place c.index-owners-place.result
    c.if-place-owners.false) does) c.act_for_owner.ensures.ok)
