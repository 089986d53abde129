use Rattle.std.proofs.Common.{refl, sym, ap, ◌∙◌, arith, slice_get}
use Rattle.blocking_world_state.proofs.Types.{OfTask}
use Rattle.blocking_world_state.proofs.Words.{NeverAsked, may_call_in, Parts}
use Rattle.blocking_world_state.specs.contracts.parts.Parts.{the_view}
use Rattle.blocking_world_state.proofs.moves.Lookups.{within_by}
use Rattle.blocking_world_state.proofs.moves.Steps.{idles, let_go_moves, tell_moves}
use Rattle.blocking_world_state.proofs.parts.Parts.of_task.Goals as goal

pub returns-then-not-may : goal.returns-then-not-may
returns-then-not-may c =
    let none =
    ap (λ (p : Parts). may_call_in (slice_get p.tasks c.args.number) c.args.call) c.self.view_is
    ∙ sym c.if-not-may.ensures in
    rw (sym c.self.view_is) (idles NeverAsked (the_view c.self.inside)
    (OfTask c.args.number c.args.call) _ c.nothing.result refl none c.nothing.ensures.event)

pub index_mut-task-requires : goal.index_mut-task-requires
index_mut-task-requires c =
    let some =
    ap (λ (p : Parts). may_call_in (slice_get p.tasks c.args.number) c.args.call) c.self.view_is
    ∙ sym c.if-not-may.ensures in
    let within = within_by (λ o. may_call_in o c.args.call) refl (the_view c.self.inside).tasks
    c.args.number some in
    let len = c.self.inside.tasks.ok.0 in
    omega (arith, within, len)

pub returns-in-Cancel : goal.returns-in-Cancel
returns-in-Cancel c =
    let some =
    ap (λ (p : Parts). may_call_in (slice_get p.tasks c.args.number) c.args.call) c.self.view_is
    ∙ sym c.if-not-may.ensures in
    rw (sym c.self.view_is)
    (let_go_moves (the_view c.self.inside) c.args.number c.args.call c.index_mut-task.result.now
    c.call-act.new.self c.call-act.result c.number.result c.let_go.result c.let_go.new.self
    c.in-Cancel.is some c.index_mut-task.ensures.value c.call-act.ensures.act
    c.call-act.ensures.after c.number.ensures c.let_go.ensures)

pub returns-in-Poll : goal.returns-in-Poll
returns-in-Poll c =
    let some =
    ap (λ (p : Parts). may_call_in (slice_get p.tasks c.args.number) c.args.call) c.self.view_is
    ∙ sym c.if-not-may.ensures in
    rw (sym c.self.view_is)
    (tell_moves (the_view c.self.inside) c.args.number c.args.call c.index_mut-task.result.now
    c.call-act.new.self c.call-act.result c.tell.result
    c.in-Poll.is some c.index_mut-task.ensures.value c.call-act.ensures.act c.call-act.ensures.after
    c.tell.ensures)
