use Rattle.std.proofs.Common.{◌≡◌, ◌++◌, ◌∷◌, [], length, sym, ap, ◌∙◌, arith, subst}
use Rattle.blocking_world_state.proofs.Types.{Spawn}
use Rattle.blocking_world_state.proofs.Words.{rows_after_add, tasks_after_add, Moves, call_row}
use Rattle.blocking_world_state.specs.contracts.parts.Parts.{the_view}
use Rattle.blocking_world_state.proofs.moves.Steps.{begun, put_last}
use Rattle.blocking_world_state.proofs.parts.Parts.spawn.Goals as goal
use Rattle.blocking_world_state.proofs.parts.Parts.spawn.Goals.{in-Ok, in-Err}

pub returns-clause-ok : goal.returns-clause-ok
returns-clause-ok g c =
    let w = the_view c.self.inside in
    let may_answer = g.S.Starter.may_answer c.args.starter.now in
    let kept_rows = c.reserve.ensures.items in
    let kept_tasks = c.reserve-2.ensures.items in
    let room_tasks = c.in_ok-reserve-2.ensures.ok in
    let done : Moves may_answer (Spawn c.args.client) w c.add-added.result.event
    c.match-added.self = elim c.match-added.branch [
      | in-Ok b ↦
          (let told = b.len.ensures in
          let is_length = c.reserve-2.new.self.ok.0 in
          let same = ap length kept_tasks in
          let many : b.len.result ≡ length w.tasks = omega (arith, told, is_length, same) in
          let rows = b.put.ensures ∙ ap (λ l. l ++ b.of_call.result ∷ []) kept_rows in
          let tasks = put_last b.push.result
          w.tasks c.reserve-2.new.self.items b.push.new.self.items b.new.result kept_tasks
          (b.push.ensures.succeeds (omega (arith, room_tasks))) b.push.ensures.items in
          subst (Moves may_answer (Spawn c.args.client) w c.add-added.result.event) (sym b.self-is)
          (begun may_answer w c.args.client c.add-added.result.number b.put.new.rows.items
          b.push.new.self.items c.add-added.result.event c.add-added.new.self
          c.add-added.ensures
          (rows ∙ ap (λ row. w.rows ++ row ∷ [])
          (b.of_call.ensures ∙ ap (call_row b.in-Ok.number) many) ∙ sym (ap
          (rows_after_add w.rows (λ number. call_row number (length w.tasks))) b.in-Ok.is))
          (tasks ∙ ap (λ task. w.tasks ++ task ∷ []) b.new.ensures
          ∙ sym (ap (tasks_after_add w.tasks) b.in-Ok.is))))
      | in-Err b ↦
          subst (Moves may_answer (Spawn c.args.client) w c.add-added.result.event) (sym b.self-is)
          (begun may_answer w c.args.client c.add-added.result.number c.reserve.new.self.items
          c.reserve-2.new.self.items c.add-added.result.event c.add-added.new.self
          c.add-added.ensures
          (kept_rows ∙ sym (ap (rows_after_add w.rows (λ number. call_row number (length w.tasks)))
          b.in-Err.is)) (kept_tasks ∙ sym (ap (tasks_after_add w.tasks) b.in-Err.is)))
    ] in
    rw (sym c.self.view_is) done
