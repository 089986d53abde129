use Rattle.std.proofs.Common.{sym, ap, ◌∙◌, ◌-◌, Some, option_map}
use Rattle.blocking_world_state.proofs.Words.{Parts, row_of, places_of}
use Rattle.blocking_world_state.specs.contracts.parts.Parts.{the_view}
use Rattle.blocking_world_state.proofs.moves.Jobs.{job_by_row}
use Rattle.blocking_world_state.proofs.parts.Parts.job_at.Goals as goal

pub returns : goal.returns
returns c =
    let w = the_view c.self.inside in
    let found = sym (c.in-Some.ensures ∙ ap (λ (p : Parts). row_of p.rows c.serial-serial.result)
    (sym c.self.view_is) ∙ ap (row_of w.rows) c.serial-serial.ensures) in
    rw (sym c.self.view_is)
    (ap (λ n. Some (record { row = n - 1; stage = c.in_ok-in_hand.in_hand.stage }))
    c.serial-serial.ensures
    ∙ sym (ap (option_map places_of) (job_by_row w c.args.worker c.in_ok-in_hand.in_hand
    (Some c.in-Some._row.now) c.in_ok-in_hand.ensures found)))
