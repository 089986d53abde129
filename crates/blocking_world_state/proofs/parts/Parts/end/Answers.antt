use Rattle.std.proofs.Common.{refl, sym, ap, ◌∙◌, arith, option_map}
use Rattle.blocking_world_state.proofs.Types.{End}
use Rattle.blocking_world_state.proofs.Words.{is_turn_end, NeverAsked, Parts, job_at, places_of}
use Rattle.blocking_world_state.proofs.Words.{let_go_of}
use Rattle.blocking_world_pool.specs.Moves as crew
use Rattle.blocking_world_state.specs.contracts.parts.Parts.{the_view}
use Rattle.blocking_world_state.proofs.moves.Jobs.{row_within, next_placed, none_next, parked, due}
use Rattle.blocking_world_state.proofs.moves.Steps.{idles, passes}
use Rattle.blocking_world_state.proofs.parts.Parts.end.Goals as goal

pub returns-in_default : goal.returns-in_default
returns-in_default c =
    let none = c.in_default.ensures
    ∙ ap (λ (p : Parts). option_map places_of (job_at p c.args.worker)) (sym c.self.view_is) in
    rw (sym c.self.view_is) (idles NeverAsked
    (the_view c.self.inside) (End c.args.worker) _ c.nothing.result refl (ap is_turn_end
    (none_next (the_view c.self.inside) c.args.worker none)) c.nothing.ensures.event)

pub index-row-requires : goal.index-row-requires
index-row-requires c =
    let found = c.in-Some.ensures
    ∙ ap (λ (p : Parts). option_map places_of (job_at p c.args.worker)) (sym c.self.view_is) in
    let within = row_within (the_view c.self.inside) c.args.worker c.in-Some.job found in
    let len = c.self.inside.rows.ok.0 in
    omega (arith, within, len)

pub returns-then-not-is_ending : goal.returns-then-not-is_ending
returns-then-not-is_ending c =
    let found = c.in-Some.ensures
    ∙ ap (λ (p : Parts). option_map places_of (job_at p c.args.worker)) (sym c.self.view_is) in
    rw (sym c.self.view_is)
    (idles NeverAsked (the_view c.self.inside) (End c.args.worker) _
    c.nothing-then-not-is_ending.result refl
    (ap is_turn_end (next_placed (the_view c.self.inside) c.args.worker c.in-Some.job
    found c.index-row.result.now c.index-row.ensures) ∙ sym c.if-not-is_ending.ensures)
    c.nothing-then-not-is_ending.ensures.event)

pub returns-in-Waits : goal.returns-in-Waits
returns-in-Waits c =
    let found = c.in-Some.ensures
    ∙ ap (λ (p : Parts). option_map places_of (job_at p c.args.worker)) (sym c.self.view_is) in
    rw (sym c.self.view_is)
    (parked (the_view c.self.inside) c.args.worker c.in-Some.job c.index-row.result.now
    c.has_let_go-is_marked.result c.park.result c.park.new.self found c.index-row.ensures
    c.in-Waits.is
    (c.has_let_go-is_marked.ensures ∙ ap (λ (p : Parts). let_go_of p c.index-row.result.now.core)
    (sym c.self.view_is)) c.park.ensures)

pub returns : goal.returns
returns c =
    let found = c.in-Some.ensures
    ∙ ap (λ (p : Parts). option_map places_of (job_at p c.args.worker)) (sym c.self.view_is) in
    rw (sym c.self.view_is)
    (passes NeverAsked (the_view c.self.inside) (crew.End c.args.worker) c.end.result c.end.new.self
    refl
    (due (the_view c.self.inside) c.args.worker c.in-Some.job c.index-row.result.now
    found c.index-row.ensures (sym c.if-not-is_ending.ensures) c.in_default-stage.not-Waits)
    c.end.ensures)
