use Rattle.std.proofs.Common.{◌≡◌, true, subst, refl, sym, ap, ◌∙◌, arith, option_map}
use Rattle.blocking_world_state.proofs.Types.{Answered, Io, Row}
use Rattle.blocking_world_state.proofs.Words.{is_answered_action, NeverAsked, Parts, job_at}
use Rattle.blocking_world_state.proofs.Words.{places_of}
use Rattle.blocking_world_pool.specs.Moves as crew
use Rattle.blocking_world_state.specs.Rows.{next_of}
use Rattle.blocking_world_state.specs.contracts.parts.Parts.{the_view}
use Rattle.blocking_world_state.proofs.moves.Jobs.{row_within, row_read, io_does, next_placed}
use Rattle.blocking_world_state.proofs.moves.Jobs.{none_next}
use Rattle.blocking_world_state.proofs.moves.Steps.{idles}
use Rattle.blocking_world_state.proofs.parts.Parts.io.Goals as goal

pub returns-in_default-clause-ok : goal.returns-in_default-clause-ok
returns-in_default-clause-ok c =
    let none = c.in_default.ensures
    ∙ ap (λ (p : Parts). option_map places_of (job_at p c.args.worker)) (sym c.self.view_is) in
    rw (sym c.self.view_is)
    (idles NeverAsked (the_view c.self.inside) (Io c.args.worker c.args.answer) _
    c.nothing.result refl (ap (λ next. is_answered_action next c.args.answer)
    (none_next (the_view c.self.inside) c.args.worker none)) c.nothing.ensures.event)

pub index-requires : goal.index-requires
index-requires c =
    let found = c.in-Some.ensures
    ∙ ap (λ (p : Parts). option_map places_of (job_at p c.args.worker)) (sym c.self.view_is) in
    let within = row_within (the_view c.self.inside) c.args.worker c.in-Some.job found in
    let len = c.self.inside.rows.ok.0 in
    omega (arith, within, len)

pub returns-then-not-may_be_answered-clause-ok : goal.returns-then-not-may_be_answered-clause-ok
returns-then-not-may_be_answered-clause-ok c =
    let found = c.in-Some.ensures
    ∙ ap (λ (p : Parts). option_map places_of (job_at p c.args.worker)) (sym c.self.view_is) in
    rw (sym c.self.view_is)
    (idles NeverAsked (the_view c.self.inside) (Io c.args.worker c.args.answer) _
    c.nothing-then-not-may_be_answered.result refl
    (ap (λ next. is_answered_action next c.args.answer) (next_placed (the_view c.self.inside)
    c.args.worker c.in-Some.job found c.index.result.now c.index.ensures)
    ∙ sym c.if-not-may_be_answered.ensures)
    c.nothing-then-not-may_be_answered.ensures.event)

pub returns-clause-ok : goal.returns-clause-ok
returns-clause-ok c =
    let found = c.in-Some.ensures
    ∙ ap (λ (p : Parts). option_map places_of (job_at p c.args.worker)) (sym c.self.view_is) in
    let one = row_read (the_view c.self.inside) c.args.worker c.in-Some.job found c.index.result.now
    c.index.ensures in
    let same = sym one ∙ row_read (the_view c.self.inside) c.args.worker c.in-Some.job found
    c.index_mut.result.now c.index_mut.ensures.value in
    let answers = subst (λ (row : Row). is_answered_action (next_of c.in-Some.job.stage row.core)
    c.args.answer ≡ true) same (sym c.if-not-may_be_answered.ensures) in
    rw (sym c.self.view_is)
    (io_does (the_view c.self.inside) c.args.worker c.args.answer
    c.in-Some.job c.index_mut.result.now c.answer.new.self c.work.result c.work.new.self found
    c.index_mut.ensures.value answers c.answer.ensures
    (subst (λ answer. crew.Moves NeverAsked (crew.Work c.args.worker (Answered answer))
    (the_view c.self.inside).crew c.work.result c.work.new.self) c.in_ok-told.ensures.same
    c.work.ensures))
