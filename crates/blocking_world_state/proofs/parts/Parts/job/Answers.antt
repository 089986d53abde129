use Rattle.std.proofs.Common.{subst, Some, None, refl, sym, ap, ◌∙◌, arith, option_map, slice_set}
use Rattle.std.specs.Vec.{with_items}
use Rattle.std.proofs.lemmas.List.{with_items_is}
use Rattle.blocking_world_state.proofs.Types.{Job, Row}
use Rattle.blocking_world_state.proofs.Words.{NeverAsked, Moves, Parts, job_at, places_of, done}
use Rattle.blocking_world_state.proofs.Words.{IsDone}
use Rattle.blocking_world_state.specs.contracts.parts.Parts.{the_view}
use Rattle.blocking_world_state.proofs.moves.Jobs.{none_done, job_acts, job_rests}
use Rattle.blocking_world_state.proofs.moves.Holders.{same_lengths}
use Rattle.blocking_world_state.proofs.moves.Steps.{idles}
use Rattle.blocking_world_state.proofs.parts.Parts.job.Goals as goal

pub returns-in_default-clause-ok : goal.returns-in_default-clause-ok
returns-in_default-clause-ok c =
    let none = c.in_default.ensures
    ∙ ap (λ (p : Parts). option_map places_of (job_at p c.args.worker)) (sym c.self.view_is) in
    rw (sym c.self.view_is)
    (idles NeverAsked (the_view c.self.inside) (Job c.args.worker) _ c.nothing.result refl
    (none_done (the_view c.self.inside) c.args.worker none) c.nothing.ensures.event)

pub returns-in-None-clause-ok : goal.returns-in-None-clause-ok
returns-in-None-clause-ok c =
    let w = the_view c.self.inside in
    let found = c.in-Some.ensures
    ∙ ap (λ (p : Parts). option_map places_of (job_at p c.args.worker)) (sym c.self.view_is) in
    let done : IsDone (done c.in-Some.job.stage c.index_mut.result.now.core w.tasks w.owners)
    c.index_mut.result.now.core w.tasks w.owners None c.act.new.self c.act.new.tasks
    c.act.new.owners =
    rw (← c.deref_mut.ensures.value, ← c.deref_mut-2.ensures.value, ← c.in-None.is)
    c.in_ok-act.ensures.ok in
    let many = same_lengths c.in-Some.job.stage c.index_mut.result.now.core w.tasks w.owners None
    c.act.new.self c.act.new.tasks c.act.new.owners done in
    let tasks_len = many.0 in
    let owners_len = many.1 in
    let tasks_fit = c.self.inside.tasks.ok.0 in
    let owners_fit = c.self.inside.owners.ok.0 in
    let row : Row = record c.index_mut.result.now { core = c.act.new.self } in
    rw (sym c.self.view_is)
    (subst (λ owners. Moves NeverAsked (Job c.args.worker) w c.nothing-in-None.result
    (record {
      crew = w.crew;
      rows = slice_set w.rows c.in-Some.job.row row;
      tasks = (with_items c.self.inside.tasks c.act.new.tasks).items;
      owners = owners;
    }))
    (sym (with_items_is c.self.inside.owners c.act.new.owners
    (omega (arith, owners_len, owners_fit))))
    (subst (λ tasks. Moves NeverAsked (Job c.args.worker) w c.nothing-in-None.result
    (record {
      crew = w.crew;
      rows = slice_set w.rows c.in-Some.job.row row;
      tasks = tasks;
      owners = c.act.new.owners;
    })) (sym (with_items_is c.self.inside.tasks
    c.act.new.tasks (omega (arith, tasks_len, tasks_fit))))
    (job_rests w c.args.worker c.in-Some.job c.index_mut.result.now
    c.act.new.self c.act.new.tasks c.act.new.owners c.nothing-in-None.result
    found (record { at_row = c.index_mut.ensures.value; is_done = done })
    c.nothing-in-None.ensures.event)))

pub returns-in-Some-2-clause-ok : goal.returns-in-Some-2-clause-ok
returns-in-Some-2-clause-ok c =
    let w = the_view c.self.inside in
    let found = c.in-Some.ensures
    ∙ ap (λ (p : Parts). option_map places_of (job_at p c.args.worker)) (sym c.self.view_is) in
    let done : IsDone (done c.in-Some.job.stage c.index_mut.result.now.core w.tasks w.owners)
    c.index_mut.result.now.core w.tasks w.owners (Some c.in-Some-2.act) c.act.new.self
    c.act.new.tasks c.act.new.owners =
    rw (← c.deref_mut.ensures.value, ← c.deref_mut-2.ensures.value, ← c.in-Some-2.is)
    c.in_ok-act.ensures.ok in
    let many = same_lengths c.in-Some.job.stage c.index_mut.result.now.core w.tasks w.owners
    (Some c.in-Some-2.act) c.act.new.self c.act.new.tasks c.act.new.owners done in
    let tasks_len = many.0 in
    let owners_len = many.1 in
    let tasks_fit = c.self.inside.tasks.ok.0 in
    let owners_fit = c.self.inside.owners.ok.0 in
    let row : Row = record c.index_mut.result.now { core = c.act.new.self } in
    rw (sym c.self.view_is)
    (subst (λ owners. Moves NeverAsked (Job c.args.worker) w c.work.result
    (record {
      crew = c.work.new.self;
      rows = slice_set w.rows c.in-Some.job.row row;
      tasks = (with_items c.self.inside.tasks c.act.new.tasks).items;
      owners = owners;
    }))
    (sym (with_items_is c.self.inside.owners c.act.new.owners
    (omega (arith, owners_len, owners_fit))))
    (subst (λ tasks. Moves NeverAsked (Job c.args.worker) w c.work.result
    (record {
      crew = c.work.new.self;
      rows = slice_set w.rows c.in-Some.job.row row;
      tasks = tasks;
      owners = c.act.new.owners;
    })) (sym (with_items_is c.self.inside.tasks
    c.act.new.tasks (omega (arith, tasks_len, tasks_fit))))
    (job_acts w c.args.worker c.in-Some.job c.index_mut.result.now c.act.new.self
    c.act.new.tasks c.act.new.owners c.in-Some-2.act c.work.result c.work.new.self found
    (record { at_row = c.index_mut.ensures.value; is_done = done }) c.work.ensures)))
