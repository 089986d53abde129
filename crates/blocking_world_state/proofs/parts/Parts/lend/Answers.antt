use Rattle.std.proofs.Common.{◌≡◌, ◌++◌, ◌∷◌, ◌<◌, [], length, sym, ap, ◌∙◌, subst, Some, IfSome}
use Rattle.std.proofs.Common.{slice_get, slice_set}
use Rattle.blocking_world_state.proofs.Types.{ByOwner, Own}
use Rattle.blocking_world_state.proofs.Words.{NeverAsked, empty_pipe, Owner, next_of, new_job_of}
use Rattle.blocking_world_state.proofs.Words.{capacity_asked, goods_asked, owner_after_begin}
use Rattle.blocking_world_state.proofs.Words.{pipe_in, rows_after_add, lent_step, Moves, Parts}
use Rattle.blocking_world_state.proofs.Words.{session_row}
use Rattle.blocking_world_pool.specs.Moves as crew
use Rattle.blocking_world_holders.specs.OwnerSteps as owners_steps
use Rattle.blocking_world_holders.specs.declared.owner.OwnerNext.TheVariants as next
use Rattle.blocking_world_state.specs.contracts.parts.Parts.{the_view}
use Rattle.blocking_world_state.proofs.moves.Lookups.{one_found}
use Rattle.blocking_world_state.proofs.moves.Steps.{lent, found_at, moves_more}
use Rattle.blocking_world_state.proofs.parts.Parts.lend.Goals as goal
use Rattle.blocking_world_state.proofs.parts.Parts.lend.Goals.{in-Ok-number, in-Err}

pub returns-clause-ok : goal.returns-clause-ok
returns-clause-ok g c =
    let w = the_view c.self.inside in
    let may_answer = g.S.Starter.may_answer c.args.starter.now in
    let old = c.index_mut-owner.result.now in
    let within : c.args.place < length w.owners = subst
    (λ (p : Parts). c.args.place < length p.owners) (sym c.self.view_is) c.requires.there in
    let found : slice_get w.owners c.args.place ≡ Some old =
    found_at w.owners c.args.place old within c.index_mut-owner.ensures.value in
    let same : c.index.result.now ≡ old =
    one_found (slice_get w.owners c.args.place) c.index.result.now old
    (found_at w.owners c.args.place c.index.result.now within c.index.ensures) found in
    let again : c.index-2.result.now ≡ old =
    one_found (slice_get w.owners c.args.place) c.index-2.result.now old
    (found_at w.owners c.args.place c.index-2.result.now within c.index-2.ensures) found in
    let whose : c.client-client.result ≡ old.client =
    c.client-client.ensures ∙ ap (λ (o : Owner). o.client) again in
    let does = subst (λ client.
    crew.Moves may_answer (crew.Add (ByOwner c.args.place) client c.add-added.result.number)
    w.crew c.add-added.result.event c.add-added.new.self) whose c.add-added.ensures in
    let begins : next_of old ≡ next.Begins =
    subst (λ o. IfSome o (λ (owner : Owner). next_of owner ≡ next.Begins))
    found (subst (λ (p : Parts). IfSome (slice_get p.owners c.args.place) (λ (owner : Owner).
    next_of owner ≡ next.Begins)) (sym c.self.view_is) c.requires.begins) in
    let done : Moves may_answer (Own c.args.place) w c.add-added.result.event c.match-added.self =
    elim c.match-added.branch [
      | in-Ok-number b ↦
          subst (Moves may_answer (Own c.args.place) w c.add-added.result.event) (sym b.self-is)
          (lent may_answer w c.args.place old c.add-added.result.number b.put.new.rows.items
          (slice_set w.owners c.args.place b.begin.new.self) c.add-added.result.event
          c.add-added.new.self found begins does
          (b.put.ensures ∙ ap (λ l. l ++ b.of_session.result ∷ []) c.reserve.ensures.items
          ∙ ap (λ row. w.rows ++ row ∷ []) (b.of_session.ensures
          ∙ ap (session_row b.in-Ok-number.number c.args.place) b.new_job-job.ensures)
          ∙ sym (ap (rows_after_add w.rows
          (λ number. session_row number c.args.place (new_job_of old))) b.in-Ok-number.is))
          (ap (slice_set w.owners c.args.place)
          (b.begin.ensures ∙ ap (λ goods. owner_after_begin b.in-Ok-number.number goods
          (pipe_in c.in-Ok.passage) old) (c.in-Ok.ensures.goods ∙ ap goods_asked same)
          ∙ ap (λ pipe. owner_after_begin b.in-Ok-number.number (goods_asked old) pipe old)
          (c.in-Ok.ensures.pipe ∙ ap (λ (o : Owner). empty_pipe (capacity_asked o)) same))
          ∙ sym (ap (λ a. slice_set w.owners c.args.place
          (owners_steps.owner_after (lent_step a) old)) b.in-Ok-number.is)))
      | in-Err b ↦
          subst (Moves may_answer (Own c.args.place) w c.add-added.result.event) (sym b.self-is)
          (lent may_answer w c.args.place old c.add-added.result.number c.reserve.new.self.items
          (slice_set w.owners c.args.place b.refuse-in-Err.new.self) c.add-added.result.event
          c.add-added.new.self found begins does
          (c.reserve.ensures.items ∙ sym (ap (rows_after_add w.rows
          (λ number. session_row number c.args.place (new_job_of old))) b.in-Err.is))
          (ap (slice_set w.owners c.args.place) b.refuse-in-Err.ensures
          ∙ sym (ap (λ a. slice_set w.owners c.args.place
          (owners_steps.owner_after (lent_step a) old)) b.in-Err.is)))
    ] in
    rw (sym c.self.view_is) done

pub returns-in_default-clause-ok : goal.returns-in_default-clause-ok
returns-in_default-clause-ok g c =
    let w = the_view c.self.inside in
    let may_answer = g.S.Starter.may_answer c.args.starter.now in
    let reserved : Parts = record w { rows = c.reserve.new.self.items } in
    let done : Moves may_answer (Own c.args.place) reserved c.refuse.result c.refuse.new.self =
    moves_more may_answer NeverAsked (λ n b never. absurd never) (Own c.args.place) reserved
    c.refuse.result c.refuse.new.self c.refuse.ensures in
    rw (sym c.self.view_is)
    (subst (λ rows. Moves may_answer (Own c.args.place) (record w { rows = rows })
    c.refuse.result c.refuse.new.self) c.reserve.ensures.items done)
