use Rattle.std.proofs.Common.{rules, ◌≡◌, ◌+◌, ◌++◌, ◌∷◌, [], List, Result, is_ok, true}
use Rattle.std.proofs.Common.{if◌then◌else◌, length, take, arith, ap, sym, subst, ◌∙◌}
use Rattle.std.proofs.lemmas.List.{take_more, length-append}
use Rattle.std.proofs.lemmas.Result.{err_from_is_err_and}
use Rattle.blocking_world.specs.Runs.{StopsShort}
use Rattle.blocking_world_laws.specs.declared.event.Event.{Event}
use Rattle.blocking_world_laws.specs.declared.step.Step.{Step}
use Rattle.blocking_world.proofs.Runs.{Taken, taken_more, taken_fewer}
use Rattle.blocking_world.proofs.world.take_all.Goals as goal

-- what fits stands at the end
put_at_end : {A B : Type 0} (r : Result A B) (old new : List Event) (event : Event) → is_ok r ≡ true
    → new ≡ (if is_ok r then old ++ event ∷ [] else old) → new ≡ old ++ event ∷ []
put_at_end r old new event ok is = is ∙ ap (λ b. if b then old ++ event ∷ [] else old) ok

-- the world stands where the steps so far left it
pub returns-in_err-event-clause-err : goal.returns-in_err-event-clause-err
returns-in_err-event-clause-err c =
    let p = err_from_is_err_and c.from_residual-in_err-event.result
    c.from_residual-in_err-event.ensures.1 in
    let less = c.loop-step-test.true in
    rw (p.1) (subst (λ world. StopsShort c.args.steps.now c.args.world.now.history world.history)
    (sym c.in_err-event.ensures.err)
    (taken_fewer c.args.steps.now c.loop-step.step-index c.loop-step.events.items
    c.args.world.now.history c.loop-step.world.history c.loop-step.invariant.0 less))

-- one step more was taken
pub loop-step-preserved : goal.loop-step-preserved
loop-step-preserved c =
    let less = c.loop-step-test.true in
    let many = c.loop-step.invariant.1 in
    let room = c.loop-step.invariant.2 in
    let grows = c.push.ensures.capacity in
    let filled = c.loop-step.events.ok.0 in
    let fits = c.push.ensures.succeeds (omega (arith, less, many, room, filled)) in
    let pushed = put_at_end c.push.result c.loop-step.events.items c.push.new.self.items
    c.in_ok-event.event fits c.push.ensures.items in
    let longer =
    ap length pushed ∙ length-append c.loop-step.events.items (c.in_ok-event.event ∷ []) in (
      subst (λ events. Taken c.args.steps.now (c.loop-step.step-index + 1) events
          c.args.world.now.history c.step.new.self.history) (sym pushed)
          (taken_more c.args.steps.now c.loop-step.step-index c.loop-step.events.items
          c.args.world.now.history c.loop-step.world.history c.step.new.self.history
          c.step-item.result c.in_ok-event.event c.loop-step.invariant.0
          (take_more c.args.steps.now c.loop-step.step-index c.step-item.result less
          ∙ ap (λ (s : Step). take c.loop-step.step-index c.args.steps.now ++ s ∷ [])
          (sym c.step-item.is)) c.in_ok-event.ensures.ok),
      omega (arith, longer, many),
      omega (arith, grows, room),
    )

-- An edit makes this false. With an answer of its own it is refused without a second search.
pub returns-clause-err : goal.returns-clause-err
returns-clause-err c = search rules
