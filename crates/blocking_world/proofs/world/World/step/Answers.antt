use Rattle.std.proofs.Common.{Result, is_ok, true, List, if◌then◌else◌, arith, ◌≡◌, ◌≤◌, ◌∷◌, []}
use Rattle.std.proofs.Common.{◌++◌, length, reverse, ap, sym, subst, ◌∙◌}
use Rattle.std.proofs.lemmas.List.{reverse-append}
use Rattle.blocking_world_laws.specs.Growth.{IsPlanned}
use Rattle.blocking_world_laws.specs.declared.event.Event.{Event}
use Rattle.blocking_world_laws.specs.declared.event.Moment.{Moment}
use Rattle.blocking_world_laws.specs.declared.step.Step.{Step}
use Rattle.blocking_world_state.specs.Carried.{bytes_of}
use Rattle.blocking_world_copiers.specs.Assemblies.{Does}
use Rattle.blocking_world_copiers.specs.Ties.{IsLawful}
use Rattle.blocking_world_copiers.proofs.Carried.{does_carry}
use Rattle.blocking_world_copiers.proofs.Legality.{does_lawful, does_setting}
use Rattle.blocking_world.proofs.world.World.step.Goals as goal

-- what fits stands at the end
put_at_end : {A B : Type 0} (r : Result A B) (old between new : List Moment) (moment : Moment)
    → between ≡ old → is_ok r ≡ true
    → new ≡ (if is_ok r then between ++ moment ∷ [] else between) → new ≡ old ++ moment ∷ []
put_at_end r old between new moment same ok is =
    is ∙ ap (λ b. if b then between ++ moment ∷ [] else between) ok
    ∙ ap (λ (row : List Moment). row ++ moment ∷ []) same

-- the room for the event's bytes was made
pub twin_in-twin-requires-clause-enough : goal.twin_in-twin-requires-clause-enough
twin_in-twin-requires-clause-enough c =
    subst (λ n. length (bytes_of c.in_ok-event.event.act) ≤ n)
    (sym (c.in_ok-room.ensures.exact ∙ c.bytes_to_come.ensures))
    (does_carry c.deref.result.now c.self.inside.assembly c.in_ok-event.event
    c.step_with.new.assembly c.args.step.now
    (subst (λ (s : Step). Does (IsPlanned c.deref.result.now) s c.self.inside.assembly
    c.in_ok-event.event c.step_with.new.assembly) c.in_ok-taken.ensures
    c.in_ok-event.ensures.ok))

-- the step as the parts did it
does : (c : goal.Joined-push) → Does (IsPlanned c.self.inside.plan.items) c.args.step.now
    c.self.inside.assembly c.in_ok-event.event c.step_with.new.assembly
does c =
    subst (λ (s : Step). Does (IsPlanned c.self.inside.plan.items) s c.self.inside.assembly
    c.in_ok-event.event c.step_with.new.assembly) c.in_ok-taken.ensures
    (subst (λ plan. Does (IsPlanned plan) c.in_ok-taken.taken c.self.inside.assembly
    c.in_ok-event.event c.step_with.new.assembly) c.deref.ensures.value
    c.in_ok-event.ensures.ok)

-- the moment stands at the end of the trace
at_end : (c : goal.Joined-push) → c.push.new.self.items ≡ c.self.inside.trace.items
    ++ record { step = c.args.step.now; event = c.in_ok-event.event } ∷ []
at_end c =
    let room = c.in_ok-reserve.ensures.ok in
    put_at_end c.push.result c.self.inside.trace.items c.reserve.new.self.items
    c.push.new.self.items (record { step = c.in_ok-kept.kept; event = c.in_ok-event.event })
    c.in_ok-reserve.ensures.items (c.push.ensures.succeeds (omega (arith, room)))
    c.push.ensures.items
    ∙ ap (λ (s : Step). c.self.inside.trace.items
    ++ record { step = s; event = c.in_ok-event.event } ∷ []) c.in_ok-kept.ensures

-- and so it is the newest
newest : (c : goal.Joined-push)
    → reverse c.push.new.self.items ≡ record { step = c.args.step.now; event = c.in_ok-event.event }
    ∷ reverse c.self.inside.trace.items
newest c = ap reverse (at_end c) ∙ reverse-append c.self.inside.trace.items
    (record { step = c.args.step.now; event = c.in_ok-event.event } ∷ [])

kept : (c : goal.Joined-push) → c.step_with.new.assembly.parts.crew.pool.counts.setting
    ≡ c.self.inside.assembly.parts.crew.pool.counts.setting
kept c =
    does_setting c.self.inside.assembly.parts.crew.pool.counts.setting c.self.inside.plan.items
    c.self.inside.assembly (reverse c.self.inside.trace.items) c.self.invariant c.args.step.now
    c.in_ok-event.event c.step_with.new.assembly (does c)

-- the world stays lawful
pub invariant_of-self-2 : goal.invariant_of-self-2
invariant_of-self-2 c =
    subst (λ setting. IsLawful setting c.self.inside.plan.items c.step_with.new.assembly
    (reverse c.push.new.self.items)) (sym (kept c))
    (subst (λ past. IsLawful c.self.inside.assembly.parts.crew.pool.counts.setting
    c.self.inside.plan.items c.step_with.new.assembly past) (sym (newest c))
    (does_lawful c.self.inside.assembly.parts.crew.pool.counts.setting c.self.inside.plan.items
    c.self.inside.assembly (reverse c.self.inside.trace.items) c.self.invariant
    c.args.step.now
    c.in_ok-event.event c.step_with.new.assembly (does c)))

-- one moment more was seen
pub returns-clause-ok : goal.returns-clause-ok
returns-clause-ok c =
    rw (sym c.self.view_is)
    (ap (λ setting. record {
      setting = setting;
      plan = c.self.inside.plan.items;
      past = reverse c.push.new.self.items;
    }) (kept c)
    ∙ ap (λ past. record {
      setting = c.self.inside.assembly.parts.crew.pool.counts.setting;
      plan = c.self.inside.plan.items;
      past = past;
    }) (newest c)
    ∙ ap (λ (e : Event). record {
      setting = c.self.inside.assembly.parts.crew.pool.counts.setting;
      plan = c.self.inside.plan.items;
      past = record { step = c.args.step.now; event = e } ∷ reverse c.self.inside.trace.items;
    }) (sym c.twin_in-twin.ensures))
