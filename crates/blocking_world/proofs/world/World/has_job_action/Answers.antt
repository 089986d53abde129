use Rattle.std.proofs.Common.{◌∙◌, ap, reverse, sym}
use Rattle.blocking_world_laws.specs.Steps.{is_job_action}
use Rattle.blocking_world_state.specs.Parts.{Parts, next_at}
use Rattle.blocking_world_copiers.proofs.Readings.{acts_is}
use Rattle.blocking_world.proofs.world.World.has_job_action.Goals as goal

-- what the parts answer is what the laws say of the step
pub returns : goal.returns
returns c =
    rw (sym c.self.view_is)
    (c.has_job_action.ensures
    ∙ ap (λ (w : Parts). is_job_action (next_at w c.args.worker)) c.parts.ensures
    ∙ sym (acts_is c.self.inside.assembly.parts.crew.pool.counts.setting c.self.inside.plan.items
    c.self.inside.assembly (reverse c.self.inside.trace.items) c.self.invariant
    c.args.worker))
