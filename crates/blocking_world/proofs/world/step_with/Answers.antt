use Rattle.std.proofs.Common.{IfOk, subst}
use Rattle.blocking_world_laws.specs.Growth.{IsPlanned}
use Rattle.blocking_world_copiers.specs.Assemblies.{Does}
use Rattle.blocking_world.proofs.world.step_with.Goals as goal

pub returns-clause-ok : goal.returns-clause-ok
returns-clause-ok g c =
    subst (λ plan. IfOk c.step.result (λ e. Does (IsPlanned plan) c.args.step c.args.assembly.now e
    c.step.new.self)) c.new-starter.ensures c.step.ensures.ok
