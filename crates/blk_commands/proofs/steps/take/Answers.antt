-- What the world saw of the step is added.
use Rattle.std.proofs.Common.{subst}
use Rattle.blocking_world.specs.Runs.{Adds}
use Rattle.blk_commands.proofs.PlayLemmas.{takes_step}
use Rattle.blk_commands.proofs.steps.take.Goals as goal

pub returns : goal.returns
returns c =
    takes_step c.args.step.now c.args.world.now.history c.run.new.world.history
    c.args.events.now.items c.in_ok-seen.seen.items c.append.new.self.items
    c.append.result (subst (λ steps. Adds steps c.in_ok-seen.seen.items c.args.world.now.history
    c.run.new.world.history) c.from_ref.ensures.value c.in_ok-seen.ensures.ok)
    c.in_ok-seen.ensures.legal
    c.append.ensures.items
