-- What was seen is legal: so the headline holds of it, and each owner is alone in its cut.
use Rattle.std.proofs.Common.{reverse, subst}
use Rattle.blocking_headline.proofs.Frame.{whole}
use Rattle.blocking_headline.specs.Headline.{Headline}
use Rattle.blocking_world_laws.proofs.Filters.{independent}
use Rattle.blocking_world_laws.specs.Solo.{AreIndependent}
use Rattle.blocking_world.specs.Runs.{WorldValue}
use Rattle.blocking_world.proofs.world.run.Goals as goal

pub returns-clause-independent : goal.returns-clause-independent
returns-clause-independent c =
    subst (λ (v : WorldValue). AreIndependent v.history.past) c.world.view_is
    (independent c.world.inside.assembly.parts.crew.pool.counts.setting c.world.inside.plan.items
    (reverse c.world.inside.trace.items) c.world.invariant.legal)

pub returns-clause-headline : goal.returns-clause-headline
returns-clause-headline c =
    subst (λ (v : WorldValue). Headline v.history.setting v.history.past) c.world.view_is
    (whole c.world.inside.assembly.parts.crew.pool.counts.setting c.world.inside.plan.items
    (reverse c.world.inside.trace.items) c.world.invariant.legal)
