-- An act sets the client limit, or leaves it.
use Rattle.std.proofs.Common.{◌≡◌, refl, ℕ, Option, ap}
use Rattle.blocking_world_laws.specs.Queue.{client_limit, client_limit_by}
use Rattle.blocking_world_laws.specs.declared.event.Act.{Act}
use Rattle.blocking_world_laws.specs.declared.event.Act.TheVariants.{ClientLimitSet}
use Rattle.blocking_world_laws.proofs.laws.legality.limits_of_clients.Goals as goal

pub returns-clause-told : goal.returns-clause-told
returns-clause-told c = λ past now limit e. ap (λ act. client_limit_by act (client_limit past)) e

left : (act : Act) (before : Option ℕ) → ((limit : Option ℕ) → act ≡ ClientLimitSet limit → ⊥)
    → client_limit_by act before ≡ before
left (ClientLimitSet limit) before other = absurd (other limit refl)
left _ before other = refl

pub returns-clause-kept : goal.returns-clause-kept
returns-clause-kept c = λ past now other. left now.event.act (client_limit past) other
