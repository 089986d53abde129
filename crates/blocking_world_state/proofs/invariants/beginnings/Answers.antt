-- Of new parts, and of their setting.
use Rattle.blocking_world_state.proofs.invariants.beginnings.Goals as goal
use Rattle.blocking_world_state.proofs.laws.Legality.{begun, positive_limit}

pub returns-clause-parts : goal.returns-clause-parts
returns-clause-parts c = begun

pub returns-clause-limit : goal.returns-clause-limit
returns-clause-limit c = positive_limit
