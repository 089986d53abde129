-- What the workers hold.
use Rattle.blocking_world_pool.proofs.invariants.staffing.Goals as goal
use Rattle.blocking_world_pool.proofs.laws.Staffing.{staffed, as_seen}

pub returns-clause-staffed : goal.returns-clause-staffed
returns-clause-staffed c = λ setting plan crew past h. staffed setting crew past h.tied h.ready

pub returns-clause-as_seen : goal.returns-clause-as_seen
returns-clause-as_seen c = λ setting plan crew past h. as_seen setting crew past h.tied
