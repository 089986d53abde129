-- What is read off lawful parts.
use Rattle.blocking_world_state.proofs.invariants.readings.Goals as goal
use Rattle.blocking_world_state.proofs.laws.Legality.{served_now, staffed_now, held_now, acts_is}
use Rattle.blocking_world_state.proofs.laws.Legality.{polls_is}

pub returns-clause-served : goal.returns-clause-served
returns-clause-served c = served_now

pub returns-clause-staffed : goal.returns-clause-staffed
returns-clause-staffed c = staffed_now

pub returns-clause-held : goal.returns-clause-held
returns-clause-held c = held_now

pub returns-clause-acts : goal.returns-clause-acts
returns-clause-acts c = λ setting plan w past v lawful. acts_is setting plan w past lawful.tied v

pub returns-clause-polls : goal.returns-clause-polls
returns-clause-polls c = λ setting plan w past h lawful. polls_is setting plan w past lawful.tied h
