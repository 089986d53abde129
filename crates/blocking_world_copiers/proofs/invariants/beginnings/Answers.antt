-- Of new assemblies.
use Rattle.blocking_world_copiers.proofs.Begins.{begun}
use Rattle.blocking_world_copiers.proofs.invariants.beginnings.Goals as goal

pub returns-clause-assembly : goal.returns-clause-assembly
returns-clause-assembly c = begun

pub returns-clause-legal : goal.returns-clause-legal
returns-clause-legal c = λ setting plan w past lawful. lawful.legal
