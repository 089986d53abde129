use Rattle.blocking_world_holders.proofs.ties.Tasks as proved
use Rattle.blocking_world_holders.proofs.invariants.tasks.Goals as goal

pub returns-clause-aside : goal.returns-clause-aside
returns-clause-aside c = λ row past now out h. proved.aside row past now out h

pub returns-clause-beside : goal.returns-clause-beside
returns-clause-beside c = λ row past now out h. proved.beside row past now out h

pub returns-clause-born : goal.returns-clause-born
returns-clause-born c =
    λ row past now number makes free h. proved.born row past now number makes free h

pub returns-clause-stepped : goal.returns-clause-stepped
returns-clause-stepped c = λ old new past now takes h. proved.stepped old new past now takes h
