use Rattle.blocking_world_holders.proofs.owners.Wakes.{not_lost}
use Rattle.blocking_world_holders.proofs.owners.Clients.{steady}
use Rattle.blocking_world_holders.proofs.owners.Owners as proved
use Rattle.blocking_world_holders.proofs.invariants.owners.Goals as goal

pub returns-clause-aside : goal.returns-clause-aside
returns-clause-aside c = λ row past now out h. proved.aside row past now out h

pub returns-clause-born : goal.returns-clause-born
returns-clause-born c =
    λ row past now capacity client makes h. proved.born row past now capacity client makes h

pub returns-clause-stepped : goal.returns-clause-stepped
returns-clause-stepped c = λ old new past now takes h. proved.stepped old new past now takes h

pub returns-clause-steady : goal.returns-clause-steady
returns-clause-steady c = λ step owner. steady step owner

pub returns-clause-told : goal.returns-clause-told
returns-clause-told c = λ owner cut s tied of waits rests. not_lost owner cut tied s of waits rests
