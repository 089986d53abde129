use Rattle.std.proofs.Common.{◌≡◌, refl, false, true}
use Rattle.blocking_headline.proofs.Accepts.{accepted}
use Rattle.blocking_headline.proofs.traces.waits.Goals as goal

pub returns-clause-refuses_lost_wake : goal.returns-clause-refuses_lost_wake
returns-clause-refuses_lost_wake c = λ at. let bad : false ≡ true = at.owners 0 1 refl refl refl in cc

pub returns-clause-accepts_woken_task : goal.returns-clause-accepts_woken_task
returns-clause-accepts_woken_task c = accepted 3 refl

pub returns-clause-refuses_lost_wake_of_task : goal.returns-clause-refuses_lost_wake_of_task
returns-clause-refuses_lost_wake_of_task c = λ at. let bad : false ≡ true = at.tasks 0 1 refl refl refl in cc

pub returns-clause-refuses_wait_for_parked : goal.returns-clause-refuses_wait_for_parked
returns-clause-refuses_wait_for_parked c = λ at. let bad : false ≡ true = at.owners 0 1 refl refl refl in cc

pub returns-clause-refuses_older_wake : goal.returns-clause-refuses_older_wake
returns-clause-refuses_older_wake c = λ at. let bad : false ≡ true = at.owners 0 1 refl refl refl in cc

pub returns-clause-refuses_wake_of_other : goal.returns-clause-refuses_wake_of_other
returns-clause-refuses_wake_of_other c = λ at. let bad : false ≡ true = at.owners 0 1 refl refl refl in cc

pub returns-clause-refuses_older_wake_of_task : goal.returns-clause-refuses_older_wake_of_task
returns-clause-refuses_older_wake_of_task c = λ at. let bad : false ≡ true = at.tasks 0 1 refl refl refl in cc
