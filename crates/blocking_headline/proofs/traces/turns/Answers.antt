use Rattle.std.proofs.Common.{◌≡◌, refl, ℕ, Some, None}
use Rattle.blocking_headline.proofs.Accepts.{accepted}
use Rattle.blocking_headline.proofs.traces.turns.Goals as goal

has_one : (n : ℕ) → Some n ≡ None → ⊥
has_one n e = cc

pub returns-clause-accepts_one_each : goal.returns-clause-accepts_one_each
returns-clause-accepts_one_each c = accepted 3 refl

pub returns-clause-refuses_second_job : goal.returns-clause-refuses_second_job
returns-clause-refuses_second_job c = λ at. has_one 1 (at.take 1 2 refl refl).0

pub returns-clause-accepts_act : goal.returns-clause-accepts_act
returns-clause-accepts_act c = accepted 3 refl

pub returns-clause-accepts_end : goal.returns-clause-accepts_end
returns-clause-accepts_end c = accepted 3 refl

pub returns-clause-refuses_dropped_take : goal.returns-clause-refuses_dropped_take
returns-clause-refuses_dropped_take c = λ at. (at.take 2 1 refl refl).1 1 refl

none_left : (n : ℕ) → None ≡ Some n → ⊥
none_left n e = cc

pub returns-clause-refuses_end_of_no_run : goal.returns-clause-refuses_end_of_no_run
returns-clause-refuses_end_of_no_run c = λ at. none_left 1 (at.turn 1 refl)

pub returns-clause-refuses_second_worker : goal.returns-clause-refuses_second_worker
returns-clause-refuses_second_worker c = λ at. (at.take 2 1 refl refl).1 1 refl

pub returns-clause-refuses_act_of_other : goal.returns-clause-refuses_act_of_other
returns-clause-refuses_act_of_other c = λ at. none_left 1 (at.held 1 refl refl)

pub returns-clause-refuses_end_by_other : goal.returns-clause-refuses_end_by_other
returns-clause-refuses_end_by_other c = λ at. none_left 1 (at.turn 1 refl)
