use Rattle.std.proofs.Common.{◌≤◌, arith, refl}
use Rattle.blocking_headline.proofs.Accepts.{accepted}
use Rattle.blocking_headline.proofs.traces.starts.Goals as goal

pub returns-clause-accepts_one : goal.returns-clause-accepts_one
returns-clause-accepts_one c = accepted 3 refl

too_many : 2 ≤ 1 → ⊥
too_many e = omega (arith, e)

pub returns-clause-refuses_two : goal.returns-clause-refuses_two
returns-clause-refuses_two c = λ at. too_many (at.within (omega arith))

pub returns-clause-refuses_one_more : goal.returns-clause-refuses_one_more
returns-clause-refuses_one_more c = λ at. too_many (at.within (omega arith))
