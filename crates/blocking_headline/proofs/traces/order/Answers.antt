use Rattle.std.proofs.Common.{◌≡◌, refl, ℕ, ◌<◌, List, [], ◌∷◌, None, Some, ap, arith}
use Rattle.blocking_world_laws.specs.Traces.{moment, one_arrived}
use Rattle.blocking_world_laws.specs.declared.step.Step.TheVariants.{Arrive, Take}
use Rattle.blocking_headline.specs.Words.{IsBeginning, NoAction, Pool, Took, Worker}
use Rattle.blocking_headline.proofs.Accepts.{accepted}
use Rattle.blocking_headline.proofs.traces.order.Goals as goal

abbrev head_of : List ℕ → ℕ
head_of [] = 0
head_of (n ∷ ns) = n

pub returns-clause-accepts_front : goal.returns-clause-accepts_front
returns-clause-accepts_front c = accepted 3 refl

other_head : (n m : ℕ) (ns ms : List ℕ) → n < m → n ∷ ns ≡ m ∷ ms → ⊥
other_head n m ns ms less e = let same : n ≡ m = ap head_of e in omega (arith, less, same)

wrong_front : (ns : List ℕ) → IsBeginning (2 ∷ []) (1 ∷ ns) → ⊥
wrong_front ns front = other_head 1 2 _ _ (omega arith) front.1

pub returns-clause-refuses_earlier_moment : goal.returns-clause-refuses_earlier_moment
returns-clause-refuses_earlier_moment c = λ page. wrong_front _ ((page
    (moment Arrive Pool None NoAction 2 ∷ []) one_arrived (moment (Take 1) (Worker 1) (Some 2) (Took 2) 2) refl).in_order 2 refl)

pub returns-clause-refuses_second : goal.returns-clause-refuses_second
returns-clause-refuses_second c = λ at. wrong_front _ (at.in_order 2 refl)

pub returns-clause-refuses_unknown : goal.returns-clause-refuses_unknown
returns-clause-refuses_unknown c = λ at. wrong_front _ (at.in_order 2 refl)

pub returns-clause-refuses_other_client : goal.returns-clause-refuses_other_client
returns-clause-refuses_other_client c = λ at. wrong_front _ (at.in_order 2 refl)

pub returns-clause-refuses_other_client_unlimited : goal.returns-clause-refuses_other_client_unlimited
returns-clause-refuses_other_client_unlimited c = λ at. wrong_front _ (at.in_order 2 refl)
