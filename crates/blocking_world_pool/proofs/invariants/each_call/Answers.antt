-- After each call, and after an event that is nothing to a crew.
use Rattle.blocking_world_pool.proofs.Words.{IsPlanned}
use Rattle.blocking_world_pool.proofs.invariants.each_call.Goals as goal
use Rattle.blocking_world_pool.proofs.laws.Calls.{served_moved, number_moved}
use Rattle.blocking_world_pool.proofs.laws.Legality.{holds_moved, holds_aside}

pub returns-clause-holds : goal.returns-clause-holds
returns-clause-holds c = λ setting plan crew new past call e step owner h moves asked. holds_moved
    setting plan crew past h (IsPlanned plan) call e new step owner (λ n r may. may) moves asked

pub returns-clause-served : goal.returns-clause-served
returns-clause-served c = λ setting plan crew new past call e step owner h moves asked s.
    served_moved setting plan crew new past call e h moves step owner asked s

pub returns-clause-numbers : goal.returns-clause-numbers
returns-clause-numbers c = λ setting plan crew new past call e number h moves known placed.
    number_moved setting plan crew new past call e h moves number known placed

pub returns-clause-aside : goal.returns-clause-aside
returns-clause-aside c =
    λ setting plan crew past last h aside. holds_aside setting plan crew past h last aside
