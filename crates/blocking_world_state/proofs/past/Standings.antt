-- How a job stands where the pool takes it, by the law of the pool.
use Rattle.std.proofs.Common.{◌≡◌, ℕ, List, Bool, Some, arith}
use Rattle.blocking_world_state.proofs.Types.{Queued, Act, Took, TookDropped, Moment}
use Rattle.blocking_world_state.proofs.Words.{first_of, take_answer, take_from, standing, PoolLaw}
use Rattle.blocking_world_state.proofs.Words.{ready, EachMayFollow}
use Rattle.blocking_world_laws.proofs.Queues.{first_so}

-- whether an act takes this job, to be run or to be dropped
abbrev pub Takes : Act → ℕ → Type 0
Takes (Took t) s = t ≡ s
Takes (TookDropped t) s = t ≡ s
Takes act s = ⊥

front : (past : List Moment) (s : ℕ) (jobs : List ℕ) → Takes (take_from past jobs) s
    → first_of jobs ≡ Some s
front past s jobs takes = grind arith

-- a job that is taken was queued
pub taken_queued : (setting : ℕ) (plan : List Bool) (past : List Moment)
    → EachMayFollow (PoolLaw setting plan) past → (s : ℕ) → Takes (take_answer past) s
    → standing past s ≡ Some Queued
taken_queued setting plan past laws s takes =
    (first_so setting plan past laws s (front past s (ready past) takes)).stands
