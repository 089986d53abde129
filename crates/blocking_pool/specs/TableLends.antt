-- What a table ends as, where a `&mut` to the value of a job is returned. No public clause cites
-- this file.
use Rattle.std.specs.Prelude.{Option, Some, None}
use Rattle.std.specs.Borrow.{LendsSo, Fml, RattleType, MutBor}
use Rattle.blocking_pool.specs.Jobs.{JobNumber, entry_with, amend}
use Rattle.blocking_pool.specs.Tables.{Table, HasJobs}
use Rattle.blocking_pool.specs.contracts.pool.table.Table.{the_row}

-- what holds where a value was lent, and what where none was
abbrev pub IfLent : {X : Type 0} → Option X → Type 0 → Type 0 → Type 0
IfLent (Some value) lent kept = lent
IfLent None lent kept = kept

-- the job ends with the value that is left there; where there is none, the table is as before
abbrev pub lends_value : (J : RattleType) → MutBor (Table J.Denot) → JobNumber
    → Option (MutBor J.Denot) → Fml
lends_value J table number value =
    LendsSo (the_row J) J table value
    (λ last left. IfLent
    value (HasJobs table.now last (amend table.now.jobs number.serial (entry_with left)))
    (HasJobs table.now last table.now.jobs))
    (λ last. HasJobs table.now last table.now.jobs)
