-- What is told of what an owner's poll or a copier's came to.
use Rattle.std.specs.Prelude.{◌≡◌, Option, Some, None, Result, Ok, Err}
use Rattle.std.specs.IoError.{error_kind}
use Rattle.std.specs.declared.io.Error.{Error}
use Rattle.futures.specs.declared.task.Poll.{Poll}
use Rattle.futures.specs.declared.task.Poll.TheVariants.{Ready, Pending}
use Rattle.blocking_pool.specs.Refusals.{refusal_kind}
use Rattle.blocking_pool.specs.declared.pool.answer.Refusal.{Refusal}
use Rattle.blocking_core.specs.Faults.{IsToldAs}
use Rattle.blocking_core.specs.declared.io.Fault.{Fault}
use Rattle.blocking_io.specs.CopyFaults.{fault_of}
use Rattle.blocking_io.specs.Copies.{EndsWith}
use Rattle.blocking_io.specs.declared.copy.Copier.{Copier}
use Rattle.blocking_io.specs.declared.copy.CopyFault.{CopyFault}

-- the poll for an entry that this poll of its owner came to: the same entry, error or end, and a
-- refusal as an error of its kind
abbrev pub IsFlat : {X : Type 0} → Poll (Option (Result (Result X Error) Refusal))
    → Poll (Option (Result X Error)) → Type 0
IsFlat Pending Pending = Unit {0}
IsFlat (Ready None) (Ready None) = Unit {0}
IsFlat (Ready (Some (Ok entry))) (Ready (Some told)) = told ≡ entry
IsFlat (Ready (Some (Err why))) (Ready (Some (Err error))) = error_kind error ≡ refusal_kind why
IsFlat polled told = ⊥

-- a flush was ready, and well
abbrev pub IsFlushed : Poll (Result (Unit {0}) (Fault Error)) → Type 0
IsFlushed (Ready (Ok done)) = Unit {0}
IsFlushed flushed = ⊥

-- the error is what this copier failed with
abbrev pub FailsWith : {A B : Type 0} → Copier A B → Error → Type 0
FailsWith copier error =
    (why : CopyFault) × EndsWith copier.core.next (Err why) × IsToldAs (fault_of why) error
