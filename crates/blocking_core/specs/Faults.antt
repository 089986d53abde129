-- What a fault of a job is to an owner, the texts of faults, as lists of bytes, and what each is as
-- an error of the system.
use Rattle.std.specs.Prelude.{ℕ, List, codes, Option, Some, ◌≡◌}
use Rattle.std.specs.IoError.{error_kind}
use Rattle.std.specs.declared.io.Error.{Error}
use Rattle.std.specs.declared.io.ErrorKind.TheVariants as kind
use Rattle.blocking_pool.specs.Refusals.{reason_text, refusal_kind}
use Rattle.blocking_core.specs.declared.io.Fault.{Fault}
use Rattle.blocking_core.specs.declared.io.Fault.TheVariants.{Io, WriteZero, Refused}
use Rattle.blocking_core.specs.declared.io.JobFault.{JobFault}
use Rattle.blocking_core.specs.declared.io.JobFault.TheVariants as of_job

-- why a call on a handle failed: what the handle's own error says, if that is stated; that a write
-- got nothing on; or why no session began
abbrev pub fault_text : {E : Type 0} → (E → Option (List ℕ)) → Fault E → Option (List ℕ)
fault_text error_text (Io error) = error_text error
fault_text error_text WriteZero = Some (codes "none of the bytes were taken")
fault_text error_text (Refused why) = Some (reason_text why)

-- what the fault of a job is to the owner
abbrev pub told : {E : Type 0} → JobFault E → Fault E
told (of_job.Io error) = Io error
told of_job.WriteZero = WriteZero

-- the error of the system that a fault is told as: the handle's own error as it is, and one of the
-- fault's kind otherwise
abbrev pub IsToldAs : Fault Error → Error → Type 0
IsToldAs (Io error) result = result ≡ error
IsToldAs WriteZero result = error_kind result ≡ kind.WriteZero
IsToldAs (Refused why) result = error_kind result ≡ refusal_kind why
