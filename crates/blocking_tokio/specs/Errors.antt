-- What a poll came to, as the other side tells it.
use Rattle.std.specs.Prelude.{◌≡◌, Result, Ok, Err}
use Rattle.std.specs.declared.io.Error.{Error}
use Rattle.futures.specs.declared.task.Poll.{Poll}
use Rattle.futures.specs.declared.task.Poll.TheVariants.{Ready, Pending}
use Rattle.blocking_core.specs.Faults.{IsToldAs}
use Rattle.blocking_core.specs.declared.io.Fault.{Fault}
use Rattle.blocking_core.specs.declared.io.Fault.TheVariants.{Io}

module _ {T : Type 0} where
  -- the same, with a fault as the error of the system that it is told as
  abbrev pub IsTold : Poll (Result T (Fault Error)) → Poll (Result T Error) → Type 0
  IsTold (Ready (Ok value)) told = told ≡ Ready (Ok value)
  IsTold (Ready (Err fault)) told =
      (error : Error) × (told ≡ Ready (Err error)) × IsToldAs fault error
  IsTold Pending told = told ≡ Pending

  -- the same, with an error as a fault of the handle
  abbrev pub as_fault : Poll (Result T Error) → Poll (Result T (Fault Error))
  as_fault (Ready (Ok value)) = Ready (Ok value)
  as_fault (Ready (Err error)) = Ready (Err (Io error))
  as_fault Pending = Pending
