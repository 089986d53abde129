-- What a close of what is never closed answers.
use Rattle.std.specs.Prelude.{◌≡◌, Result, Ok, Err}
use Rattle.std.specs.IoError.{error_kind}
use Rattle.std.specs.declared.io.Error.{Error}
use Rattle.std.specs.declared.io.ErrorKind.TheVariants.{Unsupported}
use Rattle.blocking_core.specs.declared.io.Fault.{Fault}
use Rattle.blocking_core.specs.declared.io.Fault.TheVariants.{Io}
use Rattle.futures.specs.declared.task.Poll.{Poll}
use Rattle.futures.specs.declared.task.Poll.TheVariants.{Ready, Pending}

-- what a flush or a close answers
abbrev pub Answer : Type 0
Answer = Poll (Result (Unit {0}) (Fault Error))

-- A close waits as its flush does, and tells its fault. Where the flush was made it says that
-- nothing is closed.
abbrev pub IsUnclosed : Answer → Answer → Type 0
IsUnclosed Pending close = close ≡ Pending
IsUnclosed (Ready (Err why)) close = close ≡ Ready (Err why)
IsUnclosed (Ready (Ok _)) close =
    (error : Error) × (close ≡ Ready (Err (Io error))) × (error_kind error ≡ Unsupported)
