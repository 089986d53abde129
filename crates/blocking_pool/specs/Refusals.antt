-- The texts of refusals, as lists of bytes, and what kind of error of the system each is.
use Rattle.std.specs.Prelude.{ℕ, List, codes}
use Rattle.std.specs.declared.io.ErrorKind.{ErrorKind}
use Rattle.std.specs.declared.io.ErrorKind.TheVariants.{OutOfMemory, WouldBlock, Other}
use Rattle.blocking_pool.specs.declared.pool.answer.Refusal.{Refusal}
use Rattle.blocking_pool.specs.declared.pool.answer.Refusal.TheVariants.{Memory, NoWorker, Numbers}

-- why something was refused, as it is told to who asked for it
abbrev pub reason_text : Refusal → List ℕ
reason_text Memory = codes "no memory"
reason_text NoWorker = codes "no worker could be started"
reason_text Numbers = codes "the numbers are used up"

-- the kind of each as an error of the system: a worker that can't be started is what a thread is
-- that can't be
abbrev pub refusal_kind : Refusal → ErrorKind
refusal_kind Memory = OutOfMemory
refusal_kind NoWorker = WouldBlock
refusal_kind Numbers = Other
