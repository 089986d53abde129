-- What polls of readers and writers came to.
use Rattle.std.specs.Prelude.{ℕ, List, take, Result, Ok, Err}
use Rattle.std.specs.declared.io.Error.{Error}
use Rattle.blocking_core.specs.declared.io.Fault.{Fault}
use Rattle.futures.specs.declared.task.Poll.{Poll}
use Rattle.futures.specs.declared.task.Poll.TheVariants.{Ready, Pending}

-- a poll that moves bytes: what it answered, with the bytes in place of how many they are
abbrev pub BytePoll : Type 0
BytePoll = Poll (Result (List ℕ) (Fault Error))

-- a poll of a reader, where there was room for so many bytes
pub data ReaderPoll : Type 0 where
  OfRead : ℕ → BytePoll → ReaderPoll

-- a poll of a writer: of a write, with the bytes that it took, or of a flush
pub data WriterPoll : Type 0 where
  OfWrite : BytePoll → WriterPoll
  OfFlush : Poll (Result (Unit {0}) (Fault Error)) → WriterPoll

-- what a poll answered, with the first of these bytes in place of how many they are
abbrev pub with_bytes : Poll (Result ℕ (Fault Error)) → List ℕ → BytePoll
with_bytes (Ready (Ok count)) bytes = Ready (Ok (take count bytes))
with_bytes (Ready (Err why)) bytes = Ready (Err why)
with_bytes Pending bytes = Pending
