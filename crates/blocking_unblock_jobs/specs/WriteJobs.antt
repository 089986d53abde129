-- What contracts see of a writing job, and what each of its steps does.
use Rattle.std.specs.Prelude.{◌+◌, ◌≡◌, ◌<◌, ◌≤◌, ℕ, Bool, List, length, min, take, drop, Option}
use Rattle.std.specs.Prelude.{Some, None, IsSome, refl}
use Rattle.std.specs.Coded.{Coded, code_by, coded×, coded_bool, coded_ℕ, coded_list, coded_option}
use Rattle.std.specs.Io.KnownBytes.{Appends, Keeps}
use Rattle.std.specs.declared.io.Error.{Error}
use Rattle.std.specs.contracts.io.Error.{the_row as error_row}
use Rattle.blocking_core.specs.Writes.{WriteMachine, write_next, write_after}
use Rattle.blocking_core.specs.declared.io.JobFault.{JobFault}
use Rattle.blocking_core.specs.contracts.io.JobFault.{the_row as fault_row}
use Rattle.blocking_core.specs.declared.job.write.WriteAction.{WriteAction}
use Rattle.blocking_core.specs.declared.job.write.WriteAction.TheVariants.{Peek, Write, Consume}
use Rattle.blocking_core.specs.declared.job.write.WriteAction.TheVariants.{Flush, Close, Finish}
use Rattle.blocking_core.specs.declared.job.write.WriteAction.TheVariants.{Deliver, Done}
use Rattle.blocking_core.specs.declared.job.write.WriteAnswer.{WriteAnswer}
use Rattle.blocking_core.specs.declared.job.write.WriteAnswer.TheVariants as by
use Rattle.blocking_core.specs.contracts.job.write.WriteAction.{the_row}
use Rattle.blocking_pool.specs.declared.pool.job.JobStep.{JobStep}
use Rattle.blocking_pool.specs.declared.pool.job.JobStep.TheVariants as step
use Rattle.blocking_unblock_jobs.specs.Works.{Both}

-- a writer at work: the bytes that were lent and are left, and how many bytes were let go
pub record Writing (T : Type 0) : Type 0 where
  pub writer : T
  pub piece : List ℕ
  pub received : ℕ

-- a writing job: what it does next and what its writer did wrong, and its writer at work until that
-- is given back
pub record WriteSeen (T : Type 0) : Type 0 where
  pub core : WriteMachine Error
  pub work : Option (Writing T)

abbrev pub machine_code : Coded (WriteMachine Error)
machine_code =
    code_by (WriteAction × (Bool × Option (JobFault Error)))
    (coded× the_row.coded (coded× coded_bool (coded_option (fault_row error_row).coded)))
    (λ core. (core.next, (core.is_waking, core.fault)))
    (λ parts. record { next = parts.0; is_waking = parts.1.0; fault = parts.1.1 }) (λ _. refl)

abbrev pub writing_code : {T : Type 0} → Coded T → Coded (Writing T)
writing_code {T} code =
    code_by (T × (List ℕ × ℕ)) (coded× code (coded× (coded_list coded_ℕ) coded_ℕ))
    (λ seen. (seen.writer, (seen.piece, seen.received)))
    (λ parts. record { writer = parts.0; piece = parts.1.0; received = parts.1.1 }) (λ _. refl)

abbrev pub write_code : {T : Type 0} → Coded T → Coded (WriteSeen T)
write_code {T} code =
    code_by (WriteMachine Error × Option (Writing T))
    (coded× machine_code (coded_option (writing_code code))) (λ seen. (seen.core, seen.work))
    (λ parts. record { core = parts.0; work = parts.1 }) (λ _. refl)

-- this is an answer to that action: one byte at least is shown, and no more were taken than were
-- offered
abbrev pub Answers : WriteAction → WriteAnswer Error → Type 0
Answers Peek (by.Peeked count) = (0 < count) × (count ≤ 65536)
Answers Peek by.Parked = Unit {0}
Answers Peek by.Drained = Unit {0}
Answers (Write most) (by.Took count) = count ≤ most
Answers (Write most) (by.Failed error) = Unit {0}
Answers (Consume count) (by.Consumed woke) = Unit {0}
Answers Flush by.Flushed = Unit {0}
Answers Flush (by.Failed error) = Unit {0}
Answers Close (by.Closed woke) = Unit {0}
Answers Finish (by.Finished woke) = Unit {0}
Answers Deliver by.Delivered = Unit {0}
Answers action answer = ⊥

-- what a step tells its worker: a job that was seated waits, one that has nothing more to do is
-- done, and else it goes on
abbrev pub told_by : WriteAnswer Error → WriteAction → JobStep
told_by by.Parked next = step.Waiting
told_by answer Done = step.Done
told_by answer next = step.Again

module _ {T : Type 0} where
  -- it lets go of nothing, and its piece is the same
  abbrev pub KeepsPlace : Writing T → Writing T → Type 0
  KeepsPlace was is = (is.piece ≡ was.piece) × (is.received ≡ was.received)

  -- What becomes of the writer at work: a write offers the first bytes of the piece and no others,
  -- and of these the writer holds those that it took; nothing else changes what it holds. Bytes
  -- leave the front of the piece as they are let go, and only a peek brings others, once none are
  -- left: one that finds some left shows these. What it tells is how many it shows, 65536 at most.
  abbrev pub Hands : (T → Option (List ℕ)) → WriteAction → WriteAnswer Error → Option (Writing T)
      → Option (Writing T) → Type 0
  Hands contents (Write most) (by.Took count) old new =
      Both old new (λ was is. Appends (contents was.writer) (contents is.writer)
      (take count (take most was.piece)) × KeepsPlace was is)
  Hands contents (Write most) answer old new =
      Both old new (λ was is. Keeps (contents was.writer) (contents is.writer) × KeepsPlace was is)
  Hands contents Flush answer old new =
      Both old new (λ was is. Keeps (contents was.writer) (contents is.writer) × KeepsPlace was is)
  Hands contents Peek (by.Peeked count) old new =
      Both old new (λ was is.
      (is.writer ≡ was.writer) × (is.received ≡ was.received)
      × (count ≡ min (length is.piece) 65536)
      × (0 < length was.piece → is.piece ≡ was.piece))
  Hands contents Peek answer old new =
      Both old new (λ was is. (is.writer ≡ was.writer) × (is.received ≡ was.received)
      × (length is.piece ≡ 0))
  Hands contents (Consume count) answer old new =
      Both old new (λ was is. is
      ≡ record was { piece = drop count was.piece; received = was.received + count })
  Hands contents Finish answer old new = IsSome old × (new ≡ None)
  Hands contents action answer old new = new ≡ old

  -- the machine got one answer, to the action that was next, and what it says was taken is what the
  -- writer and the pipe show
  abbrev pub OneAnswer : (T → Option (List ℕ)) → WriteAction → WriteSeen T → WriteSeen T → JobStep
      → Type 0
  OneAnswer contents action old new told =
      (answer : WriteAnswer Error) × (new.core ≡ write_after old.core answer)
      × Answers action answer
      × (told ≡ told_by answer (write_next new.core))
      × Hands contents action answer old.work new.work

  -- What one step does: the machine gets one answer, to the action that was next; a job that is
  -- over does nothing.
  abbrev pub IsSteppedBy : (T → Option (List ℕ)) → WriteAction → WriteSeen T → WriteSeen T → JobStep
      → Type 0
  IsSteppedBy contents Done old new told = (new ≡ old) × (told ≡ step.Done)
  IsSteppedBy contents action old new told = OneAnswer contents action old new told

  abbrev pub IsStepped : (T → Option (List ℕ)) → WriteSeen T → WriteSeen T → JobStep → Type 0
  IsStepped contents old new told = IsSteppedBy contents (write_next old.core) old new told

  -- The job has what its next action is about: its writer at work until that is given back, and
  -- bytes that were shown for what it offers or lets go.
  abbrev pub Fits : WriteAction → Option (Writing T) → Type 0
  Fits Peek (Some work) = Unit {0}
  Fits (Write most) (Some work) = most ≤ length work.piece
  Fits (Consume count) (Some work) = count ≤ length work.piece
  Fits Flush (Some work) = Unit {0}
  Fits Close (Some work) = Unit {0}
  Fits Finish (Some work) = Unit {0}
  Fits Deliver work = ⊥
  Fits Done work = Unit {0}
  Fits action None = ⊥

-- a job that has its handle to give back has closed its end of the pipe
abbrev pub HasClosed : {C : Type 0} → WriteAction → Option C → Type 0
HasClosed Finish closed = IsSome closed
HasClosed action closed = Unit {0}

-- a job that closes its end, or has its handle to give back, has asked its writer to flush
abbrev pub HasFlushed : {F : Type 0} → WriteAction → Option F → Type 0
HasFlushed Close flushed = IsSome flushed
HasFlushed Finish flushed = IsSome flushed
HasFlushed action flushed = Unit {0}
