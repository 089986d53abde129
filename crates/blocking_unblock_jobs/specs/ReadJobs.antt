-- What contracts see of a reading job, and what each of its steps does.
use Rattle.std.specs.Prelude.{◌+◌, ◌≡◌, ◌<◌, ◌≤◌, ℕ, Bool, List, length, take, Option, Some, None}
use Rattle.std.specs.Prelude.{IsSome, refl}
use Rattle.std.specs.Coded.{Coded, code_by, coded×, coded_bool, coded_ℕ, coded_list, coded_option}
use Rattle.std.specs.Io.KnownBytes.{Consumes, IsAtEnd, Keeps}
use Rattle.std.specs.declared.io.Error.{Error}
use Rattle.std.specs.contracts.io.Error.{the_row as error_row}
use Rattle.blocking_core.specs.Machines.{Machine}
use Rattle.blocking_core.specs.Reads.{read_next, read_after}
use Rattle.blocking_core.specs.declared.io.JobFault.{JobFault}
use Rattle.blocking_core.specs.contracts.io.JobFault.{the_row as fault_row}
use Rattle.blocking_core.specs.declared.job.read.ReadAction.{ReadAction}
use Rattle.blocking_core.specs.declared.job.read.ReadAction.TheVariants.{FindRoom, Read, Put, Close}
use Rattle.blocking_core.specs.declared.job.read.ReadAction.TheVariants.{Finish, Deliver, Done}
use Rattle.blocking_core.specs.declared.job.read.ReadAnswer.{ReadAnswer}
use Rattle.blocking_core.specs.declared.job.read.ReadAnswer.TheVariants as by
use Rattle.blocking_core.specs.contracts.job.read.ReadAction.{the_row}
use Rattle.blocking_pool.specs.declared.pool.job.JobStep.{JobStep}
use Rattle.blocking_pool.specs.declared.pool.job.JobStep.TheVariants as step
use Rattle.blocking_unblock_jobs.specs.Works.{Both}

-- a reader at work: how many bytes were put into the pipe, how much of the room that was told there
-- is left, and the piece between them
pub record Reading (T : Type 0) : Type 0 where
  pub reader : T
  pub sent : ℕ
  pub room : ℕ
  pub piece : List ℕ

-- a reading job: what it does next, its reader at work until that is given back, and the fault of
-- its reader
pub record ReadSeen (T : Type 0) : Type 0 where
  pub core : Machine ReadAction
  pub work : Option (Reading T)
  pub fault : Option (JobFault Error)

abbrev pub reading_code : {T : Type 0} → Coded T → Coded (Reading T)
reading_code {T} code =
    code_by (T × (ℕ × (ℕ × List ℕ)))
    (coded× code (coded× coded_ℕ (coded× coded_ℕ (coded_list coded_ℕ))))
    (λ seen. (seen.reader, (seen.sent, (seen.room, seen.piece))))
    (λ parts. record {
      reader = parts.0;
      sent = parts.1.0;
      room = parts.1.1.0;
      piece = parts.1.1.1;
    }) (λ _. refl)

abbrev pub read_code : {T : Type 0} → Coded T → Coded (ReadSeen T)
read_code {T} code =
    code_by (ReadAction × (Bool × (Option (Reading T) × Option (JobFault Error))))
    (coded× the_row.coded (coded× coded_bool
    (coded× (coded_option (reading_code code)) (coded_option (fault_row error_row).coded))))
    (λ seen. (seen.core.next, (seen.core.is_waking, (seen.work, seen.fault))))
    (λ parts. record {
      core = record { next = parts.0; is_waking = parts.1.0 };
      work = parts.1.1.0;
      fault = parts.1.1.1;
    }) (λ _. refl)

-- this is an answer to that action: room for one byte at least, and no more bytes than were asked
-- for
abbrev pub Answers : ReadAction → ReadAnswer → Type 0
Answers FindRoom (by.Free room) = 0 < room
Answers FindRoom by.Parked = Unit {0}
Answers FindRoom by.Shut = Unit {0}
Answers (Read most) (by.Gave count) = count ≤ most
Answers (Read most) by.Failed = Unit {0}
Answers (Put count) (by.Put woke) = Unit {0}
Answers (Put count) by.Lost = Unit {0}
Answers Close (by.Closed woke) = Unit {0}
Answers Finish (by.Finished woke) = Unit {0}
Answers Deliver by.Delivered = Unit {0}
Answers action answer = ⊥

-- what a step tells its worker: a job that was seated waits, one that has nothing more to do is
-- done, and else it goes on
abbrev pub told_by : ReadAnswer → ReadAction → JobStep
told_by by.Parked next = step.Waiting
told_by answer Done = step.Done
told_by answer next = step.Again

-- how many bytes an answer to a put means to be sent
abbrev pub sent_by : ℕ → ReadAnswer → ℕ
sent_by count (by.Put woke) = count
sent_by count answer = 0

module _ {T : Type 0} where
  -- it sends nothing, and its piece is as long
  abbrev pub KeepsPlace : Reading T → Reading T → Type 0
  KeepsPlace was is = (is.sent ≡ was.sent) × (length is.piece ≡ length was.piece)

  -- What becomes of the reader at work and of its fault: what a read gives stands in front of the
  -- piece, and is no more to come; one that gives nothing has met the end; one that fails gives
  -- nothing, and its fault is kept until the reader is given back with it. What a put is answered
  -- to have put is what was sent. Nothing else uses the reader or the fault or sends anything, and
  -- nothing but a read and a put changes the piece, which stays as long.
  abbrev pub Hands : (T → Option (List ℕ)) → ReadAction → ReadAnswer → ReadSeen T → ReadSeen T
      → Type 0
  Hands remaining FindRoom answer old new =
      Both old.work new.work (λ was is. is ≡ record was { room = is.room })
      × (new.fault ≡ old.fault)
  Hands remaining (Read most) (by.Gave count) old new =
      Both old.work new.work (λ was is.
      Consumes (remaining was.reader) (remaining is.reader) (take count (take most is.piece))
      × (count ≡ 0 → IsAtEnd (remaining is.reader)) × KeepsPlace was is)
      × (new.fault ≡ old.fault)
  Hands remaining (Read most) answer old new =
      Both old.work new.work (λ was is. Keeps (remaining was.reader) (remaining is.reader)
      × KeepsPlace was is) × IsSome new.fault
  Hands remaining (Put count) answer old new =
      Both old.work new.work (λ was is.
      (is.reader ≡ was.reader) × (is.sent ≡ was.sent + sent_by count answer)
      × (length is.piece ≡ length was.piece))
      × (new.fault ≡ old.fault)
  Hands remaining Finish answer old new = IsSome old.work × (new.work ≡ None) × (new.fault ≡ None)
  Hands remaining action answer old new = (new.work ≡ old.work) × (new.fault ≡ old.fault)

  -- the machine got one answer, to the action that was next, and what it says was put is what was
  -- sent
  abbrev pub OneAnswer : (T → Option (List ℕ)) → ReadAction → ReadSeen T → ReadSeen T → JobStep
      → Type 0
  OneAnswer remaining action old new told =
      (answer : ReadAnswer) × (new.core ≡ read_after old.core answer) × Answers action answer
      × (told ≡ told_by answer (read_next new.core)) × Hands remaining action answer old new

  -- What one step does: the machine gets one answer, to the action that was next; a job that is
  -- over does nothing.
  abbrev pub IsSteppedBy : (T → Option (List ℕ)) → ReadAction → ReadSeen T → ReadSeen T → JobStep
      → Type 0
  IsSteppedBy remaining Done old new told = (new ≡ old) × (told ≡ step.Done)
  IsSteppedBy remaining action old new told = OneAnswer remaining action old new told

  abbrev pub IsStepped : (T → Option (List ℕ)) → ReadSeen T → ReadSeen T → JobStep → Type 0
  IsStepped remaining old new told = IsSteppedBy remaining (read_next old.core) old new told

  -- The job has what its next action is about: its reader at work until that is given back, room
  -- that was told and a piece that holds it for what it reads or puts, and one byte at least to
  -- read.
  abbrev pub Fits : ReadAction → Option (Reading T) → Type 0
  Fits FindRoom (Some work) = Unit {0}
  Fits (Read most) (Some work) = (0 < most) × (most ≤ work.room) × (most ≤ length work.piece)
  Fits (Put count) (Some work) = (count ≤ work.room) × (count ≤ length work.piece)
  Fits Close (Some work) = Unit {0}
  Fits Finish (Some work) = Unit {0}
  Fits Deliver work = ⊥
  Fits Done work = Unit {0}
  Fits action None = ⊥

-- a job that has its handle to give back has closed its end of the pipe
abbrev pub HasClosed : {C : Type 0} → ReadAction → Option C → Type 0
HasClosed Finish closed = IsSome closed
HasClosed action closed = Unit {0}
