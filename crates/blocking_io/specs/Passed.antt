-- What went by polls one after the other, and how the last of them ended.
use Rattle.std.specs.Prelude.{◌≡◌, ◌⊎◌, ℕ, List, [], ◌++◌, Bool, true, false, Result, Ok, Err}
use Rattle.std.specs.IoError.{error_kind}
use Rattle.std.specs.declared.io.Error.{Error}
use Rattle.std.specs.declared.io.ErrorKind.{ErrorKind}
use Rattle.std.specs.declared.io.ErrorKind.TheVariants.{UnexpectedEof}
use Rattle.futures.specs.declared.task.Poll.{Poll}
use Rattle.futures.specs.declared.task.Poll.TheVariants.{Ready, Pending}
use Rattle.blocking_core.specs.declared.io.Fault.{Fault}
use Rattle.blocking_core.specs.declared.io.Fault.TheVariants.{Io, WriteZero, Refused}
use Rattle.blocking_io.specs.Copies.{EndsRead, Passes, all_read, all_written}
use Rattle.blocking_io.specs.Polled.{BytePoll, ReaderPoll, WriterPoll, OfFlush, OfRead, OfWrite}

-- the fault is an error of this kind
abbrev pub IsOfKind : ErrorKind → Fault Error → Type 0
IsOfKind kind (Io error) = error_kind error ≡ kind
IsOfKind kind WriteZero = ⊥
IsOfKind kind (Refused why) = ⊥

-- the one list is the other with bytes behind it, of which this holds
abbrev pub AddsTo : List ℕ → List ℕ → (List ℕ → Type 0) → Type 0
AddsTo old new Holds = (bytes : List ℕ) × (new ≡ old ++ bytes) × Holds bytes

module _ {A : Type 0} (reads : A → ReaderPoll → A → Type 0) where
  -- polls led from the one state to the other, and these are all bytes that they gave, in order
  abbrev pub Gave : A → List ℕ → A → Type 0
  Gave old bytes new =
      (polls : List ReaderPoll) × Passes reads old polls new × (all_read polls ≡ bytes)

  -- the same, where the last of them met the end
  abbrev pub GaveAll : A → List ℕ → A → Type 0
  GaveAll old bytes new = (polls : List ReaderPoll) × Passes reads old polls new
      × (all_read polls ≡ bytes) × EndsRead polls

  -- a read led to this state
  abbrev pub WasRead : A → Type 0
  WasRead new = (old : A) × (room : ℕ) × (poll : BytePoll) × reads old (OfRead room poll) new

  -- a read led to this state, and waits
  abbrev pub ReadWaits : A → Type 0
  ReadWaits new = (old : A) × (room : ℕ) × reads old (OfRead room Pending) new

  -- a read led to this state by this fault
  abbrev pub ReadFailed : Fault Error → A → Type 0
  ReadFailed why new = (old : A) × (room : ℕ) × reads old (OfRead room (Ready (Err why))) new

  -- a read that is to fill its buffer, and gave these bytes, stopped by this fault: a poll failed,
  -- or the end came before
  abbrev pub StoppedShort : A → List ℕ → A → Fault Error → Type 0
  StoppedShort old bytes new why =
      ReadFailed why new ⊎ (GaveAll old bytes new × IsOfKind UnexpectedEof why)

module _ {A : Type 0} (writes : A → WriterPoll → A → Type 0) where
  -- polls led from the one state to the other, and these are all bytes that they took, in order
  abbrev pub Took : A → List ℕ → A → Type 0
  Took old bytes new =
      (polls : List WriterPoll) × Passes writes old polls new × (all_written polls ≡ bytes)

  -- a write with this answer led to this state
  abbrev pub WroteSo : Poll (Result (List ℕ) (Fault Error)) → A → Type 0
  WroteSo poll new = (old : A) × writes old (OfWrite poll) new

  -- a flush with this answer led to this state
  abbrev pub FlushedSo : Poll (Result (Unit {0}) (Fault Error)) → A → Type 0
  FlushedSo poll new = (old : A) × writes old (OfFlush poll) new

  -- what stopped a write of many bytes: one that waits or failed, or, where a flush is to tell why,
  -- one that took none
  abbrev pub StoppedBy : Poll (Result Bool (Fault Error)) → A → Type 0
  StoppedBy Pending new = WroteSo Pending new
  StoppedBy (Ready (Err why)) new = WroteSo (Ready (Err why)) new
  StoppedBy (Ready (Ok true)) new = WroteSo (Ready (Ok [])) new
  StoppedBy (Ready (Ok false)) new = Unit {0}

  -- a flush told this fault, or knew of none
  abbrev pub TellsFault : Fault Error → A → Type 0
  TellsFault why new = FlushedSo (Ready (Err why)) new
      ⊎ ((why ≡ WriteZero) × FlushedSo (Ready (Ok tt)) new)
