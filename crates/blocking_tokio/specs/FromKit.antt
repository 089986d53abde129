-- What polls of a reader or writer of the kit come to, in the words of ours.
use Rattle.std.specs.Prelude.{◌≡◌, ◌<◌, ℕ, List, [], Ok, Err}
use Rattle.std.specs.declared.io.Error.{Error}
use Rattle.futures.specs.declared.task.Poll.TheVariants.{Ready, Pending}
use Rattle.blocking_core.specs.declared.io.Fault.{Fault}
use Rattle.blocking_core.specs.declared.io.Fault.TheVariants.{Io, WriteZero, Refused}
use Rattle.blocking_io.specs.Polled.{ReaderPoll, WriterPoll, OfFlush, OfRead, OfWrite}

-- the fault is the handle's own error, and this holds of it
abbrev pub IsOwn : (Error → Type 0) → Fault Error → Type 0
IsOwn P (Io error) = P error
IsOwn P WriteZero = ⊥
IsOwn P (Refused why) = ⊥

module _ {R : Type 0} (reads : R → List ℕ → R → Type 0) (is_at_end : R → Type 0)
    (fails : R → Error → Type 0) where
  -- What a poll of a reader with so much room came to: these bytes are what the kit's reader gave,
  -- and where there was room and none came it is at its end.
  abbrev pub ReadBy : R → ReaderPoll → R → Type 0
  ReadBy old (OfRead room (Ready (Ok bytes))) new =
      reads old bytes new × (bytes ≡ [] → 0 < room → is_at_end new)
  ReadBy old (OfRead room (Ready (Err fault))) new = reads old [] new × IsOwn (fails new) fault
  ReadBy old (OfRead room Pending) new = reads old [] new

module _ {W : Type 0} (writes : W → List ℕ → W → Type 0) (is_flushed : W → Type 0)
    (fails : W → Error → Type 0) where
  -- what a poll of a writer came to: these bytes are what the kit's writer took, and a flush that
  -- is done left it flushed
  abbrev pub WrittenBy : W → WriterPoll → W → Type 0
  WrittenBy old (OfWrite (Ready (Ok bytes))) new = writes old bytes new
  WrittenBy old (OfWrite (Ready (Err fault))) new = writes old [] new × IsOwn (fails new) fault
  WrittenBy old (OfWrite Pending) new = writes old [] new
  WrittenBy old (OfFlush (Ready (Ok done))) new = writes old [] new × is_flushed new
  WrittenBy old (OfFlush (Ready (Err fault))) new = writes old [] new × IsOwn (fails new) fault
  WrittenBy old (OfFlush Pending) new = writes old [] new

module _ {W : Type 0} (writes : W → List ℕ → W → Type 0) (is_flushed : W → Type 0)
    (is_shut_down : W → Type 0) where
  -- it was flushed, and then shut down, with nothing written before or between
  abbrev pub ClosedBy : W → W → Type 0
  ClosedBy old new =
      (last : W) × writes old [] last × is_flushed last × writes last [] new × is_shut_down new
