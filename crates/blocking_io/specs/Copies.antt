-- What a copier does: each step of it, and what it comes to by steps.
use Rattle.std.specs.Prelude.{◌≡◌, ◌+◌, ◌-◌, ◌^◌, ◌≤◌, suc, ℕ, Bool, true, false, List, [], ◌∷◌}
use Rattle.std.specs.Prelude.{◌++◌, length, min, take, slice_range, vec_items, Result, Ok, Err}
use Rattle.std.specs.declared.io.Error.{Error}
use Rattle.futures.specs.declared.task.Poll.{Poll}
use Rattle.futures.specs.declared.task.Poll.TheVariants.{Ready, Pending}
use Rattle.blocking_core.specs.Copying.{copy_after, new_copy}
use Rattle.blocking_core.specs.declared.copy.CopyAction.{CopyAction}
use Rattle.blocking_core.specs.declared.copy.CopyAction.TheVariants.{Read, Write, Flush, Done}
use Rattle.blocking_core.specs.declared.copy.CopyAnswer.{CopyAnswer}
use Rattle.blocking_core.specs.declared.copy.CopyAnswer.TheVariants as by
use Rattle.blocking_core.specs.declared.copy.CopyEnd.TheVariants.{Copied}
use Rattle.blocking_core.specs.declared.io.Fault.{Fault}
use Rattle.blocking_io.specs.CopyFaults.{told}
use Rattle.blocking_io.specs.CopySteps.{AnswersTo, IsWhole, is_over, rest_of}
use Rattle.blocking_io.specs.Polled.{BytePoll, ReaderPoll, WriterPoll, OfFlush, OfRead, OfWrite}
use Rattle.blocking_io.specs.declared.copy.Copier.{Copier}
use Rattle.blocking_io.specs.declared.copy.CopyFault.{CopyFault}

-- a copy that is over is ready with how it ended
abbrev pub EndsWith : CopyAction Error → Result ℕ CopyFault → Type 0
EndsWith (Done end) out = out ≡ told end
EndsWith action out = ⊥

-- a copy that is over, and ended well
abbrev pub is_copied : CopyAction Error → Bool
is_copied (Done (Copied count)) = true
is_copied action = false

-- a copy that flushes, or has flushed and ended well
abbrev pub is_ending : CopyAction Error → Bool
is_ending Flush = true
is_ending action = is_copied action

-- by polls one after the other, which came to these
abbrev pub Passes : {S P : Type 0} → (S → P → S → Type 0) → S → List P → S → Type 0
Passes polls old [] new = new ≡ old
Passes {S = S} polls old (poll ∷ rest) new =
    (mid : S) × polls old poll mid × Passes polls mid rest new

-- the bytes that a poll moved
abbrev pub bytes_of : BytePoll → List ℕ
bytes_of (Ready (Ok bytes)) = bytes
bytes_of poll = []

-- all bytes that a reader gave by these polls, in order
abbrev pub all_read : List ReaderPoll → List ℕ
all_read [] = []
all_read (OfRead room poll ∷ rest) = bytes_of poll ++ all_read rest

-- all bytes that a writer took by these polls, in order
abbrev pub all_written : List WriterPoll → List ℕ
all_written [] = []
all_written (OfWrite poll ∷ rest) = bytes_of poll ++ all_written rest
all_written (OfFlush poll ∷ rest) = all_written rest

-- the last of these polls met the reader's end: there was room, and nothing came
abbrev pub EndsRead : List ReaderPoll → Type 0
EndsRead polls = (before : List ReaderPoll) × (room : ℕ)
    × (polls ≡ before ++ (OfRead (suc room) (Ready (Ok [])) ∷ []))

-- the last of these polls flushed the writer
abbrev pub EndsFlushed : List WriterPoll → Type 0
EndsFlushed polls = (before : List WriterPoll) × (polls ≡ before ++ (OfFlush (Ready (Ok tt)) ∷ []))

-- what a copier has read and is to write yet
abbrev pub unwritten : {A B : Type 0} → Copier A B → List ℕ
unwritten copy = rest_of copy.core.next (vec_items copy.piece)

-- the poll that moves bytes which an answer tells of; these are the bytes
abbrev pub told_poll : CopyAnswer Error → List ℕ → BytePoll
told_poll (by.Gave count) bytes = Ready (Ok (take count bytes))
told_poll (by.Took count) bytes = Ready (Ok (take count bytes))
told_poll (by.Failed why) bytes = Ready (Err why)
told_poll answer bytes = Pending

-- the poll of a flush which an answer tells of
abbrev pub told_flush : CopyAnswer Error → Poll (Result (Unit {0}) (Fault Error))
told_flush by.Flushed = Ready (Ok tt)
told_flush (by.Failed why) = Ready (Err why)
told_flush answer = Pending

-- the greatest number that a count comes to
abbrev pub greatest : ℕ
greatest = 2 ^ 64 - 1

module _ {A B : Type 0} (reads : A → ReaderPoll → A → Type 0)
    (writes : B → WriterPoll → B → Type 0) where
  -- A call was made for this action, and the answer is what it came to. What was read stands at the
  -- front of the piece; what is written is exactly what the action names of the piece, which stays
  -- as it was; and no other call was made.
  abbrev pub Acts : CopyAction Error → CopyAnswer Error → Copier A B → Copier A B → Type 0
  Acts (Read most) answer old new =
      reads old.reader (OfRead most (told_poll answer (vec_items new.piece))) new.reader
      × (new.writer ≡ old.writer)
  Acts (Write from to) answer old new =
      writes old.writer (OfWrite (told_poll answer (slice_range (vec_items old.piece) from to)))
      new.writer × (new.reader ≡ old.reader)
      × (vec_items new.piece ≡ vec_items old.piece)
  Acts Flush answer old new =
      writes old.writer (OfFlush (told_flush answer)) new.writer × (new.reader ≡ old.reader)
      × (vec_items new.piece ≡ vec_items old.piece)
  Acts (Done end) answer old new = ⊥

  -- one step: the machine was given this answer to the action that was next
  abbrev pub Steps : Copier A B → CopyAnswer Error → Copier A B → Type 0
  Steps old answer new = AnswersTo old.core.next answer × Acts old.core.next answer old new
      × (new.core ≡ copy_after old.core answer)

  -- the copier comes from one to the other by steps that were answered so
  abbrev pub Runs : Copier A B → List (CopyAnswer Error) → Copier A B → Type 0
  Runs old [] new = new ≡ old
  Runs old (answer ∷ rest) new = (mid : Copier A B) × Steps old answer mid × Runs mid rest new

  abbrev pub Reaches : Copier A B → Copier A B → Type 0
  Reaches old new = (answers : List (CopyAnswer Error)) × Runs old answers new

  -- the same by one step at least: this was the last
  abbrev pub GoesOn : Copier A B → Copier A B → Type 0
  GoesOn old new =
      (mid : Copier A B) × (answer : CopyAnswer Error) × Reaches old mid × Steps mid answer new

  -- What a copier did from the one to the other, by the polls of its reader and its writer: what
  -- was written is a beginning of what was to be written and of what was read since, in order and
  -- once. Unless a write took nothing or failed, the rest is what is to be written yet, and only
  -- the reader's end leads to the flush. The count is of what was written, and a copy that ended
  -- well did so by a flush behind the last write.
  pub record Carries (old new : Copier A B) : Type 0 where
    pub read : List ReaderPoll
    pub written : List WriterPoll
    pub rest : List ℕ
    pub by_reader : Passes reads old.reader read new.reader
    pub by_writer : Passes writes old.writer written new.writer
    pub in_order : unwritten old ++ all_read read ≡ all_written written ++ rest
    pub whole : IsWhole new.core → IsWhole old.core × (rest ≡ unwritten new)
    pub counts : old.core.copied ≤ greatest
        → new.core.copied ≡ min (old.core.copied + length (all_written written)) greatest
    pub ended : is_ending old.core.next ≡ false → IsWhole new.core → is_ending new.core.next ≡ true
        → EndsRead read
    pub flushed : is_over old.core.next ≡ false → is_copied new.core.next ≡ true
        → EndsFlushed written

  -- What Ok with a count says of a copy from this reader to this writer: the reader was read to its
  -- end; the writer took all that it gave, in order and once, and was then flushed; and the count
  -- is how many bytes that were, or the greatest number of 64 bits.
  pub record IsCopied (reader : A) (writer : B) (count : ℕ) : Type 0 where
    pub last_reader : A
    pub last_writer : B
    pub read : List ReaderPoll
    pub written : List WriterPoll
    pub by_reader : Passes reads reader read last_reader
    pub by_writer : Passes writes writer written last_writer
    pub ended : EndsRead read
    pub all : all_written written ≡ all_read read
    pub flushed : EndsFlushed written
    pub counts : count ≡ min (length (all_written written)) greatest

  -- what a result says of a copy from this reader to this writer; a fault is told by how the copy
  -- ended
  abbrev pub SaysOf : A → B → Result ℕ CopyFault → Type 0
  SaysOf reader writer (Ok count) = IsCopied reader writer count
  SaysOf reader writer (Err why) = Unit {0}

  -- What a copier may give: how the copy ends that it comes to by steps, and of one that was begun
  -- anew, what that says.
  pub record MayEnd (old : Copier A B) (out : Result ℕ CopyFault) : Type 0 where
    pub new : Copier A B
    pub reaches : Reaches old new
    pub carries : Carries old new
    pub ends : EndsWith new.core.next out
    pub says : (piece : ℕ) → old.core ≡ new_copy piece → SaysOf old.reader old.writer out
