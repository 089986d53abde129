-- Copiers: each reads one owner and writes another, by polls alone. All is read from what was seen
-- since the copier was made.
use Rattle.std.specs.Prelude.{◌≡◌, ℕ, zero, suc, ◌==◌, ◌&&◌, ◌||◌, not, min, if◌then◌else◌, Bool}
use Rattle.std.specs.Prelude.{true, false, List, [], ◌∷◌, ◌++◌, length, take, drop, map, filter}
use Rattle.std.specs.Prelude.{Option, Some}
use Rattle.blocking_world_laws.specs.Core.{greatest}
use Rattle.blocking_world_laws.specs.Seen.{IsBeginning, events, own, acts_of, cut, is_nothing}
use Rattle.blocking_world_laws.specs.Seen.{is_owner}
use Rattle.blocking_world_laws.specs.Lent.{Copier, copiers, copier_in}
use Rattle.blocking_world_laws.specs.Sessions.{call, jobs_of}
use Rattle.blocking_world_laws.specs.Passed.{data_of, taken}
use Rattle.blocking_world_laws.specs.declared.event.Act.{Act}
use Rattle.blocking_world_laws.specs.declared.event.Act.TheVariants.{Asked, Got, Filled, Waits}
use Rattle.blocking_world_laws.specs.declared.event.Act.TheVariants.{Replied, Linked, Copied}
use Rattle.blocking_world_laws.specs.declared.event.Act.TheVariants.{CopyFailed}
use Rattle.blocking_world_laws.specs.declared.event.CopySide.TheVariants as side
use Rattle.blocking_world_laws.specs.declared.event.Event.{Event}
use Rattle.blocking_world_laws.specs.declared.event.Moment.{Moment}
use Rattle.blocking_world_laws.specs.declared.event.Reply.{Reply}
use Rattle.blocking_world_laws.specs.declared.event.Reply.TheVariants.{Okay, Count, Failed}
use Rattle.blocking_world_laws.specs.declared.step.HandleCall.{HandleCall}
use Rattle.blocking_world_laws.specs.declared.step.HandleCall.TheVariants.{Read, Write, Flush}
use Rattle.blocking_world_laws.specs.declared.step.Step.{Step}
use Rattle.blocking_world_laws.specs.declared.step.Step.TheVariants.{Link, Copy}

-- ---- since the copier was made

-- whether a step and its act make this copier
abbrev pub makes_copier : ℕ → Step → Act → Bool
makes_copier k (Link a b n) (Linked j) = j == k
makes_copier k step act = false

-- the moments since this copier was made
abbrev pub since : ℕ → List Moment → List Moment
since k [] = []
since k (now ∷ past) = if makes_copier k now.step now.event.act then [] else now ∷ since k past

-- the own acts of an owner since the copier was made
abbrev pub acts_since : ℕ → ℕ → List Moment → List Act
acts_since k h past = own (cut h (events (since k past)))

-- whether an event is one of the copier's reader or writer
abbrev pub is_by_either : Copier → Event → Bool
is_by_either c e =
    not (is_nothing e.act) && (is_owner c.reader e.party || is_owner c.writer e.party)

-- the acts of its reader and its writer since it was made
abbrev pub polls_of : Copier → List Moment → List Act
polls_of c past = map (λ e. e.act) (filter (is_by_either c) (events (since c.number past)))

-- ---- what it read and wrote

-- all bytes that an owner got
abbrev pub all_got : List Act → List ℕ
all_got [] = []
all_got (Got bytes told ∷ past) = all_got past ++ bytes
all_got (_ ∷ past) = all_got past

-- all that was accepted of an owner's writes: of each as many of the first bytes as went in
abbrev pub all_accepted : List Act → List ℕ
all_accepted [] = []
all_accepted (Filled n told ∷ past) = all_accepted past ++ take n (data_of (call past))
all_accepted (_ ∷ past) = all_accepted past

-- all that the handle of an owner took, in the sessions of these jobs, the newest first
abbrev pub taken_by_jobs : List ℕ → List Event → List ℕ
taken_by_jobs [] cut = []
taken_by_jobs (s ∷ older) cut = taken_by_jobs older cut ++ taken (acts_of s cut)

-- all that the handle of an owner took, session after session
abbrev pub all_taken : List Event → List ℕ
all_taken cut = taken_by_jobs (jobs_of (own cut)) cut

-- what the copier read so far
abbrev pub read_by : Copier → List Moment → List ℕ
read_by c past = all_got (acts_since c.number c.reader past)

-- what the copier wrote so far
abbrev pub written_by : Copier → List Moment → List ℕ
written_by c past = all_accepted (acts_since c.number c.writer past)

-- what it read and hasn't written yet
abbrev pub rest_of : Copier → List Moment → List ℕ
rest_of c past = drop (length (written_by c past)) (read_by c past)

-- whether a call is a write
abbrev pub is_write : Option HandleCall → Bool
is_write (Some (Write bytes)) = true
is_write _ = false

-- whether a write was replied to with none
abbrev pub is_short : List Act → Bool
is_short [] = false
is_short (Replied (Count zero) ∷ past) = is_write (call past) || is_short past
is_short (_ ∷ past) = is_short past

-- ---- what it does next

-- What a copier does next: it asks its reader or its writer, or it tells how it ended.
pub data CopierAction : Type 0 where
  AskReader : HandleCall → CopierAction
  AskWriter : HandleCall → CopierAction
  Tells : Act → CopierAction

-- What became of what was asked last: nobody was asked yet, there is no reply yet, or a reply.
pub data Outcome : Type 0 where
  NotAsked : Outcome
  NoReply : Outcome
  HasReplied : Reply → Outcome

-- the outcome by the acts of reader and writer
abbrev pub outcome : List Act → Outcome
outcome [] = NotAsked
outcome (Asked asked ∷ past) = NoReply
outcome (Waits ∷ past) = NoReply
outcome (Replied reply ∷ past) = HasReplied reply
outcome (_ ∷ past) = outcome past

-- a rest is written, and where there is none more is read
abbrev pub write_on : List ℕ → ℕ → CopierAction
write_on [] n = AskReader (Read n)
write_on (b ∷ bs) n = AskWriter (Write (b ∷ bs))

-- the same call once more
abbrev pub once_more : Option HandleCall → ℕ → CopierAction
once_more (Some (Write bytes)) n = AskWriter (Write bytes)
once_more (Some Flush) n = AskWriter Flush
once_more asked n = AskReader (Read n)

-- how a copier ends whose writer is flushed: with the number of bytes that it wrote, or with a
-- failure where a write took none
abbrev pub ends_flushed : Bool → ℕ → Act
ends_flushed true n = CopyFailed side.Writing
ends_flushed false n = Copied (min n greatest)

-- What a copier does after a reply, which has this rest, wrote n bytes so far, and met a write that
-- took none or not: what it read it writes, to the last byte; at the reader's end, and after a
-- write that took none, it flushes; after the flush it ends; and a failure ends it at once.
abbrev pub after_reply : ℕ → List ℕ → ℕ → Bool → Option HandleCall → Reply → CopierAction
after_reply piece rest n short (Some (Read m)) (Count zero) = AskWriter Flush
after_reply piece rest n short (Some (Read m)) (Count (suc k)) = AskWriter (Write rest)
after_reply piece rest n short (Some (Read m)) (Failed why) = Tells (CopyFailed side.Reading)
after_reply piece rest n short (Some (Write bytes)) (Count zero) = AskWriter Flush
after_reply piece rest n short (Some (Write bytes)) (Count (suc k)) = write_on rest piece
after_reply piece rest n short (Some (Write bytes)) (Failed why) = Tells (CopyFailed side.Writing)
after_reply piece rest n short (Some Flush) Okay = Tells (ends_flushed short n)
after_reply piece rest n short (Some Flush) (Failed why) = Tells (CopyFailed side.Writing)
after_reply piece rest n short asked reply = once_more asked piece

-- what a copier does next, by what became of what it asked last
abbrev pub next_by : Copier → List Moment → Outcome → CopierAction
next_by c past NotAsked = AskReader (Read c.piece)
next_by c past NoReply = once_more (call (polls_of c past)) c.piece
next_by c past (HasReplied reply) =
    after_reply c.piece (rest_of c past) (length (written_by c past))
    (is_short (acts_since c.number c.writer past))
    (call (polls_of c past)) reply

-- what a copier does next
abbrev pub next_of_copier : Copier → List Moment → CopierAction
next_of_copier c past = next_by c past (outcome (polls_of c past))

-- ---- the law

-- what was asked last was a flush, and it was replied to without a fault
pub record IsFlushedLast (polls : List Act) : Type 0 where
  pub asked : call polls ≡ Some Flush
  pub replied : outcome polls ≡ HasReplied Okay

-- the first list is an ending of the second
abbrev pub IsEnding : List ℕ → List ℕ → Type 0
IsEnding xs ys = (front : List ℕ) × (ys ≡ front ++ xs)

-- Where a copier tells that n bytes were copied, it has written all that it read, its writer's
-- handle took all of that, its writer was flushed after it, and n is how much was written.
pub record IsCopied (c : Copier) (past : List Moment) (n : ℕ) : Type 0 where
  pub written : written_by c past ≡ read_by c past
  pub taken : IsEnding (written_by c past) (all_taken (cut c.writer (events past)))
  pub flushed : IsFlushedLast (polls_of c past)
  pub count : n ≡ min (length (written_by c past)) greatest

-- what a copier tells is so; one that isn't there tells nothing
abbrev pub TellsTruly : Option Copier → List Moment → Act → Type 0
TellsTruly (Some c) past (Copied n) = IsCopied c past n
TellsTruly _ past act = Unit {0}

-- the same of a step: only a copier's own tells
abbrev pub StepTells : Step → List Moment → Act → Type 0
StepTells (Copy k) past act = TellsTruly (copier_in k (copiers past)) past act
StepTells step past act = Unit {0}

-- The law of copies: until it tells its end, what each copier has written is a beginning of what it
-- has read; and what it tells is so.
pub record CopyLaw (past : List Moment) (now : Moment) : Type 0 where
  pub copies : (k : ℕ) (c : Copier) → copier_in k (copiers (now ∷ past)) ≡ Some c
      → IsBeginning (written_by c (now ∷ past)) (read_by c (now ∷ past))
  pub told : StepTells now.step past now.event.act
