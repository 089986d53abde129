-- The table of a job: what it does next, read from its own acts, the newest first.
use Rattle.std.specs.Prelude.{◌≡◌, ℕ, zero, suc, nat_le, min, Bool, true, false, List, [], ◌∷◌}
use Rattle.std.specs.Prelude.{length, Option, Some, None}
use Rattle.blocking_core.specs.declared.io.Fault.{Fault}
use Rattle.blocking_core.specs.declared.io.Fault.TheVariants.{Io, WriteZero}
use Rattle.blocking_core.specs.declared.io.Position.{Position}
use Rattle.blocking_world_laws.specs.declared.event.Act.{Act}
use Rattle.blocking_world_laws.specs.declared.event.Act.TheVariants.{RoomFree, RoomShut, Answered, Put, Lost, Peeked, Drained}
use Rattle.blocking_world_laws.specs.declared.event.Act.TheVariants.{Taken as TakenOut, JobClosed}
use Rattle.blocking_world_laws.specs.declared.event.Act.TheVariants.{ResultPut, Finished, GaveUp}
use Rattle.blocking_world_laws.specs.declared.event.HolderWaker.{HolderWaker}
use Rattle.blocking_world_laws.specs.declared.event.HolderWaker.TheVariants.{Taken, Absent}
use Rattle.blocking_world_laws.specs.declared.step.HandleAnswer.{HandleAnswer}
use Rattle.blocking_world_laws.specs.declared.step.HandleAnswer.TheVariants.{Number, Gave}
use Rattle.blocking_world_laws.specs.declared.step.HandleAnswer.TheVariants.{Fine, Item}
use Rattle.blocking_world_laws.specs.declared.step.HandleAnswer.TheVariants.{NoItem}
use Rattle.blocking_world_laws.specs.declared.step.HandleAnswer.TheVariants as answer

-- what a job is for: to make a call, to read ahead for an owner, to write behind it, to fetch items
-- ahead for it, to move its handle to a position, or to run its operation on the handle
pub data Kind : Type 0 where
  Calling : Kind
  Reading : Kind
  Writing : Kind
  Streaming : Kind
  Seeking : Position → Kind
  Operating : Kind

-- the most bytes that a reader is asked for, and a writer offered, at once
abbrev pub piece : ℕ
piece = 65536

-- The next action of a job: it asks for its call's answer; it asks its reader for at most so many
-- bytes, looks for room in the pipe, puts these bytes there; it looks at the front of the pipe,
-- offers these bytes to its writer, takes so many out of the pipe, has its writer flushed; it asks
-- its handle for an item, sends this item into the pipe; it closes its end; it has the handle
-- moved; it has its operation run, and puts the operation's result; it puts its own result, calls
-- the waker that it took, or has nothing left to do.
pub data JobAction : Type 0 where
  AskCall : JobAction
  AskBytes : ℕ → JobAction
  FindRoom : JobAction
  PutPiece : List ℕ → JobAction
  Peek : JobAction
  OfferBytes : List ℕ → JobAction
  Consume : ℕ → JobAction
  AskFlush : JobAction
  AskItem : JobAction
  SendItem : ℕ → JobAction
  CloseEnd : JobAction
  AskSeek : JobAction
  AskResult : JobAction
  PutResult : JobAction
  Finish : JobAction
  WakeHolder : JobAction
  Over : JobAction

-- the first action of a job
abbrev pub first_action : Kind → JobAction
first_action Calling = AskCall
first_action Reading = FindRoom
first_action Writing = Peek
first_action Streaming = AskItem
first_action (Seeking position) = AskSeek
first_action Operating = AskResult

-- the action after an answer to this one: bytes of a reader are put, and after none, and after a
-- failure, the job closes its end; bytes that a writer took leave the pipe, after none, and after a
-- failure, it is flushed, and after the flush the job closes its end; an item is sent, and after
-- the last the job closes its end; an operation's result is put; after a seek, and after a call,
-- the job finishes
abbrev pub next_after_answer : JobAction → HandleAnswer → JobAction
next_after_answer (AskBytes n) (Gave (b ∷ bs)) = PutPiece (b ∷ bs)
next_after_answer (AskBytes n) answer = CloseEnd
next_after_answer (OfferBytes bytes) (Number (suc k)) = Consume (suc k)
next_after_answer (OfferBytes bytes) answer = AskFlush
next_after_answer AskFlush answer = CloseEnd
next_after_answer AskItem (Item x) = SendItem x
next_after_answer AskItem answer = CloseEnd
next_after_answer AskResult answer = PutResult
next_after_answer action answer = Finish

-- the action of a job of this kind after it handed something in: the next item is asked for, or
-- room is looked for
abbrev pub after_put : Kind → JobAction
after_put Streaming = AskItem
after_put _ = FindRoom

-- the job's next action, were no waker to be called first; after a wait it is the same again
abbrev pub next_but_wake : Kind → List Act → JobAction
next_but_wake kind [] = first_action kind
next_but_wake kind (Answered answer ∷ past) = next_after_answer (next_but_wake kind past) answer
next_but_wake kind (RoomFree n ∷ past) = AskBytes (min n piece)
next_but_wake kind (RoomShut ∷ past) = CloseEnd
next_but_wake kind (Put n waker ∷ past) = after_put kind
next_but_wake kind (Lost n ∷ past) = CloseEnd
next_but_wake kind (Peeked bytes ∷ past) = OfferBytes bytes
next_but_wake kind (Drained ∷ past) = AskFlush
next_but_wake kind (TakenOut n waker ∷ past) = Peek
next_but_wake kind (JobClosed waker ∷ past) = Finish
next_but_wake kind (ResultPut waker ∷ past) = Finish
next_but_wake kind (Finished waker ∷ past) = Over
next_but_wake kind (GaveUp waker ∷ past) = Over
next_but_wake kind (_ ∷ past) = next_but_wake kind past

-- whether a waker was found in the holder's seat, and taken
abbrev pub is_taken : HolderWaker → Bool
is_taken Taken = true
is_taken Absent = false

-- whether an act took the holder's waker out of its seat
abbrev pub takes_waker : Act → Bool
takes_waker (Put n waker) = is_taken waker
takes_waker (TakenOut n waker) = is_taken waker
takes_waker (JobClosed waker) = is_taken waker
takes_waker (ResultPut waker) = is_taken waker
takes_waker (Finished waker) = is_taken waker
takes_waker (GaveUp waker) = is_taken waker
takes_waker _ = false

-- a waker that was taken is called before all else
abbrev pub wake_first : Bool → JobAction → JobAction
wake_first true action = WakeHolder
wake_first false action = action

-- the job's next action
abbrev pub next_of_job : Kind → List Act → JobAction
next_of_job kind [] = first_action kind
next_of_job kind (act ∷ past) = wake_first (takes_waker act) (next_but_wake kind (act ∷ past))

-- whether this is an answer to what the job asks for: a reader gives no more bytes than it was
-- asked for, a writer takes no more than it was offered, or is flushed, a handle is moved, or one
-- of these fails; a handle that is iterated gives an item or has none left, and an operation gives
-- a number, as a call does
abbrev pub is_answer : JobAction → HandleAnswer → Bool
is_answer AskCall (Number n) = true
is_answer (AskBytes n) (Gave bytes) = nat_le (length bytes) n
is_answer (AskBytes n) (answer.Failed e) = true
is_answer (OfferBytes bytes) (Number k) = nat_le k (length bytes)
is_answer (OfferBytes bytes) (answer.Failed e) = true
is_answer AskFlush Fine = true
is_answer AskFlush (answer.Failed e) = true
is_answer AskItem (Item x) = true
is_answer AskItem NoItem = true
is_answer AskSeek (Number n) = true
is_answer AskSeek (answer.Failed e) = true
is_answer AskResult (Number n) = true
is_answer action answer = false

-- whether the job waits for an answer from outside
abbrev pub is_asking : JobAction → Bool
is_asking AskCall = true
is_asking (AskBytes n) = true
is_asking (OfferBytes bytes) = true
is_asking AskFlush = true
is_asking AskItem = true
is_asking AskSeek = true
is_asking AskResult = true
is_asking _ = false

-- whether the job has nothing left to do
abbrev pub is_over : JobAction → Bool
is_over Over = true
is_over _ = false

-- an act that is an answer to what the job asks for
abbrev pub IsAnswerTo : JobAction → Act → Type 0
IsAnswerTo action (Answered answer) = is_answer action answer ≡ true
IsAnswerTo action _ = ⊥

-- the number in an answer, or the one before it
abbrev pub number_in : HandleAnswer → ℕ → ℕ
number_in (Number n) before = n
number_in _ before = before

-- the last number that the job was answered
abbrev pub number : List Act → ℕ
number [] = 0
number (Answered answer ∷ past) = number_in answer (number past)
number (_ ∷ past) = number past

-- the fault in an answer to this action: a failure, or a write of which nothing was taken
abbrev pub fault_in : JobAction → HandleAnswer → Option (Fault ℕ)
fault_in action (answer.Failed e) = Some (Io e)
fault_in (OfferBytes bytes) (Number zero) = Some WriteZero
fault_in action _ = None

-- the first of two faults
abbrev pub earlier : Option (Fault ℕ) → Option (Fault ℕ) → Option (Fault ℕ)
earlier (Some why) later = Some why
earlier None later = later

-- the fault of a job of this kind: the first one
abbrev pub fault : Kind → List Act → Option (Fault ℕ)
fault kind [] = None
fault kind (Answered answer ∷ past) =
    earlier (fault kind past) (fault_in (next_but_wake kind past) answer)
fault kind (_ ∷ past) = fault kind past

-- whether the job closed its end of the pipe
abbrev pub has_closed : List Act → Bool
has_closed [] = false
has_closed (JobClosed waker ∷ past) = true
has_closed (_ ∷ past) = has_closed past

-- whether the job has put its operation's result
abbrev pub has_result : List Act → Bool
has_result [] = false
has_result (ResultPut waker ∷ past) = true
has_result (_ ∷ past) = has_result past

-- whether the job has put its result
abbrev pub has_finished : List Act → Bool
has_finished [] = false
has_finished (Finished waker ∷ past) = true
has_finished (_ ∷ past) = has_finished past

-- whether the job gave up
abbrev pub has_given_up : List Act → Bool
has_given_up [] = false
has_given_up (GaveUp waker ∷ past) = true
has_given_up (_ ∷ past) = has_given_up past
