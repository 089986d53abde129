-- The bytes that an event carries, and how many a step's event may carry at most: so the room for a
-- copy of them is made before it acts.
use Rattle.std.specs.Prelude.{ℕ, Bool, true, false, List, [], length, slice_get, Option, Some, None}
use Rattle.blocking_world_holders.specs.Owners.{Owner, bytes_in, front_in, next_of}
use Rattle.blocking_world_holders.specs.declared.owner.OwnerNext.{OwnerNext}
use Rattle.blocking_world_holders.specs.declared.owner.OwnerNext.TheVariants as next
use Rattle.blocking_world_laws.specs.declared.event.Act.{Act}
use Rattle.blocking_world_laws.specs.declared.event.Act.TheVariants.{Asked, Got, Peeked, Answered}
use Rattle.blocking_world_laws.specs.declared.step.HandleAnswer.{HandleAnswer}
use Rattle.blocking_world_laws.specs.declared.step.HandleAnswer.TheVariants.{Gave}
use Rattle.blocking_world_laws.specs.declared.step.HandleCall.{HandleCall}
use Rattle.blocking_world_laws.specs.declared.step.HandleCall.TheVariants.{Write}
use Rattle.blocking_world_laws.specs.declared.step.Step.{Step}
use Rattle.blocking_world_laws.specs.declared.step.Step.TheVariants.{Ask, Own, Job, Io}
use Rattle.blocking_world_state.specs.Parts.{Parts, InHand, job_at}
use Rattle.blocking_world_state.specs.declared.row.Core.{Core}
use Rattle.blocking_world_state.specs.declared.row.Core.TheVariants as core

-- the bytes of an answer
abbrev pub bytes_of_answer : HandleAnswer → List ℕ
bytes_of_answer (Gave bytes) = bytes
bytes_of_answer _ = []

abbrev pub bytes_of_call : HandleCall → List ℕ
bytes_of_call (Write bytes) = bytes
bytes_of_call _ = []

-- the bytes that an act carries
abbrev pub bytes_of : Act → List ℕ
bytes_of (Asked call) = bytes_of_call call
bytes_of (Got bytes told) = bytes
bytes_of (Peeked bytes) = bytes
bytes_of (Answered answer) = bytes_of_answer answer
bytes_of _ = []

-- how many bytes come out of the pipe where this owner acts next
abbrev pub bytes_to_get : Option Owner → ℕ
bytes_to_get None = 0
bytes_to_get (Some owner) = bytes_in (next_of owner)

-- how many bytes the job in this hand finds at the front of its pipe at most
abbrev pub front_at : Option Owner → ℕ
front_at None = 0
front_at (Some owner) = front_in owner.session

abbrev pub front_for : Parts → Core → ℕ
front_for w (core.Call k call) = 0
front_for w (core.Session h job) = front_at (slice_get w.owners h)

abbrev pub bytes_to_find : Parts → Option InHand → ℕ
bytes_to_find w None = 0
bytes_to_find w (Some job) = front_for w job.row.core

-- how many bytes the event of this step carries at most: those that are to be written, those that
-- come out of the pipe, those that a job finds at its front, or those of an answer
abbrev pub bytes_to_come : Parts → Step → ℕ
bytes_to_come w (Ask h call) = length (bytes_of_call call)
bytes_to_come w (Job v) = bytes_to_find w (job_at w v)
bytes_to_come w (Own h) = bytes_to_get (slice_get w.owners h)
bytes_to_come w (Io v answer) = length (bytes_of_answer answer)
bytes_to_come w step = 0

-- whether the poll of an owner is under way: there is something that it does next
abbrev pub is_busy : OwnerNext → Bool
is_busy next.Rests = false
is_busy _ = true

-- whether there is such an owner, and its poll is under way
abbrev pub polls_in : Option Owner → Bool
polls_in None = false
polls_in (Some owner) = is_busy (next_of owner)
