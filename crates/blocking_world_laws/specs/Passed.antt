-- What passed in a session: what the handle gave, what the owner got, and what is inside the pipe.
-- Items go by their numbers, as bytes do.
use Rattle.std.specs.Prelude.{ℕ, ◌+◌, ◌-◌, ◌≤◌, List, [], ◌∷◌, ◌++◌, length, take, drop, Option}
use Rattle.std.specs.Prelude.{Some, None, map, filter, not, ◌&&◌, Bool, false}
use Rattle.blocking_world_laws.specs.Seen.{IsBeginning, own, is_this, is_of_pool, is_nothing}
use Rattle.blocking_world_laws.specs.Seen.{is_some_worker}
use Rattle.blocking_world_laws.specs.JobTable.{Kind, Calling, Reading, Writing, Streaming}
use Rattle.blocking_world_laws.specs.Sessions.{Session, last_session, call, capacity}
use Rattle.blocking_world_laws.specs.declared.event.Act.{Act}
use Rattle.blocking_world_laws.specs.declared.event.Act.TheVariants.{Accepted, Got, GotItem, Filled}
use Rattle.blocking_world_laws.specs.declared.event.Act.TheVariants.{Answered, Put, Peeked, Taken}
use Rattle.blocking_world_laws.specs.declared.event.Event.{Event}
use Rattle.blocking_world_laws.specs.declared.step.HandleAnswer.{HandleAnswer}
use Rattle.blocking_world_laws.specs.declared.step.HandleAnswer.TheVariants.{Number, Gave, Item}
use Rattle.blocking_world_laws.specs.declared.step.HandleCall.{HandleCall}
use Rattle.blocking_world_laws.specs.declared.step.HandleCall.TheVariants.{Write}

-- ---- what was given and got

-- the bytes in an answer, or the item
abbrev pub carried : HandleAnswer → List ℕ
carried (Gave bytes) = bytes
carried (Item x) = x ∷ []
carried _ = []

-- what the handle of a job gave that reads or iterates it, all its answers joined
abbrev pub gave : List Act → List ℕ
gave [] = []
gave (Answered answer ∷ past) = gave past ++ carried answer
gave (_ ∷ past) = gave past

-- what the owner got since its last session began
abbrev pub got : List Act → List ℕ
got [] = []
got (Accepted s ∷ past) = []
got (Got bytes told ∷ past) = got past ++ bytes
got (GotItem x told ∷ past) = got past ++ x ∷ []
got (_ ∷ past) = got past

-- ---- what was taken for writing, and written

-- the bytes that a call has to write
abbrev pub data_of : Option HandleCall → List ℕ
data_of (Some (Write bytes)) = bytes
data_of _ = []

-- what was accepted of the owner's writes since its last session began: of each write as many of
-- the first bytes as went in
abbrev pub accepted : List Act → List ℕ
accepted [] = []
accepted (Accepted s ∷ past) = []
accepted (Filled n told ∷ past) = accepted past ++ take n (data_of (call past))
accepted (_ ∷ past) = accepted past

-- the piece that the job found last at the front of the pipe
abbrev pub peeked : List Act → List ℕ
peeked [] = []
peeked (Peeked bytes ∷ past) = bytes
peeked (_ ∷ past) = peeked past

-- what an answer says was taken of the piece that was offered: so many of its first bytes
abbrev pub counted : HandleAnswer → List ℕ → List ℕ
counted (Number k) piece = take k piece
counted _ piece = []

-- what the writer of a job took of the pieces that it was offered, all joined
abbrev pub taken : List Act → List ℕ
taken [] = []
taken (Answered answer ∷ past) = taken past ++ counted answer (peeked past)
taken (_ ∷ past) = taken past

-- ---- what is inside

-- what that handle gave last
abbrev pub answered : List Act → List ℕ
answered [] = []
answered (Answered answer ∷ past) = carried answer
answered (_ ∷ past) = answered past

-- what the job put into the pipe: of each piece that it was given as many of the first bytes as it
-- put, and each item that it sent
abbrev pub was_put : List Act → List ℕ
was_put [] = []
was_put (Put n waker ∷ past) = was_put past ++ take n (answered past)
was_put (_ ∷ past) = was_put past

-- how many bytes the job took out of the pipe
abbrev pub removed : List Act → ℕ
removed [] = 0
removed (Taken n waker ∷ past) = n + removed past
removed (_ ∷ past) = removed past

-- what is inside a pipe, by the acts of its owner and of its job: what was put and not got yet, or
-- what was accepted and not taken out yet
abbrev pub inside_by : Kind → List Act → List Act → List ℕ
inside_by Reading owner job = drop (length (got owner)) (was_put job)
inside_by Streaming owner job = drop (length (got owner)) (was_put job)
inside_by Writing owner job = drop (removed job) (accepted owner)
inside_by _ owner job = []

-- whether the job is that of this session
abbrev pub is_serial : Option Session → Option ℕ → Bool
is_serial None job = false
is_serial (Some s) job = is_this s.serial job

-- whether an event is an act of this session's job
abbrev pub is_of_session : Option Session → Event → Bool
is_of_session last e = not (is_of_pool e.act) && not (is_nothing e.act) && is_some_worker e.party
    && is_serial last e.job

-- the acts of the last session's job, the newest first
abbrev pub last_job : List Event → List Act
last_job cut = map (λ e. e.act) (filter (is_of_session (last_session (own cut))) cut)

-- the kind of this session
abbrev pub kind_in : Option Session → Kind
kind_in None = Calling
kind_in (Some s) = s.kind

-- the kind of the last session
abbrev pub last_kind : List Event → Kind
last_kind cut = kind_in (last_session (own cut))

-- what is inside the pipe of the last session
abbrev pub inside : List Event → List ℕ
inside cut = inside_by (last_kind cut) (own cut) (last_job cut)

-- the room in that pipe
abbrev pub room_in : List Event → ℕ
room_in cut = capacity (last_kind cut) (own cut) - length (inside cut)

-- how many items a job of this kind may have in hand beside what is inside: one, if it fetches
-- items
abbrev pub in_hand : Kind → ℕ
in_hand Streaming = 1
in_hand _ = 0

-- In the last session the owner got a beginning of what its handle gave, and its writer took a
-- beginning of what was accepted; no more is inside than the pipe holds; and the handle gave no
-- more than what the owner got and what the pipe holds, and one item.
pub record PassesOn (cut : List Event) : Type 0 where
  pub read : IsBeginning (got (own cut)) (gave (last_job cut))
  pub written : IsBeginning (taken (last_job cut)) (accepted (own cut))
  pub within : length (inside cut) ≤ capacity (last_kind cut) (own cut)
  pub bounded : length (gave (last_job cut)) ≤ length (got (own cut)) + capacity (last_kind cut) (own cut) + in_hand (last_kind cut)
