-- The laws of one owner and of its jobs, over the cut of that owner alone.
use Rattle.std.specs.Prelude.{◌≡◌, ℕ, Bool, true, false, not, List, [], ◌∷◌, length, Option, Some}
use Rattle.std.specs.Prelude.{None}
use Rattle.blocking_pool.specs.Lists.{is_in}
use Rattle.blocking_world_laws.specs.Core.{drain, receive, fill, find_room, hand_in, peek}
use Rattle.blocking_world_laws.specs.Seen.{EachMayFollow, own, acts_of, is_some_worker}
use Rattle.blocking_world_laws.specs.JobTable.{Kind, JobAction, FindRoom, PutPiece, Peek, Consume}
use Rattle.blocking_world_laws.specs.JobTable.{piece, SendItem, CloseEnd, PutResult, Finish}
use Rattle.blocking_world_laws.specs.JobTable.{WakeHolder, Over, IsAnswerTo, next_but_wake}
use Rattle.blocking_world_laws.specs.JobTable.{next_of_job, is_over, number, has_result}
use Rattle.blocking_world_laws.specs.JobTable.{has_finished, has_closed}
use Rattle.blocking_world_laws.specs.Sessions.{jobs_of, kind_of_job, may_ask, rests, is_dropped}
use Rattle.blocking_world_laws.specs.Sessions.{is_shut}
use Rattle.blocking_world_laws.specs.Passed.{inside, room_in, last_job, PassesOn}
use Rattle.blocking_world_laws.specs.Places.{seen_drain, seen_receive, seen_fill, seen_room, seated}
use Rattle.blocking_world_laws.specs.Places.{seen_put, seen_peek, poll_slot, poll_place}
use Rattle.blocking_world_laws.specs.Seats.{waker_in}
use Rattle.blocking_world_laws.specs.OwnerTable.{OwnerAction, Begin, CloseOwn, WakeJob, Drain, Fill}
use Rattle.blocking_world_laws.specs.OwnerTable.{Receive, PollSlot, PollPlace, Say, Rest}
use Rattle.blocking_world_laws.specs.OwnerTable.{next_of_owner}
use Rattle.blocking_world_laws.specs.OwnerSeats.{noted, pipe_seat, slot_seat, result_seat}
use Rattle.blocking_world_laws.specs.Ends.{EndsTruly}
use Rattle.blocking_world_laws.specs.Steps.{IsBegun, IsWakeOf}
use Rattle.blocking_world_laws.specs.declared.event.Act.{Act}
use Rattle.blocking_world_laws.specs.declared.event.Act.TheVariants.{Made, Asked, Accepted}
use Rattle.blocking_world_laws.specs.declared.event.Act.TheVariants.{OwnerClosed, Replied}
use Rattle.blocking_world_laws.specs.declared.event.Act.TheVariants.{HolderDropped, Taken}
use Rattle.blocking_world_laws.specs.declared.event.Act.TheVariants.{JobClosed, ResultPut, Finished}
use Rattle.blocking_world_laws.specs.declared.event.Act.TheVariants.{GaveUp, HolderWoken}
use Rattle.blocking_world_laws.specs.declared.event.Event.{Event}

-- a session begins, with a job that the owner had not before, or is refused
abbrev pub IsBegunAnew : List Act → Act → Type 0
IsBegunAnew acts (Accepted s) = is_in s (jobs_of acts) ≡ false
IsBegunAnew acts act = IsBegun act

-- The act of a poll is the one that its next action gives, with what its place answers.
abbrev pub Polls : List Event → OwnerAction → Act → Type 0
Polls cut Begin act = IsBegunAnew (own cut) act
Polls cut (WakeJob s) act = IsWakeOf s act
Polls cut CloseOwn act = act ≡ OwnerClosed (noted cut)
Polls cut (Drain n) act =
    act ≡ seen_drain (drain n (inside cut) (not (has_closed (last_job cut))) (noted cut))
Polls cut (Fill bytes) act = act
    ≡ seen_fill (fill (length bytes) (room_in cut) (not (has_closed (last_job cut))) (noted cut))
Polls cut Receive act =
    act ≡ seen_receive (receive (inside cut) (not (has_closed (last_job cut))) (noted cut))
Polls cut PollSlot act = act ≡ poll_slot (has_finished (last_job cut))
Polls cut PollPlace act = act ≡ poll_place (has_result (last_job cut)) (number (last_job cut))
Polls cut (Say reply) act = act ≡ Replied reply
Polls cut Rest act = ⊥

-- An owner is made first, asked only where it may be and dropped only where it rests, and else does
-- what its poll does next.
abbrev pub OwnerActs : List Event → Act → Type 0
OwnerActs cut (Made h capacity) = cut ≡ []
OwnerActs cut (Asked call) = may_ask (own cut) call ≡ true
OwnerActs cut HolderDropped = rests (own cut) ≡ true
OwnerActs cut act = Polls cut (next_of_owner cut) act

-- The act of a job is the one that its next action gives, with what its place answers.
abbrev pub Works : List Event → JobAction → Act → Type 0
Works cut FindRoom act = act ≡ seen_room (find_room (room_in cut) (not (is_shut (own cut))))
Works cut (PutPiece bytes) act =
    act ≡ seen_put (length bytes)
    (hand_in (length bytes) (room_in cut) (not (is_shut (own cut))) (seated (pipe_seat cut)))
Works cut (SendItem x) act = act ≡ seen_put 1 (hand_in 1 (room_in cut) (not (is_shut (own cut))) (seated (pipe_seat cut)))
Works cut Peek act = act ≡ seen_peek (peek piece (inside cut) (not (is_shut (own cut))))
Works cut (Consume n) act = act ≡ Taken n (waker_in (pipe_seat cut))
Works cut CloseEnd act = act ≡ JobClosed (waker_in (pipe_seat cut))
Works cut PutResult act = act ≡ ResultPut (waker_in (result_seat cut))
Works cut Finish act = act ≡ Finished (waker_in (slot_seat cut))
Works cut WakeHolder act = act ≡ HolderWoken
Works cut Over act = ⊥
Works cut action act = IsAnswerTo action act

-- What a job may do: what its table says; or give up, where its owner was dropped and it isn't
-- over, and then it takes the waker of its owner where one is seated in its slot.
abbrev pub JobActs : List Event → ℕ → Kind → Act → Type 0
JobActs cut s kind (GaveUp waker) =
    (is_dropped (own cut) ≡ true) × (is_over (next_but_wake kind (acts_of s cut)) ≡ false)
    × (waker ≡ waker_in (slot_seat cut))
JobActs cut s kind act = Works cut (next_of_job kind (acts_of s cut)) act

-- a job of the owner acts, and no other one
abbrev pub JobMayAct : List Event → Option ℕ → Act → Type 0
JobMayAct cut None act = ⊥
JobMayAct cut (Some s) act =
    (is_in s (jobs_of (own cut)) ≡ true) × JobActs cut s (kind_of_job s (own cut)) act

-- an act of a worker is its job's; any other is the owner's own
abbrev pub OwnerMayAct : Bool → List Event → Event → Type 0
OwnerMayAct true cut now = JobMayAct cut now.job now.act
OwnerMayAct false cut now = OwnerActs cut now.act

-- The law of an owner: an event of it or of its job may follow those before it; what is told to be
-- over is over; and what passed is a beginning of what was given.
pub record OwnerLaw (cut : List Event) (now : Event) : Type 0 where
  pub acts : OwnerMayAct (is_some_worker now.party) cut now
  pub ends : EndsTruly cut now.act
  pub passed : PassesOn (now ∷ cut)

-- the law of an owner, at each event of its cut
abbrev pub OwnerLaws : List Event → Type 0
OwnerLaws cut = EachMayFollow OwnerLaw cut

-- whether an act is of a poll that is under way: not the making of an owner, the beginning of a
-- poll, or the drop of an owner
abbrev pub is_of_poll : Act → Bool
is_of_poll (Made h capacity) = false
is_of_poll (Asked call) = false
is_of_poll HolderDropped = false
is_of_poll _ = true

-- whether the cut alone says what is seen of this action: the pool answers whether a session
-- begins, and what a wake does
abbrev pub is_settled : OwnerAction → Bool
is_settled Begin = false
is_settled (WakeJob s) = false
is_settled _ = true
