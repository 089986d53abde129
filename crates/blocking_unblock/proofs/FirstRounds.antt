-- How a poll's machine stands as it begins, and what has its reply at once.
use Rattle.std.proofs.Common.{◌≡◌, ◌⊎◌, Bool, false, inl, inr, refl, sym, ap, ◌∙◌, subst}
use Rattle.blocking_core.specs.OwnerCalls.{OwnerMachine, table, begun_by, new_poll, owner_next}
use Rattle.blocking_core.specs.declared.io.Fault.TheVariants as fault
use Rattle.blocking_core.specs.declared.unblock.PollCall.{PollCall}
use Rattle.blocking_core.specs.declared.unblock.PollCall.TheVariants.{Read, Write, Flush, Close}
use Rattle.blocking_core.specs.declared.unblock.PollCall.TheVariants.{Seek, Next, Operate, GetMut}
use Rattle.blocking_core.specs.declared.unblock.PollCall.TheVariants.{IntoInner}
use Rattle.blocking_core.specs.declared.unblock.State.{State}
use Rattle.blocking_core.specs.declared.unblock.State.TheVariants.{Idle}
use Rattle.blocking_core.specs.declared.unblock.Reply.{Reply}
use Rattle.blocking_core.specs.declared.unblock.Reply.TheVariants as reply
use Rattle.blocking_core.specs.declared.unblock.OwnerAction.{OwnerAction}
use Rattle.blocking_core.specs.declared.unblock.OwnerAction.TheVariants as act
use Rattle.futures.specs.declared.task.Poll.TheVariants.{Ready}
use Rattle.std.specs.declared.io.Error.{Error}
use Rattle.blocking_unblock.specs.Owners.{HasReply, IfRefused, IsAt, IsClosed, KeepsAtOnce}
use Rattle.blocking_unblock.specs.Owners.{KeepsRefused, state_of}
use Rattle.blocking_unblock.specs.Polls.{Kept, FitsReply, IsGoing, MayAsk, FitsAction, Stands}
use Rattle.blocking_unblock.specs.Polls.{KeepsOpen, KeepsFirst, KeepsBrought}
use Rattle.blocking_unblock.specs.declared.handle_state.HandleState.{HandleState}
use Rattle.blocking_unblock.proofs.Standing.{table_fits, idle_first, same_brought}

module _ {T I H E B : Type 0} (begins : B → State → Type 0) (keeps : B → Kept → Type 0) where
  -- a poll that begins stands
  pub first_stands : (armed : Type 0) (poll : OwnerMachine E) (call : PollCall) (state : State)
      (place : HandleState T I H) (brought : B) → poll ≡ new_poll call state
      → state ≡ state_of place → MayAsk begins keeps call (state_of place) brought
      → Stands begins keeps armed poll place brought
  first_stands armed poll call state place brought is at may =
      let P : OwnerMachine E → Type 0 = λ m. Stands begins keeps armed m place brought in
      let Q : State → Type 0 = λ s. MayAsk begins keeps call s brought in
      subst P (sym is) (record {
        awake = refl;
        fits = table_fits begins keeps E armed call state
            brought (subst Q (sym at) may);
        at = sym at;
      })

module _ {T I H E : Type 0} where
  pub first_kept : (poll : OwnerMachine E) (call : PollCall) (state : State)
      (place : HandleState T I H)
      → poll ≡ new_poll call state → state ≡ state_of place → IsAt Idle place
      → KeepsFirst poll.call poll.state poll.next poll.is_at_end place place
  first_kept poll call state place is at idle =
      let P : OwnerMachine E → Type 0 =
      λ m. KeepsFirst m.call m.state m.next m.is_at_end place place in
      let Q : State → Type 0 = λ s. KeepsFirst {E = E} call s (table call s) false place place in
      subst P (sym is) (subst Q (sym (at ∙ idle)) (idle_first E call place))

module _ {E : Type 0} where
  pub first_brought : {B : Type 0} (keeps : B → Kept → Type 0) (call : PollCall)
      (next : OwnerAction E) (brought : B) → KeepsBrought keeps call next brought brought
  first_brought keeps call next brought =
      same_brought E keeps brought brought brought call next refl

  -- a poll that is refused leaves the handle with its owner
  refused_idle :
      (call : PollCall) (state : State) (reply : Reply E) (ready : Type 0) (kept : Kept → Type 0)
      → FitsReply call state reply ready kept → IfRefused (Ready reply) (state ≡ Idle)
  refused_idle (Read most) state (reply.Failed (fault.Refused why)) ready kept fits = fits
  refused_idle (Write most) state (reply.Failed (fault.Refused why)) ready kept fits = fits
  refused_idle (Seek to) state (reply.Failed (fault.Refused why)) ready kept fits = fits
  refused_idle Flush state (reply.Failed (fault.Refused why)) ready kept fits = fits
  refused_idle Close state (reply.Failed (fault.Refused why)) ready kept fits = fits
  refused_idle Next state (reply.Failed (fault.Refused why)) ready kept fits = absurd fits
  refused_idle (Operate begun) state (reply.Failed (fault.Refused why)) ready kept fits =
      absurd fits
  refused_idle GetMut state (reply.Failed (fault.Refused why)) ready kept fits = absurd fits
  refused_idle IntoInner state (reply.Failed (fault.Refused why)) ready kept fits = absurd fits
  refused_idle Next state (reply.NotBegun why) ready kept fits = fits
  refused_idle (Operate begun) state (reply.NotBegun why) ready kept fits = fits.0
  refused_idle (Read most) state (reply.NotBegun why) ready kept fits = absurd fits
  refused_idle (Write most) state (reply.NotBegun why) ready kept fits = absurd fits
  refused_idle (Seek to) state (reply.NotBegun why) ready kept fits = absurd fits
  refused_idle Flush state (reply.NotBegun why) ready kept fits = absurd fits
  refused_idle Close state (reply.NotBegun why) ready kept fits = absurd fits
  refused_idle GetMut state (reply.NotBegun why) ready kept fits = absurd fits
  refused_idle IntoInner state (reply.NotBegun why) ready kept fits = absurd fits
  refused_idle call state reply ready kept fits = tt

  -- and as it was, where it was there before
  refused_first_place : {T I H : Type 0} (call : PollCall) (state : State) (reply : Reply E)
      (at_end : Bool) (place first : HandleState T I H)
      → KeepsFirst call state (act.Reply reply) at_end place first
      → IfRefused (Ready reply) (place ≡ first)
  refused_first_place call state (reply.Failed (fault.Refused why)) at_end place first kept = kept
  refused_first_place call state (reply.NotBegun why) at_end place first kept = kept
  refused_first_place call state reply at_end place first kept = tt

  refused_both : (reply : Reply E) (P Q R : Type 0) → IfRefused (Ready reply) P
      → (R → IfRefused (Ready reply) Q) → IfRefused (Ready reply) (P × (R → Q))
  refused_both (reply.Failed (fault.Refused why)) P Q R p q = (p, q)
  refused_both (reply.NotBegun why) P Q R p q = (p, q)
  refused_both reply P Q R p q = tt

  refused_moved : (reply : Reply E) (P Q : Type 0) → (P → Q) → IfRefused (Ready reply) P
      → IfRefused (Ready reply) Q
  refused_moved (reply.Failed (fault.Refused why)) P Q f p = f p
  refused_moved (reply.NotBegun why) P Q f p = f p
  refused_moved reply P Q f p = tt

module _ {T I H E : Type 0} where
  pub refused_by : {B : Type 0} (begins : B → State → Type 0) (keeps : B → Kept → Type 0)
      (armed : Type 0) (poll : OwnerMachine E) (reply : Reply E) (place first : HandleState T I H)
      (brought : B)
      → Stands begins keeps armed poll place brought → act.Reply reply ≡ owner_next poll
      → (IsAt Idle first → KeepsFirst poll.call poll.state poll.next poll.is_at_end place first)
      → KeepsRefused first (Ready reply) place
  refused_by {B} begins keeps armed poll reply place first brought stands is kept =
      let next : poll.next ≡ act.Reply reply = sym (is ∙ (rw stands.awake refl)) in
      let P : OwnerAction E → Type 0 =
      λ a. KeepsFirst poll.call poll.state a poll.is_at_end place first in
      let F : OwnerAction E → Type 0 =
      λ a. FitsAction begins keeps armed poll.call poll.state a brought in
      let idle : IfRefused (Ready reply) (poll.state ≡ Idle) = refused_idle poll.call poll.state
      reply (begins brought (begun_by poll.call)) (keeps brought) (subst F next stands.fits) in
      refused_both reply (IsAt Idle place) (place ≡ first) (IsAt Idle first)
      (refused_moved reply (poll.state ≡ Idle) (IsAt Idle place) (λ e. stands.at ∙ e) idle)
      (λ was. refused_first_place poll.call poll.state reply poll.is_at_end place first
      (subst P next (kept was)))

  -- where nothing was closed nothing is, but by a close; and what was closed is
  pub stays_closed : (first poll : OwnerMachine E) (call : PollCall) (state : State)
      (before place : HandleState T I H) → first ≡ new_poll call state → state ≡ state_of before
      → IsAt poll.state place → KeepsOpen first.call first.state poll.state → IsClosed before
      → IsClosed place
  stays_closed first poll call state before place is was at kept closed =
      at ∙ kept.stays (ap (λ m. m.state) is ∙ (was ∙ closed))

  pub closes_only : (first poll : OwnerMachine E) (call : PollCall) (state : State)
      (before place : HandleState T I H) → first ≡ new_poll call state → state ≡ state_of before
      → IsAt poll.state place → KeepsOpen first.call first.state poll.state → IsClosed place
      → IsClosed before ⊎ (call ≡ Close)
  closes_only first poll call state before place is was at kept closed =
      elim (kept.closes (sym at ∙ closed)) [
        | inl began ↦ inl (sym was ∙ (sym (ap (λ m. m.state) is) ∙ began))
        | inr asked ↦ inr (sym (ap (λ m. m.call) is) ∙ asked)
      ]

-- ---- what has its reply at once

module _ {E : Type 0} where
  no_reply_goes : (action : OwnerAction E) → IsGoing action → HasReply action → ⊥
  no_reply_goes (act.Reply reply) going replied = going
  no_reply_goes action going replied = replied

  -- a poll that had its reply when it began never goes on
  pub none_going : (first now : OwnerAction E) → IsGoing now → now ≡ first → HasReply first → ⊥
  none_going first now going same replied =
      no_reply_goes now going (subst HasReply (sym same) replied)

module _ {T I H : Type 0} where
  pub at_once_kept : (first : OwnerMachine Error) (next : OwnerAction Error) (call : PollCall)
      (state : State) (before place : HandleState T I H) → first ≡ new_poll call state
      → state ≡ state_of before → (HasReply first.next → (next ≡ first.next) × (place ≡ before))
      → KeepsAtOnce call before place
  at_once_kept first next call state before place is was kept replied =
      let P : State → Type 0 = λ s. HasReply {E = Error} (table call s) in
      let Q : OwnerMachine Error → Type 0 = λ m. HasReply m.next in
      (kept (subst Q (sym is) (subst P (sym was) replied))).1
