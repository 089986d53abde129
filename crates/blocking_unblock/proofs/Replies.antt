-- What a poll says of a reply, it says of the same reply by another name.
use Rattle.std.proofs.Common.{◌≡◌, ℕ, subst}
use Rattle.futures.specs.declared.task.Poll.TheVariants.{Ready}
use Rattle.blocking_core.specs.declared.unblock.PollCall.{PollCall}
use Rattle.blocking_core.specs.declared.unblock.State.{State}
use Rattle.blocking_core.specs.declared.unblock.Reply.{Reply}
use Rattle.blocking_unblock.specs.Owners.{Follows, HasCrossed}
use Rattle.blocking_unblock.specs.Polls.{Kept, FitsReply}
use Rattle.blocking_unblock.specs.declared.handle_state.HandleState.{HandleState}

module _ {E : Type 0} {one other : Reply E} (same : one ≡ other) where
  pub follows_as : {T I H : Type 0} (call : PollCall) (old new : HandleState T I H)
      → Follows call old (Ready one) new → Follows call old (Ready other) new
  follows_as call old new = subst (λ it. Follows call old (Ready it) new) same

  pub fits_as : (call : PollCall) (state : State) (ready : Type 0) (kept : Kept → Type 0)
      → FitsReply call state one ready kept → FitsReply call state other ready kept
  fits_as call state ready kept = subst (λ it. FitsReply call state it ready kept) same

  pub crossed_as : {T I H : Type 0} (place : HandleState T I H) (before : ℕ)
      → HasCrossed one place before
      → HasCrossed other place before
  crossed_as place before = subst (λ it. HasCrossed it place before) same
