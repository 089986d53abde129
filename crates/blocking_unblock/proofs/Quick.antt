-- A poll that finds an item at once does what the machine of that poll comes to.
use Rattle.std.proofs.Common.{Bool, true, false, List, [], ◌∷◌, Option, Some, None, refl, sym}
use Rattle.std.proofs.Common.{subst}
use Rattle.std.specs.declared.io.Error.{Error}
use Rattle.futures.specs.declared.task.Poll.TheVariants.{Ready}
use Rattle.blocking_core.specs.OwnerCalls.{OwnerMachine, new_poll, owner_after}
use Rattle.blocking_core.specs.declared.unblock.PollCall.TheVariants.{Next}
use Rattle.blocking_core.specs.declared.unblock.State.{State}
use Rattle.blocking_core.specs.declared.unblock.State.TheVariants.{Lent}
use Rattle.blocking_core.specs.declared.unblock.SessionKind.TheVariants.{Streaming}
use Rattle.blocking_core.specs.declared.unblock.OwnerEnd.TheVariants.{Open}
use Rattle.blocking_core.specs.declared.unblock.OwnerAnswer.{OwnerAnswer}
use Rattle.blocking_core.specs.declared.unblock.OwnerAnswer.TheVariants as by
use Rattle.blocking_core.specs.declared.unblock.Reply.TheVariants as reply
use Rattle.blocking_unblock.specs.Owners.{Follows, IsAt, Reaches, EndsWith, has}
use Rattle.blocking_unblock.specs.declared.handle_state.HandleState.{HandleState}

-- the machine's answers: an item was received, and its job's note, if there was one, was spent
abbrev answers : Bool → List (OwnerAnswer Error)
answers true = by.Received true ∷ by.Delivered ∷ []
answers false = by.Received false ∷ []

-- whether a note came with what was received
abbrev pub noted : {I N : Type 0} → Option (I × Option N) → Bool
noted (Some got) = has got.1
noted None = false

module _ {T I H : Type 0} (old new : HandleState T I H) (at : IsAt (Lent Streaming Open) old) where
  -- where its poll comes to
  abbrev Comes : Bool → State → Type 0
  Comes noted state = (end : OwnerMachine Error) × Reaches (new_poll Next state) end
      × EndsWith end (Ready reply.Item) × IsAt end.state new

  pub quick : (noted : Bool) → IsAt (Lent Streaming Open) new
      → Follows {E = Error} Next old (Ready reply.Item) new
  quick true same =
      subst (Comes true) (sym at) (
        owner_after (owner_after (new_poll Next (Lent Streaming Open)) (by.Received true))
            by.Delivered,
        (answers true, (tt, (tt, refl))),
        refl,
        same,
      )
  quick false same =
      subst (Comes false) (sym at) (
        owner_after (new_poll Next (Lent Streaming Open))
            (by.Received false),
        (answers false, (tt, refl)),
        refl,
        same,
      )
