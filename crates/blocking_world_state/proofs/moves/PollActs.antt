-- What a poll of an owner does that asks no pool is one of these few acts, whatever the owner was
-- asked for.
use Rattle.std.proofs.Common.{◌≡◌, ℕ, List, ◌∷◌, length, Bool, true, false, refl, ap, Option, Some}
use Rattle.std.proofs.Common.{None, arith}
use Rattle.blocking_world_state.proofs.Types.{Fault, OwnerAction, Act, Reply as Told, HandleCall}
use Rattle.blocking_world_state.proofs.Types.{OwnerStage}
use Rattle.blocking_world_state.proofs.Words.{OwnerMachine, owner_next, Content, Empty, Full}
use Rattle.blocking_world_state.proofs.Words.{Abandoned, Owner, last_item, reply_as, next_by}
use Rattle.blocking_world_state.proofs.Words.{next_of}
use Rattle.blocking_world_state.proofs.Words.{Did, looked_as, awaited_as, close_did, drain_did}
use Rattle.blocking_world_state.proofs.Words.{receive_did, fill_did, fill_did_in, drop_did}
use Rattle.blocking_world_state.proofs.Words.{stage_after_reply, look_did, find_did, reply_did}
use Rattle.blocking_world_state.proofs.Words.{did_in, did_by, did, OfBytes, OfItems, Session, reach}
use Rattle.blocking_world_state.proofs.Words.{drained, received, session_after_look}
use Rattle.blocking_world_state.proofs.Words.{session_after_find, filled}
use Rattle.blocking_core.specs.declared.unblock.OwnerAction.TheVariants as action
use Rattle.blocking_world_laws.specs.Sessions.{is_into_inner}
use Rattle.blocking_world_laws.specs.declared.event.Act.TheVariants.{Back, Replied, ResultGot}
use Rattle.blocking_world_laws.specs.declared.event.Act.TheVariants.{Waits}
use Rattle.blocking_world_laws.specs.declared.step.HandleCall.TheVariants as handle_call
use Rattle.blocking_world_holders.specs.Owners.{next_at}
use Rattle.blocking_world_holders.specs.declared.owner.OwnerStage.TheVariants as stage
use Rattle.blocking_world_holders.proofs.owners.Goods.{through_some, piped_some}
use Rattle.blocking_world_state.proofs.moves.SessionActs.{moved}

-- whether it looks for the handle, or for a result
abbrev pub is_look : Act → Bool
is_look Back = true
is_look (ResultGot n) = true
is_look Waits = true
is_look _ = false

module _ (P : Did → Type 0) (owner : Owner) where
  -- What holds of each: a reply, the handle dropped, the owner's end closed, a drain, a receipt, a
  -- fill, and a look, which leaves the pipe.
  pub record OfEach (poll : OwnerMachine ℕ) : Type 0 where
    pub replies : (told : Told) → P (record {
      act = Replied told;
      owner =
          record owner { stage = stage_after_reply (is_into_inner owner.asked) poll.state };
    })
    pub drops : P (drop_did poll owner)
    pub closes : (s : Session) → owner.session ≡ Some s → P (close_did poll s owner)
    pub drains : (most : ℕ) (s : Session)
        → owner.session ≡ Some s → next_of owner ≡ next_by (action.Drain most) (Some s)
        → P (drain_did (drained (reach most s) s) poll s owner)
    pub receives : (s : Session) → owner.session ≡ Some s
        → P (receive_did (received s) poll s owner)
    pub fills : (bytes : List ℕ) (s : Session) → owner.session ≡ Some s
        → P (fill_did bytes (filled (length bytes) s) poll s owner)
    pub looks : (act : Act) (at : OwnerStage) (s new : Session) → owner.session ≡ Some s
        → is_look act ≡ true → new.number ≡ s.number → new.pipe ≡ s.pipe
        → P (record { act = act; owner = record owner { stage = at; session = Some new } })

  module _ (poll : OwnerMachine ℕ) (each : OfEach poll) (done : Did) where
    of_reply : (told : Option Told) → reply_did told poll owner ≡ Some done → P done
    of_reply told is = grind arith

    of_fill : (asked : Option HandleCall) (last : Option Session) → owner.session ≡ last
        → fill_did_in poll asked last owner ≡ Some done → P done
    of_fill (Some (handle_call.Write (byte ∷ bytes))) (Some s) here is =
        moved P _ done (through_some OfBytes s.goods _ done is).1 (each.fills (byte ∷ bytes) s here)
    of_fill _ _ here is = absurd cc

    of_look : (content : Content (Option (Fault ℕ))) (s : Session) → owner.session ≡ Some s
        → look_did (looked_as content) poll (session_after_look content s) owner ≡ Some done
        → P done
    of_look Empty s here is =
        moved P _ done is (each.looks Waits _ s (session_after_look Empty s) here refl refl refl)
    of_look (Full why) s here is = moved P _ done is
        (each.looks Back _ s (session_after_look (Full why) s) here refl refl refl)
    of_look (Abandoned false) s here is = moved P _ done is
        (each.looks Waits _ s (session_after_look (Abandoned false) s) here refl refl refl)
    of_look _ s here is = absurd cc

    of_find : (content : Content ℕ) (s : Session) → owner.session ≡ Some s
        → find_did (awaited_as content) poll (session_after_find content s) owner ≡ Some done
        → P done
    of_find Empty s here is =
        moved P _ done is (each.looks Waits _ s (session_after_find Empty s) here refl refl refl)
    of_find (Full n) s here is = moved P _ done is
        (each.looks (ResultGot n) _ s (session_after_find (Full n) s) here refl refl refl)
    of_find (Abandoned false) s here is = moved P _ done is
        (each.looks Waits _ s (session_after_find (Abandoned false) s) here refl refl refl)
    of_find _ s here is = absurd cc

    of_next : (next : OwnerAction ℕ) (last : Option Session) → owner.session ≡ last
        → next_of owner ≡ next_by next last → did_in next poll last owner ≡ Some done → P done
    of_next (action.Reply reply) last here goes is = of_reply (reply_as (last_item last) reply) is
    of_next (action.Fill most) last here goes is = of_fill owner.asked last here is
    of_next action.DropHandle last here goes is = moved P _ done is each.drops
    of_next action.Close (Some s) here goes is =
        moved P _ done (piped_some s.goods _ done is) (each.closes s here)
    of_next (action.Drain most) (Some s) here goes is =
        moved P _ done (through_some OfBytes s.goods _ done is).1 (each.drains most s here goes)
    of_next action.Receive (Some s) here goes is =
        moved P _ done (through_some OfItems s.goods _ done is).1 (each.receives s here)
    of_next action.PollSlot (Some s) here goes is = of_look s.slot.content s here is
    of_next action.PollResult (Some s) here goes is = of_find s.result.content s here is
    of_next _ (Some s) here goes is = absurd cc
    of_next _ None here goes is = absurd cc

  pub did_holds : ((poll : OwnerMachine ℕ) → owner.stage ≡ stage.Polls poll → OfEach poll)
      → (done : Did) → did owner ≡ Some done → P done
  did_holds each done is = by owner.stage refl is
    where
      by : (here : OwnerStage) → owner.stage ≡ here → did_by here owner ≡ Some done → P done
      by (stage.Polls poll) at is = of_next poll (each poll at) done (owner_next poll) owner.session
          refl (ap (λ here. next_at here owner.session) at) is
      by _ at is = absurd cc
