-- A reply, and the drop of a handle that is back, keep the law of the owner and its tie.
use Rattle.std.proofs.Common.{◌≡◌, ℕ, suc, zero, List, ◌∷◌, Bool, true, false, refl, sym, ap, ◌∙◌}
use Rattle.std.proofs.Common.{subst, arith, Option, Some, None, ◌||◌}
use Rattle.blocking_world_holders.proofs.Types.{OwnerAction, OwnerAnswer, Reply, State, Replied}
use Rattle.blocking_world_holders.proofs.Types.{Event, Told, HandleCall, OwnerStage, PollEnd}
use Rattle.blocking_world_holders.proofs.Words.{OwnerMachine, owner_after, Growth, IsTrueEnd}
use Rattle.blocking_world_holders.proofs.Words.{came_back, Polls, own, SeenSession, seen_call}
use Rattle.blocking_world_holders.proofs.Words.{seen_ends_close, seen_has_begun, seen_is_closed}
use Rattle.blocking_world_holders.proofs.Words.{seen_is_into_inner, is_operation}
use Rattle.blocking_world_holders.proofs.Words.{seen_is_owner_gone, seen_is_shut, seen_session}
use Rattle.blocking_world_holders.proofs.Words.{seen_state, seen_state_by, by_owner, EndAs}
use Rattle.blocking_world_holders.proofs.Words.{FitsNext, IsGoneBy, OperatesBy, OwnerAs, StageBy}
use Rattle.blocking_world_holders.proofs.Words.{called_at, has_found, say, state_as, drop_did}
use Rattle.blocking_world_holders.proofs.Words.{is_gone, is_no_more, last_item, note_at, reply_as}
use Rattle.blocking_world_holders.proofs.Words.{stage_after_reply, Session}
use Rattle.blocking_world_holders.proofs.Clashes.{never, nothing}
use Rattle.blocking_world_laws.specs.OwnerTable as law
use Rattle.blocking_world_holders.proofs.owners.Polls.{owner_by_parts, Goes, value_of, turned}
use Rattle.blocking_world_holders.proofs.owners.Polls.{lawful, fits_at}

end_is : (x : ℕ) (c : HandleCall) (r : Reply ℕ) (back : Option (List Event)) (said : Told)
    → reply_as x r ≡ Some said → EndAs c r back → IsTrueEnd (Some c) said back
end_is x c r back said same e =
    subst (λ told. IsTrueEnd (Some c) (value_of said told) back) same (by_reply c r same e)
  where
    by_reply : (c : HandleCall) (r : Reply ℕ) → reply_as x r ≡ Some said → EndAs c r back
        → IsTrueEnd (Some c) (value_of said (reply_as x r)) back
    by_reply (HandleCall.Read (suc n)) (Reply.Count zero) same e = e
    by_reply HandleCall.Flush Reply.Done same e = e
    by_reply HandleCall.Close Reply.Done same e = e
    by_reply (HandleCall.Read (suc n)) (Reply.Count (suc k)) same e = tt
    by_reply (HandleCall.Seek goal) (Reply.Position place) same e = tt
    by_reply _ (Reply.Position place) same e = absurd e
    by_reply HandleCall.Next Reply.End same e = e
    by_reply c Reply.Closed same e = absurd (cc)
    by_reply HandleCall.Operate Reply.Result same e = tt
    by_reply HandleCall.OperateAgain Reply.Result same e = tt
    by_reply _ Reply.Result same e = absurd (never e)
    by_reply _ _ same e = tt

-- where the handle is after a reply: a close that is all done has none
after_reply : (x : ℕ) (c : HandleCall) (r : Reply ℕ) (said : Told) (closed : Bool)
    (last : Option SeenSession) (shut : Bool) (st : State) → reply_as x r ≡ Some said
    → IsGoneBy r c st
    → seen_state_by closed last shut ≡ state_as st
    → seen_state_by (seen_ends_close said (Some c) || closed) last shut ≡ state_as st
after_reply x HandleCall.Close Reply.Done Told.Okay closed last shut st same away e =
    sym (ap state_as away)
after_reply x (HandleCall.Read n) Reply.Done Told.Okay closed last shut st same away e = e
after_reply x (HandleCall.Write l) Reply.Done Told.Okay closed last shut st same away e = e
after_reply x HandleCall.Flush Reply.Done Told.Okay closed last shut st same away e = e
after_reply x HandleCall.GetMut Reply.Done Told.Okay closed last shut st same away e = e
after_reply x (HandleCall.Seek position) Reply.Done Told.Okay closed last shut st same away e = e
after_reply x HandleCall.Next Reply.Done Told.Okay closed last shut st same away e = e
after_reply x HandleCall.Operate Reply.Done Told.Okay closed last shut st same away e = e
after_reply x HandleCall.OperateAgain Reply.Done Told.Okay closed last shut st same away e = e
after_reply x HandleCall.IntoInner Reply.Done Told.Okay closed last shut st same away e = e
after_reply x c _ Told.Okay closed last shut st same away e = absurd (cc)
after_reply x c r _ closed last shut st same away e = e

pub reply_goes :
    (bytes client : ℕ) (asked : Option HandleCall) (p : OwnerMachine ℕ) (last : Option Session)
    (h first : ℕ) (growth : Growth) (cut : List Event) (r : Reply ℕ) (said : Told)
    → p.next ≡ OwnerAction.Reply r → reply_as (last_item last) r ≡ Some said
    → OwnerAs (owner_by_parts bytes client asked (OwnerStage.Polls p) last) cut
    → Goes (owner_by_parts bytes client asked (stage_after_reply (seen_is_into_inner asked) p.state)
    last) cut (by_owner h (Replied said) first growth)
reply_goes bytes client asked p last h first growth cut r said is same t =
    at (seen_is_into_inner asked) refl
  where
    fits : FitsNext t.stage.0.call p (OwnerAction.Reply r) (law.is_at_end (own cut)) (came_back cut)
    fits = fits_at bytes client asked p cut last (OwnerAction.Reply r) t is

    -- where it is after that has no poll under way and no note, and is no more if the handle was
    -- asked for for good
    after : (here : OwnerStage) → called_at here asked ≡ None → note_at here ≡ None
        → is_gone here ≡ false → is_no_more here ≡ seen_is_into_inner asked
        → StageBy here (last_item last) (seen_call (own cut)) (seen_state (Replied said ∷ own cut))
        law.Rest false (came_back cut) None
        → OperatesBy here false (is_operation asked) (seen_has_begun (own cut))
        (has_found (own cut))
        → Goes (owner_by_parts bytes client asked here last) cut
        (by_owner h (Replied said) first growth)
    after here rests awake there over so operates = record {
      acts = subst (λ n. Polls cut n (Replied said)) (sym
          (lawful bytes client asked p cut last (OwnerAction.Reply r) t is ∙ ap say same)) refl;
      ends = subst (λ c. IsTrueEnd c said (came_back cut)) (sym t.stage.0.asked_is)
          (end_is (last_item last) t.stage.0.call r (came_back cut) said same fits.1);
      tie = record {
        made = t.made;
        gone = (
          t.gone.0 ∙ sym there,
          ap (λ c. seen_is_into_inner c || seen_is_owner_gone (own cut)) t.asked ∙ or_none
              (seen_is_into_inner asked) (seen_is_owner_gone (own cut)) t.gone.1 ∙ sym over,
          t.gone.2,
        );
        asked = t.asked;
        polled = sym rests;
        bytes = t.bytes;
        stage = so;
        operates = operates;
        last = t.last;
        place = t.place;
        ended = λ is_end. absurd (never is_end);
        earlier = t.earlier;
        noted = λ number is. absurd (let none = awake in cc);
        told = λ waits. absurd (never waits);
      };
    }
      where
        or_none : (a b : Bool) → b ≡ false → (a || b) ≡ a
        or_none a b none = grind arith

    at : (b : Bool) → seen_is_into_inner asked ≡ b
        → Goes (owner_by_parts bytes client asked (stage_after_reply b p.state) last) cut
        (by_owner h (Replied said) first growth)
    at true inner = after OwnerStage.TakenBack refl refl refl (sym inner) (refl, refl) tt
    at false not_inner =
        after (OwnerStage.Rests p.state PollEnd.Replied) refl refl refl (sym not_inner) (
          ap (λ c. seen_state_by (seen_ends_close said c || seen_is_closed (own cut))
              (seen_session (own cut)) (seen_is_shut (own cut))) t.stage.0.asked_is
              ∙ after_reply (last_item last) t.stage.0.call r said (seen_is_closed (own cut))
              (seen_session (own cut)) (seen_is_shut (own cut)) p.state same fits.2 t.stage.0.at_is,
          refl,
          refl,
        ) refl

-- it drops the handle: of a close all is done
pub drops_goes : (bytes client : ℕ) (asked : Option HandleCall)
    (p : OwnerMachine ℕ) (last : Option Session) (h first : ℕ) (growth : Growth) (cut : List Event)
    → p.next ≡ OwnerAction.DropHandle
    → OwnerAs (owner_by_parts bytes client asked (OwnerStage.Polls p) last) cut
    → Goes (drop_did p (owner_by_parts bytes client asked (OwnerStage.Polls p) last)).owner cut
    (by_owner h (Replied Told.Okay) first growth)
drops_goes bytes client asked p last h first growth cut is t =
    let fits = fits_at bytes client asked p cut last OwnerAction.DropHandle t is in
    let called : seen_call (own cut) ≡ Some HandleCall.Close =
    t.stage.0.asked_is ∙ ap Some fits.0 in
    let same : owner_after p OwnerAnswer.Dropped
    ≡ record p { state = State.Closed; next = OwnerAction.Reply Reply.Done } =
    turned p OwnerAction.DropHandle OwnerAnswer.Dropped t.stage.1 is in
    subst (λ (m : OwnerMachine ℕ).
    Goes (owner_by_parts bytes client asked (OwnerStage.Rests m.state PollEnd.Replied) last)
    cut (by_owner h (Replied Told.Okay) first growth)) (sym same)
    (record {
      acts = subst (λ n. Polls cut n (Replied Told.Okay))
          (sym (lawful bytes client asked p cut last OwnerAction.DropHandle t is)) refl;
      ends = subst (λ c. IsTrueEnd c Told.Okay (came_back cut)) (sym called) fits.2;
      tie = record {
        made = t.made;
        gone = (
          t.gone.0,
          ap (λ c. seen_is_into_inner c || seen_is_owner_gone (own cut)) called
              ∙ t.gone.1,
          t.gone.2,
        );
        asked = t.asked;
        polled = refl;
        bytes = t.bytes;
        stage = (
          ap (λ c. seen_state_by (seen_ends_close Told.Okay c || seen_is_closed (own cut))
              (seen_session (own cut)) (seen_is_shut (own cut))) called,
          refl,
          refl,
        );
        operates = refl;
        place = t.place;
        last = t.last;
        ended = λ is_end. absurd (never is_end);
        earlier = t.earlier;
        noted = λ number is. absurd (nothing is);
        told = λ waits. absurd (never waits);
      };
    })
