-- An action of a poll, and an action of an owner's job, is one act.
use Rattle.std.proofs.Common.{◌≡◌, refl, ℕ, ◌&&◌, ◌||◌, Bool, true, false, List, Some, ap, ◌∙◌}
use Rattle.std.specs.Prelude.{not}
use mathlib.Core.Path.{subst, sym}
use Rattle.blocking_world_laws.specs.Seen.{own, acts_of, is_some_worker}
use Rattle.blocking_world_laws.specs.Turns.{is_giving_up}
use Rattle.blocking_world_laws.specs.JobTable.{Kind, JobAction, AskCall, AskBytes, FindRoom}
use Rattle.blocking_world_laws.specs.JobTable.{PutPiece, Peek, OfferBytes, Consume, AskFlush}
use Rattle.blocking_world_laws.specs.JobTable.{AskItem, SendItem, CloseEnd, AskSeek, AskResult}
use Rattle.blocking_world_laws.specs.JobTable.{PutResult, Finish, WakeHolder, Over, IsAnswerTo}
use Rattle.blocking_world_laws.specs.JobTable.{next_of_job}
use Rattle.blocking_world_laws.specs.Sessions.{kind_of_job, under_way, is_poll_over, is_made}
use Rattle.blocking_world_laws.specs.Sessions.{is_owner_gone, is_closed, is_for_closed}
use Rattle.blocking_world_laws.specs.Sessions.{was_asked_inner, is_into_inner, is_again}
use Rattle.blocking_world_laws.specs.Sessions.{is_pending_operation}
use Rattle.blocking_world_laws.specs.OwnerTable.{OwnerAction, Begin, CloseOwn, WakeJob, Drain, Fill}
use Rattle.blocking_world_laws.specs.OwnerTable.{Receive, PollSlot, PollPlace, Say, Rest}
use Rattle.blocking_world_laws.specs.OwnerTable.{next_of_owner}
use Rattle.blocking_world_laws.specs.OwnerSeats.{slot_seat}
use Rattle.blocking_world_laws.specs.OwnerLaws.{OwnerActs, Polls, Works, JobActs, JobMayAct}
use Rattle.blocking_world_laws.specs.OwnerLaws.{OwnerMayAct, OwnerLaw, is_of_poll, is_settled}
use Rattle.blocking_world_laws.specs.Seats.{waker_in}
use Rattle.blocking_world_laws.specs.Steps.{is_answered}
use Rattle.blocking_world_laws.specs.declared.event.Act.{Act}
use Rattle.blocking_world_laws.specs.declared.event.Act.TheVariants.{Made, Asked, HolderDropped}
use Rattle.blocking_world_laws.specs.declared.event.Act.TheVariants.{Answered, GaveUp}
use Rattle.blocking_world_laws.specs.declared.event.Event.{Event}

-- ---- polls

never_over : (over : Bool) → over ≡ false → over ≡ true → ⊥
never_over over goes is = cc

-- no owner rests while a poll of it goes on
no_rest : (made gone over : Bool) → over ≡ false → (made && not gone && over) ≡ true → ⊥
no_rest true false over goes law = cc
no_rest true true over goes law = cc
no_rest false gone over goes law = cc

-- nor may it be asked
no_call : (made gone over is_open asked again : Bool) → over ≡ false
    → ((made && not gone && over) && is_open && asked && again) ≡ true → ⊥
no_call true false over is_open asked again goes law = let stopped =
    ap (λ b. b && is_open && asked && again) (sym goes) ∙ law in cc
no_call true true over is_open asked again goes law = cc
no_call false gone over is_open asked again goes law = cc

-- an act of a poll that is under way is the one that its next action gives
pub by_poll : (cut : List Event) (act : Act) → is_of_poll act ≡ true → OwnerActs cut act
    → Polls cut (next_of_owner cut) act
by_poll cut (Made h capacity) of_poll law = absurd cc
by_poll cut (Asked call) of_poll law = absurd cc
by_poll cut HolderDropped of_poll law = absurd cc
by_poll cut _ of_poll law = law

-- where the cut alone says what is seen of an action, that is one act
pub one_line : (cut : List Event) (action : OwnerAction) (act other : Act)
    → is_settled action ≡ true → Polls cut action act → Polls cut action other → act ≡ other
one_line cut Begin act other settled law other_law = absurd cc
one_line cut (WakeJob s) act other settled law other_law = absurd cc
one_line cut CloseOwn act other settled law other_law = law ∙ sym other_law
one_line cut (Drain n) act other settled law other_law = law ∙ sym other_law
one_line cut (Fill bytes) act other settled law other_law = law ∙ sym other_law
one_line cut Receive act other settled law other_law = law ∙ sym other_law
one_line cut PollPlace act other settled law other_law = law ∙ sym other_law
one_line cut PollSlot act other settled law other_law = law ∙ sym other_law
one_line cut (Say reply) act other settled law other_law = law ∙ sym other_law
one_line cut Rest act other settled law other_law = absurd law

pub one_poll : (cut : List Event) (now other : Event) → is_some_worker now.party ≡ false
    → is_some_worker other.party ≡ false
    → is_of_poll now.act ≡ true → is_of_poll other.act ≡ true
    → is_settled (next_of_owner cut) ≡ true → OwnerLaw cut now → OwnerLaw cut other
    → now.act ≡ other.act
one_poll cut now other of_owner of_other polled other_polled settled law other_law =
    let acts = subst (λ b. OwnerMayAct b cut now) of_owner law.acts in
    let other_acts = subst (λ b. OwnerMayAct b cut other) of_other other_law.acts in
    one_line cut (next_of_owner cut) now.act other.act settled (by_poll cut now.act polled acts)
    (by_poll cut other.act other_polled other_acts)

-- an owner isn't made, asked or dropped while a poll of it is under way
pub polled : (cut : List Event) (act : Act) → is_poll_over (under_way (own cut)) ≡ false
    → OwnerActs cut act → is_of_poll act ≡ true
polled cut (Made h capacity) goes law = absurd (never_over (is_poll_over (under_way (own cut))) goes
    (ap (λ c. is_poll_over (under_way (own c))) law))
polled cut (Asked call) goes law =
    absurd (no_call (is_made (own cut)) (is_owner_gone (own cut))
    (is_poll_over (under_way (own cut))) (not (is_closed (own cut)) || is_for_closed call)
    (not (was_asked_inner (own cut)) || is_into_inner (Some call))
    (not (is_again call) || is_pending_operation (own cut)) goes law)
polled cut HolderDropped goes law = absurd (no_rest (is_made (own cut)) (is_owner_gone (own cut))
    (is_poll_over (under_way (own cut))) goes law)
polled cut _ goes law = refl

-- ---- jobs

given_up : (cut : List Event) (s : ℕ) (kind : Kind) (act : Act) → is_giving_up act ≡ true
    → JobActs cut s kind act → act ≡ GaveUp (waker_in (slot_seat cut))
given_up cut s kind (GaveUp waker) gives law = ap GaveUp law.2
given_up cut s kind _ gives law = absurd cc

by_table : (cut : List Event) (s : ℕ) (kind : Kind) (act : Act) → is_giving_up act ≡ false
    → JobActs cut s kind act → Works cut (next_of_job kind (acts_of s cut)) act
by_table cut s kind (GaveUp waker) goes law = absurd cc
by_table cut s kind _ goes law = law

unanswered : (action : JobAction) (act : Act) → is_answered act ≡ false → IsAnswerTo action act → ⊥
unanswered action (Answered answer) own law = cc
unanswered action _ own law = law

one_work : (cut : List Event) (action : JobAction) (act other : Act) → is_answered act ≡ false
    → Works cut action act → Works cut action other → act ≡ other
one_work cut AskCall act other own law other_law = absurd (unanswered AskCall act own law)
one_work cut (AskBytes n) act other own law other_law = absurd (unanswered (AskBytes n) act own law)
one_work cut (OfferBytes bytes) act other own law other_law =
    absurd (unanswered (OfferBytes bytes) act own law)
one_work cut AskFlush act other own law other_law = absurd (unanswered AskFlush act own law)
one_work cut AskItem act other own law other_law = absurd (unanswered AskItem act own law)
one_work cut AskSeek act other own law other_law = absurd (unanswered AskSeek act own law)
one_work cut AskResult act other own law other_law = absurd (unanswered AskResult act own law)
one_work cut (SendItem x) act other own law other_law = law ∙ sym other_law
one_work cut PutResult act other own law other_law = law ∙ sym other_law
one_work cut FindRoom act other own law other_law = law ∙ sym other_law
one_work cut (PutPiece bytes) act other own law other_law = law ∙ sym other_law
one_work cut Peek act other own law other_law = law ∙ sym other_law
one_work cut (Consume n) act other own law other_law = law ∙ sym other_law
one_work cut CloseEnd act other own law other_law = law ∙ sym other_law
one_work cut Finish act other own law other_law = law ∙ sym other_law
one_work cut WakeHolder act other own law other_law = law ∙ sym other_law
one_work cut Over act other own law other_law = absurd law

one_by : (b : Bool) (cut : List Event) (s : ℕ) (kind : Kind) (act other : Act)
    → is_giving_up act ≡ b → is_giving_up other ≡ b → is_answered act ≡ false
    → JobActs cut s kind act → JobActs cut s kind other → act ≡ other
one_by true cut s kind act other gives other_gives own law other_law =
    given_up cut s kind act gives law ∙ sym (given_up cut s kind other other_gives other_law)
one_by false cut s kind act other goes other_goes own law other_law =
    one_work cut (next_of_job kind (acts_of s cut)) act other own (by_table cut s kind act goes law)
    (by_table cut s kind other other_goes other_law)

pub one_action : (cut : List Event) (s : ℕ) (now other : Event) → is_some_worker now.party ≡ true
    → is_some_worker other.party ≡ true → now.job ≡ Some s → other.job ≡ Some s
    → is_giving_up now.act ≡ is_giving_up other.act → is_answered now.act ≡ false → OwnerLaw cut now
    → OwnerLaw cut other → now.act ≡ other.act
one_action cut s now other of_job of_other is other_is same own_act law other_law =
    let acts = subst (λ j. JobMayAct cut j now.act) is
    (subst (λ b. OwnerMayAct b cut now) of_job law.acts) in
    let other_acts = subst (λ j. JobMayAct cut j other.act) other_is
    (subst (λ b. OwnerMayAct b cut other) of_other other_law.acts) in
    one_by (is_giving_up other.act) cut s (kind_of_job s (own cut)) now.act other.act same refl
    own_act acts.1 other_acts.1
