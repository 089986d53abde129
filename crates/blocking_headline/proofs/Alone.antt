-- The page and the same with nothing imported follow from each other.
use Rattle.std.proofs.Common.{◌≡◌, refl, ℕ, zero, suc, List, [], ◌∷◌, Option, Some, None, ap, sym, ◌∙◌}
use Rattle.std.specs.Prelude.{not, map, filter, ◌&&◌, ◌↔◌}
use mathlib.Core.Path.{subst}
use Rattle.blocking_world_laws.specs.OwnerWakes.{IsSessionOf}
use Rattle.blocking_world_laws.specs.Passed.{is_serial as is_of_last, last_job as job_of_last}
use Rattle.blocking_world_laws.specs.Passed.{accepted, gave, got, taken}
use Rattle.blocking_world_laws.specs.Seen.{IsBeginning, acts_of_owner, cut, events}
use Rattle.blocking_world_laws.specs.Sessions.{call}
use Rattle.blocking_world_laws.specs.Seen.{own, is_of_pool, is_nothing, is_some_worker}
use Rattle.blocking_world_laws.specs.Sessions.{Session, last_session, session}
use Rattle.blocking_world_laws.specs.declared.event.Act.{Act}
use Rattle.blocking_world_laws.specs.declared.event.Act.TheVariants.{Accepted, Back, Replied}
use Rattle.blocking_world_laws.specs.declared.event.Event.{Event}
use Rattle.blocking_world_laws.specs.declared.event.Moment.{Moment}
use Rattle.blocking_world_laws.specs.declared.event.Reply.TheVariants.{Okay, Count, NoMore}
use Rattle.blocking_world_laws.specs.declared.step.HandleCall.{HandleCall}
use Rattle.blocking_world_laws.specs.declared.step.HandleCall.TheVariants.{Read, Flush, Close, Next}
use Rattle.blocking_world_laws.specs.Copies.{HasReplied, NoReply, NotAsked, Outcome, outcome}
use Rattle.blocking_world_laws.specs.declared.event.Act.TheVariants.{Asked, Waits}
use Rattle.blocking_world_laws.specs.declared.event.Reply.{Reply}
use Rattle.blocking_headline.specs.Headline.{polls}
use Rattle.blocking_headline.specs.Alone.{replied, Alone, AtMoment, IsAll, is_serial, last, last_job, lent}
use Rattle.blocking_headline.specs.Headline.{AtThis, Headline, IsAll as IsAllOf}

abbrev serial_of : Option Session → Option ℕ
serial_of None = None
serial_of (Some s) = Some s.serial

-- ---- sessions

lent_is : (acts : List Act) → lent acts ≡ serial_of (session acts)
lent_is [] = refl
lent_is (Back ∷ acts) = refl
lent_is (Accepted s ∷ acts) = refl
lent_is (_ ∷ acts) = lent_is acts

serial_is : (acts : List Act) → is_serial (last acts) ≡ is_of_last (last_session acts)
serial_is [] = refl
serial_is (Accepted s ∷ acts) = refl
serial_is (_ ∷ acts) = serial_is acts

last_job_is : (seen : List Event) → last_job seen ≡ job_of_last seen
last_job_is seen = ap (λ test. map (λ e. e.act) (filter (λ e. not (is_of_pool e.act) && not (is_nothing e.act)
    && is_some_worker e.party && test e.job) seen)) (serial_is (own seen))

none_is : (open_one : Option Session) → serial_of open_one ≡ None → open_one ≡ None
none_is None e = refl
none_is (Some s) e = absurd cc

session_is : (open_one : Option Session) (s : ℕ) → serial_of open_one ≡ Some s → IsSessionOf open_one s
session_is None s e = absurd cc
session_is (Some r) s e = cc

serial_so : (open_one : Option Session) (s : ℕ) → IsSessionOf open_one s → serial_of open_one ≡ Some s
serial_so None s is = absurd is
serial_so (Some r) s is = ap Some is

-- ---- replies

reply_in : Outcome → Option Reply
reply_in NotAsked = None
reply_in NoReply = None
reply_in (HasReplied reply) = Some reply

replied_is : (acts : List Act) → replied acts ≡ reply_in (outcome acts)
unfolding reply_in
replied_is [] = refl
replied_is (Asked c ∷ acts) = refl
replied_is (Waits ∷ acts) = refl
replied_is (Replied reply ∷ acts) = refl
replied_is (_ ∷ acts) = replied_is acts

replied_so : (acts : List Act) → outcome acts ≡ HasReplied Okay → replied acts ≡ Some Okay
unfolding reply_in
replied_so acts e = replied_is acts ∙ ap reply_in e

outcome_is : (o : Outcome) → reply_in o ≡ Some Okay → o ≡ HasReplied Okay
unfolding reply_in
outcome_is NotAsked e = absurd cc
outcome_is NoReply e = absurd cc
outcome_is (HasReplied reply) e = cc

all_to : (mine job : List Act) (asked : Option HandleCall) (act : Act) → IsAllOf mine job asked act
    → IsAll mine job asked act
all_to mine job (Some (Read (suc n))) (Replied (Count zero)) so = so
all_to mine job (Some Next) (Replied NoMore) so = so
all_to mine job (Some Flush) (Replied Okay) so = (lent_is mine ∙ ap serial_of so.0, so.1)
all_to mine job (Some Close) (Replied Okay) so = (lent_is mine ∙ ap serial_of so.0, so.1)
all_to mine job asked act so = tt

all_from : (mine job : List Act) (asked : Option HandleCall) (act : Act) → IsAll mine job asked act
    → IsAllOf mine job asked act
all_from mine job (Some (Read (suc n))) (Replied (Count zero)) so = so
all_from mine job (Some Next) (Replied NoMore) so = so
all_from mine job (Some Flush) (Replied Okay) so = (none_is (session mine) (sym (lent_is mine) ∙ so.0), so.1)
all_from mine job (Some Close) (Replied Okay) so = (none_is (session mine) (sym (lent_is mine) ∙ so.0), so.1)
all_from mine job asked act so = tt

-- ---- moments

moment_to : (setting : ℕ) (past : List Moment) (now : Moment) → AtThis setting past now → AtMoment setting past now
moment_to setting past now so = record {
  in_order = so.in_order;
  take = so.take;
  held = so.held;
  turn = so.turn;
  within = so.within;
  reads = λ h. subst (λ job. IsBeginning (got (acts_of_owner h (events (now ∷ past)))) (gave job))
      (sym (last_job_is (cut h (events (now ∷ past))))) (so.reads h);
  writes = λ h. subst (λ job. IsBeginning (taken job) (accepted (acts_of_owner h (events (now ∷ past)))))
      (sym (last_job_is (cut h (events (now ∷ past))))) (so.writes h);
  all = λ h is. all_to (acts_of_owner h (events past)) (last_job (cut h (events past)))
      (call (acts_of_owner h (events past))) now.event.act
      (subst (λ job. IsAllOf (acts_of_owner h (events past)) job (call (acts_of_owner h (events past))) now.event.act)
      (sym (last_job_is (cut h (events past)))) (so.all h is));
  owners = λ h s is. so.owners h s (session_is (session (acts_of_owner h (events (now ∷ past)))) s
      (sym (lent_is (acts_of_owner h (events (now ∷ past)))) ∙ is));
  tasks = so.tasks;
  copies = λ later before link a b m k n split is made step told.
      (let told_so = so.copies later before link a b m k n split is made step told in
      (told_so.0, told_so.1, told_so.2, told_so.3, replied_so (polls a b later) told_so.4));
}

moment_from : (setting : ℕ) (past : List Moment) (now : Moment) → AtMoment setting past now → AtThis setting past now
moment_from setting past now so = record {
  in_order = so.in_order;
  take = so.take;
  held = so.held;
  turn = so.turn;
  within = so.within;
  reads = λ h. subst (λ job. IsBeginning (got (acts_of_owner h (events (now ∷ past)))) (gave job))
      (last_job_is (cut h (events (now ∷ past)))) (so.reads h);
  writes = λ h. subst (λ job. IsBeginning (taken job) (accepted (acts_of_owner h (events (now ∷ past)))))
      (last_job_is (cut h (events (now ∷ past)))) (so.writes h);
  all = λ h is. subst (λ job. IsAllOf (acts_of_owner h (events past)) job (call (acts_of_owner h (events past))) now.event.act)
      (last_job_is (cut h (events past)))
      (all_from (acts_of_owner h (events past)) (last_job (cut h (events past)))
      (call (acts_of_owner h (events past))) now.event.act (so.all h is));
  owners = λ h s is. so.owners h s (lent_is (acts_of_owner h (events (now ∷ past)))
      ∙ serial_so (session (acts_of_owner h (events (now ∷ past)))) s is);
  tasks = so.tasks;
  copies = λ later before link a b m k n split is made step told.
      (let told_so = so.copies later before link a b m k n split is made step told in (
        told_so.0,
        told_so.1,
        told_so.2,
        told_so.3,
        outcome_is (outcome (polls a b later)) (sym (replied_is (polls a b later)) ∙ told_so.4),
      ));
}

pub same : (setting : ℕ) (seen : List Moment) → Headline setting seen ↔ Alone setting seen
same setting seen = (
  λ page later past now split. moment_to setting past now (page later past now split),
  λ alone later past now split. moment_from setting past now (alone later past now split),
)
