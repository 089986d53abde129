-- What one round of a poll does to its machine.
use Rattle.std.proofs.Common.{◌≡◌, ◌<◌, ◌≤◌, ℕ, zero, suc, Bool, true, false, [], ◌∷◌, Option, Some}
use Rattle.std.proofs.Common.{None, inr, refl, sym, ap, ◌∙◌, subst, arith}
use Rattle.blocking_core.specs.OwnerCalls.{OwnerMachine, begun_by, shut, refusal, after_back}
use Rattle.blocking_core.specs.OwnerCalls.{after_seek, owner_next, owner_after}
use Rattle.blocking_core.specs.declared.io.Fault.{Fault}
use Rattle.blocking_core.specs.declared.unblock.PollCall.{PollCall}
use Rattle.blocking_core.specs.declared.unblock.PollCall.TheVariants.{Read, Write, Close, Next}
use Rattle.blocking_core.specs.declared.unblock.PollCall.TheVariants.{Operate}
use Rattle.blocking_core.specs.declared.unblock.OwnerEnd.TheVariants.{Open, Shut}
use Rattle.blocking_core.specs.declared.unblock.SessionKind.TheVariants.{Operating}
use Rattle.blocking_core.specs.declared.unblock.State.{State}
use Rattle.blocking_core.specs.declared.unblock.State.TheVariants.{Idle, Lent, Closed}
use Rattle.blocking_core.specs.declared.unblock.Reply.{Reply}
use Rattle.blocking_core.specs.declared.unblock.Reply.TheVariants as reply
use Rattle.blocking_core.specs.declared.unblock.OwnerAction.{OwnerAction}
use Rattle.blocking_core.specs.declared.unblock.OwnerAction.TheVariants as act
use Rattle.blocking_core.specs.declared.unblock.OwnerAnswer.{OwnerAnswer}
use Rattle.blocking_core.specs.declared.unblock.OwnerAnswer.TheVariants as by
use Rattle.blocking_unblock.specs.Owners.{AnswersTo, BackAt, IsAt, Runs, Reaches, state_of, has}
use Rattle.blocking_unblock.specs.Polls.{Kept, Way, Item, Gave, Operates, HasSession, HasPipe}
use Rattle.blocking_unblock.specs.Polls.{AtOwnEnd, FitsReply, IsGoing, Resumes, FitsAction, Stands}
use Rattle.blocking_unblock.specs.Polls.{Brings, KeepsOpen, Does, KeepsFirst, KeepsBrought}
use Rattle.blocking_unblock.specs.declared.handle_state.HandleState.{HandleState}
use Rattle.blocking_unblock.proofs.Standing.{begun_fits, back_fits, seek_fits, resumes}
use Rattle.blocking_unblock.proofs.Standing.{refusal_fits, got_is, IsOther, not_back, session_open}
use Rattle.blocking_unblock.proofs.Standing.{pipe_session, shut_session, begun_session, opens}
use Rattle.blocking_unblock.proofs.Standing.{same_open, begun_first, refused_first, back_first}
use Rattle.blocking_unblock.proofs.Standing.{seek_first, own_brought, on_brought, begin_brought}
use Rattle.blocking_unblock.proofs.Standing.{close_brought, way_brought, result_brought}
use Rattle.blocking_unblock.proofs.Standing.{done_brought, count_brought, item_brought}

-- ---- a round

-- the machine after an answer, and after the note that came with it was spent
abbrev pub told : {E : Type 0} → Bool → OwnerMachine E → OwnerAnswer E → OwnerMachine E
told true poll answer = owner_after (owner_after poll answer) by.Delivered
told false poll answer = owner_after poll answer

-- one round from a machine to another
pub record Round {T I H E B : Type 0} (begins : B → State → Type 0) (keeps : B → Kept → Type 0)
    (old new : OwnerMachine E) (was place : HandleState T I H) (before after : B) (armed : Type 0) :
    Type 0 where
  pub stands : Stands begins keeps armed new place after
  pub reaches : Reaches old new
  pub call_same : new.call ≡ old.call
  pub kept_open : KeepsOpen old.call old.state new.state
  pub keeps_first : (first : HandleState T I H)
      → KeepsFirst old.call old.state old.next old.is_at_end was first
      → KeepsFirst new.call new.state new.next new.is_at_end place first
  pub brings : (first : B) → KeepsBrought keeps old.call old.next before first
      → KeepsBrought keeps new.call new.next after first

module _ {T I H B : Type 0} (E : Type 0) (begins : B → State → Type 0) (keeps : B → Kept → Type 0)
    (was armed : Type 0) (old new : HandleState T I H) (before after : B) where
  module _ (call : PollCall) (state : State) (at_end : Bool) where
    -- a machine between two actions
    abbrev between : OwnerAction E → OwnerMachine E
    between next =
        record { call = call; state = state; next = next; is_waking = false; is_at_end = at_end }

    abbrev Goes : OwnerAction E → OwnerAnswer E → Bool → Type 0
    Goes next answer noted = FitsAction begins keeps was call state next before → IsAt state old
        → Does (begins before) next old answer noted new armed
        → Brings begins keeps next answer before after → Round begins keeps (between next)
        (told noted (between next) answer) old new before after armed

    -- what was ready is ready still
    still : after ≡ before → begins before (begun_by call) → begins after (begun_by call)
    still same ready = let P : B → Type 0 = λ b. begins b (begun_by call) in
        subst P (sym same) ready

    -- where the handle was the state says, and there it is still
    stays : IsAt state old → IsAt (state_of old) new → IsAt state new
    stays at is = is ∙ at

    begin_goes : (answer : OwnerAnswer E) (noted : Bool) → Goes act.Begin answer noted
    begin_goes by.Begun false fits at does brings = record {
      stands = record {
        awake = refl;
        fits = begun_fits begins keeps E armed call after fits.1 (brings (begun_by call) fits.2);
        at = does.0 (begun_by call) fits.2;
      };
      reaches = (by.Begun ∷ [], (tt, refl));
      call_same = refl;
      kept_open = opens call state (begun_by call) (λ e. let i : state ≡ Idle = fits.0 in cc)
          (session_open (begun_by call) (begun_session call fits.1));
      keeps_first = λ first kept. begun_first E call at_end new first fits.1;
      brings = λ first kept. own_brought E keeps before after first call;
    }
    begin_goes (by.Refused why) false fits at does brings = record {
      stands = record {
        awake = refl;
        fits = let P : State → Type 0 =
            λ s. FitsAction begins keeps {E = E} armed call s (refusal call why) after in
            subst P (sym fits.0)
            (refusal_fits E call why begins keeps armed after fits.1 (still brings fits.2));
        at = ap state_of does ∙ at;
      };
      reaches = (by.Refused why ∷ [], (tt, refl));
      call_same = refl;
      kept_open = same_open call state;
      keeps_first = λ first kept. refused_first E call why state at_end new first (does ∙ kept);
      brings = λ first kept.
          begin_brought E keeps before after first call (refusal call why) brings kept;
    }
    begin_goes by.Begun true fits at does brings = absurd does
    begin_goes (by.Refused why) true fits at does brings = absurd does
    begin_goes answer noted fits at does brings = absurd does

    -- the machine whose session the owner closed
    stopped : HasPipe state × begins before (begun_by call) → IsAt state old
        → IsAt (shut (state_of old)) new → after ≡ before
        → Stands begins keeps {E = E} armed (record {
          call = call;
          state = shut state;
          next = act.PollSlot;
          is_waking = false;
          is_at_end = at_end;
        }) new after
    stopped fits at is same = record {
      awake = refl;
      fits = (shut_session state (pipe_session state fits.0), still same fits.1);
      at = is ∙ ap shut at;
    }

    stopped_open : HasPipe state → KeepsOpen call state (shut state)
    stopped_open is = opens call state (shut state) (session_open state (pipe_session state is))
        (session_open (shut state) (shut_session state (pipe_session state is)))

    close_goes : (answer : OwnerAnswer E) (noted : Bool) → Goes act.Close answer noted
    close_goes (by.Closed true) true fits at does brings = record {
      stands = stopped fits at does.1 brings;
      reaches = (by.Closed true ∷ (by.Delivered ∷ []), (tt, (tt, refl)));
      call_same = refl;
      kept_open = stopped_open fits.0;
      keeps_first = λ first kept. absurd kept;
      brings = λ first kept. close_brought E keeps before after first call act.PollSlot brings kept;
    }
    close_goes (by.Closed false) false fits at does brings = record {
      stands = stopped fits at does.1 brings;
      reaches = (by.Closed false ∷ [], (tt, refl));
      call_same = refl;
      kept_open = stopped_open fits.0;
      keeps_first = λ first kept. absurd kept;
      brings = λ first kept. close_brought E keeps before after first call act.PollSlot brings kept;
    }
    close_goes (by.Closed true) false fits at does brings = let e = does.0 in cc
    close_goes (by.Closed false) true fits at does brings = let e = does.0 in cc
    close_goes answer noted fits at does brings = absurd does

    -- the machine that has this reply, before the note is spent and after it
    abbrev replied : Reply E → Bool → OwnerMachine E
    replied reply noted = record {
      call = call;
      state = state;
      next = act.Reply reply;
      is_waking = noted;
      is_at_end = at_end;
    }

    reply_round : (next : OwnerAction E) (reply : Reply E) (end : OwnerMachine E)
        → end ≡ replied reply false → Reaches (between next) end
        → FitsReply call state reply (begins after (begun_by call)) (keeps after) → IsAt state new
        → ((first : HandleState T I H) → KeepsFirst {E = E} call state
        (act.Reply reply) at_end new first)
        → ((first : B) → KeepsBrought {E = E} keeps call (act.Reply reply) after first)
        → Round begins keeps (between next) end old new before after armed
    reply_round next reply end is reaches fits at first brought =
        let Q : OwnerMachine E → Type 0 = λ m. Reaches (between next) m
        → Round begins keeps (between next) m old new before after armed in
        subst Q (sym is)
        (λ reaches. record {
          stands = record { awake = refl; fits = fits; at = at };
          reaches = reaches;
          call_same = refl;
          kept_open = same_open call state;
          keeps_first = λ place kept. first place;
          brings = λ place kept. brought place;
        })
        reaches

    reply_goes : (next : OwnerAction E) (answer : OwnerAnswer E) (reply : Reply E) (noted : Bool)
        → owner_after (between next) answer ≡ replied reply noted
        → AnswersTo state (owner_next (between next)) answer
        → FitsReply call state reply (begins after (begun_by call)) (keeps after) → IsAt state new
        → ((first : HandleState T I H) → KeepsFirst {E = E} call state
        (act.Reply reply) at_end new first)
        → ((first : B) → KeepsBrought {E = E} keeps call (act.Reply reply) after first)
        → Round begins keeps (between next) (told noted (between next) answer) old new before after
        armed
    reply_goes next answer reply true is answers fits at first brought =
        let after : OwnerMachine E = told true (between next) answer in
        let end : after ≡ replied reply false = ap (λ m. owner_after m by.Delivered) is in
        let P : OwnerMachine E → Type 0 = λ m. Runs m (by.Delivered ∷ []) after in
        let rest : Runs (owner_after (between next) answer) (by.Delivered ∷ []) after =
        subst P (sym is) (tt, end) in
        reply_round next reply after end (answer ∷ (by.Delivered ∷ []), (answers, rest)) fits at
        first brought
    reply_goes next answer reply false is answers fits at first brought =
        reply_round next reply (owner_after (between next) answer) is (answer ∷ [], (answers, refl))
        fits at first brought

    -- a count of no more than was asked for or offered fits
    read_fits : (asked : PollCall) (most count : ℕ) → asked ≡ Read most → count ≤ most → FitsReply
        {E = E} asked state (reply.Count count) (begins after (begun_by call)) (keeps after)
    read_fits asked most count is le = let P : PollCall → Type 0 = λ c. FitsReply {E = E} c state
        (reply.Count count) (begins after (begun_by call)) (keeps after) in subst P (sym is) le

    write_fits : (asked : PollCall) (most count : ℕ) → asked ≡ Write most → count ≤ most → FitsReply
        {E = E} asked state (reply.Count count) (begins after (begun_by call)) (keeps after)
    write_fits asked most count is le = let P : PollCall → Type 0 = λ c. FitsReply {E = E} c state
        (reply.Count count) (begins after (begun_by call)) (keeps after) in subst P (sym is) le

    -- a machine whose owner waits at a pipe or in a slot
    waits_turn : (next : OwnerAction E) (answer : OwnerAnswer E)
        → owner_after (between next) answer ≡ between act.Pending
        → AnswersTo state (owner_next (between next)) answer → armed
        → Resumes call state (begins after (begun_by call)) (keeps after Way) → IsAt state new
        → ((first : B) → KeepsBrought {E = E} keeps call next before first
        → KeepsBrought {E = E} keeps call act.Pending after first)
        → Round begins keeps (between next) (owner_after (between next) answer) old new before
        after armed
    waits_turn next answer is answers waits goes at brought =
        let end : OwnerMachine E = owner_after (between next) answer in
        let Q : OwnerMachine E → Type 0 = λ m. Reaches (between next) m
        → Round begins keeps (between next) m old new before after armed in
        subst Q (sym is)
        (λ reaches. record {
          stands = record { awake = refl; fits = (waits, goes); at = at };
          reaches = reaches;
          call_same = refl;
          kept_open = same_open call state;
          keeps_first = λ place kept. tt;
          brings = brought;
        })
        (answer ∷ [], (answers, refl))

    drain_goes : (most : ℕ) (answer : OwnerAnswer E) (noted : Bool)
        → Goes (act.Drain most) answer noted
    drain_goes most (by.Got zero n) noted fits at does brings = let none : 0 < 0 = does.0.1 in
        absurd (omega arith)
    drain_goes most (by.Got (suc count) n) noted fits at does brings =
        let Q : Bool → Type 0 = λ b.
        Round begins keeps (between (act.Drain most)) (told noted (between (act.Drain most))
        (by.Got (suc count) b)) old new before after armed in
        subst Q (sym does.0.0)
        (reply_goes (act.Drain most) (by.Got (suc count) noted) (reply.Count (suc count)) noted
        (got_is most count noted (between (act.Drain most)) does.0.2)
        (does.0.1, does.0.2) (read_fits call most (suc count) fits.1 does.0.2) (stays at does.1.0)
        (λ first. tt) (λ first. count_brought E keeps before after first call (suc count)))
    drain_goes most by.Ended false fits at does brings = record {
      stands = record {
        awake = refl;
        fits = (
          (let P : State → Type 0 = λ s. HasSession s in subst P (sym fits.0) tt),
          still brings fits.3,
        );
        at = stays at does.1.0;
      };
      reaches = (by.Ended ∷ [], (tt, refl));
      call_same = refl;
      kept_open = same_open call state;
      keeps_first = λ first kept. let P : PollCall → Type 0 = λ c. AtOwnEnd c state true in
          subst P (sym fits.1) fits.0;
      brings = λ first kept. let P : PollCall → Type 0 =
          λ c. KeepsBrought {E = E} keeps c act.PollSlot after first in subst P (sym fits.1) tt;
    }
    drain_goes most (by.WaitsAtPipe seat) false fits at does brings =
        waits_turn (act.Drain most) (by.WaitsAtPipe seat) refl tt does.0
        (let P : PollCall → Type 0 = λ c. Resumes c state (begins after (begun_by call))
        (keeps after Way) in subst P (sym fits.1) tt) (stays at does.1.0)
        (λ first kept. let P : PollCall → Type 0 = λ c.
        KeepsBrought {E = E} keeps c act.Pending after first in subst P (sym fits.1) tt)
    drain_goes most answer noted fits at does brings = absurd does.0

    fill_goes : (most : ℕ) (answer : OwnerAnswer E) (noted : Bool)
        → Goes (act.Fill most) answer noted
    fill_goes most (by.Took zero n) noted fits at does brings = let none : 0 < 0 = does.0.1 in
        absurd (omega arith)
    fill_goes most (by.Took (suc count) n) noted fits at does brings =
        let Q : Bool → Type 0 = λ b.
        Round begins keeps (between (act.Fill most)) (told noted (between (act.Fill most))
        (by.Took (suc count) b)) old new before after armed in
        subst Q (sym does.0.0)
        (reply_goes (act.Fill most) (by.Took (suc count) noted) (reply.Count (suc count)) noted
        (got_is most count noted (between (act.Fill most)) does.0.2)
        (does.0.1, does.0.2) (write_fits call most (suc count) fits.1 does.0.2) (stays at does.1.0)
        (λ first. tt) (λ first. count_brought E keeps before after first call (suc count)))
    fill_goes most by.Shut false fits at does brings =
        reply_goes (act.Fill most) by.Shut (reply.Count 0) false refl tt
        (write_fits call most 0 fits.1 (omega arith)) (stays at does.1.0)
        (λ first. tt) (λ first. count_brought E keeps before after first call 0)
    fill_goes most (by.WaitsAtPipe seat) false fits at does brings =
        waits_turn (act.Fill most) (by.WaitsAtPipe seat) refl tt does.0
        (let P : PollCall → Type 0 = λ c. Resumes c state (begins after (begun_by call))
        (keeps after Way) in subst P (sym fits.1) tt) (stays at does.1.0)
        (λ first kept. let P : PollCall → Type 0 = λ c.
        KeepsBrought {E = E} keeps c act.Pending after first in subst P (sym fits.1) tt)
    fill_goes most answer noted fits at does brings = absurd does.0

    item_fits : (asked : PollCall) → asked ≡ Next → keeps after Item
        → FitsReply {E = E} asked state reply.Item (begins after (begun_by call)) (keeps after)
    item_fits asked is kept = let P : PollCall → Type 0 =
        λ c. FitsReply {E = E} c state reply.Item (begins after (begun_by call)) (keeps after) in
        subst P (sym is) kept

    receive_goes : (answer : OwnerAnswer E) (noted : Bool) → Goes act.Receive answer noted
    receive_goes (by.Received n) noted fits at does brings =
        let Q : Bool → Type 0 = λ b.
        Round begins keeps (between act.Receive) (told noted (between act.Receive) (by.Received b))
        old new before after armed in
        subst Q (sym does.0)
        (reply_goes act.Receive (by.Received noted) reply.Item noted refl tt
        (item_fits call fits.1 brings) (stays at does.1.0)
        (λ first. tt) (λ first. item_brought E keeps before after first call))
    receive_goes by.Ended false fits at does brings = record {
      stands = record {
        awake = refl;
        fits = (
          (let P : State → Type 0 = λ s. HasSession s in subst P (sym fits.0) tt),
          still brings fits.2,
        );
        at = stays at does.1.0;
      };
      reaches = (by.Ended ∷ [], (tt, refl));
      call_same = refl;
      kept_open = same_open call state;
      keeps_first = λ first kept. let P : PollCall → Type 0 = λ c. AtOwnEnd c state true in
          subst P (sym fits.1) fits.0;
      brings = λ first kept. let P : PollCall → Type 0 =
          λ c. KeepsBrought {E = E} keeps c act.PollSlot after first in subst P (sym fits.1) tt;
    }
    receive_goes (by.WaitsAtPipe seat) false fits at does brings =
        waits_turn act.Receive (by.WaitsAtPipe seat) refl tt does.0
        (let P : PollCall → Type 0 = λ c. Resumes c state (begins after (begun_by call))
        (keeps after Way) in subst P (sym fits.1) tt) (stays at does.1.0)
        (λ first kept. let P : PollCall → Type 0 = λ c.
        KeepsBrought {E = E} keeps c act.Pending after first in subst P (sym fits.1) tt)
    receive_goes answer noted fits at does brings = absurd does.0

    -- how the handle came back, by the state
    back_at : (answer : OwnerAnswer E) → IsAt state old → BackAt (state_of old) answer
        → BackAt state answer
    back_at answer at from = let P : State → Type 0 = λ s. BackAt s answer in subst P at from

    slot_back : (why : Option (Fault E))
        → FitsAction begins keeps {E = E} was call state act.PollSlot before → IsAt Idle new
        → BackAt state (by.Back why)
        → after ≡ before → Round begins keeps (between act.PollSlot)
        (owner_after (between act.PollSlot) (by.Back why)) old new before after armed
    slot_back why fits idle from same = record {
      stands = record {
        awake = refl;
        fits =
            back_fits begins keeps E armed call at_end why after (still same fits.1);
        at = idle;
      };
      reaches = (by.Back why ∷ [], (from, refl));
      call_same = refl;
      kept_open = opens call state Idle (session_open state fits.0) (λ e. cc);
      keeps_first = λ first kept. back_first E call state at_end why new first kept from;
      brings = λ first kept.
          on_brought E keeps before after first call (after_back call at_end why) same kept;
    }

    sought_on : (at : State) (came : ℕ) → BackAt {E = E} at (by.Sought came)
        → begins after (begun_by call)
        → FitsAction begins keeps {E = E} armed call Idle (after_seek at call came) after
    sought_on (Lent kind end) came from ready =
        seek_fits begins keeps E armed kind end call came after ready
    sought_on Idle came from ready = absurd from
    sought_on Closed came from ready = absurd from

    slot_sought : (came : ℕ) → FitsAction begins keeps {E = E} was call state act.PollSlot before
        → IsAt Idle new → BackAt {E = E} state (by.Sought came)
        → after ≡ before → Round begins keeps (between act.PollSlot)
        (owner_after (between act.PollSlot) (by.Sought came)) old new before after armed
    slot_sought came fits idle from same = record {
      stands =
          record { awake = refl; fits = sought_on state came from (still same fits.1); at = idle };
      reaches = (by.Sought came ∷ [], (from, refl));
      call_same = refl;
      kept_open = opens call state Idle (session_open state fits.0) (λ e. cc);
      keeps_first = λ first kept. seek_first E call state at_end came new first kept from;
      brings = λ first kept.
          on_brought E keeps before after first call (after_seek state call came) same kept;
    }

    -- no other answer comes
    no_other : (answer : OwnerAnswer E) (noted : Bool) → IsOther answer
        → Does (begins before) act.PollSlot old answer noted new armed → ⊥
    no_other (by.WaitsInSlot seat) noted other does = other
    no_other (by.Back why) noted other does = other
    no_other (by.Sought came) noted other does = other
    no_other by.Begun true other does = does
    no_other by.Begun false other does = not_back (state_of old) by.Begun tt does.1
    no_other answer true other does = does
    no_other answer false other does = not_back (state_of old) answer tt does.1

    slot_goes : (answer : OwnerAnswer E) (noted : Bool) → Goes act.PollSlot answer noted
    slot_goes (by.WaitsInSlot seat) false fits at does brings =
        waits_turn act.PollSlot (by.WaitsInSlot seat) refl tt does.1 (resumes begins keeps E armed
        call state after (still brings fits.1)) (ap state_of does.0 ∙ at)
        (λ first kept. on_brought E keeps before after first call act.Pending brings kept)
    slot_goes (by.Back why) false fits at does brings =
        slot_back why fits does.0 (back_at (by.Back why) at does.1) brings
    slot_goes (by.Sought came) false fits at does brings =
        slot_sought came fits does.0 (back_at (by.Sought came) at does.1) brings
    slot_goes (by.WaitsInSlot seat) true fits at does brings = absurd does
    slot_goes (by.Back why) true fits at does brings = absurd does
    slot_goes (by.Sought came) true fits at does brings = absurd does
    slot_goes answer noted fits at does brings = absurd (no_other answer noted tt does)

    result_fits : (asked : PollCall) → Operates asked → keeps after Gave
        → FitsReply {E = E} asked state reply.Result (begins after (begun_by call)) (keeps after)
    result_fits (Operate begun) is kept = kept
    result_fits asked is kept = absurd is

    result_resumes : (asked : PollCall) (ready way : Type 0) → state ≡ Lent Operating Open → way
        → Resumes asked state ready way
    result_resumes (Operate begun) ready way is here = inr (is, here)
    result_resumes asked ready way is here = tt

    way_on : after ≡ before → keeps before Way → keeps after Way
    way_on same way = let P : B → Type 0 = λ b. keeps b Way in subst P (sym same) way

    result_goes : (answer : OwnerAnswer E) (noted : Bool) → Goes act.PollResult answer noted
    result_goes by.Resulted false fits at does brings =
        reply_goes act.PollResult by.Resulted reply.Result false refl tt
        (result_fits call fits.1 brings) (ap state_of does ∙ at)
        (λ first. tt) (λ first. result_brought E keeps before after first call)
    result_goes (by.WaitsInSlot seat) false fits at does brings =
        waits_turn act.PollResult (by.WaitsInSlot seat) refl tt does.1
        (result_resumes call (begins after (begun_by call)) (keeps after Way) fits.0
        (way_on brings fits.2)) (ap state_of does.0 ∙ at)
        (λ first kept. way_brought E keeps before after first call (way_on brings fits.2))
    result_goes answer noted fits at does brings = absurd does

    drop_goes : (answer : OwnerAnswer E) (noted : Bool) → Goes act.DropHandle answer noted
    drop_goes by.Dropped false fits at does brings = record {
      stands = record {
        awake = refl;
        fits = let P : PollCall → Type 0 = λ c.
            FitsReply {E = E} c Closed reply.Done (begins after (begun_by call)) (keeps after) in
            subst P (sym fits.1) refl;
        at = does;
      };
      reaches = (by.Dropped ∷ [], (tt, refl));
      call_same = refl;
      kept_open = record { stays = λ e. refl; closes = λ e. inr fits.1 };
      keeps_first = λ first kept. tt;
      brings = λ first kept. done_brought E keeps before after first call;
    }
    drop_goes answer noted fits at does brings = absurd does

    goes : (next : OwnerAction E) (answer : OwnerAnswer E) (noted : Bool) → IsGoing next
        → Goes next answer noted
    goes act.Begin answer noted going = begin_goes answer noted
    goes act.Close answer noted going = close_goes answer noted
    goes (act.Drain most) answer noted going = drain_goes most answer noted
    goes (act.Fill most) answer noted going = fill_goes most answer noted
    goes act.Receive answer noted going = receive_goes answer noted
    goes act.PollSlot answer noted going = slot_goes answer noted
    goes act.PollResult answer noted going = result_goes answer noted
    goes act.DropHandle answer noted going = drop_goes answer noted
    goes act.Deliver answer noted going = absurd going
    goes (act.Reply reply) answer noted going = absurd going
    goes act.Pending answer noted going = absurd going

  -- A round of a machine that stands: it does what it names, is told of it, and stands again.
  pub round : (poll : OwnerMachine E) (answer : OwnerAnswer E) (noted : Bool) → IsGoing poll.next
      → Stands begins keeps was poll old before
      → Does (begins before) poll.next old answer noted new armed
      → Brings begins keeps poll.next answer before after
      → Round begins keeps poll (told noted poll answer) old new before after armed
  round poll answer noted going stands does brings =
      let is : record poll { is_waking = false } ≡ poll = rw stands.awake refl in
      let P : OwnerMachine E → Type 0 =
      λ m. Round begins keeps m (told noted m answer) old new before after armed in
      subst P is (goes poll.call poll.state poll.is_at_end poll.next answer noted going stands.fits
      stands.at does brings)

  -- the same where no note was taken, and where one was
  pub round_plain : {N : Type 0} (poll end : OwnerMachine E) (action : OwnerAction E)
      (answer : OwnerAnswer E) (note : Option N)
      → IsGoing poll.next → Stands begins keeps was poll old before → action ≡ owner_next poll
      → Does (begins before) action old answer (has note) new armed
      → Brings begins keeps action answer before after → note ≡ None → end ≡ owner_after poll answer
      → Round begins keeps poll end old new before after armed
  round_plain {N} poll end action answer note going stands is does brings none came =
      let next : action ≡ poll.next = is ∙ (rw stands.awake refl) in
      let P : OwnerAction E → Type 0 =
      λ a. Does (begins before) a old answer (has note) new armed in
      let Q : Option N → Type 0 =
      λ n. Does (begins before) poll.next old answer (has n) new armed in
      let S : OwnerAction E → Type 0 = λ a. Brings begins keeps a answer before after in
      let R : OwnerMachine E → Type 0 =
      λ m. Round begins keeps poll m old new before after armed in
      subst R (sym came) (round poll answer false going stands (subst Q none (subst P next does))
      (subst S next brings))

  pub round_noted : {N : Type 0} (poll mid end : OwnerMachine E) (action : OwnerAction E)
      (answer : OwnerAnswer E) (note : Option N) (taken : N)
      → IsGoing poll.next → Stands begins keeps was poll old before → action ≡ owner_next poll
      → Does (begins before) action old answer (has note) new armed
      → Brings begins keeps action answer before after → note ≡ Some taken
      → mid ≡ owner_after poll answer → end ≡ owner_after mid by.Delivered
      → Round begins keeps poll end old new before after armed
  round_noted {N} poll mid end action answer note taken going stands is does brings some first
      came =
      let next : action ≡ poll.next = is ∙ (rw stands.awake refl) in
      let P : OwnerAction E → Type 0 =
      λ a. Does (begins before) a old answer (has note) new armed in
      let Q : Option N → Type 0 =
      λ n. Does (begins before) poll.next old answer (has n) new armed in
      let S : OwnerAction E → Type 0 = λ a. Brings begins keeps a answer before after in
      let R : OwnerMachine E → Type 0 =
      λ m. Round begins keeps poll m old new before after armed in
      let whole : told true poll answer ≡ end =
      ap (λ m. owner_after m by.Delivered) (sym first) ∙ sym came in
      subst R whole (round poll answer true going stands (subst Q some (subst P next does))
      (subst S next brings))
