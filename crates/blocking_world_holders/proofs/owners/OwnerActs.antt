-- An act of an owner itself, which asks no pool, keeps the law of the owner and its tie.
use Rattle.std.proofs.Common.{◌≡◌, ℕ, ◌<◌, List, [], ◌∷◌, ◌++◌, length, Bool, true, false, refl}
use Rattle.std.proofs.Common.{sym, ap, ◌∙◌, subst, arith, Option, Some, None, inl, inr, ◌||◌, ◌⊎◌}
use Rattle.std.proofs.Common.{not, max, take, is_some, is_none, append-nil, length-take}
use Rattle.std.proofs.lemmas.Bool.{or_from, or_left, or_right}
use Rattle.blocking_world_holders.proofs.Types.{Fault, Position, OwnerAction, OwnerAnswer, OwnerEnd}
use Rattle.blocking_world_holders.proofs.Types.{Open, Shut, Reply, SessionKind, State, Act, Back}
use Rattle.blocking_world_holders.proofs.Types.{FillShut, Filled, Got, GotEnd, GotItem, OwnerClosed}
use Rattle.blocking_world_holders.proofs.Types.{ResultGot, Waits, Event, Told, HandleCall}
use Rattle.blocking_world_holders.proofs.Types.{OwnerStage, PollEnd}
use Rattle.blocking_world_holders.proofs.Words.{Pipe, OwnerMachine, owner_after, room, Closed, Met}
use Rattle.blocking_world_holders.proofs.Words.{Served, Waiting, drain, fill, receive, Abandoned}
use Rattle.blocking_world_holders.proofs.Words.{Content, Empty, Full, GivenUp, Slot, Growth}
use Rattle.blocking_world_holders.proofs.Words.{JobNumber, EndsTruly, IsFlushed, IsFlushedIf}
use Rattle.blocking_world_holders.proofs.Words.{IsReadWhole, came_back, handle_answers}
use Rattle.blocking_world_holders.proofs.Words.{has_failed_write, has_failure, has_flush}
use Rattle.blocking_world_holders.proofs.Words.{last_is_end, Kind, Operating, Over, Reading}
use Rattle.blocking_world_holders.proofs.Words.{Seeking, Streaming, Writing, fault, has_closed}
use Rattle.blocking_world_holders.proofs.Words.{has_finished, has_given_up, has_result}
use Rattle.blocking_world_holders.proofs.Words.{next_but_wake, number, OwnerMayAct, Polls}
use Rattle.blocking_world_holders.proofs.Words.{is_job_seated, noted, pipe_seat, pipe_seated_by}
use Rattle.blocking_world_holders.proofs.Words.{place_of, result_seat, result_seated_by, slot_seat}
use Rattle.blocking_world_holders.proofs.Words.{slot_seated_by, next_of_owner, accepted, data_of}
use Rattle.blocking_world_holders.proofs.Words.{gave, got, inside, kind_in, last_job, room_in}
use Rattle.blocking_world_holders.proofs.Words.{taken as taken_by, poll_place, poll_slot}
use Rattle.blocking_world_holders.proofs.Words.{seen_drain, seen_fill, seen_receive, acts_of, own}
use Rattle.blocking_world_holders.proofs.Words.{SeenSession, SeenState, seen_call, seen_has_begun}
use Rattle.blocking_world_holders.proofs.Words.{seen_is_closed, seen_is_dropped, is_operation}
use Rattle.blocking_world_holders.proofs.Words.{seen_is_shut, seen_last_session, seen_session}
use Rattle.blocking_world_holders.proofs.Words.{seen_state, seen_state_by, seen_state_in, by_owner}
use Rattle.blocking_world_holders.proofs.Words.{FlowAs, FitsNext, GoneBy, HoldsResult, IsAtEnd}
use Rattle.blocking_world_holders.proofs.Words.{IsLentOpen, IsOperating, LooksFrom, OperatesBy}
use Rattle.blocking_world_holders.proofs.Words.{OwnerAs, PassedAs, PlaceBy, PollAs, SessionAs}
use Rattle.blocking_world_holders.proofs.Words.{SlotAs, WrittenAs, action_as, has_found}
use Rattle.blocking_world_holders.proofs.Words.{is_end_open, is_piped_kind, kind_as, passed_by}
use Rattle.blocking_world_holders.proofs.Words.{state_as, wrote_by, Did, Owner, awaited_as}
use Rattle.blocking_world_holders.proofs.Words.{back_answer, capacity_of, close_did, did, did_by}
use Rattle.blocking_world_holders.proofs.Words.{did_in, drain_did, fill_did, fill_did_in, find_did}
use Rattle.blocking_world_holders.proofs.Words.{goes_on, last_item, look_did, looked_as, note_at}
use Rattle.blocking_world_holders.proofs.Words.{poll_call_of, receive_did, reply_as, reply_did}
use Rattle.blocking_world_holders.proofs.Words.{OfBytes, OfItems, Session, drained, filled, reach}
use Rattle.blocking_world_holders.proofs.Words.{received, serial_of, session_after_close}
use Rattle.blocking_world_holders.proofs.Words.{session_after_drain, session_after_fill}
use Rattle.blocking_world_holders.proofs.Words.{session_after_find, session_after_look}
use Rattle.blocking_world_holders.proofs.Words.{session_after_receive, is_made, under_way}
use Rattle.blocking_world_holders.proofs.Words.{seen_capacity, is_in, jobs_of, is_serial}
use Rattle.blocking_world_holders.proofs.Words.{kind_of_job, is_waiting, StageAs, PlaceIn, LastAs}
use Rattle.blocking_world_holders.proofs.Clashes.{never, nothing}
use Rattle.blocking_core.specs.OwnerCalls as machine
use Rattle.blocking_world_laws.specs.OwnerTable as law
use Rattle.blocking_world_holders.proofs.owners.Cuts.{not_not, inside_is, room_is, lasts_is}
use Rattle.blocking_world_holders.proofs.owners.Cuts.{open_is, noted_is, its_job, drain_act}
use Rattle.blocking_world_holders.proofs.owners.Cuts.{drain_seen, receive_act, receive_shown}
use Rattle.blocking_world_holders.proofs.owners.Fills.{fills, fill_waits, filled_some, filled_note}
use Rattle.blocking_world_holders.proofs.owners.Fills.{fill_act, fill_seen}
use Rattle.blocking_world_holders.proofs.owners.Drains.{shuts, takes, waits, returns, waits_for_it}
use Rattle.blocking_world_holders.proofs.owners.Drains.{front, at_end, reached}
use Rattle.blocking_world_holders.proofs.owners.Receives.{first_item, no_more_items, receives}
use Rattle.blocking_world_holders.proofs.owners.Receives.{waits_for_item}
use Rattle.blocking_world_holders.proofs.owners.Goods.{through_some, piped_some}
use Rattle.blocking_world_holders.proofs.owners.OpSessions.{kept_with}
use Rattle.blocking_world_holders.proofs.owners.Results.{taken as result_taken}
use Rattle.blocking_world_holders.proofs.owners.Results.{waits as result_waits}
use Rattle.blocking_world_holders.proofs.owners.States.{gone_is, lent_at, lent_by, piped_is}
use Rattle.blocking_world_holders.proofs.owners.Polls.{owner_by_parts, bound, Goes, value_of}
use Rattle.blocking_world_holders.proofs.owners.Polls.{turned, doing, goes_on_so, still_there}
use Rattle.blocking_world_holders.proofs.owners.Polls.{still_called, lawful, fits_at, operating_so}
use Rattle.blocking_world_holders.proofs.owners.Polls.{noted_so, some_fits, got_machine, last_is}
use Rattle.blocking_world_holders.proofs.owners.Returns.{no_failure, whole_by, looks_away}
use Rattle.blocking_world_holders.proofs.owners.Returns.{lent_state, shut_now, once_back}
use Rattle.blocking_world_holders.proofs.owners.Returns.{at_back_is, IsNoSeek, after_back_is}
use Rattle.blocking_world_holders.proofs.owners.Returns.{sought_is, back_fits, sought_fits}
use Rattle.blocking_world_holders.proofs.owners.Returns.{back_operates, sought_operates, some_why}
use Rattle.blocking_world_holders.proofs.owners.Replies.{reply_goes, drops_goes}

module _ (bytes client : ℕ) (asked : Option HandleCall) (p : OwnerMachine ℕ) (s : Session)
    (h first : ℕ) (growth : Growth) (cut : List Event) where
  -- what the tie of the session is about
  abbrev began : Option SeenSession
  began = seen_last_session (own cut)

  abbrev kind : Kind
  kind = kind_in began

  abbrev shut : Bool
  shut = seen_is_shut (own cut)

  abbrev over : Bool
  over = is_none (seen_session (own cut))

  abbrev gone : Bool
  gone = seen_is_dropped (own cut)

  abbrev took : List ℕ
  took = got (own cut)

  abbrev written : List ℕ
  written = accepted (own cut)

  abbrev acts : List Act
  acts = acts_of s.number.serial cut

  abbrev js : Bool
  js = is_job_seated cut

  abbrev ps : Bool
  ps = pipe_seat cut

  abbrev ss : Bool
  ss = slot_seat cut

  abbrev rs : Bool
  rs = result_seat cut

  abbrev begun : Bool
  begun = seen_has_begun (own cut)

  abbrev came : Bool
  came = has_found (own cut)

  abbrev Old : Type 0
  Old = OwnerAs (owner_by_parts bytes client asked (OwnerStage.Polls p) (Some s)) cut

  abbrev polling : Owner
  polling = owner_by_parts bytes client asked (OwnerStage.Polls p) (Some s)

  -- the session, where its kind is known
  of_kind : (k : Kind) → kind ≡ k → Old
      → SessionAs s k (bound bytes k) began shut over gone took written acts js ps ss
  of_kind k e t = subst
      (λ k. SessionAs s k (bound bytes k) began shut over gone took written acts js ps ss) e t.last

  -- where it is in its operations, by what it does next
  operates_at : (next : OwnerAction ℕ) → p.next ≡ next → Old
      → IsOperating next (is_operation asked) begun came
  operates_at next is t = subst (λ n. IsOperating n (is_operation asked) begun came) is t.operates

  -- its poll is as before, but for what it does next
  polls_on : (t : Old) (q : OwnerMachine ℕ) (x : ℕ) (ended : Bool) (back : Option (List Event))
      → q.call ≡ p.call → q.state ≡ p.state → FitsNext t.stage.0.call q q.next ended back
      → PollAs q x (seen_call (own cut)) (seen_state (own cut)) (action_as x t.stage.0.call q.next)
      ended back
  polls_on t q x ended back called there fits = record {
    call = t.stage.0.call;
    asked_is = t.stage.0.asked_is;
    begun = t.stage.0.begun;
    call_is = called ∙ t.stage.0.call_is;
    at_is = t.stage.0.at_is ∙ ap state_as (sym there);
    next_is = refl;
    fits = fits;
  }

  -- What an act with which its poll goes on leaves as it was. At each such act the tie before it
  -- says so.
  record Stays (act : Act) : Type 0 where
    pub made : is_made (act ∷ own cut) ≡ true
    pub gone : GoneBy (OwnerStage.Polls p) asked (act ∷ own cut)
    pub asked_is : seen_call (act ∷ own cut) ≡ asked
    pub polled : under_way (act ∷ own cut) ≡ asked
    pub holds : (kind : Kind) → seen_capacity kind (act ∷ own cut) ≡ capacity_of polling kind
    pub acts_so : Polls cut (next_of_owner cut) act
        → OwnerMayAct false cut (by_owner h act first growth)
    pub ends : EndsTruly cut act
    pub earlier : (n : ℕ) → is_in n (jobs_of (act ∷ own cut)) ≡ true
        → is_serial (seen_last_session (act ∷ own cut)) (Some n) ≡ false
        → next_but_wake (kind_of_job n (act ∷ own cut))
        (acts_of n (by_owner h act first growth ∷ cut)) ≡ Over
    pub told : is_waiting (act ∷ own cut) ≡ true → ⊥

  -- its poll goes on, first by a note that it took
  on_goes : Old → (act : Act) (note : Option JobNumber) (q : OwnerMachine ℕ) (new : Session)
      {m : OwnerMachine ℕ} → m ≡ q → Stays act → {at : law.OwnerAction} → next_of_owner cut ≡ at
      → Polls cut at act
      → StageAs (goes_on q note) new.item (by_owner h act first growth ∷ cut) → IsOperating q.next
      (is_operation asked) (seen_has_begun (act ∷ own cut)) (has_found (act ∷ own cut))
      → PlaceIn (Some new) (by_owner h act first growth ∷ cut)
      → LastAs (Some new) (bound bytes) (by_owner h act first growth ∷ cut)
      → (law.is_at_end (act ∷ own cut) ≡ true → IsAtEnd new)
      → ((number : JobNumber) → note_at (goes_on q note) ≡ Some number
      → Some new.number ≡ Some number)
      → Goes (owner_by_parts bytes client asked (goes_on m note) (Some new)) cut
      (by_owner h act first growth)
  on_goes t act note q new same stays next acts_so stage operates place last ended note_is =
      subst (λ (m : OwnerMachine ℕ). Goes (owner_by_parts bytes client asked (goes_on m note)
      (Some new)) cut (by_owner h act first growth)) (sym same)
      (record {
        acts = stays.acts_so (subst (λ n. Polls cut n act) (sym next) acts_so);
        ends = stays.ends;
        tie = record {
          made = stays.made;
          gone = still_there q note asked (act ∷ own cut) stays.gone;
          asked = stays.asked_is;
          polled = stays.polled ∙ still_called q note asked;
          bytes = stays.holds;
          stage = stage;
          operates = operating_so q note (is_waiting (act ∷ own cut)) (is_operation asked)
              (seen_has_begun (act ∷ own cut)) (has_found (act ∷ own cut)) operates;
          place = place;
          last = last;
          ended = ended;
          earlier = stays.earlier;
          noted = note_is;
          told = λ waits. absurd (stays.told waits);
        };
      })

  -- its poll waits, in one of the session's seats
  waits_goes : (t : Old) (end : PollEnd) (pipe : Pipe ℕ (Unit {0})) (result : Slot ℕ (Unit {0}))
      (slot : Slot (Option (Fault ℕ)) (Unit {0})) {at : law.OwnerAction} → next_of_owner cut ≡ at
      → Polls cut at Waits
      → OperatesBy (OwnerStage.Rests p.state end) true (is_operation asked) begun came
      → SessionAs (record s { pipe = pipe; result = result; slot = slot }) kind (bound bytes kind)
      began shut over gone took written acts js (pipe_seated_by Waits (place_of at) ps)
      (slot_seated_by Waits (place_of at) ss)
      → PlaceBy result kind acts came (result_seated_by Waits (place_of at) rs)
      → is_some pipe.owner_seat || (is_some slot.seat || is_some result.seat) ≡ true
      → Goes (owner_by_parts bytes client asked (OwnerStage.Rests p.state end)
      (Some (record s { pipe = pipe; result = result; slot = slot }))) cut
      (by_owner h Waits first growth)
  waits_goes t end pipe result slot next acts_so operates last place sits = record {
    acts = subst (λ n. Polls cut n Waits) (sym next) acts_so;
    ends = tt;
    tie = record {
      made = t.made;
      gone = t.gone;
      asked = t.asked;
      polled = refl;
      bytes = t.bytes;
      stage = (t.stage.0.at_is, refl, refl);
      operates = operates;
      place = subst (λ n. PlaceBy result kind acts came (result_seated_by Waits (place_of n) rs))
          (sym next) place;
      last = subst (λ n. SessionAs (record s { pipe = pipe; result = result; slot = slot })
          kind (bound bytes kind) began shut over gone took written acts js
          (pipe_seated_by Waits (place_of n) ps) (slot_seated_by Waits (place_of n) ss))
          (sym next) last;
      ended = λ is_end. absurd (never is_end);
      earlier = t.earlier;
      noted = λ number is. absurd (nothing is);
      told = λ waits. (refl, inr sits);
    };
  }

  -- ---- it closes its end of the pipe

  shut_state : (closed : Bool) (r : Option SeenSession) (shut : Bool) (st : State) → IsLentOpen st
      → seen_state_by closed r shut ≡ state_as st
      → seen_state_by closed r true ≡ state_as (machine.shut st)
  shut_state true r shut (State.Lent kind Open) opened e = absurd (cc)
  shut_state false None shut (State.Lent kind Open) opened e = absurd (cc)
  shut_state false (Some r) shut (State.Lent kind Open) opened e =
      let same : r.kind ≡ kind_as kind = cc in ap (λ k. SeenState.In k false) same
  shut_state closed r shut _ opened e = absurd opened

  shut_looks : (c : HandleCall) (st : State) (ended : Bool) → IsLentOpen st → ended ≡ false
      → LooksFrom c (machine.shut st) ended
  shut_looks c (State.Lent kind Open) ended opened e =
      subst (λ b. LooksFrom c (State.Lent kind Shut) b) (sym e) tt
  shut_looks c _ ended opened e = absurd opened

  close_goes : p.next ≡ OwnerAction.Close → Old → Goes (close_did p s polling).owner cut
      (by_owner h (OwnerClosed (serial_of s.pipe.job_seat)) first growth)
  close_goes is t =
      let note = s.pipe.job_seat in
      let e = by_owner h (OwnerClosed (serial_of note)) first growth in
      let c = t.stage.0.call in
      let q : OwnerMachine ℕ = record p {
        state = machine.shut p.state;
        next = OwnerAction.PollSlot;
        is_waking = is_some note;
      } in
      let fits = fits_at bytes client asked p cut (Some s) OwnerAction.Close t is in
      let same : owner_after p (OwnerAnswer.Closed (is_some note)) ≡ q =
      turned p OwnerAction.Close (OwnerAnswer.Closed (is_some note)) t.stage.1 is in
      let polled : PollAs q s.item (seen_call (own cut)) (seen_state (own (e ∷ cut))) law.PollSlot
      false (came_back cut) = record {
        call = c;
        asked_is = t.stage.0.asked_is;
        begun = t.stage.0.begun;
        call_is = t.stage.0.call_is;
        at_is = shut_state (seen_is_closed (own cut)) (seen_session (own cut)) shut p.state fits.0
            t.stage.0.at_is;
        next_is = refl;
        fits = (shut_looks c p.state p.is_at_end fits.0 fits.1, fits.1);
      } in
      on_goes t (OwnerClosed (serial_of note)) note q (session_after_close s) same
      (assumption (tt, never)) (lawful bytes client asked p cut (Some s) OwnerAction.Close t is)
      (ap OwnerClosed (noted_is s (bound bytes) cut t.last))
      (goes_on_so q note s.item (seen_call (own cut)) (seen_state (own (e ∷ cut))) law.PollSlot
      false (came_back cut) polled refl) (operates_at OwnerAction.Close is t) t.place
      (shuts s kind (bound bytes kind) began shut over gone took written acts js ps ss t.last)
      (λ is_end. absurd (never is_end)) (noted_so q note js s.number t.last.seats.job)

  -- ---- it drains the pipe

  -- what it finds is what the law says
  found_so : (most : ℕ) → 0 < most → Old
      → drain_act (drained (reach most s) s)
      ≡ seen_drain (drain most (inside cut) (not (has_closed (last_job cut))) (noted cut))
  found_so most some t =
      ap drain_act (reached most s.pipe.items s.pipe.is_job_open s.pipe.job_seat some)
      ∙ drain_seen most s.pipe.items s.pipe.is_job_open s.pipe.job_seat
      ∙ ap (λ l. seen_drain (drain most l s.pipe.is_job_open (serial_of s.pipe.job_seat)))
      (sym (inside_is s (bound bytes) cut t.last))
      ∙ ap (λ b. seen_drain (drain most (inside cut) b (serial_of s.pipe.job_seat)))
      (sym (lasts_is s (bound bytes) cut t.last))
      ∙ ap (λ n. seen_drain (drain most (inside cut) (not (has_closed (last_job cut))) n))
      (noted_is s (bound bytes) cut t.last)

  drain_goes : (most : ℕ) → p.next ≡ OwnerAction.Drain most → Old
      → (met : Met (List ℕ × Option JobNumber)) → drained (reach most s) s ≡ met
      → Goes (drain_did met p s polling).owner cut
      (by_owner h (drain_did met p s polling).act first growth)
  drain_goes most is t (Served found) e =
      let c = t.stage.0.call in
      let fits = fits_at bytes client asked p cut (Some s) (OwnerAction.Drain most) t is in
      let lent = lent_at (own cut) Reading true (t.stage.0.at_is ∙ ap state_as fits.2) in
      let seen = by_owner h (Got found.0 (serial_of found.1)) first growth in
      let here =
      front (max 1 (reach most s)) s.pipe.items s.pipe.is_job_open s.pipe.job_seat found e in
      let count =
      ap (λ (l : List ℕ). length l) here.0 ∙ length-take (max 1 (reach most s)) s.pipe.items in
      let some : 0 < length s.pipe.items = some_in s.pipe.items here.2 in
      let wanted = fits.1 in
      let q : OwnerMachine ℕ = record p {
        next = OwnerAction.Reply (Reply.Count (length found.0));
        is_waking = is_some found.1;
      } in
      let any : 0 < length found.0 = omega (arith, count, some) in
      let same : owner_after p (OwnerAnswer.Got (length found.0) (is_some found.1)) ≡ q =
      turned p (OwnerAction.Drain most) (OwnerAnswer.Got (length found.0) (is_some found.1))
      t.stage.1 is ∙ got_machine p most (length found.0) (is_some found.1) any
      (omega (arith, count, wanted)) in
      let polled = polls_on t q s.item false (came_back cut) refl refl
      (some_fits c q (length found.0) false (came_back cut) any) in
      let last = takes s (bound bytes Reading) began shut over gone took written acts js ps ss
      (max 1 (reach most s)) found e (of_kind Reading lent.0 t) in
      on_goes t (Got found.0 (serial_of found.1)) found.1 q (session_after_drain (Served found) s)
      same (assumption (tt, never)) (lawful bytes client asked p cut (Some s)
      (OwnerAction.Drain most) t is) (ap drain_act (sym e) ∙ found_so most wanted t)
      (goes_on_so q found.1 s.item (seen_call (own cut)) (seen_state (own cut))
      (law.Say (Told.Count (length found.0))) false (came_back cut) polled refl) tt t.place
      (subst (λ k. SessionAs (session_after_drain (Served found) s) k (bound bytes k)
      began shut over gone (took ++ found.0) written acts false ps ss) (sym lent.0) last)
      (λ is_end. absurd (never is_end))
      (noted_so q found.1 js s.number (here.1 ∙ t.last.seats.job))
    where
      some_in : (l : List ℕ) → (l ≡ [] → ⊥) → 0 < length l
      some_in [] none = absurd (none refl)
      some_in (x ∷ xs) none = omega arith
  drain_goes most is t Waiting e =
      let fits = fits_at bytes client asked p cut (Some s) (OwnerAction.Drain most) t is in
      let lent = lent_at (own cut) Reading true (t.stage.0.at_is ∙ ap state_as fits.2) in
      waits_goes t PollEnd.Waits (record s.pipe { owner_seat = Some tt })
      s.result s.slot (lawful bytes client asked p cut (Some s) (OwnerAction.Drain most) t is)
      (ap drain_act (sym e) ∙ found_so most fits.1 t)
      (refl, operates_at (OwnerAction.Drain most) is t)
      (subst (λ k. SessionAs (session_after_drain Waiting s) k (bound bytes k) began shut over gone
      took written acts js true ss) (sym lent.0)
      (waits s (bound bytes Reading) began shut over gone took written acts js ps ss
      (max 1 (reach most s)) e (of_kind Reading lent.0 t))) t.place refl
  drain_goes most is t Closed e =
      let fits = fits_at bytes client asked p cut (Some s) (OwnerAction.Drain most) t is in
      let lent = lent_at (own cut) Reading true (t.stage.0.at_is ∙ ap state_as fits.2) in
      let seen = by_owner h GotEnd first growth in
      let q : OwnerMachine ℕ = record p { next = OwnerAction.PollSlot; is_at_end = true } in
      let same : owner_after p OwnerAnswer.Ended ≡ q =
      turned p (OwnerAction.Drain most) OwnerAnswer.Ended t.stage.1 is in
      let closed =
      at_end (max 1 (reach most s)) s.pipe.items s.pipe.is_job_open s.pipe.job_seat e in
      on_goes t GotEnd None q s same
      (assumption (tt, never)) (lawful bytes client asked p cut (Some s)
      (OwnerAction.Drain most) t is) (ap drain_act (sym e) ∙ found_so most fits.1 t) (
        polls_on t q s.item
            true (came_back cut) refl refl ((
              subst (λ c. LooksFrom c p.state true) (sym fits.0)
                  (subst (λ st. LooksFrom (HandleCall.Read most) st true) (sym fits.2) tt),
              refl,
            )),
        t.stage.1,
        refl,
      ) (operates_at (OwnerAction.Drain most) is t) t.place
      t.last (λ is_end. (closed.0, closed.1, sym (open_is s (bound bytes) cut t.last) ∙ lent.1))
      (λ number is. absurd (nothing is))

  -- ---- it receives an item

  -- what it finds is what the law says
  item_so : Old → receive_act (received s)
      ≡ seen_receive (receive (inside cut) (not (has_closed (last_job cut))) (noted cut))
  item_so t =
      receive_shown s.pipe.items s.pipe.is_job_open s.pipe.job_seat
      ∙ ap (λ l. seen_receive (receive l s.pipe.is_job_open (serial_of s.pipe.job_seat)))
      (sym (inside_is s (bound bytes) cut t.last))
      ∙ ap (λ b. seen_receive (receive (inside cut) b (serial_of s.pipe.job_seat)))
      (sym (lasts_is s (bound bytes) cut t.last))
      ∙ ap (λ n. seen_receive (receive (inside cut) (not (has_closed (last_job cut))) n))
      (noted_is s (bound bytes) cut t.last)

  receive_goes : p.next ≡ OwnerAction.Receive → Old → (met : Met (ℕ × Option JobNumber))
      → received s ≡ met
      → Goes (receive_did met p s polling).owner cut
      (by_owner h (receive_did met p s polling).act first growth)
  receive_goes is t (Served found) e =
      let fits = fits_at bytes client asked p cut (Some s) OwnerAction.Receive t is in
      let lent = lent_at (own cut) Streaming true (t.stage.0.at_is ∙ ap state_as fits.1) in
      let seen = by_owner h (GotItem found.0 (serial_of found.1)) first growth in
      let here = first_item s.pipe.items s.pipe.is_job_open s.pipe.job_seat found e in
      let q : OwnerMachine ℕ =
      record p { next = OwnerAction.Reply Reply.Item; is_waking = is_some found.1 } in
      let same : owner_after p (OwnerAnswer.Received (is_some found.1)) ≡ q =
      turned p OwnerAction.Receive (OwnerAnswer.Received (is_some found.1)) t.stage.1 is in
      let polled = polls_on t q found.0 false (came_back cut) refl refl (subst (λ c. FitsNext c q
      (OwnerAction.Reply Reply.Item) false (came_back cut)) (sym fits.0) (refl, tt, tt)) in
      let last = receives s (bound bytes Streaming) began shut over gone took written acts js ps ss
      found e (of_kind Streaming lent.0 t) in
      on_goes t (GotItem found.0 (serial_of found.1)) found.1 q
      (session_after_receive (Served found) s) same
      (assumption (tt, never)) (lawful bytes client asked p cut (Some s) OwnerAction.Receive t is)
      (ap receive_act (sym e) ∙ item_so t)
      (goes_on_so q found.1 found.0 (seen_call (own cut)) (seen_state (own cut))
      (law.Say (Told.OneItem found.0)) false (came_back cut) polled refl) tt t.place
      (subst (λ k. SessionAs (session_after_receive (Served found) s) k (bound bytes k) began
      shut over gone (took ++ found.0 ∷ []) written acts false ps ss) (sym lent.0) last)
      (λ is_end. absurd (never is_end))
      (noted_so q found.1 js s.number (here.1 ∙ t.last.seats.job))
  receive_goes is t Waiting e =
      let fits = fits_at bytes client asked p cut (Some s) OwnerAction.Receive t is in
      let lent = lent_at (own cut) Streaming true (t.stage.0.at_is ∙ ap state_as fits.1) in
      waits_goes t PollEnd.Waits (record s.pipe { owner_seat = Some tt })
      s.result s.slot (lawful bytes client asked p cut (Some s) OwnerAction.Receive t is)
      (ap receive_act (sym e) ∙ item_so t)
      (refl, operates_at OwnerAction.Receive is t)
      (subst (λ k. SessionAs (session_after_receive Waiting s) k (bound bytes k) began shut over
      gone took written acts js true ss) (sym lent.0)
      (waits_for_item s (bound bytes Streaming) began shut over gone took written acts js ps ss e
      (of_kind Streaming lent.0 t))) t.place refl
  receive_goes is t Closed e =
      let fits = fits_at bytes client asked p cut (Some s) OwnerAction.Receive t is in
      let lent = lent_at (own cut) Streaming true (t.stage.0.at_is ∙ ap state_as fits.1) in
      let seen = by_owner h GotEnd first growth in
      let q : OwnerMachine ℕ = record p { next = OwnerAction.PollSlot; is_at_end = true } in
      let same : owner_after p OwnerAnswer.Ended ≡ q =
      turned p OwnerAction.Receive OwnerAnswer.Ended t.stage.1 is in
      let closed = no_more_items s.pipe.items s.pipe.is_job_open s.pipe.job_seat e in
      on_goes t GotEnd None q s same
      (assumption (tt, never)) (lawful bytes client asked p cut (Some s) OwnerAction.Receive t is)
      (ap receive_act (sym e) ∙ item_so t) (
        polls_on t q s.item true (came_back cut) refl refl ((
          subst (λ c. LooksFrom c p.state true)
              (sym fits.0) (subst (λ st. LooksFrom HandleCall.Next st true) (sym fits.1) tt),
          refl,
        )),
        t.stage.1,
        refl,
      ) (operates_at OwnerAction.Receive is t) t.place
      t.last (λ is_end. (closed.0, closed.1, sym (open_is s (bound bytes) cut t.last) ∙ lent.1))
      (λ number is. absurd (nothing is))

  -- ---- it fills the pipe

  -- what it finds is what the law says
  entered_so : (n : ℕ) → Old → fill_act (filled n s)
      ≡ seen_fill (fill n (room_in cut) (not (has_closed (last_job cut))) (noted cut))
  entered_so n t =
      fill_seen n (room s.pipe) s.pipe.is_job_open s.pipe.job_seat
      ∙ ap (λ r. seen_fill (fill n r s.pipe.is_job_open (serial_of s.pipe.job_seat)))
      (sym (room_is s (bound bytes) cut t.last t.bytes))
      ∙ ap (λ b. seen_fill (fill n (room_in cut) b (serial_of s.pipe.job_seat)))
      (sym (lasts_is s (bound bytes) cut t.last))
      ∙ ap (λ n'. seen_fill (fill n (room_in cut) (not (has_closed (last_job cut))) n'))
      (noted_is s (bound bytes) cut t.last)

  -- it was asked to write these bytes, and the handle is with a job that writes
  pub record Writes (offered : List ℕ) (t : Old) : Type 0 where
    pub call_is : t.stage.0.call ≡ HandleCall.Write offered
    pub some : 0 < length offered
    pub at : p.state ≡ State.Lent SessionKind.Writing Open
    pub kind_is : kind ≡ Writing
    pub open_is : shut ≡ false
    pub next_is : next_of_owner cut ≡ law.Fill offered
    pub most_is : p.next ≡ OwnerAction.Fill (length offered)

  fills_so : (offered : List ℕ) (most : ℕ) → asked ≡ Some (HandleCall.Write offered)
      → p.next ≡ OwnerAction.Fill most → (t : Old) → Writes offered t
  fills_so offered most asks is t =
      let fits = fits_at bytes client asked p cut (Some s) (OwnerAction.Fill most) t is in
      let called : Some t.stage.0.call ≡ Some (HandleCall.Write offered) =
      sym t.stage.0.asked_is ∙ t.asked ∙ asks in
      let call : t.stage.0.call ≡ HandleCall.Write offered = ap (value_of t.stage.0.call) called in
      let same : fits.0 ≡ offered = ap (λ c. data_of (Some c)) (sym fits.1 ∙ call) in
      let many : most ≡ length offered = fits.2 ∙ ap (λ (l : List ℕ). length l) same in
      let lent = lent_at (own cut) Writing true (t.stage.0.at_is ∙ ap state_as fits.4) in
      record {
        call_is = call;
        some = subst (λ n. 0 < n) many fits.3;
        at = fits.4;
        kind_is = lent.0;
        open_is = shuts_not shut lent.1;
        next_is = lawful bytes client asked p cut (Some s) (OwnerAction.Fill most) t is
            ∙ ap (λ c. law.Fill (data_of (Some c))) call;
        most_is = is ∙ ap OwnerAction.Fill many;
      }
    where
      shuts_not : (b : Bool) → not b ≡ true → b ≡ false
      shuts_not b e = grind arith

  fill_goes : (offered : List ℕ) (t : Old) → Writes offered t → (met : Met (ℕ × Option JobNumber))
      → filled (length offered) s ≡ met
      → Goes (fill_did offered met p s polling).owner cut
      (by_owner h (fill_did offered met p s polling).act first growth)
  fill_goes offered t w (Served went) e =
      let c = t.stage.0.call in
      let seen = by_owner h (Filled went.0 (serial_of went.1)) first growth in
      let many = filled_some (length offered) s went e w.some in
      let q : OwnerMachine ℕ =
      record p { next = OwnerAction.Reply (Reply.Count went.0); is_waking = is_some went.1 } in
      let same : owner_after p (OwnerAnswer.Took went.0 (is_some went.1)) ≡ q =
      turned p (OwnerAction.Fill (length offered))
      (OwnerAnswer.Took went.0 (is_some went.1)) t.stage.1 w.most_is
      ∙ got_machine p (length offered) went.0 (is_some went.1) many.0 many.1 in
      let polled = polls_on t q s.item false (came_back cut) refl refl
      (some_fits c q went.0 false (came_back cut) many.0) in
      let last = fills s (bound bytes Writing) began shut over gone took written acts js ps ss
      offered went e w.open_is (of_kind Writing w.kind_is t) in
      let offer : offered ≡ data_of (seen_call (own cut)) =
      sym (ap data_of t.stage.0.asked_is ∙ ap (λ c. data_of (Some c)) w.call_is) in
      on_goes t (Filled went.0 (serial_of went.1)) went.1 q
      (session_after_fill offered (Served went) s) same
      (assumption (tt, never)) w.next_is (ap fill_act (sym e) ∙ entered_so (length offered) t)
      (goes_on_so q went.1 s.item (seen_call (own cut)) (seen_state (own cut))
      (law.Say (Told.Count went.0)) false (came_back cut) polled refl) tt t.place
      (subst (λ k. SessionAs (session_after_fill offered (Served went) s) k (bound bytes k) began
      shut over gone took (accepted (own (seen ∷ cut))) acts false ps ss) (sym w.kind_is)
      (subst (λ l. SessionAs (session_after_fill offered (Served went) s) Writing
      (bound bytes Writing) began shut over gone took (written ++ take went.0 l) acts
      false ps ss) offer last)) (λ is_end. absurd (never is_end)) (noted_so q went.1 js
      s.number ((filled_note (length offered) s went e).0 ∙ t.last.seats.job))
  fill_goes offered t w Waiting e =
      waits_goes t PollEnd.Waits (record s.pipe { owner_seat = Some tt })
      s.result s.slot w.next_is (ap fill_act (sym e) ∙ entered_so (length offered) t) (
        refl,
        operates_at (OwnerAction.Fill (length offered)) w.most_is t,
      )
      (subst (λ k. SessionAs (session_after_fill offered Waiting s) k (bound bytes k) began shut
      over gone took written acts js true ss) (sym w.kind_is)
      (fill_waits s (bound bytes Writing) began shut over gone took written acts js ps ss offered e
      (of_kind Writing w.kind_is t))) t.place refl
  fill_goes offered t w Closed e =
      let seen = by_owner h FillShut first growth in
      let q : OwnerMachine ℕ = record p { next = OwnerAction.Reply (Reply.Count 0) } in
      let same : owner_after p OwnerAnswer.Shut ≡ q =
      turned p (OwnerAction.Fill (length offered)) OwnerAnswer.Shut t.stage.1 w.most_is in
      on_goes t FillShut None q s same
      (assumption (tt, never)) w.next_is (ap fill_act (sym e) ∙ entered_so (length offered) t) (
        polls_on t q s.item false (came_back cut) refl refl
            (subst (λ c. FitsNext c q (OwnerAction.Reply (Reply.Count 0)) false (came_back cut))
            (sym w.call_is) (refl, tt, tt)),
        t.stage.1,
        refl,
      ) tt t.place
      t.last (λ is_end. absurd (cc)) (λ number is. absurd (cc))

  -- ---- it looks into the slot

  -- one end of its pipe was closed, if there is one
  closed_end : (c : HandleCall) (st : State) (ended : Bool)
      → LooksFrom c st ended → seen_state (own cut) ≡ state_as st
      → seen_state_in (seen_session (own cut)) shut ≡ state_as st
      → shut ≡ not s.pipe.is_owner_open
      → (ended ≡ true → IsAtEnd s) → (s.pipe.is_owner_open ≡ false)
      ⊎ ((s.pipe.is_job_open ≡ false) ⊎ (is_piped_kind kind ≡ false))
  closed_end c (State.Lent of Shut) false looks there at lent ends =
      inl (sym (not_not shut s.pipe.is_owner_open lent)
      ∙ shut_now (kind_as of) (seen_session (own cut)) shut at)
  closed_end c (State.Lent of Open) false looks there at lent ends =
      inr (inr (ap is_piped_kind (lent_at (own cut) (kind_as of) true there).0 ∙ sym (piped_is of)
      ∙ looks))
  closed_end (HandleCall.Read most) (State.Lent SessionKind.Reading Open) true looks there at lent
      ends = inr (inl (ends refl).1)
  closed_end HandleCall.Next (State.Lent SessionKind.Streaming Open) true looks there at lent ends =
      inr (inl (ends refl).1)
  closed_end _ _ _ looks there at lent ends = absurd looks

  -- it finds nothing yet, and is seated
  slot_waits : p.next ≡ OwnerAction.PollSlot → Old → s.slot.content ≡ Empty
      → Goes (owner_by_parts bytes client asked (OwnerStage.Rests p.state PollEnd.Waits)
      (Some (session_after_look Empty s))) cut (by_owner h Waits first growth)
  slot_waits is t empty =
      let c = t.stage.0.call in
      let fits = fits_at bytes client asked p cut (Some s) OwnerAction.PollSlot t is in
      let at_slot = lawful bytes client asked p cut (Some s) OwnerAction.PollSlot t is in
      let slot =
      subst (λ c. SlotAs c (has_finished acts) (has_given_up acts) over (fault kind acts)) empty
      t.last.result.slot in
      let at =
      lent_by (own cut) p.state (looks_away c p.state p.is_at_end fits.0) t.stage.0.at_is in
      let going_on = lent_state c p.state p.is_at_end fits.0 (seen_session (own cut)) shut at in
      let unfinished = ap has_finished (its_job s (bound bytes) cut t.last) ∙ slot.0 ∙ going_on in
      let closed = closed_end c p.state p.is_at_end fits.0 t.stage.0.at_is at t.last.lent.shut_is
      (λ is_end. t.ended (sym fits.1 ∙ is_end)) in
      waits_goes t PollEnd.Waits s.pipe s.result (record s.slot { seat = Some tt }) at_slot
      (ap poll_slot (sym unfinished)) (refl, operates_at OwnerAction.PollSlot is t)
      (waits_for_it s kind (bound bytes kind) began shut over gone took written acts js ps ss empty
      closed t.last) t.place (or_right (is_some s.pipe.owner_seat) true refl)

  -- a job that finished is over
  over_now : Old → has_finished acts ≡ true → next_but_wake kind acts ≡ Over
  over_now t finished = last_is (next_but_wake kind acts)
      (sym t.last.result.over_is ∙ or_left (has_finished acts) (has_given_up acts) finished)

  -- a session whose end was seen, and whose job met no failure, gave all that it was given
  gave_whole : (t : Old) → IsAtEnd s → has_finished acts ≡ true → has_given_up acts ≡ false
      → {hand : ℕ} (k : Kind) → kind ≡ k
      → FlowAs hand s shut took (next_but_wake k acts) (has_closed acts)
      (has_given_up acts) (passed_by acts) → has_failure (handle_answers acts) ≡ false
      → IsReadWhole (by_owner h Back first growth ∷ cut)
  gave_whole t ends finished stays k same flow failed =
      let job = its_job s (bound bytes) cut t.last in
      let next : next_but_wake k acts ≡ Over =
      subst (λ k. next_but_wake k acts ≡ Over) same (over_now t finished) in
      let all = subst (λ a. PassedAs a (room s.pipe) s.pipe.is_job_open (shut || has_given_up acts)
      (passed_by acts)) next flow.passed_is in
      let put = flow.inside ∙ ap (λ l. took ++ l) ends.0 ∙ append-nil took in
      let whole = whole_by (passed_by acts) (shut || has_given_up acts) took (or_from shut
      (has_given_up acts) (t.last.lent.shut_is ∙ ap not ends.2) stays) all put failed in
      record {
        all = whole.0 ∙ sym (ap gave job);
        ended = ap (λ l. last_is_end (handle_answers l)) job ∙ whole.1;
        sound = ap (λ l. has_failure (handle_answers l)) job ∙ failed;
      }

  -- so one that reads, where its job met no fault, and one that takes items
  read_whole : (t : Old) → kind ≡ Reading
      → IsAtEnd s → has_finished acts ≡ true → has_given_up acts ≡ false → fault kind acts ≡ None
      → IsReadWhole (by_owner h Back first growth ∷ cut)
  read_whole t reads ends finished stays sound =
      gave_whole t ends finished stays Reading reads (of_kind Reading reads t).flow
      (no_failure acts (subst (λ k. fault k acts ≡ None) reads sound))

  taken_whole : (t : Old) → kind ≡ Streaming → IsAtEnd s → has_finished acts ≡ true
      → has_given_up acts ≡ false → IsReadWhole (by_owner h Back first growth ∷ cut)
  taken_whole t streams ends finished stays = let flow = (of_kind Streaming streams t).flow in
      gave_whole t ends finished stays Streaming streams flow (flow.sound refl)

  -- a session that writes, and whose job met no fault, was flushed
  flushed_whole : (t : Old) → kind ≡ Writing → has_finished acts ≡ true → has_given_up acts ≡ false
      → fault kind acts ≡ None → IsFlushed (by_owner h Back first growth ∷ cut)
  flushed_whole t writes finished stays sound =
      let job = its_job s (bound bytes) cut t.last in
      let l = of_kind Writing writes t in
      let next : next_but_wake Writing acts ≡ Over =
      subst (λ k. next_but_wake k acts ≡ Over) writes (over_now t finished) in
      let none : fault Writing acts ≡ None = subst (λ k. fault k acts ≡ None) writes sound in
      let all = subst (λ a. WrittenAs a l.flow.out s.pipe.items s.pipe.is_job_open shut
      (has_given_up acts) (wrote_by acts)) next l.flow.written_is stays in
      let empty = (all.1.0 none).0 in
      let inside = l.flow.inside ∙ ap (λ i. l.flow.out ++ i) empty ∙ append-nil l.flow.out in
      record {
        all = ap taken_by job ∙ all.0 ∙ sym inside;
        sound = ap (λ l. has_failed_write (handle_answers l)) job ∙ l.flow.sound none;
        flushed = ap (λ l. has_flush (handle_answers l)) job ∙ all.1.1 none;
      }

  flushed_if : (k : Kind) → (k ≡ Writing → IsFlushed (by_owner h Back first growth ∷ cut))
      → IsFlushedIf k (by_owner h Back first growth ∷ cut)
  flushed_if Writing flushed = flushed refl
  flushed_if Reading flushed = tt
  flushed_if _ flushed = tt

  -- the handle is back, and the machine was told so in this way
  returned : (is : p.next ≡ OwnerAction.PollSlot) (t : Old) (why : Option (Fault ℕ))
      → s.slot.content ≡ Full why → (answer : OwnerAnswer ℕ) (next : OwnerAction ℕ)
      → owner_after p answer ≡ record p { state = State.Idle; next = next }
      → law.after_back t.stage.0.call why p.is_at_end kind (number acts)
      ≡ action_as s.item t.stage.0.call next
      → FitsNext t.stage.0.call (record p { state = State.Idle; next = next }) next false
      (Some (by_owner h Back first growth ∷ cut))
      → IsOperating next (is_operation asked) begun came
      → Goes (owner_by_parts bytes client asked (OwnerStage.Polls (owner_after p answer))
      (Some (session_after_look (Full why) s))) cut (by_owner h Back first growth)
  returned is t why full answer next same follows fit goes =
      let c = t.stage.0.call in
      let fits = fits_at bytes client asked p cut (Some s) OwnerAction.PollSlot t is in
      let e = by_owner h Back first growth in
      let slot =
      subst (λ c. SlotAs c (has_finished acts) (has_given_up acts) over (fault kind acts)) full
      t.last.result.slot in
      let q : OwnerMachine ℕ = record p { state = State.Idle; next = next } in
      let finished = ap has_finished (its_job s (bound bytes) cut t.last) ∙ slot.0 in
      let last_number = number acts in
      let table : law.at_back (seen_call (own cut)) began (law.is_at_end (own cut)) (e ∷ cut)
      ≡ law.after_back c why p.is_at_end kind last_number =
      ap (λ c. law.at_back c began (law.is_at_end (own cut)) (e ∷ cut)) t.stage.0.asked_is
      ∙ ap (λ r. law.at_back (Some c) r (law.is_at_end (own cut)) (e ∷ cut)) t.last.lent.begun
      ∙ at_back_is (Some c) (record { serial = s.number.serial; kind = kind })
      (law.is_at_end (own cut)) (e ∷ cut)
      ∙ ap (λ f. once_back (Some c) f (law.is_at_end (own cut)) kind last_number) (sym slot.3)
      ∙ ap (λ b. once_back (Some c) why b kind last_number) (sym fits.1) in
      let there = looks_away c p.state p.is_at_end fits.0 in
      on_goes t Back None q (session_after_look (Full why) s) same
      (assumption (tt, never)) (lawful bytes client asked p cut (Some s) OwnerAction.PollSlot t is)
      (ap poll_slot (sym finished)) (
        record {
          call = c;
          asked_is = t.stage.0.asked_is;
          begun = t.stage.0.begun;
          call_is = t.stage.0.call_is;
          at_is = ap (λ b. seen_state_by b None shut)
              (gone_is (own cut) p.state t.stage.0.at_is ∙ there);
          next_is = table ∙ follows;
          fits = fit;
        },
        t.stage.1,
        refl,
      ) goes t.place
      (returns s kind (bound bytes kind) began shut over gone took written acts js ps ss why full
      t.last) (λ is_end. absurd (cc)) (λ number is. absurd (cc))

  back_goes : p.next ≡ OwnerAction.PollSlot → Old → (why : Option (Fault ℕ))
      → s.slot.content ≡ Full why → IsNoSeek kind why
      → Goes (owner_by_parts
      bytes client asked (OwnerStage.Polls (owner_after p (OwnerAnswer.Back why)))
      (Some (session_after_look (Full why) s))) cut (by_owner h Back first growth)
  back_goes is t why full kept =
      let c = t.stage.0.call in
      let k = t.stage.0.begun in
      let fits = fits_at bytes client asked p cut (Some s) OwnerAction.PollSlot t is in
      let slot =
      subst (λ c. SlotAs c (has_finished acts) (has_given_up acts) over (fault kind acts)) full
      t.last.result.slot in
      let q : OwnerMachine ℕ = record p {
        state = State.Idle;
        next = machine.after_back (poll_call_of k c) p.is_at_end why;
      } in
      let same : owner_after p (OwnerAnswer.Back why) ≡ q =
      turned p OwnerAction.PollSlot (OwnerAnswer.Back why) t.stage.1 is
      ∙ ap (λ k. record p { state = State.Idle; next = machine.after_back k p.is_at_end why })
      t.stage.0.call_is in
      let whole = λ (is_end : p.is_at_end ≡ true) (none : why ≡ None)
      (there_is : p.state ≡ State.Lent SessionKind.Reading Open).
      read_whole t (lent_at (own cut) Reading true (t.stage.0.at_is ∙ ap state_as there_is)).0
      (t.ended (sym fits.1 ∙ is_end)) slot.0 slot.1 (sym slot.3 ∙ none) in
      let all_taken = λ (is_end : p.is_at_end ≡ true)
      (there_is : p.state ≡ State.Lent SessionKind.Streaming Open).
      taken_whole t (lent_at (own cut) Streaming true (t.stage.0.at_is ∙ ap state_as there_is)).0
      (t.ended (sym fits.1 ∙ is_end)) slot.0 slot.1 in
      let flushed = λ (none : why ≡ None).
      flushed_if kind (λ writes. flushed_whole t writes slot.0 slot.1 (sym slot.3 ∙ none)) in
      returned is t why
      full (OwnerAnswer.Back why) (machine.after_back (poll_call_of k c) p.is_at_end why) same
      (after_back_is s k c p.state p.is_at_end why kind (number acts) fits.0 kept)
      (back_fits k q c p.state p.is_at_end why (Some (by_owner h Back first growth ∷ cut)) fits.0
      refl refl whole all_taken flushed)
      (back_operates begun came (poll_call_of k c) p.is_at_end why (is_operation asked)
      (operates_at OwnerAction.PollSlot is t))

  -- the handle is back from a seek that went well
  sought_goes : p.next ≡ OwnerAction.PollSlot → Old → (goal : Position) (end : OwnerEnd)
      → p.state ≡ State.Lent (SessionKind.Seeking goal) end → s.slot.content ≡ Full None
      → Goes (owner_by_parts
      bytes client asked (OwnerStage.Polls (owner_after p (OwnerAnswer.Sought s.left)))
      (Some (session_after_look (Full None) s))) cut (by_owner h Back first growth)
  sought_goes is t goal end from full =
      let c = t.stage.0.call in
      let k = t.stage.0.begun in
      let fits = fits_at bytes client asked p cut (Some s) OwnerAction.PollSlot t is in
      let slot =
      subst (λ c. SlotAs c (has_finished acts) (has_given_up acts) over (fault kind acts)) full
      t.last.result.slot in
      let of : kind ≡ Seeking goal = (lent_at (own cut) (Seeking goal) (is_end_open end)
      (t.stage.0.at_is ∙ ap state_as from)).0 in
      let place = (of_kind (Seeking goal) of t).flow.place slot.0 in
      let here = State.Lent (SessionKind.Seeking goal) end in
      let next = machine.after_seek here (poll_call_of k c) s.left in
      let q : OwnerMachine ℕ = record p { state = State.Idle; next = next } in
      let same : owner_after p (OwnerAnswer.Sought s.left) ≡ q =
      turned p OwnerAction.PollSlot (OwnerAnswer.Sought s.left) t.stage.1 is
      ∙ ap (λ k. record p { state = State.Idle; next = machine.after_seek p.state k s.left })
      t.stage.0.call_is
      ∙ ap (λ st. record p {
        state = State.Idle;
        next = machine.after_seek st (poll_call_of k c) s.left;
      }) from in
      let unended =
      ends_not end p.is_at_end c (subst (λ st. LooksFrom c st p.is_at_end) from fits.0) in
      let flushed = flushed_if kind (λ writes. flushed_whole t writes slot.0 slot.1 (sym slot.3)) in
      returned is t None full (OwnerAnswer.Sought s.left) next same
      (ap (λ b. law.after_back c None b kind (number acts)) unended
      ∙ ap (λ k. law.after_back c None false k (number acts)) of
      ∙ ap (λ n. law.after_back c None false (Seeking goal) n) (sym place)
      ∙ sought_is s k c goal end s.left)
      (sought_fits k q c goal end s.left (Some (by_owner h Back first growth ∷ cut)) refl unended
      flushed)
      (sought_operates begun came here (poll_call_of k c) s.left (is_operation asked)
      (operates_at OwnerAction.PollSlot is t))
    where
      ends_not : (end : OwnerEnd) (b : Bool) (c : HandleCall)
          → LooksFrom c (State.Lent (SessionKind.Seeking goal) end) b → b ≡ false
      ends_not end false c looks = refl
      ends_not Open true (HandleCall.Read most) looks = absurd looks
      ends_not Open true HandleCall.Next looks = absurd looks
      ends_not _ true _ looks = absurd looks

  other_kind : Old → (k : SessionKind) (end : OwnerEnd) (why : Option (Fault ℕ))
      → p.state ≡ State.Lent k end → IsNoSeek (kind_as k) why → IsNoSeek kind why
  other_kind t k end why from kept = subst (λ (of : Kind). IsNoSeek of why)
      (sym (lent_at (own cut) (kind_as k) (is_end_open end) (t.stage.0.at_is ∙ ap state_as from)).0)
      kept

  -- from where the handle is lent, it is either
  either_goes : p.next ≡ OwnerAction.PollSlot → Old → (st : State) (why : Option (Fault ℕ))
      → p.state ≡ st → s.slot.content ≡ Full why
      → Goes (owner_by_parts bytes client asked (OwnerStage.Polls
      (owner_after p (back_answer st why s.left))) (Some (session_after_look (Full why) s)))
      cut (by_owner h Back first growth)
  either_goes is t (State.Lent (SessionKind.Seeking goal) end) None from full =
      sought_goes is t goal end from full
  either_goes is t (State.Lent (SessionKind.Seeking goal) end) (Some why) from full =
      back_goes is t (Some why) full (some_why kind why)
  either_goes is t (State.Lent SessionKind.Reading end) why from full =
      back_goes is t why full (other_kind t SessionKind.Reading end why from tt)
  either_goes is t (State.Lent SessionKind.Writing end) why from full =
      back_goes is t why full (other_kind t SessionKind.Writing end why from tt)
  either_goes is t (State.Lent SessionKind.Streaming end) why from full =
      back_goes is t why full (other_kind t SessionKind.Streaming end why from tt)
  either_goes is t (State.Lent SessionKind.Operating end) why from full =
      back_goes is t why full (other_kind t SessionKind.Operating end why from tt)
  either_goes is t _ why from full = absurd (subst (λ st. LooksFrom t.stage.0.call st p.is_at_end)
      from (fits_at bytes client asked p cut (Some s) OwnerAction.PollSlot t is).0)

  look_goes : p.next ≡ OwnerAction.PollSlot → Old → (content : Content (Option (Fault ℕ)))
      → s.slot.content ≡ content → (done : Did)
      → look_did (looked_as content) p (session_after_look content s) polling ≡ Some done
      → Goes done.owner cut (by_owner h done.act first growth)
  look_goes is t Empty e done does =
      subst (λ (d : Did). Goes d.owner cut (by_owner h d.act first growth))
      (ap (value_of done) does) (slot_waits is t e)
  look_goes is t (Full why) e done does =
      subst (λ (d : Did). Goes d.owner cut (by_owner h d.act first growth))
      (ap (value_of done) does) (either_goes is t p.state why refl e)
  look_goes is t GivenUp e done does = absurd (nothing does)
  look_goes is t (Abandoned was) e done does =
      absurd (subst (λ c. SlotAs c (has_finished acts) (has_given_up acts) over (fault kind acts)) e
      t.last.result.slot)

  -- ---- it looks for the result of its operation

  -- the call asks for an operation, whose session has begun, and the result wasn't found
  pub record Operates (t : Old) : Type 0 where
    pub asks : is_operation (Some t.stage.0.call) ≡ true
    pub operates : is_operation asked ≡ true
    pub at : p.state ≡ State.Lent SessionKind.Operating Open
    pub kind_is : kind ≡ Operating
    pub has_begun : begun ≡ true
    pub none_came : came ≡ false
    pub next_is : next_of_owner cut ≡ law.PollPlace
    pub tied : SessionAs s Operating (bound bytes Operating) began shut over gone took written acts
        js ps ss

  operates_so : p.next ≡ OwnerAction.PollResult → (t : Old) → Operates t
  operates_so is t =
      let fits = fits_at bytes client asked p cut (Some s) OwnerAction.PollResult t is in
      let begins = operates_at OwnerAction.PollResult is t in
      let lent = lent_at (own cut) Operating true (t.stage.0.at_is ∙ ap state_as fits.1) in
      record {
        asks = fits.0;
        operates = ap is_operation (sym t.asked ∙ t.stage.0.asked_is) ∙ fits.0;
        at = fits.1;
        kind_is = lent.0;
        has_begun = begins.0;
        none_came = begins.1;
        next_is = lawful bytes client asked p cut (Some s) OwnerAction.PollResult t is;
        tied = of_kind Operating lent.0 t;
      }

  -- the result answers an operation
  result_fits : (c : HandleCall) (q : OwnerMachine ℕ) (back : Option (List Event))
      → is_operation (Some c) ≡ true → FitsNext c q (OwnerAction.Reply Reply.Result) false back
  result_fits HandleCall.Operate q back asks = (refl, refl, tt)
  result_fits HandleCall.OperateAgain q back asks = (refl, refl, tt)
  result_fits _ q back asks = absurd (never asks)

  -- the session, whatever is kept and whatever stands in the place of the result
  tied_with : (t : Old) → Operates t → (kept : ℕ) (result : Slot ℕ (Unit {0}))
      → SessionAs (record s { item = kept; result = result }) kind (bound bytes kind) began shut
      over gone took written acts js ps ss
  tied_with t o kept result =
      subst (λ k. SessionAs (record s { item = kept; result = result }) k (bound bytes k) began shut
      over gone took written acts js ps ss) (sym o.kind_is)
      (kept_with s (bound bytes Operating) began shut over gone took written acts js ps ss kept
      result o.tied)

  result_found : p.next ≡ OwnerAction.PollResult → (t : Old) → Operates t → (n : ℕ)
      → s.result.content ≡ Full n
      → Goes
      (owner_by_parts bytes client asked (OwnerStage.Polls (owner_after p OwnerAnswer.Resulted))
      (Some (session_after_find (Full n) s))) cut (by_owner h (ResultGot n) first growth)
  result_found is t o n full =
      let holds =
      subst (λ c. HoldsResult c (has_result acts) came (number acts)) full t.place.content in
      let job = its_job s (bound bytes) cut t.last in
      let q : OwnerMachine ℕ = record p { next = OwnerAction.Reply Reply.Result } in
      let same : owner_after p OwnerAnswer.Resulted ≡ q =
      turned p OwnerAction.PollResult OwnerAnswer.Resulted t.stage.1 is in
      on_goes t (ResultGot n) None q (session_after_find (Full n) s) same
      (assumption (tt, never)) o.next_is
      (ap ResultGot holds.2 ∙ ap (λ b. poll_place b (number acts)) (sym holds.0)
      ∙ ap (λ l. poll_place (has_result l) (number l)) (sym job)) (
        polls_on t q n false (came_back cut) refl
            refl (result_fits t.stage.0.call q (came_back cut) o.asks),
        t.stage.1,
        refl,
      )
      tt (result_taken s.result (has_given_up acts) (has_result acts) came (number acts) rs kind
      (next_but_wake kind acts) t.place n full)
      (tied_with t o n (record s.result { content = Empty })) (λ is_end. absurd (cc))
      (λ number is. absurd (cc))

  result_awaited : p.next ≡ OwnerAction.PollResult → (t : Old) → Operates t
      → s.result.content ≡ Empty
      → Goes (owner_by_parts bytes client asked (OwnerStage.Rests p.state PollEnd.WaitsForResult)
      (Some (session_after_find Empty s))) cut (by_owner h Waits first growth)
  result_awaited is t o empty =
      let holds =
      subst (λ c. HoldsResult c (has_result acts) came (number acts)) empty t.place.content in
      let none : has_result acts ≡ false = holds ∙ o.none_came in
      let job = its_job s (bound bytes) cut t.last in
      let sat : Slot ℕ (Unit {0}) = record s.result { seat = Some tt } in
      waits_goes t PollEnd.WaitsForResult
      s.pipe sat s.slot o.next_is (ap (λ b. poll_place b (number acts)) (sym none)
      ∙ ap (λ l. poll_place (has_result l) (number l)) (sym job))
      (refl, o.operates, o.has_begun, o.none_came, o.at) (tied_with t o s.item sat)
      (result_waits s.result (has_given_up acts) (has_result acts) came (number acts) rs kind
      (next_but_wake kind acts) t.place o.kind_is none)
      (or_right (is_some s.pipe.owner_seat) (is_some s.slot.seat || true)
      (or_right (is_some s.slot.seat) true refl))

  find_goes : p.next ≡ OwnerAction.PollResult → Old → (content : Content ℕ)
      → s.result.content ≡ content → (done : Did)
      → find_did (awaited_as content) p (session_after_find content s) polling ≡ Some done
      → Goes done.owner cut (by_owner h done.act first growth)
  find_goes is t Empty e done does =
      subst (λ (d : Did). Goes d.owner cut (by_owner h d.act first growth))
      (ap (value_of done) does) (result_awaited is t (operates_so is t) e)
  find_goes is t (Full n) e done does =
      subst (λ (d : Did). Goes d.owner cut (by_owner h d.act first growth))
      (ap (value_of done) does) (result_found is t (operates_so is t) n e)
  find_goes is t GivenUp e done does = absurd (nothing does)
  find_goes is t (Abandoned was) e done does =
      absurd (subst (λ c. HoldsResult c (has_result acts) came (number acts)) e t.place.content)

-- ---- what its poll does next

-- where it fills, it was asked to write something, and has a session
own_fills : (bytes client : ℕ) (asked : Option HandleCall) (p : OwnerMachine ℕ) (h first : ℕ)
    (growth : Growth) (cut : List Event) (done : Did) (most : ℕ) (last : Option Session)
    → p.next ≡ OwnerAction.Fill most
    → OwnerAs (owner_by_parts bytes client asked (OwnerStage.Polls p) last) cut → fill_did_in p
    asked last (owner_by_parts bytes client asked (OwnerStage.Polls p) last) ≡ Some done
    → Goes done.owner cut (by_owner h done.act first growth)
own_fills bytes client (Some (HandleCall.Write (byte ∷ more))) p h first growth cut done most
    (Some s) is t does =
    let asks = Some (HandleCall.Write (byte ∷ more)) in
    subst (λ (d : Did). Goes d.owner cut (by_owner h d.act first growth))
    (ap (value_of done) (through_some OfBytes s.goods _ done does).1)
    (fill_goes bytes client asks p s h first growth cut (byte ∷ more) t
    (fills_so bytes client asks p s h first growth cut (byte ∷ more) most refl is t)
    (filled (length (byte ∷ more)) s) refl)
own_fills bytes client (Some (HandleCall.Write (byte ∷ more))) p h first growth cut done most None
    is t does = absurd (nothing does)
own_fills bytes client (Some (HandleCall.Write [])) p h first growth cut done most last is t does =
    absurd (nothing does)
own_fills bytes client _ p h first growth cut done most last is t does = absurd (nothing does)

own_by : (bytes client : ℕ) (asked : Option HandleCall) (p : OwnerMachine ℕ) (h first : ℕ)
    (growth : Growth) (cut : List Event) (done : Did) (next : OwnerAction ℕ) (last : Option Session)
    → p.next ≡ next
    → OwnerAs (owner_by_parts bytes client asked (OwnerStage.Polls p) last) cut
    → did_in next p last (owner_by_parts bytes client asked (OwnerStage.Polls p) last) ≡ Some done
    → Goes done.owner cut (by_owner h done.act first growth)
own_by bytes client asked p h first growth cut done (OwnerAction.Reply r) last is t does =
    replies (reply_as (last_item last) r) refl does
  where
    replies : (told : Option Told) → reply_as (last_item last) r ≡ told
        → reply_did told p (owner_by_parts bytes client asked (OwnerStage.Polls p) last) ≡ Some done
        → Goes done.owner cut (by_owner h done.act first growth)
    replies (Some said) same does =
        subst (λ (d : Did). Goes d.owner cut (by_owner h d.act first growth))
        (ap (value_of done) does)
        (reply_goes bytes client asked p last h first growth cut r said is same t)
    replies None same does = absurd (nothing does)
own_by bytes client asked p h first growth cut done (OwnerAction.Fill most) last is t does =
    own_fills bytes client asked p h first growth cut done most last is t does
own_by bytes client asked p h first growth cut done OwnerAction.DropHandle last is t does =
    subst (λ (d : Did). Goes d.owner cut (by_owner h d.act first growth)) (ap (value_of done) does)
    (drops_goes bytes client asked p last h first growth cut is t)
own_by bytes client asked p h first growth cut done OwnerAction.Close (Some s) is t does =
    subst (λ (d : Did). Goes d.owner cut (by_owner h d.act first growth))
    (ap (value_of done) (piped_some s.goods _ done does))
    (close_goes bytes client asked p s h first growth cut is t)
own_by bytes client asked p h first growth cut done (OwnerAction.Drain most) (Some s) is t does =
    subst (λ (d : Did). Goes d.owner cut (by_owner h d.act first growth))
    (ap (value_of done) (through_some OfBytes s.goods _ done does).1)
    (drain_goes bytes client asked p s h first growth cut most is t (drained (reach most s) s) refl)
own_by bytes client asked p h first growth cut done OwnerAction.Receive (Some s) is t does =
    subst (λ (d : Did). Goes d.owner cut (by_owner h d.act first growth))
    (ap (value_of done) (through_some OfItems s.goods _ done does).1)
    (receive_goes bytes client asked p s h first growth cut is t (received s) refl)
own_by bytes client asked p h first growth cut done OwnerAction.PollSlot (Some s) is t does =
    look_goes bytes client asked p s h first growth cut is t s.slot.content refl done does
own_by bytes client asked p h first growth cut done OwnerAction.PollResult (Some s) is t does =
    find_goes bytes client asked p s h first growth cut is t s.result.content refl done does
own_by bytes client asked p h first growth cut done _ None is t does = absurd (nothing does)
own_by bytes client asked p h first growth cut done _ (Some s) is t does = absurd (nothing does)

own_at : (bytes client : ℕ) (asked : Option HandleCall) (here : OwnerStage) (last : Option Session)
    (h first : ℕ) (growth : Growth) (cut : List Event) (done : Did)
    → OwnerAs (owner_by_parts bytes client asked here last) cut
    → did_by here (owner_by_parts bytes client asked here last) ≡ Some done
    → Goes done.owner cut (by_owner h done.act first growth)
own_at bytes client asked (OwnerStage.Polls p) last h first growth cut done t does =
    own_by bytes client asked p h first growth cut done p.next last refl t
    (ap (λ n. did_in n p last (owner_by_parts bytes client asked (OwnerStage.Polls p) last))
    (sym (doing p t.stage.1)) ∙ does)
own_at bytes client asked _ last h first growth cut done t does = absurd (nothing does)

-- an act of its poll that asks no pool
pub own_goes : (owner : Owner) (h first : ℕ) (growth : Growth) (cut : List Event) (done : Did)
    → did owner ≡ Some done → OwnerAs owner cut
    → Goes done.owner cut (by_owner h done.act first growth)
own_goes owner h first growth cut done does t = own_at owner.capacity owner.client owner.asked
    owner.stage owner.session h first growth cut done t does
