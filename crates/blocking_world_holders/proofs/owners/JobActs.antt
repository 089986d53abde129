-- An act of its job keeps the law of an owner, and the tie of the owner to its cut.
use Rattle.std.proofs.Common.{◌≡◌, ℕ, suc, zero, ◌==◌, List, [], ◌∷◌, length, Bool, true, false}
use Rattle.std.proofs.Common.{refl, sym, ap, ◌∙◌, subst, arith, Option, Some, None, ⊎_elim, inl}
use Rattle.std.proofs.Common.{inr, ◌&&◌, ◌||◌, ◌⊎◌, ◌++◌, not, drop, is_some, is_none, eq-eqb}
use Rattle.std.proofs.lemmas.Bool.{or_left, or_right}
use Rattle.std.proofs.lemmas.Bool.Decides.{nat_tests}
use Rattle.blocking_world_holders.proofs.Types.{Fault, HolderWaker, ItemAction, OpAction}
use Rattle.blocking_world_holders.proofs.Types.{ReadAction, SeekAction, WriteAction, Act, Answered}
use Rattle.blocking_world_holders.proofs.Types.{Drained, Finished, GaveUp, JobClosed, JobParked}
use Rattle.blocking_world_holders.proofs.Types.{Lost, Peeked, Put, ResultPut, RoomFree, RoomShut}
use Rattle.blocking_world_holders.proofs.Types.{TakenOut, Event, HandleAnswer}
use Rattle.blocking_world_holders.proofs.Types.{HandleCall, OwnerStage}
use Rattle.blocking_world_holders.proofs.Types.{Asked, Back, Replied}
use Rattle.blocking_world_holders.proofs.Words.{item_next, op_next, Pipe, room, Closed, Met}
use Rattle.blocking_world_holders.proofs.Words.{Served, Waiting, find_room, hand_in, peek}
use Rattle.blocking_world_holders.proofs.Words.{read_next, seek_next, Slot, after_put, answer_of}
use Rattle.blocking_world_holders.proofs.Words.{slot_after, slot_without_job, waker_out_of}
use Rattle.blocking_world_holders.proofs.Words.{write_next, Growth, JobNumber, is_in, EndsTruly}
use Rattle.blocking_world_holders.proofs.Words.{back_by, came_back, AskBytes, AskCall, AskFlush}
use Rattle.blocking_world_holders.proofs.Words.{AskItem, AskResult, AskSeek, CloseEnd, Consume}
use Rattle.blocking_world_holders.proofs.Words.{FindRoom, Finish, JobAction, Kind, OfferBytes}
use Rattle.blocking_world_holders.proofs.Words.{Operating, Peek, PutPiece, PutResult, Reading}
use Rattle.blocking_world_holders.proofs.Words.{Seeking, SendItem, Streaming, Writing, fault}
use Rattle.blocking_world_holders.proofs.Words.{has_finished, has_given_up, has_result, is_answer}
use Rattle.blocking_world_holders.proofs.Words.{is_over, is_taken, job_next_after_answer}
use Rattle.blocking_world_holders.proofs.Words.{next_but_wake, next_of_job, number, piece}
use Rattle.blocking_world_holders.proofs.Words.{takes_waker, JobActs, Works, is_job_seated}
use Rattle.blocking_world_holders.proofs.Words.{job_seated_by, pipe_seat, pipe_seated_by, place_of}
use Rattle.blocking_world_holders.proofs.Words.{result_seat, result_seated_by, slot_seat}
use Rattle.blocking_world_holders.proofs.Words.{slot_seated_by, next_of_owner, owner_next_but_wake}
use Rattle.blocking_world_holders.proofs.Words.{accepted, got, inside, is_serial, room_in, seated}
use Rattle.blocking_world_holders.proofs.Words.{seen_peek, seen_put, seen_room, waker_in, acts_of}
use Rattle.blocking_world_holders.proofs.Words.{is_nothing, is_of_pool, own, SeenSession, seen_call}
use Rattle.blocking_world_holders.proofs.Words.{seen_is_dropped, seen_is_shut, jobs_of, kind_of_job}
use Rattle.blocking_world_holders.proofs.Words.{seen_last_session, seen_session, seen_state}
use Rattle.blocking_world_holders.proofs.Words.{was_woken, OperationAs, OpProgress}
use Rattle.blocking_world_holders.proofs.Words.{op_action_of, by_its_job, IsAtEnd, OwnerAs}
use Rattle.blocking_world_holders.proofs.Words.{PlaceAs, PlaceBy, ResultAs, SessionAs, StageBy}
use Rattle.blocking_world_holders.proofs.Words.{has_found, is_seated, newest_note}
use Rattle.blocking_world_holders.proofs.Words.{ReadProgress as Progress, ReadAs}
use Rattle.blocking_world_holders.proofs.Words.{read_action_of as action_of, SeekProgress, SeekAs}
use Rattle.blocking_world_holders.proofs.Words.{seek_action_of, Session, Work, finish_wakes}
use Rattle.blocking_world_holders.proofs.Words.{fits_in, found_piece, found_put, found_room}
use Rattle.blocking_world_holders.proofs.Words.{found_send, give_up_wakes, op_finishes}
use Rattle.blocking_world_holders.proofs.Words.{op_puts, result_wakes, seek_finishes}
use Rattle.blocking_world_holders.proofs.Words.{session_after_give_up, session_after_job_close}
use Rattle.blocking_world_holders.proofs.Words.{item_closes, item_finishes, write_at_peek}
use Rattle.blocking_world_holders.proofs.Words.{read_at_put, read_at_room, item_at_send}
use Rattle.blocking_world_holders.proofs.Words.{read_closes, write_consumes, read_finishes}
use Rattle.blocking_world_holders.proofs.Words.{write_closes, write_finishes, ItemAs}
use Rattle.blocking_world_holders.proofs.Words.{ItemProgress, item_action_of, WriteProgress}
use Rattle.blocking_world_holders.proofs.Words.{WriteAs, write_action_of, write_fault_of}
use Rattle.blocking_world_laws.specs.OwnerTable as law
use Rattle.blocking_world_holders.proofs.owners.Jobs.{no_wait}
use Rattle.blocking_world_holders.proofs.owners.Cuts.{its_kind, kind_is, inside_is, next_stays}
use Rattle.blocking_world_holders.proofs.owners.Cuts.{room_is, open_is}
use Rattle.blocking_world_holders.proofs.owners.Polls.{Goes, owner_by_parts, bound}
use Rattle.blocking_world_holders.proofs.owners.ReadSessions.{At, at, finds, finds_shut, parks}
use Rattle.blocking_world_holders.proofs.owners.ReadSessions.{puts, loses, closes, finishes}
use Rattle.blocking_world_holders.proofs.owners.ReadSessions.{gives_up, going, some_room, put_is}
use Rattle.blocking_world_holders.proofs.owners.WriteSessions.{peeks, peek_parks, drains, consumes}
use Rattle.blocking_world_holders.proofs.owners.WriteSessions.{write_answers}
use Rattle.blocking_world_holders.proofs.owners.ItemSessions.{item_answers, send_loses, send_parks}
use Rattle.blocking_world_holders.proofs.owners.ItemSessions.{sends}
use Rattle.blocking_world_holders.proofs.owners.SeekSessions.{seek_answers, seek_puts}
use Rattle.blocking_world_holders.proofs.owners.OpSessions.{op_answers, result_puts}
use Rattle.blocking_world_holders.proofs.owners.Results.{is_operating}
use Rattle.blocking_world_holders.proofs.owners.ReadSessions as Sessions
use Rattle.blocking_world_holders.proofs.owners.Machines.{asking_goes}
use Rattle.blocking_world_holders.proofs.owners.ReadJobs as of_reader
use Rattle.blocking_world_holders.proofs.owners.WriteJobs as of_writer
use Rattle.blocking_world_holders.proofs.owners.ItemJobs as of_streamer
use Rattle.blocking_world_holders.proofs.owners.SeekJobs as of_seeker
use Rattle.blocking_world_holders.proofs.owners.OpJobs as of_operator
use Rattle.blocking_world_holders.proofs.owners.Results as results

-- ---- seats that acts empty

pub seated_is : (o : Option (Unit {0})) → o ≡ seated (is_some o)
seated_is o = grind arith

-- a waker that is taken is taken
takes_it : (b : Bool) → is_taken (waker_in b) ≡ b
takes_it b = grind arith

-- an owner that was seated is taken out of the second or third of three seats, or still sits in
-- another
pub taken_second : (a b c woke after : Bool) → woke ≡ b → a || (b || c) ≡ true
    → (is_taken (waker_in woke) ≡ true) ⊎ (a || (after || c) ≡ true)
taken_second true b c woke after same e = inr refl
taken_second false true c woke after same e = inl (ap (λ d. is_taken (waker_in d)) same)
taken_second false false c woke after same e = inr (or_right after c e)

pub taken_third : (a b c woke after : Bool) → woke ≡ c → a || (b || c) ≡ true
    → (is_taken (waker_in woke) ≡ true) ⊎ (a || (b || after) ≡ true)
taken_third true b c woke after same e = inr refl
taken_third false true c woke after same e = inr refl
taken_third false false c woke after same e = inl (ap (λ d. is_taken (waker_in d)) (same ∙ e))

answers_it : (cut : List Event) (action : JobAction) (answer : HandleAnswer)
    → is_answer action answer ≡ true → Works cut action (Answered answer)
answers_it cut AskCall answer is = is
answers_it cut (AskBytes n) answer is = is
answers_it cut (OfferBytes bytes) answer is = is
answers_it cut AskFlush answer is = is
answers_it cut AskItem answer is = is
answers_it cut AskSeek answer is = is
answers_it cut AskResult answer is = is
answers_it cut _ answer is = absurd (cc)

-- whether an act is one that a job does by itself, at its session
abbrev pub is_own : Act → Bool
is_own (Answered answer) = false
is_own (Asked call) = false
is_own (Replied reply) = false
is_own Back = false
is_own act = not (is_of_pool act) && not (is_nothing act)

module _ (bytes client : ℕ) (asked : Option HandleCall) (here : OwnerStage)
    (s : Session) (h v first : ℕ) (growth : Growth) (cut : List Event)
    (t : OwnerAs (owner_by_parts bytes client asked here (Some s)) cut) where
  -- what the tie of the session is about
  abbrev began : Option SeenSession
  began = seen_last_session (own cut)

  abbrev shut : Bool
  shut = seen_is_shut (own cut)

  abbrev over : Bool
  over = is_none (seen_session (own cut))

  abbrev gone : Bool
  gone = seen_is_dropped (own cut)

  abbrev took : List ℕ
  took = got (own cut)

  abbrev written : List ℕ
  written = accepted (own cut)

  abbrev acts : List Act
  acts = acts_of s.number.serial cut

  abbrev kind : Kind
  kind = its_kind s (bound bytes) cut t.last

  abbrev js : Bool
  js = is_job_seated cut

  abbrev ps : Bool
  ps = pipe_seat cut

  abbrev ss : Bool
  ss = slot_seat cut

  abbrev rs : Bool
  rs = result_seat cut

  abbrev came : Bool
  came = has_found (own cut)

  -- the job's event
  abbrev event : Act → Event
  event act = by_its_job h v s.number.serial act first growth

  acts_more : (act : Act) → is_of_pool act ≡ false → is_nothing act ≡ false
      → acts_of s.number.serial (event act ∷ cut) ≡ act ∷ acts
  acts_more act pool nothing = rw (pool, nothing, eq-eqb s.number.serial s.number.serial refl) refl

  acts_other : (act : Act) (n : ℕ) → is_of_pool act ≡ false → is_nothing act ≡ false
      → (s.number.serial == n) ≡ false → acts_of n (event act ∷ cut) ≡ acts_of n cut
  acts_other act n pool nothing other = rw (pool, nothing, other) refl

  -- the tie of a session that is then so, of this kind, by the acts of its job and by who is seated
  abbrev pub Tied : Session → Kind → List Act → Bool → Bool → Bool → Type 0
  Tied now k l job_sits pipe_sits slot_sits = SessionAs now k (bound bytes k) began shut over gone
      took written l job_sits pipe_sits slot_sits

  pub last_as : (k : Kind) → kind ≡ k → Tied s k acts js ps ss
  last_as k same = subst (λ k. Tied s k acts js ps ss) same t.last

  -- the session with this pipe, place of the result, slot and number
  abbrev now_at : Pipe ℕ (Unit {0}) → Slot ℕ (Unit {0}) → Slot (Option (Fault ℕ)) (Unit {0}) → ℕ
      → Session
  now_at pipe result slot left = record {
    number = s.number;
    goods = s.goods;
    item = s.item;
    pipe = pipe;
    result = result;
    slot = slot;
    left = left;
  }

  -- An act that is a job's own: the pool is asked nothing, the handle stays away, and once the
  -- session is over no fault and no number comes.
  pub record IsOwn (act : Act) : Type 0 where
    pub pool : is_of_pool act ≡ false
    pub nothing : is_nothing act ≡ false
    pub ends : EndsTruly cut act
    pub back : (here : List Event) (before : Option (List Event)) → back_by act here before ≡ before
    pub faults : over ≡ true → (any : Kind)
        → (fault any (act ∷ acts) ≡ fault any acts) × (number (act ∷ acts) ≡ number acts)

  -- and so is each such act
  own_act : (act : Act) → is_own act ≡ true → IsOwn act
  own_act (Answered answer) is = absurd (cc)
  own_act (Asked call) is = absurd (cc)
  own_act (Replied reply) is = absurd (cc)
  own_act Back is = absurd (cc)
  own_act act is = record {
    pool = cc;
    nothing = cc;
    ends = tt;
    back = λ here before. refl;
    faults = λ ended any. (refl, refl);
  }

  -- What an act of the job, which is of this kind, has to keep, so that the tie and the law do.
  pub record KeepsAll (k : Kind) (act : Act) (pipe : Pipe ℕ (Unit {0})) (result : Slot ℕ (Unit {0}))
      (slot : Slot (Option (Fault ℕ)) (Unit {0})) (left : ℕ) : Type 0 where
    pub own_is : IsOwn act
    pub lawful : JobActs cut s.number.serial k act
    pub session :
        Tied (now_at pipe result slot left) k (act ∷ acts)
        (job_seated_by act (is_job_seated cut))
        (pipe_seated_by act (place_of (next_of_owner cut)) (pipe_seat cut))
        (slot_seated_by act (place_of (next_of_owner cut)) (slot_seat cut))
    pub place :
        PlaceBy result k (act ∷ acts) came (result_seated_by act (place_of (next_of_owner cut)) rs)
    pub ended : IsAtEnd s → IsAtEnd (now_at pipe result slot left)
    pub told : is_seated (Some s) ≡ true
        → (takes_waker act ≡ true) ⊎ (is_seated (Some (now_at pipe result slot left)) ≡ true)

  -- the job of a session that runs no operation leaves it
  same_place : (k : Kind)
      → kind ≡ k → is_operating k ≡ false → (act : Act) → has_result (act ∷ acts) ≡ has_result acts
      → result_seated_by act (place_of (next_of_owner cut)) rs ≡ rs
      → PlaceBy s.result k (act ∷ acts) came
      (result_seated_by act (place_of (next_of_owner cut)) rs)
  same_place k of other act put seated =
      subst (λ b. PlaceBy s.result k (act ∷ acts) came b) (sym seated)
      (subst (λ b. PlaceAs s.result k (next_but_wake k (act ∷ acts)) (has_given_up (act ∷ acts)) b
      came (number (act ∷ acts)) rs) (sym put)
      (results.kept s.result (has_given_up acts) (has_result acts) came (number acts) rs
      k (next_but_wake k acts) (next_but_wake k (act ∷ acts)) (has_given_up (act ∷ acts))
      (number (act ∷ acts)) other
      (subst (λ any. PlaceBy s.result any acts came rs) of t.place)))

  serial_test : (n : ℕ) → is_serial began (Some n) ≡ false → (s.number.serial == n) ≡ false
  serial_test n other =
      let test : (n == s.number.serial) ≡ false =
      ap (λ r. is_serial r (Some n)) (sym t.last.lent.begun) ∙ other in
      grind (arith, nat_tests)

  pub keeps_all : (of : Kind) → kind ≡ of → (act : Act) (pipe : Pipe ℕ (Unit {0}))
      (result : Slot ℕ (Unit {0})) (slot : Slot (Option (Fault ℕ)) (Unit {0})) (left : ℕ)
      → is_in s.number.serial (jobs_of (own cut)) ≡ true
      → KeepsAll of act pipe result slot left
      → Goes (owner_by_parts bytes client asked here (Some (now_at pipe result slot left))) cut
      (event act)
  keeps_all of same act pipe result slot left among k =
      let e = event act in
      let more = acts_more act k.own_is.pool k.own_is.nothing in
      let faults = λ (is : over ≡ true) (any : Kind) (n : ℕ).
      same_fault is any n (s.number.serial == n) refl in
      let next = next_stays (e ∷ cut) cut (own cut) faults in
      record {
        acts = (
          among,
          subst (λ any. JobActs cut s.number.serial any act)
              (sym (kind_is s (bound bytes) cut t.last ∙ same)) k.lawful,
        );
        ends = k.own_is.ends;
        tie = record {
          made = t.made;
          gone = t.gone;
          asked = t.asked;
          polled = t.polled;
          bytes = t.bytes;
          stage = subst (λ n. StageBy here s.item (seen_call (own cut)) (seen_state (own cut)) n
              (law.is_at_end (own cut)) (came_back (e ∷ cut)) (newest_note (own cut))) (sym next)
              (subst (λ b. StageBy here s.item (seen_call (own cut)) (seen_state (own cut))
              (owner_next_but_wake cut (own cut)) (law.is_at_end (own cut)) b
              (newest_note (own cut)))
              (sym (k.own_is.back (e ∷ cut) (came_back cut))) t.stage);
          last = subst (λ (l : List Act). Tied (now_at pipe result slot left) kind l
              (job_seated_by act (is_job_seated cut))
              (pipe_seated_by act (place_of (next_of_owner cut)) (pipe_seat cut))
              (slot_seated_by act (place_of (next_of_owner cut)) (slot_seat cut)))
              (sym more)
              (subst (λ any. Tied (now_at pipe result slot left) any (act ∷ acts)
              (job_seated_by act (is_job_seated cut))
              (pipe_seated_by act (place_of (next_of_owner cut)) (pipe_seat cut))
              (slot_seated_by act (place_of (next_of_owner cut)) (slot_seat cut)))
              (sym same) k.session);
          operates = t.operates;
          place = subst (λ (l : List Act). PlaceBy result kind l came
              (result_seated_by act (place_of (next_of_owner cut)) rs)) (sym more)
              (subst (λ any. PlaceBy result any (act ∷ acts) came
              (result_seated_by act (place_of (next_of_owner cut)) rs)) (sym same) k.place);
          ended = λ is_end. k.ended (t.ended is_end);
          earlier = λ n among other. ap (next_but_wake (kind_of_job n (own cut)))
              (acts_other act n k.own_is.pool k.own_is.nothing (serial_test n other))
              ∙ t.earlier n among other;
          noted = t.noted;
          told = λ waits. (
            (t.told waits).0,
            ⊎_elim (λ woken. inl (or_right (takes_waker act) (was_woken cut) woken))
                (λ sits. ⊎_elim (λ takes. inl (or_left (takes_waker act) (was_woken cut) takes))
                (λ still. inr still) (k.told sits)) (t.told waits).1,
          );
        };
      }
    where
      same_fault : over ≡ true → (any : Kind) (n : ℕ) (b : Bool) → (s.number.serial == n) ≡ b
          → (fault any (acts_of n (event act ∷ cut)) ≡ fault any (acts_of n cut))
          × (number (acts_of n (event act ∷ cut)) ≡ number (acts_of n cut))
      same_fault is any n true test =
          let same : s.number.serial ≡ n = grind (arith, nat_tests) in
          let more = acts_more act k.own_is.pool k.own_is.nothing in
          subst (λ m. (fault any (acts_of m (event act ∷ cut)) ≡ fault any (acts_of m cut))
          × (number (acts_of m (event act ∷ cut)) ≡ number (acts_of m cut))) same (
            ap (fault any) more ∙ (k.own_is.faults is any).0,
            ap number more ∙ (k.own_is.faults is any).1,
          )
      same_fault is any n false test =
          let other = acts_other act n k.own_is.pool k.own_is.nothing test in
          (ap (fault any) other, ap number other)

  -- ---- acts that jobs of several kinds have in common, at the session

  -- the law and the tie after an act of the job
  abbrev pub WorksOn : (J : Type 0) → Work J → Type 0
  WorksOn J work =
      Goes (owner_by_parts bytes client asked here (Some work.session)) cut (event work.act)

  module _ (of : Kind) (same : kind ≡ of)
      (among : is_in s.number.serial (jobs_of (own cut)) ≡ true) where
    -- the tie, by what it does next
    tied : (next : JobAction) → next_but_wake of acts ≡ next
        → At s of (bound bytes of) began shut over gone took written acts js ps ss next
    tied next e = at s of (bound bytes of) began shut over gone took written acts js ps ss next e
        (last_as of same)

    -- what fits that is lawful
    lawful_at : (next : JobAction) (act : Act) → next_of_job of acts ≡ next → Works cut next act
        → Works cut (next_of_job of acts) act
    lawful_at next act is law = subst (λ a. Works cut a act) (sym is) law

    -- it leaves the pipe as it is, but for its own seat there
    stays_goes : is_operating of ≡ false → (act : Act) (seat : Option JobNumber)
        → is_own act ≡ true → (has_result (act ∷ acts) ≡ has_result acts)
        × (result_seated_by act (place_of (next_of_owner cut)) rs ≡ rs)
        → JobActs cut s.number.serial of act
        → Tied (now_at (record s.pipe { job_seat = seat }) s.result s.slot s.left) of (act ∷ acts)
        (job_seated_by act (is_job_seated cut)) (pipe_seated_by act (place_of (next_of_owner cut))
        (pipe_seat cut)) (slot_seated_by act (place_of (next_of_owner cut)) (slot_seat cut))
        → Goes (owner_by_parts bytes client asked
        here (Some (now_at (record s.pipe { job_seat = seat }) s.result s.slot s.left))) cut
        (event act)
    stays_goes other act seat its leaves lawful session =
        keeps_all of same act (record s.pipe { job_seat = seat }) s.result s.slot s.left among
        (record {
          own_is = own_act act its;
          lawful = lawful;
          session = session;
          place = same_place of same other act leaves.0 leaves.1;
          ended = λ e. e;
          told = λ e. inr e;
        })

    -- it changes the pipe, and calls the owner where it sits there
    pipe_goes : is_operating of ≡ false → (act : Act) (pipe : Pipe ℕ (Unit {0}))
        → is_own act ≡ true → (has_result (act ∷ acts) ≡ has_result acts)
        × (result_seated_by act (place_of (next_of_owner cut)) rs ≡ rs)
        → JobActs cut s.number.serial of act
        → Tied (now_at pipe s.result s.slot s.left) of (act ∷ acts)
        (job_seated_by act (is_job_seated cut)) (pipe_seated_by act (place_of (next_of_owner cut))
        (pipe_seat cut)) (slot_seated_by act (place_of (next_of_owner cut)) (slot_seat cut))
        → s.pipe.is_job_open ≡ true → takes_waker act ≡ is_some s.pipe.owner_seat
        → Goes (owner_by_parts bytes client asked here (Some (now_at pipe s.result s.slot s.left)))
        cut (event act)
    pipe_goes other act pipe its leaves lawful session lasts takes =
        keeps_all of same act pipe s.result s.slot s.left among (record {
          own_is = own_act act its;
          lawful = lawful;
          session = session;
          place = same_place of same other act leaves.0 leaves.1;
          ended = λ e. absurd (let closed = e.1 in cc);
          told = λ e. called (is_some s.pipe.owner_seat) (is_some pipe.owner_seat) takes
              (is_some s.slot.seat || is_some s.result.seat) e;
        })
      where
        called : (sat sits : Bool) → takes_waker act ≡ sat → (b : Bool) → sat || b ≡ true
            → (takes_waker act ≡ true) ⊎ (sits || b ≡ true)
        called true sits takes b e = inl takes
        called false sits takes b e = inr (or_right sits b e)

    -- it closes its end of the pipe
    closes_goes : is_operating of ≡ false → next_of_job of acts ≡ CloseEnd → s.pipe.is_job_open
        ≡ true → At s of (bound bytes of) began shut over gone took written acts js ps ss CloseEnd
        → Goes (owner_by_parts bytes client asked here (Some (session_after_job_close s))) cut
        (event (JobClosed (waker_in (is_some s.pipe.owner_seat))))
    closes_goes other next lasts here_now =
        let act = JobClosed (waker_in (is_some s.pipe.owner_seat)) in
        pipe_goes other act (record s.pipe { is_job_open = false; owner_seat = None }) refl
        (refl, refl)
        (lawful_at CloseEnd act next (ap (λ b. JobClosed (waker_in b)) (sym t.last.seats.owner)))
        (closes s of (bound bytes of) began shut over
        gone took written acts js ps ss (waker_in (is_some s.pipe.owner_seat)) here_now) lasts
        (takes_it (is_some s.pipe.owner_seat))

    -- it puts its result
    finishes_goes : (why : Option (Fault ℕ)) (left : ℕ) → next_of_job of acts ≡ Finish
        → At s of (bound bytes of) began shut over gone took written acts js ps ss Finish
        → ((waker : HolderWaker) → PlaceBy s.result of (Finished waker ∷ acts) came rs)
        → ((waker : HolderWaker)
        → Tied (now_at s.pipe s.result (slot_after s.slot.content s.slot.seat why) left) of
        (Finished waker ∷ acts) js ps false)
        → Goes (owner_by_parts bytes client asked here
        (Some (now_at s.pipe s.result (slot_after s.slot.content s.slot.seat why) left))) cut
        (event (Finished (waker_in (finish_wakes why s))))
    finishes_goes why left next here_now place session =
        let empty = (going s.slot.content (has_finished acts) (has_given_up acts) over gone
        (fault of acts) here_now.result).empty in
        let woke = finish_wakes why s in
        let sits : woke ≡ is_some s.slot.seat =
        ap (λ c. is_some (answer_of c s.slot.seat why).wake) empty in
        let act = Finished (waker_in woke) in
        keeps_all of same act s.pipe s.result (slot_after s.slot.content s.slot.seat why) left among
        (record {
          own_is = own_act act refl;
          lawful = lawful_at Finish act next
              (ap (λ b. Finished (waker_in b)) (sits ∙ sym t.last.seats.slot));
          session = session (waker_in woke);
          place = place (waker_in woke);
          ended = λ e. e;
          told = λ e. taken_second (is_some s.pipe.owner_seat) (is_some s.slot.seat)
              (is_some s.result.seat) woke _ sits e;
        })

    -- its handle answers
    answers_goes : (answer : HandleAnswer) (next : JobAction)
        → is_answer next answer ≡ true → next_of_job of acts ≡ next
        → At s of (bound bytes of) began shut over gone took written acts js ps ss next
        → PlaceBy s.result of (Answered answer ∷ acts) came rs
        → Tied s of (Answered answer ∷ acts) js ps ss
        → Goes (owner_by_parts bytes client asked here (Some s)) cut (event (Answered answer))
    answers_goes answer next fits is here_now place session =
        let result = subst (λ b. ResultAs s.slot.content (has_finished acts) (has_given_up acts) b
        over gone (fault of acts)) (asking_goes next answer fits) here_now.result in
        let lent = (going s.slot.content (has_finished acts) (has_given_up acts) over gone
        (fault of acts) result).lent in
        keeps_all of same (Answered answer) s.pipe s.result s.slot s.left among (record {
          own_is = record {
            pool = refl;
            nothing = refl;
            ends = tt;
            back = λ here before. refl;
            faults = λ is. absurd (cc);
          };
          lawful = lawful_at next (Answered answer) is (answers_it cut next answer fits);
          session = session;
          place = place;
          ended = λ e. e;
          told = λ e. inr e;
        })

  -- what is handed in finds what the law says
  handed_in : (n : ℕ) → hand_in n (room s.pipe) s.pipe.is_owner_open s.pipe.owner_seat
      ≡ hand_in n (room_in cut) (not shut) (seated ps)
  handed_in n =
      ap (λ m. hand_in n m s.pipe.is_owner_open s.pipe.owner_seat)
      (sym (room_is s (bound bytes) cut t.last t.bytes))
      ∙ ap (λ b. hand_in n (room_in cut) b s.pipe.owner_seat)
      (sym (open_is s (bound bytes) cut t.last))
      ∙ ap (λ seat. hand_in n (room_in cut) (not shut) seat)
      (seated_is s.pipe.owner_seat ∙ ap seated (sym t.last.seats.owner))

  -- ---- the acts of a job that reads, at the session

  abbrev Reads : Work Progress → Type 0
  Reads work = WorksOn Progress work

  module _ (p : Progress) (r : ReadAs p acts) (reads : kind ≡ Reading)
      (among : is_in s.number.serial (jobs_of (own cut)) ≡ true) where
    -- it looks for room
    room_found : found_room s ≡ find_room (room_in cut) (not shut)
    room_found =
        ap (λ n. find_room n s.pipe.is_owner_open)
        (sym (room_is s (bound bytes) cut t.last t.bytes))
        ∙ ap (λ b. find_room (room_in cut) b) (sym (open_is s (bound bytes) cut t.last))

    pub room_works : read_next p.core ≡ ReadAction.FindRoom → (met : Met ℕ) → found_room s ≡ met
        → Reads (read_at_room met p s)
    room_works is (Served zero) found =
        absurd (let some = (some_room (room s.pipe) 0 s.pipe.is_owner_open found).1 in omega arith)
    room_works is (Served (suc n)) found =
        let d = of_reader.does p acts r is (λ e. cc) in
        stays_goes Reading reads among refl (RoomFree (suc n)) s.pipe.job_seat refl (refl, refl)
        (lawful_at Reading reads among FindRoom (RoomFree (suc n)) d.law
        (ap seen_room (sym found ∙ room_found)))
        (finds s (bound bytes Reading) began shut over gone took written acts js ps ss (suc n) found
        (tied Reading reads among FindRoom d.table))
    room_works is Waiting found =
        let d = of_reader.does p acts r is (λ e. cc) in
        stays_goes Reading reads among refl JobParked (Some s.number) refl (refl, refl)
        (lawful_at Reading reads among FindRoom JobParked d.law
        (ap seen_room (sym found ∙ room_found)))
        (parks s (bound bytes Reading) began shut over gone took written acts js ps ss found
        d.table (last_as Reading reads))
    room_works is Closed found =
        let d = of_reader.does p acts r is (λ e. cc) in
        stays_goes Reading reads among refl RoomShut s.pipe.job_seat refl (refl, refl)
        (lawful_at Reading reads among FindRoom RoomShut d.law
        (ap seen_room (sym found ∙ room_found)))
        (finds_shut s (bound bytes Reading) began shut over gone took written acts js ps ss found
        (tied Reading reads among FindRoom d.table))

    -- it puts bytes, which fit
    put_found : found_put p.piece s ≡ hand_in (length p.piece) (room_in cut) (not shut) (seated ps)
    put_found = handed_in (length p.piece)

    pub put_works : (count : ℕ) → read_next p.core ≡ ReadAction.Put count → fits_in p.piece s ≡ true
        → (met : Met (Option (Unit {0}))) → found_put p.piece s ≡ met → Reads (read_at_put met p s)
    put_works count is fits Waiting found = absurd
        (no_wait (length p.piece) (room s.pipe) s.pipe.is_owner_open s.pipe.owner_seat fits found)
    put_works count is fits (Served seat) found =
        let d = of_reader.does p acts r is (λ e. cc) in
        let now = tied Reading reads among (PutPiece p.piece)
        d.table in
        let took_it = (put_is (length p.piece) (room s.pipe) s.pipe.is_owner_open s.pipe.owner_seat
        seat found).0 in
        let act = Put (length p.piece) (waker_in (is_some seat)) in
        pipe_goes Reading reads among
        refl act (record s.pipe { items = s.pipe.items ++ p.piece; owner_seat = None }) refl
        (refl, refl)
        (lawful_at Reading reads among (PutPiece p.piece) act d.law
        (ap (seen_put (length p.piece)) (sym found ∙ put_found)))
        (puts s (bound bytes Reading) began shut over gone took written
        acts js ps ss p.piece (waker_in (is_some seat)) seat found now) now.flow.passed_is.0
        (takes_it (is_some seat) ∙ ap is_some took_it)
    put_works count is fits Closed found =
        let d = of_reader.does p acts r is (λ e. cc) in
        let act = Lost (length p.piece) in
        stays_goes Reading reads among refl act s.pipe.job_seat refl (refl, refl)
        (lawful_at Reading reads among (PutPiece p.piece) act d.law
        (ap (seen_put (length p.piece)) (sym found ∙ put_found)))
        (loses s (bound bytes Reading) began shut over gone
        took written acts js ps ss p.piece found (tied Reading reads among (PutPiece p.piece)
        d.table))

    -- it closes its end of the pipe
    pub close_works : read_next p.core ≡ ReadAction.Close → Reads (read_closes p s)
    close_works is =
        let d = of_reader.does p acts r is (λ e. cc) in
        let now = tied Reading reads among CloseEnd d.table in
        closes_goes Reading reads among refl d.law now.flow.passed_is.0 now

    -- it puts its result
    pub finish_works : read_next p.core ≡ ReadAction.Finish → Reads (read_finishes p s)
    finish_works is =
        let d = of_reader.does p acts r is (λ e. cc) in
        let now = tied Reading reads among Finish d.table in
        finishes_goes Reading reads among p.fault s.left d.law now
        (λ waker. same_place Reading reads refl (Finished waker) refl refl)
        (λ waker. finishes s Reading (bound bytes Reading) began shut over gone took written acts js
        ps ss waker p.fault r.fault_is tt now)

    -- its reader answers
    pub answer_goes : (answer : HandleAnswer) → is_answer (action_of p) answer ≡ true
        → Goes (owner_by_parts bytes client asked here (Some s)) cut (event (Answered answer))
    answer_goes answer is =
        let q = of_reader.asks p acts answer r is in
        let d = q.1.does in
        answers_goes Reading reads among answer
        (AskBytes q.0) q.1.fits d.law (tied Reading reads among (AskBytes q.0) d.table)
        (same_place Reading reads refl (Answered answer) refl refl)
        (Sessions.answers s (bound bytes Reading) began shut over gone took written acts js ps ss
        q.0 answer q.1.fits d.table (last_as Reading reads))

  -- ---- the acts of a job that writes, at the session

  abbrev Writes : Work WriteProgress → Type 0
  Writes work = WorksOn WriteProgress work

  module _ (p : WriteProgress) (r : WriteAs p acts) (writing : kind ≡ Writing)
      (among : is_in s.number.serial (jobs_of (own cut)) ≡ true) where
    -- it looks at the front of the pipe
    piece_found : found_piece s ≡ peek piece (inside cut) (not shut)
    piece_found =
        ap (λ l. peek piece l s.pipe.is_owner_open) (sym (inside_is s (bound bytes) cut t.last))
        ∙ ap (λ b. peek piece (inside cut) b) (sym (open_is s (bound bytes) cut t.last))

    pub peek_works : write_next p.core ≡ WriteAction.Peek → (met : Met (List ℕ))
        → found_piece s ≡ met → Writes (write_at_peek met p s)
    peek_works is (Served found) shows =
        let d = of_writer.does p acts r is (λ e. cc) in
        stays_goes Writing writing among refl (Peeked found) s.pipe.job_seat refl (refl, refl)
        (lawful_at Writing writing among Peek (Peeked found) d.law
        (ap seen_peek (sym shows ∙ piece_found)))
        (peeks s (bound bytes Writing) began shut over gone took written acts js ps ss found shows
        (tied Writing writing among Peek d.table))
    peek_works is Waiting shows =
        let d = of_writer.does p acts r is (λ e. cc) in
        stays_goes Writing writing among refl JobParked (Some s.number) refl (refl, refl)
        (lawful_at Writing writing among Peek JobParked d.law
        (ap seen_peek (sym shows ∙ piece_found)))
        (peek_parks s (bound bytes Writing) began shut over gone took written acts js ps ss shows
        d.table (last_as Writing writing))
    peek_works is Closed shows =
        let d = of_writer.does p acts r is (λ e. cc) in
        stays_goes Writing writing among refl Drained s.pipe.job_seat refl (refl, refl)
        (lawful_at Writing writing among Peek Drained d.law
        (ap seen_peek (sym shows ∙ piece_found)))
        (drains s (bound bytes Writing) began shut over gone took written acts js ps ss shows
        (tied Writing writing among Peek d.table))

    -- what its writer took leaves the pipe
    pub consume_works : (n : ℕ) → write_next p.core ≡ WriteAction.Consume n
        → Writes (write_consumes n p s)
    consume_works n is =
        let d = of_writer.does p acts r is (λ e. cc) in
        let now = tied Writing writing among (Consume n)
        d.table in
        let act = TakenOut n (waker_in (is_some s.pipe.owner_seat)) in
        pipe_goes Writing writing
        among refl act (record s.pipe { items = drop n s.pipe.items; owner_seat = None }) refl
        (refl, refl)
        (lawful_at Writing writing among (Consume n) act d.law
        (ap (λ b. TakenOut n (waker_in b)) (sym t.last.seats.owner)))
        (consumes s (bound bytes Writing) began shut over gone took written
        acts js ps ss n (waker_in (is_some s.pipe.owner_seat)) now) now.flow.written_is.0
        (takes_it (is_some s.pipe.owner_seat))

    -- it closes its end of the pipe
    pub write_close_works : write_next p.core ≡ WriteAction.Close → Writes (write_closes p s)
    write_close_works is =
        let d = of_writer.does p acts r is (λ e. cc) in
        let now =
        tied Writing writing among CloseEnd d.table in
        closes_goes Writing writing among refl d.law
        now.flow.written_is.0 now

    -- it puts its result
    pub write_finish_works : write_next p.core ≡ WriteAction.Finish → Writes (write_finishes p s)
    write_finish_works is =
        let d = of_writer.does p acts r is (λ e. cc) in
        let now =
        tied Writing writing among Finish d.table in
        finishes_goes Writing
        writing among (write_fault_of p.core) s.left d.law now
        (λ waker. same_place Writing writing refl (Finished waker) refl refl)
        (λ waker. finishes s Writing (bound bytes Writing) began shut over gone took written acts js
        ps ss waker (write_fault_of p.core) r.fault_is tt now)

    -- its writer answers
    pub write_answer_goes : (answer : HandleAnswer) → is_answer (write_action_of p) answer ≡ true
        → Goes (owner_by_parts bytes client asked here (Some s)) cut (event (Answered answer))
    write_answer_goes answer is =
        let d = (of_writer.asks p acts answer r is).does in
        let now = write_action_of p in
        answers_goes Writing writing among answer now is d.law
        (tied Writing writing among now d.table)
        (same_place Writing writing refl (Answered answer) refl refl)
        (write_answers s (bound bytes Writing) began shut over gone took written acts js ps ss now
        answer is d.table (last_as Writing writing))

  -- ---- the acts of a job that runs an iterator, at the session

  abbrev Streams : Work ItemProgress → Type 0
  Streams work = WorksOn ItemProgress work

  module _ (p : ItemProgress) (r : ItemAs p acts) (streaming : kind ≡ Streaming)
      (among : is_in s.number.serial (jobs_of (own cut)) ≡ true) where
    -- it sends its item
    send_found : found_send s ≡ hand_in 1 (room_in cut) (not shut) (seated ps)
    send_found = handed_in 1

    pub send_works : item_next p.core ≡ ItemAction.Send → (met : Met (Option (Unit {0})))
        → found_send s ≡ met → Streams (item_at_send met p s)
    send_works is (Served seat) found =
        let d = of_streamer.does p acts r is (λ e. cc) in
        let now = tied Streaming streaming among (SendItem p.item)
        d.table in
        let took_it =
        (put_is 1 (room s.pipe) s.pipe.is_owner_open s.pipe.owner_seat seat found).0 in
        let act = Put 1 (waker_in (is_some seat)) in
        pipe_goes Streaming streaming among
        refl act (record s.pipe { items = s.pipe.items ++ p.item ∷ []; owner_seat = None }) refl
        (refl, refl)
        (lawful_at Streaming streaming among (SendItem p.item) act
        d.law (ap (seen_put 1) (sym found ∙ send_found)))
        (sends s (bound bytes Streaming) began shut over gone took written
        acts js ps ss p.item (waker_in (is_some seat)) seat found now) now.flow.passed_is.0
        (takes_it (is_some seat) ∙ ap is_some took_it)
    send_works is Waiting found =
        let d = of_streamer.does p acts r is (λ e. cc) in
        stays_goes Streaming streaming among refl JobParked (Some s.number) refl (refl, refl)
        (lawful_at Streaming streaming among (SendItem p.item) JobParked
        d.law (ap (seen_put 1) (sym found ∙ send_found)))
        (send_parks s (bound bytes Streaming) began shut over gone took written acts js ps ss p.item
        found d.table (last_as Streaming streaming))
    send_works is Closed found =
        let d = of_streamer.does p acts r is (λ e. cc) in
        stays_goes Streaming streaming among refl (Lost 1) s.pipe.job_seat refl (refl, refl)
        (lawful_at Streaming streaming among (SendItem p.item) (Lost 1)
        d.law (ap (seen_put 1) (sym found ∙ send_found)))
        (send_loses s (bound bytes Streaming) began shut over gone took
        written acts js ps ss p.item found (tied Streaming streaming among (SendItem p.item)
        d.table))

    -- it closes its end of the pipe
    pub item_close_works : item_next p.core ≡ ItemAction.Close → Streams (item_closes p s)
    item_close_works is =
        let d = of_streamer.does p acts r is (λ e. cc) in
        let now = tied Streaming streaming among CloseEnd
        d.table in
        closes_goes Streaming streaming among refl d.law
        now.flow.passed_is.0 now

    -- it puts its result
    pub item_finish_works : item_next p.core ≡ ItemAction.Finish
        → Streams (item_finishes p s)
    item_finish_works is =
        let d = of_streamer.does p acts r is (λ e. cc) in
        let now =
        tied Streaming streaming among Finish d.table in
        finishes_goes Streaming streaming among None s.left d.law now
        (λ waker. same_place Streaming streaming refl (Finished waker) refl refl)
        (λ waker. finishes s Streaming (bound bytes Streaming) began shut over gone took written
        acts js ps ss waker None (sym r.fault_is) tt now)

    -- its handle answers
    pub item_answer_goes : (answer : HandleAnswer) → is_answer (item_action_of p) answer ≡ true
        → Goes (owner_by_parts bytes client asked here (Some s)) cut (event (Answered answer))
    item_answer_goes answer is =
        let q = of_streamer.asks p acts answer r is in
        let d = q.does in
        answers_goes Streaming streaming among answer AskItem q.fits d.law
        (tied Streaming streaming among AskItem d.table)
        (same_place Streaming streaming refl (Answered answer) refl refl)
        (item_answers s (bound bytes Streaming) began shut over gone took written acts js ps ss
        answer q.fits d.table (last_as Streaming streaming))

  -- ---- the acts of a job that seeks, at the session

  abbrev Seeks : Work SeekProgress → Type 0
  Seeks work = WorksOn SeekProgress work

  module _ (p : SeekProgress) (r : SeekAs p acts) (seeking : kind ≡ Seeking p.goal)
      (among : is_in s.number.serial (jobs_of (own cut)) ≡ true) where
    -- it puts its result
    pub seek_finish_works : seek_next p.core ≡ SeekAction.Finish → Seeks (seek_finishes p s)
    seek_finish_works is =
        let d = of_seeker.does p acts r is (λ e. cc) in
        let now = tied (Seeking p.goal) seeking among Finish d.table in
        finishes_goes (Seeking p.goal) seeking among p.fault p.place d.law now
        (λ waker. same_place (Seeking p.goal) seeking refl (Finished waker) refl refl)
        (λ waker. seek_puts s p.goal (bound bytes (Seeking p.goal)) began shut over gone took
        written acts js ps ss waker p.fault p.place r.fault_is r.place_is now)

    -- its handle answers
    pub seek_answer_goes : (answer : HandleAnswer) → is_answer (seek_action_of p) answer ≡ true
        → Goes (owner_by_parts bytes client asked here (Some s)) cut (event (Answered answer))
    seek_answer_goes answer is =
        let q = of_seeker.asks p acts answer r is in
        let d = q.does in
        let now = tied (Seeking p.goal) seeking among AskSeek d.table in
        answers_goes (Seeking p.goal) seeking among answer AskSeek q.fits d.law now
        (same_place (Seeking p.goal) seeking refl (Answered answer) refl refl)
        (seek_answers s p.goal (bound bytes (Seeking p.goal)) began shut over gone took written acts
        js ps ss answer q.fits d.table now)

  -- ---- the acts of a job that runs an operation, at the session

  abbrev Operates : Work OpProgress → Type 0
  Operates work = WorksOn OpProgress work

  module _ (p : OpProgress) (r : OperationAs p acts) (operating : kind ≡ Operating)
      (among : is_in s.number.serial (jobs_of (own cut)) ≡ true) where
    -- the place of the result, by the job's next action
    placed : (next : JobAction) → next_but_wake Operating acts ≡ next → PlaceAs s.result Operating
        next (has_given_up acts) (has_result acts) came (number acts) rs
    placed next e =
        subst (λ a. PlaceAs
        s.result Operating a (has_given_up acts) (has_result acts) came (number acts) rs) e
        (subst (λ any. PlaceBy s.result any acts came rs) operating t.place)

    -- it puts the result
    pub result_works : op_next p.core ≡ OpAction.PutResult → Operates (op_puts p s)
    result_works is =
        let d = of_operator.does p acts r is (λ e. cc) in
        let here_now = placed PutResult d.table in
        let empty = results.unfilled s.result (has_given_up acts) (has_result acts) came
        (number acts) rs here_now in
        let woke = result_wakes p.number s in
        let sits : woke ≡ is_some s.result.seat =
        ap (λ c. is_some (answer_of c s.result.seat p.number).wake) empty in
        let act = ResultPut (waker_in woke) in
        keeps_all Operating operating act s.pipe (after_put s.result p.number) s.slot s.left among
        (record {
          own_is = own_act act refl;
          place = results.filled s.result (has_given_up acts) (has_result acts) came (number acts)
              rs p.number r.number_is here_now;
          lawful =
              lawful_at Operating operating among PutResult act d.law
              (ap (λ b. ResultPut (waker_in b)) (sits ∙ sym here_now.seat));
          session = result_puts s (bound bytes Operating) began shut
              over gone took written acts js ps ss (waker_in woke) (after_put s.result p.number)
              (tied Operating operating among PutResult d.table);
          ended = λ e. e;
          told = λ e. taken_third (is_some s.pipe.owner_seat) (is_some s.slot.seat)
              (is_some s.result.seat) woke _ sits e;
        })

    -- it puts its own result
    pub op_finish_works : op_next p.core ≡ OpAction.Finish
        → Operates (op_finishes p s)
    op_finish_works is =
        let d = of_operator.does p acts r is (λ e. cc) in
        let now = tied Operating operating among Finish d.table in
        finishes_goes Operating operating among None s.left d.law now
        (λ waker. results.finished s.result (has_given_up acts) (has_result acts) came (number acts)
        rs (placed Finish d.table))
        (λ waker. finishes s Operating (bound bytes Operating) began shut over gone took written
        acts js ps ss waker None (sym r.fault_is) tt now)

    -- its operation answers
    pub op_answer_goes : (answer : HandleAnswer)
        → is_answer (op_action_of p) answer ≡ true
        → Goes (owner_by_parts bytes client asked here (Some s)) cut (event (Answered answer))
    op_answer_goes answer is =
        let q = of_operator.asks p acts answer r is in
        let d = q.does in
        let now = tied Operating operating among AskResult d.table in
        answers_goes Operating operating among answer AskResult q.fits d.law now
        (subst (λ a. PlaceAs s.result Operating
        a (has_given_up acts) (has_result acts) came (number (Answered answer ∷ acts)) rs)
        (sym (ap (λ a. job_next_after_answer a answer) d.table))
        (results.answered s.result (has_given_up acts) (has_result acts) came (number acts) rs
        (number (Answered answer ∷ acts)) (placed AskResult d.table)))
        (op_answers s (bound bytes Operating) began shut over gone took written acts js ps ss
        answer q.fits d.table now)

  -- ---- what any does

  -- it gives up
  pub give_up_goes : is_in s.number.serial (jobs_of (own cut)) ≡ true
      → is_over (next_but_wake kind acts) ≡ false → gone ≡ true
      → Goes (owner_by_parts bytes client asked here (Some (session_after_give_up s))) cut
      (event (GaveUp (waker_in (give_up_wakes s))))
  give_up_goes among goes dropped =
      let result = subst (λ b. ResultAs s.slot.content (has_finished acts) (has_given_up acts) b
      over gone (fault kind acts)) goes t.last.result in
      let empty = (going s.slot.content (has_finished acts) (has_given_up acts) over gone
      (fault kind acts) result).empty in
      let woke = give_up_wakes s in
      let sits : woke ≡ is_some s.slot.seat =
      ap (λ c. is_some (waker_out_of c s.slot.seat)) empty in
      keeps_all kind refl (GaveUp (waker_in woke)) s.pipe s.result
      (slot_without_job s.slot.content s.slot.seat) s.left among (record {
        own_is = own_act (GaveUp (waker_in woke)) refl;
        lawful = (dropped, goes, ap waker_in (sits ∙ sym t.last.seats.slot));
        place = results.given_up s.result (has_given_up acts) (has_result acts) came (number acts)
            rs kind (next_but_wake kind acts) t.place;
        session = gives_up s kind (bound bytes kind) began shut over gone took written acts js ps ss
            (waker_in woke) goes dropped t.last;
        ended = λ e. e;
        told = λ e. taken_second (is_some s.pipe.owner_seat) (is_some s.slot.seat)
            (is_some s.result.seat) woke _ sits e;
      })
