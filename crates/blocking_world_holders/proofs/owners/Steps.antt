-- Each step of an owner, or of a job of it, keeps the law of the owner and its tie.
use Rattle.std.proofs.Common.{◌≡◌, ℕ, ◌==◌, List, [], ◌∷◌, Bool, true, false, refl, sym, ap, ◌∙◌}
use Rattle.std.proofs.Common.{subst, arith, Option, Some, None, ◌&&◌, ◌||◌, not, if◌then◌else◌}
use Rattle.std.proofs.Common.{is_none}
use Rattle.std.proofs.lemmas.Bool.Decides.{nat_tests}
use Rattle.blocking_world_holders.proofs.Types.{ItemAction, OpAction, ReadAction, SeekAction}
use Rattle.blocking_world_holders.proofs.Types.{WriteAction, OwnerAction, Act, Answered, GaveUp}
use Rattle.blocking_world_holders.proofs.Types.{HolderWoken, Event, Told, HandleAnswer, HandleCall}
use Rattle.blocking_world_holders.proofs.Types.{SessionJob, OwnerNext, OwnerStage}
use Rattle.blocking_world_holders.proofs.Words.{item_next, op_next, OwnerMachine, read_next}
use Rattle.blocking_world_holders.proofs.Words.{seek_next, write_next, Growth, is_in, came_back}
use Rattle.blocking_world_holders.proofs.Words.{JobAction, Kind, Operating, Reading, Seeking}
use Rattle.blocking_world_holders.proofs.Words.{Streaming, WakeHolder, Writing, fault, is_answer}
use Rattle.blocking_world_holders.proofs.Words.{is_over, next_but_wake, next_of_job, number}
use Rattle.blocking_world_holders.proofs.Words.{OwnerLaw, Works, is_job_seated, pipe_seat}
use Rattle.blocking_world_holders.proofs.Words.{result_seat, slot_seat, accepted, got, is_serial}
use Rattle.blocking_world_holders.proofs.Words.{kind_in, waker_in, acts_of, own, seen_call}
use Rattle.blocking_world_holders.proofs.Words.{is_again, seen_is_dropped, seen_is_into_inner}
use Rattle.blocking_world_holders.proofs.Words.{is_operation, seen_is_shut, jobs_of, kind_of_job}
use Rattle.blocking_world_holders.proofs.Words.{seen_last_session, seen_session, seen_state}
use Rattle.blocking_world_holders.proofs.Words.{OperationAs, OpProgress, op_action_as, Acts}
use Rattle.blocking_world_holders.proofs.Words.{Begins, CallsWaker, Delivers, GivesUp, IsAnswered}
use Rattle.blocking_world_holders.proofs.Words.{IsAsked, IsDropped, IsRefused, MayTake, OwnerStep}
use Rattle.blocking_world_holders.proofs.Words.{DoesWork, act_in, act_of, act_of_work, by_its_job}
use Rattle.blocking_world_holders.proofs.Words.{by_owner, event_by, is_of_its_job}
use Rattle.blocking_world_holders.proofs.Words.{owner_after_step as owner_after, owner_after_work}
use Rattle.blocking_world_holders.proofs.Words.{owner_in_step as owner_in, LastAs, OwnerAs, PlaceBy}
use Rattle.blocking_world_holders.proofs.Words.{PlaceIn, SessionAs, StageBy, has_found, newest_note}
use Rattle.blocking_world_holders.proofs.Words.{Did, Owner, Worked, capacity_of, did}
use Rattle.blocking_world_holders.proofs.Words.{giving_up_wakes, is_gone, is_pending, last_item}
use Rattle.blocking_world_holders.proofs.Words.{may_call_at, next_at, next_by, next_to_say}
use Rattle.blocking_world_holders.proofs.Words.{op_as, op_in, read_as, read_in, reply_as}
use Rattle.blocking_world_holders.proofs.Words.{seek_as, seek_in, item_as, item_in, without_job}
use Rattle.blocking_world_holders.proofs.Words.{worked, worked_by, write_as, write_in, OfBytes}
use Rattle.blocking_world_holders.proofs.Words.{OfItems, through, ReadProgress, ReadAs}
use Rattle.blocking_world_holders.proofs.Words.{read_action_as, SeekProgress, SeekAs}
use Rattle.blocking_world_holders.proofs.Words.{seek_action_as, JobAs, action_of, kind_of, Session}
use Rattle.blocking_world_holders.proofs.Words.{Work, fits_in, found_piece, found_put, found_room}
use Rattle.blocking_world_holders.proofs.Words.{found_send, holds, op_works, seek_works}
use Rattle.blocking_world_holders.proofs.Words.{item_works, read_at_put, read_works}
use Rattle.blocking_world_holders.proofs.Words.{write_consumes, write_works, ItemAs, ItemProgress}
use Rattle.blocking_world_holders.proofs.Words.{item_action_as, WriteProgress, WriteAs}
use Rattle.blocking_world_holders.proofs.Words.{write_action_as}
use Rattle.blocking_world_laws.specs.OwnerTable as law
use Rattle.blocking_world_holders.proofs.Clashes.{nothing}
use Rattle.blocking_world_holders.proofs.owners.Goods.{through_some, through_none}
use Rattle.blocking_world_holders.proofs.owners.Cuts.{its_kind, kind_is, next_stays, passes}
use Rattle.blocking_world_holders.proofs.owners.JobActs.{WorksOn, room_works, put_works}
use Rattle.blocking_world_holders.proofs.owners.JobActs.{close_works, finish_works, answer_goes}
use Rattle.blocking_world_holders.proofs.owners.JobActs.{give_up_goes, peek_works, consume_works}
use Rattle.blocking_world_holders.proofs.owners.JobActs.{write_close_works, write_finish_works}
use Rattle.blocking_world_holders.proofs.owners.JobActs.{write_answer_goes, item_answer_goes}
use Rattle.blocking_world_holders.proofs.owners.JobActs.{send_works, item_close_works}
use Rattle.blocking_world_holders.proofs.owners.JobActs.{item_finish_works, seek_finish_works}
use Rattle.blocking_world_holders.proofs.owners.JobActs.{seek_answer_goes, result_works}
use Rattle.blocking_world_holders.proofs.owners.JobActs.{op_finish_works}
use Rattle.blocking_world_holders.proofs.owners.JobActs.{op_answer_goes}
use Rattle.blocking_world_holders.proofs.owners.Asked.{both_true}
use Rattle.blocking_world_holders.proofs.owners.Polls.{Goes, owner_by_parts, bound, value_of, doing}
use Rattle.blocking_world_holders.proofs.owners.OwnerActs.{own_goes}
use Rattle.blocking_world_holders.proofs.owners.PoolAnswers.{ask_goes, drop_goes, refuse_goes}
use Rattle.blocking_world_holders.proofs.owners.PoolAnswers.{deliver_goes, begin_goes}
use Rattle.blocking_world_holders.proofs.owners.ReadSessions.{calls}
use Rattle.blocking_world_holders.proofs.owners.Machines.{law_is, goes_on}
use Rattle.blocking_world_holders.proofs.owners.WriteJobs.{plain}
use Rattle.blocking_world_holders.proofs.owners.ReadJobs as of_reader
use Rattle.blocking_world_holders.proofs.owners.ItemJobs as of_streamer
use Rattle.blocking_world_holders.proofs.owners.WriteJobs as of_writer
use Rattle.blocking_world_holders.proofs.owners.SeekJobs as of_seeker
use Rattle.blocking_world_holders.proofs.owners.OpJobs as of_operator

-- ---- a waker is called

module _ (bytes client : ℕ) (asked : Option HandleCall) (here : OwnerStage)
    (last : Option Session) (h v n first : ℕ) (growth : Growth) (cut : List Event)
    (t : OwnerAs (owner_by_parts bytes client asked here last) cut) where
  abbrev woken : Event
  woken = by_its_job h v n HolderWoken first growth

  -- what looks over it sees the same of each job
  same_of : {X : Type 0} (f : List Act → X) → ((l : List Act) → f (HolderWoken ∷ l) ≡ f l) → (m : ℕ)
      → f (acts_of m (woken ∷ cut)) ≡ f (acts_of m cut)
  same_of f skips m = at (n == m) refl
    where
      at : (b : Bool) → (n == m) ≡ b → f (acts_of m (woken ∷ cut)) ≡ f (acts_of m cut)
      at true test = rw test (skips (acts_of m cut))
      at false test = rw test refl

  woken_last : (last : Option Session) → LastAs last (bound bytes) cut
      → LastAs last (bound bytes) (woken ∷ cut)
  woken_last None t = t
  woken_last (Some s) t = at (n == s.number.serial) refl
    where
      Tied : List Act → Type 0
      Tied l =
          SessionAs s (kind_in (seen_last_session (own cut)))
          (bound bytes (kind_in (seen_last_session (own cut)))) (seen_last_session (own cut))
          (seen_is_shut (own cut)) (is_none (seen_session (own cut)))
          (seen_is_dropped (own cut))
          (got (own cut)) (accepted (own cut)) l (is_job_seated cut) (pipe_seat cut) (slot_seat cut)

      at : (b : Bool) → (n == s.number.serial) ≡ b → Tied (acts_of s.number.serial (woken ∷ cut))
      at true test = rw test (calls s (kind_in (seen_last_session (own cut)))
          (bound bytes (kind_in (seen_last_session (own cut)))) (seen_last_session (own cut))
          (seen_is_shut (own cut)) (is_none (seen_session (own cut))) (seen_is_dropped (own cut))
          (got (own cut)) (accepted (own cut)) (acts_of s.number.serial cut) (is_job_seated cut)
          (pipe_seat cut) (slot_seat cut) t)
      at false test = rw test t

  woken_place : (last : Option Session) → PlaceIn last cut → PlaceIn last (woken ∷ cut)
  woken_place None t = tt
  woken_place (Some s) t = at (n == s.number.serial) refl
    where
      at : (b : Bool)
          → (n == s.number.serial) ≡ b → PlaceBy s.result (kind_in (seen_last_session (own cut)))
          (acts_of s.number.serial (woken ∷ cut)) (has_found (own cut)) (result_seat cut)
      at true test = rw test
          (record { put_is = t.put_is; content = t.content; seat = t.seat; reason = t.reason })
      at false test = rw test t

  wake_goes : is_in n (jobs_of (own cut)) ≡ true
      → next_of_job (kind_of_job n (own cut)) (acts_of n cut) ≡ WakeHolder
      → Goes (owner_by_parts bytes client asked here last) cut woken
  wake_goes among wakes = record {
    acts = (among, subst (λ a. Works cut a HolderWoken) (sym wakes) refl);
    ends = tt;
    tie = record {
      made = t.made;
      gone = t.gone;
      asked = t.asked;
      polled = t.polled;
      bytes = t.bytes;
      stage =
          subst (λ next. StageBy here (last_item last) (seen_call (own cut)) (seen_state (own cut))
          next (law.is_at_end (own cut)) (came_back cut) (newest_note (own cut)))
          (sym (next_stays (woken ∷ cut) cut (own cut) (λ back k m.
          (same_of (fault k) (λ l. refl) m, same_of number (λ l. refl) m)))) t.stage;
      operates = t.operates;
      last = woken_last last t.last;
      place = woken_place last t.place;
      ended = t.ended;
      earlier = λ m of other. same_of (next_but_wake (kind_of_job m (own cut))) (λ l. refl) m
          ∙ t.earlier m of other;
      noted = t.noted;
      told = t.told;
    };
  }

-- ---- its last session

-- A job is that of its last session.
pub record IsLast (last : Option Session) (n : ℕ) : Type 0 where
  pub session : Session
  pub here : last ≡ Some session
  pub same : n ≡ session.number.serial

-- a job that isn't over is that of the last session
pub its_last : (bytes client : ℕ) (asked : Option HandleCall)
    (here : OwnerStage) (last : Option Session) (n : ℕ) (cut : List Event)
    → OwnerAs (owner_by_parts bytes client asked here last) cut
    → is_in n (jobs_of (own cut)) ≡ true
    → is_over (next_but_wake (kind_of_job n (own cut)) (acts_of n cut)) ≡ false → IsLast last n
its_last bytes client asked here last n cut t among goes =
    at (is_serial (seen_last_session (own cut)) (Some n)) refl
  where
    found : (last : Option Session) → LastAs last (bound bytes) cut
        → is_serial (seen_last_session (own cut)) (Some n) ≡ true → IsLast last n
    found None t is = absurd (let none = ap (λ r. is_serial r (Some n)) (sym t.0) ∙ is in cc)
    found (Some s) t is =
        let test : (n == s.number.serial) ≡ true =
        ap (λ r. is_serial r (Some n)) (sym t.lent.begun) ∙ is in
        record { session = s; here = refl; same = grind (arith, nat_tests) }

    at : (b : Bool) → is_serial (seen_last_session (own cut)) (Some n) ≡ b → IsLast last n
    at true is = found last t.last is
    at false is = absurd (let over = ap is_over (t.earlier n among is) in cc)

-- ---- its job works

-- a job that is to be answered isn't over
asks_on : (job : SessionJob) (acts : List Act) (answer : HandleAnswer) → JobAs job acts
    → is_answer (action_of job) answer ≡ true → is_over (next_but_wake (kind_of job) acts) ≡ false
asks_on (SessionJob.Read p) acts answer r is = goes_on (of_reader.asks p acts answer r is).1
asks_on (SessionJob.Write p) acts answer r is = goes_on (of_writer.asks p acts answer r is)
asks_on (SessionJob.Items p) acts answer r is = goes_on (of_streamer.asks p acts answer r is)
asks_on (SessionJob.Seek p) acts answer r is = goes_on (of_seeker.asks p acts answer r is)
asks_on (SessionJob.Operate p) acts answer r is = goes_on (of_operator.asks p acts answer r is)

module _ (bytes client : ℕ) (asked : Option HandleCall) (here : OwnerStage) (h v first : ℕ)
    (growth : Growth) (cut : List Event) where
  -- the law and the tie after an act of job n
  abbrev pub WorkGoes : ℕ → Worked → Type 0
  WorkGoes n done = Goes done.owner cut (by_its_job h v n done.act first growth)

  -- a job of this kind, whose next action is this, is that of the last session
  at_last : (last : Option Session) (n : ℕ) (of : Kind) (next : JobAction)
      → OwnerAs (owner_by_parts bytes client asked here last) cut
      → is_in n (jobs_of (own cut)) ≡ true → kind_of_job n (own cut) ≡ of
      → next_but_wake of (acts_of n cut) ≡ next → is_over next ≡ false → IsLast last n
  at_last last n of next t among is table goes =
      its_last bytes client asked here last n cut t among
      (ap (λ k. is_over (next_but_wake k (acts_of n cut))) is ∙ ap is_over table ∙ goes)

  -- that session is then of the job's kind
  kind_at :
      (s : Session) (t : OwnerAs (owner_by_parts bytes client asked here (Some s)) cut) (of : Kind)
      → kind_of_job s.number.serial (own cut) ≡ of → its_kind s (bound bytes) cut t.last ≡ of
  kind_at s t of is = sym (kind_is s (bound bytes) cut t.last) ∙ is

  -- what is done at the session is what is seen of it
  does_so : (J : Type 0) (job_of : J → SessionJob) (s : Session)
      (t : OwnerAs (owner_by_parts bytes client asked here (Some s)) cut) (o : Option (Work J))
      → ((work : Work J) → o ≡ Some work
      → WorksOn bytes client asked here s h v first growth cut t J work) → (done : Worked)
      → worked_by job_of o (owner_by_parts bytes client asked here (Some s)) ≡ Some done
      → WorkGoes s.number.serial done
  does_so J job_of s t None works done does = absurd (nothing does)
  does_so J job_of s t (Some work) works done does =
      subst (WorkGoes s.number.serial) (ap (value_of done) does) (works work refl)

  -- a job of this kind acts at the session, by what it finds to do there, which is nothing once it
  -- is over
  at_session : (J : Type 0) (job_of : J → SessionJob) (of : Kind) (next : JobAction) (n : ℕ)
      (s : Session) (t : OwnerAs (owner_by_parts bytes client asked here (Some s)) cut)
      → is_in n (jobs_of (own cut)) ≡ true → kind_of_job n (own cut) ≡ of
      → next_but_wake of (acts_of n cut) ≡ next → (found : Option (Work J))
      → (is_over next ≡ true → found ≡ None)
      → (n ≡ s.number.serial → its_kind s (bound bytes) cut t.last ≡ of
      → is_in s.number.serial (jobs_of (own cut)) ≡ true → (work : Work J) → found ≡ Some work
      → WorksOn bytes client asked here s h v first growth cut t J work)
      → (done : Worked)
      → worked_by job_of found (owner_by_parts bytes client asked here (Some s)) ≡ Some done
      → WorkGoes n done
  at_session J job_of of next n s t among is table found idle works done does =
      by (is_over next) refl
    where
      by : (b : Bool) → is_over next ≡ b → WorkGoes n done
      by true over = absurd (nothing (sym (ap (λ o. worked_by job_of o
          (owner_by_parts bytes client asked here (Some s))) (idle over)) ∙ does))
      by false goes =
          let l = at_last (Some s) n of next t among is table goes in
          let same : n ≡ s.number.serial =
          l.same ∙ sym (ap (λ o. (value_of s o).number.serial) l.here) in
          subst (λ m. WorkGoes m done) (sym same)
          (does_so J job_of s t found
          (works same (kind_at s t of (subst (λ m. kind_of_job m (own cut) ≡ of) same is))
          (subst (λ m. is_in m (jobs_of (own cut)) ≡ true) same among)) done does)

  -- what is done at the session is what was found to do
  as_done : (s : Session) (t : OwnerAs (owner_by_parts bytes client asked here (Some s)) cut)
      (J : Type 0) {found : Work J}
      → WorksOn bytes client asked here s h v first growth cut t J found
      → (work : Work J) → Some found ≡ Some work
      → WorksOn bytes client asked here s h v first growth cut t J work
  as_done s t J goes work e =
      subst (WorksOn bytes client asked here s h v first growth cut t J) (ap (value_of work) e) goes

  -- a job that reads, at the session
  read_at : (s : Session) (t : OwnerAs (owner_by_parts bytes client asked here (Some s)) cut)
      (p : ReadProgress) (r : ReadAs p (acts_of s.number.serial cut))
      → its_kind s (bound bytes) cut t.last ≡ Reading
      → is_in s.number.serial (jobs_of (own cut)) ≡ true → (a : ReadAction) → read_next p.core ≡ a
      → (work : Work ReadProgress) → read_works a p s ≡ Some work
      → WorksOn bytes client asked here s h v first growth cut t ReadProgress work
  read_at s t p r of among ReadAction.FindRoom is work does =
      as_done s t ReadProgress (room_works bytes client asked here s h v first growth cut t p r of
      among is (found_room s) refl) work does
  read_at s t p r of among (ReadAction.Put count) is work does =
      by_fit (fits_in p.piece s) refl does
    where
      by_fit : (b : Bool) → fits_in p.piece s ≡ b
          → (if b then Some (read_at_put (found_put p.piece s) p s) else None) ≡ Some work
          → WorksOn bytes client asked here s h v first growth cut t ReadProgress work
      by_fit true fits does = as_done s t ReadProgress (put_works bytes client asked here s h v
          first growth cut t p r of among count is fits (found_put p.piece s) refl) work does
      by_fit false fits does = absurd (nothing does)
  read_at s t p r of among ReadAction.Close is work does = as_done s t ReadProgress
      (close_works bytes client asked here s h v first growth cut t p r of among is) work does
  read_at s t p r of among ReadAction.Finish is work does = as_done s t ReadProgress
      (finish_works bytes client asked here s h v first growth cut t p r of among is) work does
  read_at s t p r of among _ is work does = absurd (nothing does)

  -- a job that writes, at the session
  write_at : (s : Session) (t : OwnerAs (owner_by_parts bytes client asked here (Some s)) cut)
      (p : WriteProgress) (r : WriteAs p (acts_of s.number.serial cut))
      → its_kind s (bound bytes) cut t.last ≡ Writing
      → is_in s.number.serial (jobs_of (own cut)) ≡ true → (a : WriteAction) → write_next p.core ≡ a
      → (work : Work WriteProgress) → write_works a p s ≡ Some work
      → WorksOn bytes client asked here s h v first growth cut t WriteProgress work
  write_at s t p r of among WriteAction.Peek is work does =
      as_done s t WriteProgress (peek_works bytes client asked here s h v first growth cut t p r of
      among is (found_piece s) refl) work does
  write_at s t p r of among (WriteAction.Consume count) is work does = by_fit (holds count s) does
    where
      by_fit : (b : Bool) → (if b then Some (write_consumes count p s) else None) ≡ Some work
          → WorksOn bytes client asked here s h v first growth cut t WriteProgress work
      by_fit true does = as_done s t WriteProgress (consume_works bytes client asked here s h v
          first growth cut t p r of among count is) work does
      by_fit false does = absurd (nothing does)
  write_at s t p r of among WriteAction.Close is work does =
      as_done s t WriteProgress (write_close_works bytes client asked here s h v first growth cut t
      p r of among is) work does
  write_at s t p r of among WriteAction.Finish is work does =
      as_done s t WriteProgress (write_finish_works bytes client asked here s h v first growth cut
      t p r of among is) work does
  write_at s t p r of among _ is work does = absurd (nothing does)

  -- a job that runs an iterator, at the session
  item_at : (s : Session) (t : OwnerAs (owner_by_parts bytes client asked here (Some s)) cut)
      (p : ItemProgress) (r : ItemAs p (acts_of s.number.serial cut))
      → its_kind s (bound bytes) cut t.last ≡ Streaming
      → is_in s.number.serial (jobs_of (own cut)) ≡ true → (a : ItemAction) → item_next p.core ≡ a
      → (work : Work ItemProgress) → item_works a p s ≡ Some work
      → WorksOn bytes client asked here s h v first growth cut t ItemProgress work
  item_at s t p r of among ItemAction.Send is work does =
      as_done s t ItemProgress (send_works bytes client asked here s h v first growth cut t p r of
      among is (found_send s) refl) work does
  item_at s t p r of among ItemAction.Close is work does =
      as_done s t ItemProgress (item_close_works bytes client asked here s h v first growth cut
      t p r of among is) work does
  item_at s t p r of among ItemAction.Finish is work does =
      as_done s t ItemProgress (item_finish_works bytes client asked here s h v first growth cut
      t p r of among is) work does
  item_at s t p r of among _ is work does = absurd (nothing does)

  -- a job that seeks, at the session
  seek_at : (s : Session) (t : OwnerAs (owner_by_parts bytes client asked here (Some s)) cut)
      (p : SeekProgress) (r : SeekAs p (acts_of s.number.serial cut))
      → its_kind s (bound bytes) cut t.last ≡ Seeking p.goal
      → is_in s.number.serial (jobs_of (own cut)) ≡ true → (a : SeekAction) → seek_next p.core ≡ a
      → (work : Work SeekProgress) → seek_works a p s ≡ Some work
      → WorksOn bytes client asked here s h v first growth cut t SeekProgress work
  seek_at s t p r of among SeekAction.Finish is work does = as_done s t SeekProgress
      (seek_finish_works bytes client asked here s h v first growth cut t p r of among is) work does
  seek_at s t p r of among _ is work does = absurd (nothing does)

  -- a job that runs an operation, at the session
  operator_at : (s : Session) (t : OwnerAs (owner_by_parts bytes client asked here (Some s)) cut)
      (p : OpProgress) (r : OperationAs p (acts_of s.number.serial cut))
      → its_kind s (bound bytes) cut t.last ≡ Operating
      → is_in s.number.serial (jobs_of (own cut)) ≡ true → (a : OpAction)
      → op_next p.core ≡ a → (work : Work OpProgress) → op_works a p s ≡ Some work
      → WorksOn bytes client asked here s h v first growth cut t OpProgress work
  operator_at s t p r of among OpAction.PutResult is work does = as_done s t OpProgress
      (result_works bytes client asked here s h v first growth cut t p r of among is) work does
  operator_at s t p r of among OpAction.Finish is work does =
      as_done s t OpProgress (op_finish_works bytes client asked here s h v first growth cut
      t p r of among is) work does
  operator_at s t p r of among _ is work does = absurd (nothing does)

  -- any act of a job that reads
  read_goes : (last : Option Session) (n : ℕ)
      → OwnerAs (owner_by_parts bytes client asked here last) cut → (p : ReadProgress)
      → ReadAs p (acts_of n cut) → kind_of_job n (own cut) ≡ Reading
      → is_in n (jobs_of (own cut)) ≡ true → (a : ReadAction) → read_next p.core ≡ a
      → (done : Worked) → read_as a p (owner_by_parts bytes client asked here last) ≡ Some done
      → WorkGoes n done
  read_goes last n t p r of among a is done does = by a is does
    where
      idle : (s : Session) (a : ReadAction) → is_over (read_action_as p.piece a) ≡ true
          → through OfBytes s.goods (read_works a p s) ≡ None
      idle s ReadAction.Done over =
          through_none OfBytes s.goods (read_works ReadAction.Done p s) refl
      idle s _ over = absurd (cc)

      there : (a : ReadAction) → read_next p.core ≡ a → (a ≡ ReadAction.Deliver → ⊥)
          → (last : Option Session) → OwnerAs (owner_by_parts bytes client asked here last) cut
          → read_in a last p (owner_by_parts bytes client asked here last) ≡ Some done
          → WorkGoes n done
      there a is other None t does = absurd (nothing does)
      there a is other (Some s) t does =
          at_session ReadProgress SessionJob.Read Reading (read_action_as p.piece a) n s t among of
          (of_reader.does p (acts_of n cut) r is other).table
          (through OfBytes s.goods (read_works a p s)) (idle s a)
          (λ same kind its work e. read_at s t p (subst (λ m. ReadAs p (acts_of m cut)) same r)
          kind its a is work (through_some OfBytes s.goods (read_works a p s) work e).1) done does

      by : (a : ReadAction) → read_next p.core ≡ a
          → read_as a p (owner_by_parts bytes client asked here last) ≡ Some done → WorkGoes n done
      by ReadAction.Deliver is does =
          subst (WorkGoes n) (ap (value_of done) does)
          (wake_goes bytes client asked here last h v n first growth cut t among
          (ap (λ k. next_of_job k (acts_of n cut)) of
          ∙ law_is (read_action_as p.piece) ReadAction.Deliver refl Reading
          (acts_of n cut) p.core r.next r.waking ∙ ap (read_action_as p.piece) is))
      by a is does = there a is (λ e. cc) last t does

  -- any act of a job that writes
  write_goes : (last : Option Session) (n : ℕ)
      → OwnerAs (owner_by_parts bytes client asked here last) cut → (p : WriteProgress)
      → WriteAs p (acts_of n cut) → kind_of_job n (own cut) ≡ Writing
      → is_in n (jobs_of (own cut)) ≡ true → (a : WriteAction) → write_next p.core ≡ a
      → (done : Worked) → write_as a p (owner_by_parts bytes client asked here last) ≡ Some done
      → WorkGoes n done
  write_goes last n t p r of among a is done does = by a is does
    where
      idle : (s : Session) (a : WriteAction) → is_over (write_action_as p.piece a) ≡ true
          → through OfBytes s.goods (write_works a p s) ≡ None
      idle s WriteAction.Done over =
          through_none OfBytes s.goods (write_works WriteAction.Done p s) refl
      idle s _ over = absurd (cc)

      there : (a : WriteAction) → write_next p.core ≡ a → (a ≡ WriteAction.Deliver → ⊥)
          → (last : Option Session) → OwnerAs (owner_by_parts bytes client asked here last) cut
          → write_in a last p (owner_by_parts bytes client asked here last) ≡ Some done
          → WorkGoes n done
      there a is other None t does = absurd (nothing does)
      there a is other (Some s) t does =
          at_session WriteProgress SessionJob.Write Writing (write_action_as p.piece a) n s t among
          of (of_writer.does p (acts_of n cut) r is other).table
          (through OfBytes s.goods (write_works a p s)) (idle s a)
          (λ same kind its work e. write_at s t p (subst (λ m. WriteAs p (acts_of m cut)) same r)
          kind its a is work (through_some OfBytes s.goods (write_works a p s) work e).1) done does

      by : (a : WriteAction) → write_next p.core ≡ a
          → write_as a p (owner_by_parts bytes client asked here last) ≡ Some done → WorkGoes n done
      by WriteAction.Deliver is does =
          subst (WorkGoes n) (ap (value_of done) does)
          (wake_goes bytes client asked here last h v n first growth cut t among
          (ap (λ k. next_of_job k (acts_of n cut)) of
          ∙ law_is (write_action_as p.piece) WriteAction.Deliver refl Writing
          (acts_of n cut) (plain p.core) r.next r.waking ∙ ap (write_action_as p.piece) is))
      by a is does = there a is (λ e. cc) last t does

  -- any act of a job that runs an iterator
  item_goes : (last : Option Session) (n : ℕ)
      → OwnerAs (owner_by_parts bytes client asked here last) cut → (p : ItemProgress)
      → ItemAs p (acts_of n cut) → kind_of_job n (own cut) ≡ Streaming
      → is_in n (jobs_of (own cut)) ≡ true → (a : ItemAction) → item_next p.core ≡ a
      → (done : Worked) → item_as a p (owner_by_parts bytes client asked here last) ≡ Some done
      → WorkGoes n done
  item_goes last n t p r of among a is done does = by a is does
    where
      idle : (s : Session) (a : ItemAction) → is_over (item_action_as p.item a) ≡ true
          → through OfItems s.goods (item_works a p s) ≡ None
      idle s ItemAction.Done over =
          through_none OfItems s.goods (item_works ItemAction.Done p s) refl
      idle s _ over = absurd (cc)

      there : (a : ItemAction) → item_next p.core ≡ a → (a ≡ ItemAction.Deliver → ⊥)
          → (last : Option Session) → OwnerAs (owner_by_parts bytes client asked here last) cut
          → item_in a last p (owner_by_parts bytes client asked here last) ≡ Some done
          → WorkGoes n done
      there a is other None t does = absurd (nothing does)
      there a is other (Some s) t does =
          at_session ItemProgress SessionJob.Items Streaming (item_action_as p.item a) n s t among
          of (of_streamer.does p (acts_of n cut) r is other).table
          (through OfItems s.goods (item_works a p s)) (idle s a)
          (λ same kind its work e. item_at s t p (subst (λ m. ItemAs p (acts_of m cut)) same r)
          kind its a is work
          (through_some OfItems s.goods (item_works a p s) work e).1) done does

      by : (a : ItemAction) → item_next p.core ≡ a
          → item_as a p (owner_by_parts bytes client asked here last) ≡ Some done
          → WorkGoes n done
      by ItemAction.Deliver is does =
          subst (WorkGoes n) (ap (value_of done) does)
          (wake_goes bytes client asked here last h v n first growth cut t among
          (ap (λ k. next_of_job k (acts_of n cut)) of
          ∙ law_is (item_action_as p.item) ItemAction.Deliver refl Streaming
          (acts_of n cut) p.core r.next r.waking ∙ ap (item_action_as p.item) is))
      by a is does = there a is (λ e. cc) last t does

  -- any act of a job that seeks
  seek_goes : (last : Option Session) (n : ℕ)
      → OwnerAs (owner_by_parts bytes client asked here last) cut → (p : SeekProgress)
      → SeekAs p (acts_of n cut) → kind_of_job n (own cut) ≡ Seeking p.goal
      → is_in n (jobs_of (own cut)) ≡ true → (a : SeekAction) → seek_next p.core ≡ a
      → (done : Worked) → seek_as a p (owner_by_parts bytes client asked here last) ≡ Some done
      → WorkGoes n done
  seek_goes last n t p r of among a is done does = by a is does
    where
      idle : (s : Session) (a : SeekAction) → is_over (seek_action_as a) ≡ true
          → seek_works a p s ≡ None
      idle s SeekAction.Done over = refl
      idle s _ over = absurd (cc)

      there : (a : SeekAction) → seek_next p.core ≡ a → (a ≡ SeekAction.Deliver → ⊥)
          → (last : Option Session) → OwnerAs (owner_by_parts bytes client asked here last) cut
          → seek_in a last p (owner_by_parts bytes client asked here last) ≡ Some done
          → WorkGoes n done
      there a is other None t does = absurd (nothing does)
      there a is other (Some s) t does =
          at_session SeekProgress SessionJob.Seek (Seeking p.goal) (seek_action_as a) n s t among of
          (of_seeker.does p (acts_of n cut) r is other).table (seek_works a p s) (idle s a)
          (λ same kind its work e. seek_at s t p (subst (λ m. SeekAs p (acts_of m cut)) same r)
          kind its a is work e) done does

      by : (a : SeekAction) → seek_next p.core ≡ a
          → seek_as a p (owner_by_parts bytes client asked here last) ≡ Some done → WorkGoes n done
      by SeekAction.Deliver is does =
          subst (WorkGoes n) (ap (value_of done) does)
          (wake_goes bytes client asked here last h v n first growth cut t among
          (ap (λ k. next_of_job k (acts_of n cut)) of
          ∙ law_is seek_action_as SeekAction.Deliver refl (Seeking p.goal)
          (acts_of n cut) p.core r.next r.waking ∙ ap seek_action_as is))
      by a is does = there a is (λ e. cc) last t does

  -- any act of a job that runs an operation
  op_goes : (last : Option Session) (n : ℕ)
      → OwnerAs (owner_by_parts bytes client asked here last) cut → (p : OpProgress)
      → OperationAs p (acts_of n cut) → kind_of_job n (own cut) ≡ Operating
      → is_in n (jobs_of (own cut)) ≡ true → (a : OpAction) → op_next p.core ≡ a
      → (done : Worked) → op_as a p (owner_by_parts bytes client asked here last) ≡ Some done
      → WorkGoes n done
  op_goes last n t p r of among a is done does = by a is does
    where
      idle : (s : Session) (a : OpAction) → is_over (op_action_as a) ≡ true
          → op_works a p s ≡ None
      idle s OpAction.Done over = refl
      idle s _ over = absurd (cc)

      there : (a : OpAction) → op_next p.core ≡ a → (a ≡ OpAction.Deliver → ⊥)
          → (last : Option Session) → OwnerAs (owner_by_parts bytes client asked here last) cut
          → op_in a last p (owner_by_parts bytes client asked here last) ≡ Some done
          → WorkGoes n done
      there a is other None t does = absurd (nothing does)
      there a is other (Some s) t does =
          at_session OpProgress SessionJob.Operate Operating (op_action_as a) n s t among of
          (of_operator.does p (acts_of n cut) r is other).table (op_works a p s) (idle s a)
          (λ same kind its work e.
          operator_at s t p (subst (λ m. OperationAs p (acts_of m cut)) same r)
          kind its a is work e) done does

      by : (a : OpAction) → op_next p.core ≡ a
          → op_as a p (owner_by_parts bytes client asked here last) ≡ Some done
          → WorkGoes n done
      by OpAction.Deliver is does =
          subst (WorkGoes n) (ap (value_of done) does)
          (wake_goes bytes client asked here last h v n first growth cut t among
          (ap (λ k. next_of_job k (acts_of n cut)) of
          ∙ law_is op_action_as OpAction.Deliver refl Operating
          (acts_of n cut) p.core r.next r.waking ∙ ap op_action_as is))
      by a is does = there a is (λ e. cc) last t does

  -- its handle answers, at the session
  answered_at : (s : Session) (t : OwnerAs (owner_by_parts bytes client asked here (Some s)) cut)
      (job : SessionJob) (answer : HandleAnswer) → its_kind s (bound bytes) cut t.last ≡ kind_of job
      → is_in s.number.serial (jobs_of (own cut)) ≡ true → JobAs job (acts_of s.number.serial cut)
      → is_answer (action_of job) answer ≡ true
      → Goes (owner_by_parts bytes client asked here (Some s)) cut
      (by_its_job h v s.number.serial (Answered answer) first growth)
  answered_at s t (SessionJob.Read p) answer of among r is =
      answer_goes bytes client asked here s h v first growth cut t p r of among answer is
  answered_at s t (SessionJob.Write p) answer of among r is =
      write_answer_goes bytes client asked here s h v first growth cut t p r of among answer is
  answered_at s t (SessionJob.Items p) answer of among r is =
      item_answer_goes bytes client asked here s h v first growth cut t p r of among answer is
  answered_at s t (SessionJob.Seek p) answer of among r is =
      seek_answer_goes bytes client asked here s h v first growth cut t p r of among answer is
  answered_at s t (SessionJob.Operate p) answer of among r is =
      op_answer_goes bytes client asked here s h v first growth cut t p r of among answer is

  -- any act of its own
  pub works_goes : (last : Option Session) (n : ℕ)
      → OwnerAs (owner_by_parts bytes client asked here last) cut → (job : SessionJob)
      → JobAs job (acts_of n cut) → kind_of_job n (own cut) ≡ kind_of job
      → is_in n (jobs_of (own cut)) ≡ true → (done : Worked)
      → worked job (owner_by_parts bytes client asked here last) ≡ Some done → WorkGoes n done
  works_goes last n t (SessionJob.Read p) r of among done does =
      read_goes last n t p r of among (read_next p.core) refl done does
  works_goes last n t (SessionJob.Write p) r of among done does =
      write_goes last n t p r of among (write_next p.core) refl done does
  works_goes last n t (SessionJob.Items p) r of among done does =
      item_goes last n t p r of among (item_next p.core) refl done does
  works_goes last n t (SessionJob.Seek p) r of among done does =
      seek_goes last n t p r of among (seek_next p.core) refl done does
  works_goes last n t (SessionJob.Operate p) r of among done does =
      op_goes last n t p r of among (op_next p.core) refl done does

-- ---- each step

-- a job with which a session begins is new to its owner
abbrev pub IsNewTo : OwnerStep → List Event → Type 0
IsNewTo (Begins number) cut =
    (is_in number.serial (jobs_of (own cut)) ≡ false) × (acts_of number.serial cut ≡ [])
IsNewTo _ cut = Unit {0}

-- what a step asks of the owner's cut
pub record IsAllowed (step : OwnerStep) (owner : Owner) (n : ℕ) (cut : List Event) : Type 0 where
  pub may : MayTake step owner (kind_of_job n (own cut)) (acts_of n cut)
  pub among : is_of_its_job step ≡ true → is_in n (jobs_of (own cut)) ≡ true
  pub fresh : IsNewTo step cut

begins_by : (a : OwnerAction ℕ) (last : Option Session) → next_by a last ≡ OwnerNext.Begins
    → a ≡ OwnerAction.Begin
begins_by OwnerAction.Begin last e = refl
begins_by (OwnerAction.Reply r) last e = absurd (never (reply_as (last_item last) r) e)
  where
    never : (told : Option Told) → next_to_say told ≡ OwnerNext.Begins → ⊥
    never None e = cc
    never (Some told) e = cc
begins_by _ last e = absurd (cc)

pub begins_at : (bytes client : ℕ)
    (asked : Option HandleCall) (p : OwnerMachine ℕ) (last : Option Session) (cut : List Event)
    → OwnerAs (owner_by_parts bytes client asked (OwnerStage.Polls p) last) cut
    → next_at (OwnerStage.Polls p) last ≡ OwnerNext.Begins → p.next ≡ OwnerAction.Begin
begins_at bytes client asked p last cut t e =
    begins_by p.next last (ap (λ a. next_by a last) (sym (doing p t.stage.1)) ∙ e)

given_up : (bytes client : ℕ) (asked : Option HandleCall) (here : OwnerStage)
    (last : Option Session) (h v n first : ℕ) (growth : Growth) (cut : List Event)
    → OwnerAs (owner_by_parts bytes client asked here last) cut
    → is_in n (jobs_of (own cut)) ≡ true → is_gone here ≡ true
    → is_over (next_but_wake (kind_of_job n (own cut)) (acts_of n cut)) ≡ false
    → Goes (owner_by_parts bytes client asked here (without_job last)) cut
    (by_its_job h v n (GaveUp (waker_in (giving_up_wakes last))) first growth)
given_up bytes client asked here last h v n first growth cut t among gone goes =
    let l = its_last bytes client asked here last n cut t among goes in
    let tied = subst (λ o. OwnerAs (owner_by_parts bytes client asked here o) cut) l.here t in
    let goes_on = subst (λ m. is_over (next_but_wake (kind_of_job m (own cut)) (acts_of m cut))
    ≡ false) l.same goes in
    subst (λ m. Goes (owner_by_parts bytes client asked here (without_job last)) cut
    (by_its_job h v m (GaveUp (waker_in (giving_up_wakes last))) first growth)) (sym l.same)
    (subst (λ o. Goes (owner_by_parts bytes client asked here (without_job o)) cut (by_its_job
    h v l.session.number.serial (GaveUp (waker_in (giving_up_wakes o))) first growth))
    (sym l.here)
    (give_up_goes bytes client asked here l.session h v first growth cut tied
    (subst (λ m. is_in m (jobs_of (own cut)) ≡ true) l.same among)
    (subst (λ k. is_over (next_but_wake k (acts_of l.session.number.serial cut)) ≡ false)
    (kind_is l.session (bound bytes) cut tied.last) goes_on) (t.gone.0 ∙ gone)))

answered : (bytes client : ℕ) (asked : Option HandleCall) (here : OwnerStage)
    (last : Option Session) (h v n first : ℕ) (growth : Growth) (cut : List Event)
    → OwnerAs (owner_by_parts bytes client asked here last) cut
    → (job : SessionJob) (answer : HandleAnswer) → kind_of_job n (own cut) ≡ kind_of job
    → JobAs job (acts_of n cut) → is_answer (action_of job) answer ≡ true
    → is_in n (jobs_of (own cut)) ≡ true
    → Goes (owner_by_parts bytes client asked here last) cut
    (by_its_job h v n (Answered answer) first growth)
answered bytes client asked here last h v n first growth cut t job answer of r is among =
    let l = its_last bytes client asked here last n cut t among (ap (λ k. is_over (next_but_wake k
    (acts_of n cut))) of ∙ asks_on job (acts_of n cut) answer r is) in
    let tied = subst (λ o. OwnerAs (owner_by_parts bytes client asked here o) cut) l.here t in
    subst (λ m. Goes (owner_by_parts bytes client asked here last) cut
    (by_its_job h v m (Answered answer) first growth)) (sym l.same)
    (subst (λ o. Goes (owner_by_parts bytes client asked here o) cut
    (by_its_job h v l.session.number.serial (Answered answer) first growth)) (sym l.here)
    (answered_at bytes client asked here h v first growth cut l.session tied job answer
    (kind_at bytes client asked here h v first growth cut l.session tied (kind_of job)
    (subst (λ m. kind_of_job m (own cut) ≡ kind_of job) l.same of))
    (subst (λ m. is_in m (jobs_of (own cut)) ≡ true) l.same among)
    (subst (λ m. JobAs job (acts_of m cut)) l.same r) is))

module _ (bytes client : ℕ) (asked : Option HandleCall) (last : Option Session) (h v n first : ℕ)
    (growth : Growth) (cut : List Event) (act : Act) where
  step_by : (step : OwnerStep) (here : OwnerStage)
      → OwnerAs (owner_by_parts bytes client asked here last) cut
      → IsAllowed step (owner_by_parts bytes client asked here last) n cut
      → act_of step (owner_by_parts bytes client asked here last) ≡ Some act
      → Goes (owner_after step (owner_by_parts bytes client asked here last)) cut
      (event_by step h v n act first growth)
  step_by (IsAsked call) (OwnerStage.Rests st end) t w seen =
      let still = not (seen_is_into_inner asked) || seen_is_into_inner (Some call) in
      let pends = both_true (may_call_at st call && still)
      (not (is_again call) || (is_pending end && is_operation asked)) w.may in
      let may = both_true (may_call_at st call) still pends.0 in
      subst (λ a. Goes (owner_after (IsAsked call) (owner_by_parts
      bytes client asked (OwnerStage.Rests st end) last)) cut (by_owner h a first growth))
      (ap (value_of act) seen)
      (ask_goes bytes client asked st end last h first growth cut call may.0 may.1 pends.1 t)
  step_by Acts here t w seen = by_did (did (owner_by_parts bytes client asked here last)) refl seen
    where
      by_did : (o : Option Did) → did (owner_by_parts bytes client asked here last) ≡ o
          → act_in o ≡ Some act → Goes (owner_in o (owner_by_parts bytes client asked here last))
          cut (by_owner h act first growth)
      by_did None e seen = absurd (nothing seen)
      by_did (Some done) e seen =
          subst (λ a. Goes done.owner cut (by_owner h a first growth)) (ap (value_of act) seen)
          (own_goes (owner_by_parts bytes client asked here last) h first growth cut done e t)
  step_by (Begins number) (OwnerStage.Polls p) t w seen =
      subst (λ a. Goes (owner_after (Begins number) (owner_by_parts
      bytes client asked (OwnerStage.Polls p) last)) cut (by_owner h a first growth))
      (ap (value_of act) seen)
      (begin_goes bytes client asked p last h first growth cut number
      (begins_at bytes client asked p last cut t w.may) w.fresh.0 w.fresh.1 t)
  step_by (IsRefused why) (OwnerStage.Polls p) t w seen =
      subst (λ a. Goes (owner_after (IsRefused why) (owner_by_parts
      bytes client asked (OwnerStage.Polls p) last)) cut (by_owner h a first growth))
      (ap (value_of act) seen)
      (refuse_goes bytes client asked p last h first growth cut why
      (begins_at bytes client asked p last cut t w.may) t)
  step_by (Delivers woke) (OwnerStage.Wakes p note) t w seen =
      subst (λ a. Goes (owner_after (Delivers woke)
      (owner_by_parts bytes client asked (OwnerStage.Wakes p note) last))
      cut (by_owner h a first growth)) (ap (value_of act) seen)
      (deliver_goes bytes client asked p note last h first growth cut woke t)
  step_by (Delivers woke) _ t w seen = absurd (cc)
  step_by IsDropped (OwnerStage.Rests st end) t w seen =
      subst (λ a. Goes (owner_after IsDropped (owner_by_parts bytes
      client asked (OwnerStage.Rests st end) last)) cut (by_owner h a first growth))
      (ap (value_of act) seen) (drop_goes bytes client asked st end last h first growth cut t)
  step_by (DoesWork p) here t w seen =
      by_work (worked p (owner_by_parts bytes client asked here last)) refl seen
    where
      by_work : (o : Option Worked) → worked p (owner_by_parts bytes client asked here last) ≡ o
          → act_of_work o ≡ Some act
          → Goes (owner_after_work o (owner_by_parts bytes client asked here last)) cut
          (by_its_job h v n act first growth)
      by_work None e seen = absurd (nothing seen)
      by_work (Some done) e seen =
          subst (λ a. Goes done.owner cut (by_its_job h v n a first growth))
          (ap (value_of act) seen)
          (works_goes bytes client asked here h v first growth cut last n t p w.may.1 w.may.0
          (w.among refl) done e)
  step_by (IsAnswered p answer) here t w seen =
      subst (λ a. Goes (owner_by_parts bytes client asked here last) cut
      (by_its_job h v n a first growth)) (ap (value_of act) seen)
      (answered bytes client asked here last h v n first growth cut t p answer w.may.0 w.may.1
      w.may.2 (w.among refl))
  step_by GivesUp here t w seen =
      subst (λ a. Goes (owner_by_parts bytes client asked here (without_job last)) cut
      (by_its_job h v n a first growth)) (ap (value_of act) seen)
      (given_up bytes client asked here last h v n first growth cut t (w.among refl) w.may.0
      w.may.1)
  step_by CallsWaker here t w seen =
      subst (λ a. Goes (owner_by_parts bytes client asked here last) cut
      (by_its_job h v n a first growth)) (ap (value_of act) seen)
      (wake_goes bytes client asked here last h v n first growth cut t (w.among refl) w.may)
  step_by _ (OwnerStage.Wakes p note) t w seen = absurd (let no = w.may in cc)
  step_by _ OwnerStage.Dropped t w seen = absurd (let no = w.may in cc)
  step_by _ OwnerStage.TakenBack t w seen = absurd (let no = w.may in cc)
  step_by _ (OwnerStage.Polls p) t w seen = absurd (let no = w.may in cc)
  step_by _ (OwnerStage.Rests st end) t w seen = absurd (let no = w.may in cc)

-- each step that there may be
pub step_goes : (step : OwnerStep) (owner : Owner) (h v n first : ℕ) (growth : Growth)
    (cut : List Event) (act : Act) → OwnerAs owner cut → IsAllowed step owner n cut
    → act_of step owner ≡ Some act
    → Goes (owner_after step owner) cut (event_by step h v n act first growth)
step_goes step owner h v n first growth cut act t w seen = step_by owner.capacity owner.client
    owner.asked owner.session h v n first growth cut act step owner.stage t w seen

-- and so the whole law of the owner is kept
pub law_of : (new : Owner) (cut : List Event) (e : Event) → Goes new cut e → OwnerLaw cut e
law_of new cut e g = record {
  acts = g.acts;
  ends = g.ends;
  passed = passes new.session (capacity_of new) (e ∷ cut) g.tie.bytes g.tie.last;
}
