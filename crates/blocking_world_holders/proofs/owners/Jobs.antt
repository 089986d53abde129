-- How far a job is after what it does next by itself: it meets its owner, or calls the waker that
-- it took.
use Rattle.std.proofs.Common.{◌≡◌, ◌<◌, ◌≤◌, ℕ, zero, suc, List, [], ◌∷◌, length, Bool, true, false}
use Rattle.std.proofs.Common.{refl, sym, ap, ◌∙◌, subst, arith, Option, Some, None, if◌then◌else◌}
use Rattle.std.proofs.Common.{nat_le, min, take, is_some, length-take}
use Rattle.blocking_world_holders.proofs.Types.{ItemAction, ItemAnswer, OpAction, OpAnswer}
use Rattle.blocking_world_holders.proofs.Types.{ReadAction, ReadAnswer, SeekAction, SeekAnswer}
use Rattle.blocking_world_holders.proofs.Types.{WriteAction, WriteAnswer, Act, Drained, Finished}
use Rattle.blocking_world_holders.proofs.Types.{JobClosed, JobParked, Lost, Put, ResultPut}
use Rattle.blocking_world_holders.proofs.Types.{RoomFree, RoomShut, TakenOut, SessionJob}
use Rattle.blocking_world_holders.proofs.Words.{item_next, op_next, room, Closed, Met}
use Rattle.blocking_world_holders.proofs.Words.{Served, Waiting, hand_in, read_next, seek_next}
use Rattle.blocking_world_holders.proofs.Words.{write_next, is_taken, piece, waker_in, OperationAs}
use Rattle.blocking_world_holders.proofs.Words.{OpProgress, Owner, Worked, op_as, op_in}
use Rattle.blocking_world_holders.proofs.Words.{read_as, read_in, seek_as, seek_in, item_as}
use Rattle.blocking_world_holders.proofs.Words.{item_in, worked, worked_by, write_as, write_in}
use Rattle.blocking_world_holders.proofs.Words.{OfBytes, OfItems, through, ReadProgress, ReadAs}
use Rattle.blocking_world_holders.proofs.Words.{SeekProgress, SeekAs, JobAs, Session, Work}
use Rattle.blocking_world_holders.proofs.Words.{closing_wakes, finish_wakes, fits_in, found_piece}
use Rattle.blocking_world_holders.proofs.Words.{found_put, found_room, found_send, holds}
use Rattle.blocking_world_holders.proofs.Words.{op_works, result_wakes, seek_works}
use Rattle.blocking_world_holders.proofs.Words.{item_closes, item_finishes, item_works}
use Rattle.blocking_world_holders.proofs.Words.{write_at_peek, read_at_put, read_at_room}
use Rattle.blocking_world_holders.proofs.Words.{item_at_send, read_works, read_closes}
use Rattle.blocking_world_holders.proofs.Words.{write_consumes, read_finishes, write_closes}
use Rattle.blocking_world_holders.proofs.Words.{write_finishes, write_works, ItemAs, ItemProgress}
use Rattle.blocking_world_holders.proofs.Words.{WriteProgress, WriteAs, write_fault_of}
use Rattle.blocking_world_holders.proofs.owners.Goods.{through_some}
use Rattle.blocking_world_holders.proofs.owners.Polls.{moved}
use Rattle.blocking_world_holders.proofs.owners.ReadSessions.{some_room}
use Rattle.blocking_world_holders.proofs.owners.WriteSessions.{some_piece}
use Rattle.blocking_world_holders.proofs.owners.ReadJobs as of_reader
use Rattle.blocking_world_holders.proofs.owners.ItemJobs as of_streamer
use Rattle.blocking_world_holders.proofs.owners.WriteJobs as of_writer
use Rattle.blocking_world_holders.proofs.owners.SeekJobs as of_seeker
use Rattle.blocking_world_holders.proofs.owners.OpJobs as of_operator

-- what a job takes of wakers is what is seen
taken_is : (b : Bool) → b ≡ is_taken (waker_in b)
taken_is b = grind arith

-- what fits needn't wait
pub no_wait : {W : Type 0} (n free : ℕ) (lasts : Bool) (seat : Option W) → nat_le n free ≡ true
    → hand_in n free lasts seat ≡ Waiting → ⊥
no_wait n free false seat fits e = cc
no_wait n free true seat fits e = let served = ap (λ b. if b then Served seat else Waiting) fits in
    cc

-- of something some first bytes are something, and no more than so many
nothing_first : (n : ℕ) (items : List ℕ) → 0 < n → take n items ≡ [] → items ≡ []
nothing_first n [] some e = refl
nothing_first zero (x ∷ xs) some e = absurd (omega arith)
nothing_first (suc n) (x ∷ xs) some e = absurd (cc)

no_more_than : (n : ℕ) (items : List ℕ) → length (take n items) ≤ n
no_more_than n items = let many = length-take n items in omega (arith, many)

-- ---- a job that reads, at its session

module _ (p : ReadProgress) (acts : List Act) (s : Session) (r : ReadAs p acts) where
  abbrev ReadOn : Work ReadProgress → Type 0
  ReadOn work = ReadAs work.job (work.act ∷ acts)

  room_on : read_next p.core ≡ ReadAction.FindRoom → (met : Met ℕ) → found_room s ≡ met
      → ReadOn (read_at_room met p s)
  room_on is (Served zero) found =
      absurd (let some = (some_room (room s.pipe) 0 s.pipe.is_owner_open found).1 in omega arith)
  room_on is (Served (suc n)) found =
      of_reader.meets p acts (ReadAction.Read (min (suc n) 65536)) false (ReadAnswer.Free (suc n))
      (RoomFree (suc n)) (of_reader.does p acts r is (λ e. cc)) refl refl refl r.fault_is
  room_on is Waiting found =
      let d = of_reader.does p acts r is (λ e. cc) in
      of_reader.meets p acts ReadAction.FindRoom false ReadAnswer.Parked JobParked d refl
      (sym d.table) refl r.fault_is
  room_on is Closed found =
      of_reader.meets p acts ReadAction.Close false ReadAnswer.Shut RoomShut
      (of_reader.does p acts r is (λ e. cc)) refl refl refl r.fault_is

  put_on : (count : ℕ) → read_next p.core ≡ ReadAction.Put count → fits_in p.piece s ≡ true
      → (met : Met (Option (Unit {0}))) → found_put p.piece s ≡ met → ReadOn (read_at_put met p s)
  put_on count is fits Waiting found = absurd
      (no_wait (length p.piece) (room s.pipe) s.pipe.is_owner_open s.pipe.owner_seat fits found)
  put_on count is fits (Served seat) found =
      let woke = is_some seat in
      of_reader.meets p acts ReadAction.FindRoom woke (ReadAnswer.Put woke)
      (Put (length p.piece) (waker_in woke)) (of_reader.does p acts r is (λ e. cc)) refl refl
      (taken_is woke) r.fault_is
  put_on count is fits Closed found =
      of_reader.meets p acts ReadAction.Close false ReadAnswer.Lost (Lost (length p.piece))
      (of_reader.does p acts r is (λ e. cc)) refl refl refl r.fault_is

  -- what it does next there
  reads_on : (a : ReadAction) → read_next p.core ≡ a → (work : Work ReadProgress)
      → read_works a p s ≡ Some work → ReadOn work
  reads_on ReadAction.FindRoom is work does =
      moved ReadOn (read_at_room (found_room s) p s) work does (room_on is (found_room s) refl)
  reads_on (ReadAction.Put count) is work does = by_fit (fits_in p.piece s) refl does
    where
      by_fit : (b : Bool) → fits_in p.piece s ≡ b
          → (if b then Some (read_at_put (found_put p.piece s) p s) else None) ≡ Some work
          → ReadOn work
      by_fit true fits does = moved ReadOn (read_at_put (found_put p.piece s) p s) work does
          (put_on count is fits (found_put p.piece s) refl)
      by_fit false fits does = absurd (cc)
  reads_on ReadAction.Close is work does =
      let woke = closing_wakes s in
      moved ReadOn (read_closes p s) work does (of_reader.meets p acts
      ReadAction.Finish woke (ReadAnswer.Closed woke) (JobClosed (waker_in woke))
      (of_reader.does p acts r is (λ e. cc)) refl refl (taken_is woke) r.fault_is)
  reads_on ReadAction.Finish is work does =
      let woke = finish_wakes p.fault s in
      moved ReadOn (read_finishes p s) work does (of_reader.meets p acts
      ReadAction.Done woke (ReadAnswer.Finished woke) (Finished (waker_in woke))
      (of_reader.does p acts r is (λ e. cc)) refl refl (taken_is woke) r.fault_is)
  reads_on _ is work does = absurd (cc)

-- ---- a job that writes, at its session

module _ (p : WriteProgress) (acts : List Act) (s : Session) (r : WriteAs p acts) where
  abbrev WriteOn : Work WriteProgress → Type 0
  WriteOn work = WriteAs work.job (work.act ∷ acts)

  peek_on : write_next p.core ≡ WriteAction.Peek → (met : Met (List ℕ)) → found_piece s ≡ met
      → WriteOn (write_at_peek met p s)
  peek_on is (Served found) shows =
      let some = some_piece piece s.pipe.items s.pipe.is_owner_open found shows in
      of_writer.meets_piece p acts found r is
      (λ none. some.1 (nothing_first piece s.pipe.items (omega arith) (sym some.0 ∙ none)))
      (subst (λ l. length l ≤ piece) (sym some.0) (no_more_than piece s.pipe.items))
  peek_on is Waiting shows =
      let d = of_writer.does p acts r is (λ e. cc) in
      of_writer.meets p acts WriteAction.Peek false WriteAnswer.Parked JobParked d refl
      (sym d.table) tt refl (of_writer.kept p acts r)
  peek_on is Closed shows =
      of_writer.meets p acts WriteAction.Flush false WriteAnswer.Drained Drained
      (of_writer.does p acts r is (λ e. cc)) refl refl tt refl (of_writer.kept p acts r)

  -- what it does next there
  writes_on : (a : WriteAction) → write_next p.core ≡ a → (work : Work WriteProgress)
      → write_works a p s ≡ Some work → WriteOn work
  writes_on WriteAction.Peek is work does =
      moved WriteOn (write_at_peek (found_piece s) p s) work does (peek_on is (found_piece s) refl)
  writes_on (WriteAction.Consume count) is work does = by_hold (holds count s) does
    where
      by_hold : (b : Bool) → (if b then Some (write_consumes count p s) else None) ≡ Some work
          → WriteOn work
      by_hold true does =
          let woke = closing_wakes s in
          moved WriteOn (write_consumes count p s)
          work does (of_writer.meets p acts WriteAction.Peek woke (WriteAnswer.Consumed woke)
          (TakenOut count (waker_in woke)) (of_writer.does p acts r is (λ e. cc)) refl refl tt
          (taken_is woke) (of_writer.kept p acts r))
      by_hold false does = absurd (cc)
  writes_on WriteAction.Close is work does =
      let woke = closing_wakes s in
      moved WriteOn (write_closes p s) work does (of_writer.meets p acts
      WriteAction.Finish woke (WriteAnswer.Closed woke) (JobClosed (waker_in woke))
      (of_writer.does p acts r is (λ e. cc)) refl refl tt (taken_is woke)
      (of_writer.kept p acts r))
  writes_on WriteAction.Finish is work does =
      let woke = finish_wakes (write_fault_of p.core) s in
      moved WriteOn (write_finishes p s) work does (of_writer.meets p acts
      WriteAction.Done woke (WriteAnswer.Finished woke) (Finished (waker_in woke))
      (of_writer.does p acts r is (λ e. cc)) refl refl tt (taken_is woke)
      (of_writer.kept p acts r))
  writes_on _ is work does = absurd (cc)

-- ---- a job that runs an iterator, at its session

module _ (p : ItemProgress) (acts : List Act) (s : Session) (r : ItemAs p acts) where
  abbrev ItemOn : Work ItemProgress → Type 0
  ItemOn work = ItemAs work.job (work.act ∷ acts)

  send_on : item_next p.core ≡ ItemAction.Send → (met : Met (Option (Unit {0})))
      → found_send s ≡ met → ItemOn (item_at_send met p s)
  send_on is (Served seat) found =
      let woke = is_some seat in
      of_streamer.meets p acts ItemAction.Next woke (ItemAnswer.Sent woke) (Put 1 (waker_in woke))
      (of_streamer.does p acts r is (λ e. cc)) refl refl (taken_is woke) r.fault_is
  send_on is Waiting found =
      let d = of_streamer.does p acts r is (λ e. cc) in
      of_streamer.meets p acts ItemAction.Send false ItemAnswer.Parked JobParked d refl
      (sym d.table) refl r.fault_is
  send_on is Closed found =
      of_streamer.meets p acts ItemAction.Close false ItemAnswer.Shut (Lost 1)
      (of_streamer.does p acts r is (λ e. cc)) refl refl refl r.fault_is

  -- what it does next there
  items_on : (a : ItemAction) → item_next p.core ≡ a → (work : Work ItemProgress)
      → item_works a p s ≡ Some work → ItemOn work
  items_on ItemAction.Send is work does =
      moved ItemOn (item_at_send (found_send s) p s) work does (send_on is (found_send s) refl)
  items_on ItemAction.Close is work does =
      let woke = closing_wakes s in
      moved ItemOn (item_closes p s) work does (of_streamer.meets p acts
      ItemAction.Finish woke (ItemAnswer.Closed woke) (JobClosed (waker_in woke))
      (of_streamer.does p acts r is (λ e. cc)) refl refl (taken_is woke) r.fault_is)
  items_on ItemAction.Finish is work does =
      let woke = finish_wakes None s in
      moved ItemOn (item_finishes p s) work does (of_streamer.meets p acts
      ItemAction.Done woke (ItemAnswer.Finished woke) (Finished (waker_in woke))
      (of_streamer.does p acts r is (λ e. cc)) refl refl (taken_is woke) r.fault_is)
  items_on _ is work does = absurd (cc)

-- ---- a job that seeks, at its session

-- what it does next there
seeks_on : (p : SeekProgress) (acts : List Act) (s : Session) → SeekAs p acts → (a : SeekAction)
    → seek_next p.core ≡ a → (work : Work SeekProgress) → seek_works a p s ≡ Some work
    → SeekAs work.job (work.act ∷ acts)
seeks_on p acts s r SeekAction.Finish is work does =
    let woke = finish_wakes p.fault s in
    moved (λ (w : Work SeekProgress). SeekAs w.job (w.act ∷ acts)) _ work does
    (of_seeker.meets p acts SeekAction.Done woke (SeekAnswer.Finished woke)
    (Finished (waker_in woke)) (of_seeker.does p acts r is (λ e. cc)) refl refl (taken_is woke)
    r.fault_is r.place_is)
seeks_on p acts s r _ is work does = absurd (cc)

-- ---- a job that runs an operation, at its session

-- what it does next there
operates_on : (p : OpProgress) (acts : List Act) (s : Session) → OperationAs p acts → (a : OpAction)
    → op_next p.core ≡ a → (work : Work OpProgress) → op_works a p s ≡ Some work
    → OperationAs work.job (work.act ∷ acts)
operates_on p acts s r OpAction.PutResult is work does =
    let woke = result_wakes p.number s in
    moved (λ (w : Work OpProgress). OperationAs w.job (w.act ∷ acts)) _ work does
    (of_operator.meets p acts OpAction.Finish woke (OpAnswer.ResultPut woke)
    (ResultPut (waker_in woke)) (of_operator.does p acts r is (λ e. cc)) refl refl (taken_is woke)
    r.fault_is r.number_is)
operates_on p acts s r OpAction.Finish is work does =
    let woke = finish_wakes None s in
    moved (λ (w : Work OpProgress). OperationAs w.job (w.act ∷ acts)) _ work does
    (of_operator.meets p acts OpAction.Done woke (OpAnswer.Finished woke)
    (Finished (waker_in woke)) (of_operator.does p acts r is (λ e. cc)) refl refl (taken_is woke)
    r.fault_is r.number_is)
operates_on p acts s r _ is work does = absurd (cc)

-- ---- a job of an owner

-- how far a job is that had done this before
abbrev IsAt : List Act → Worked → Type 0
IsAt acts done = JobAs done.job (done.act ∷ acts)

-- what an act at a session leaves of a job, if there is one
at_work : (J : Type 0) (of : J → SessionJob) (acts : List Act) (owner : Owner) (o : Option (Work J))
    → ((work : Work J) → o ≡ Some work → JobAs (of work.job) (work.act ∷ acts))
    → (done : Worked) → worked_by of o owner ≡ Some done → IsAt acts done
at_work J of acts owner None so done does = absurd (cc)
at_work J of acts owner (Some work) so done does =
    moved (IsAt acts) _ done does (so work refl)

read_goes : (p : ReadProgress) (acts : List Act) (last : Option Session) (owner : Owner)
    → ReadAs p acts → (a : ReadAction) → read_next p.core ≡ a
    → (done : Worked) → read_in a last p owner ≡ Some done → IsAt acts done
read_goes p acts None owner r a is done does = absurd (cc)
read_goes p acts (Some s) owner r a is done does = at_work ReadProgress SessionJob.Read
    acts owner (through OfBytes s.goods (read_works a p s)) (λ work e. reads_on p acts s r a is work
    (through_some OfBytes s.goods (read_works a p s) work e).1) done does

write_goes : (p : WriteProgress) (acts : List Act) (last : Option Session) (owner : Owner)
    → WriteAs p acts → (a : WriteAction) → write_next p.core ≡ a
    → (done : Worked) → write_in a last p owner ≡ Some done → IsAt acts done
write_goes p acts None owner r a is done does = absurd (cc)
write_goes p acts (Some s) owner r a is done does = at_work WriteProgress SessionJob.Write acts
    owner (through OfBytes s.goods (write_works a p s)) (λ work e. writes_on p acts s r a is work
    (through_some OfBytes s.goods (write_works a p s) work e).1) done does

item_goes : (p : ItemProgress) (acts : List Act) (last : Option Session) (owner : Owner)
    → ItemAs p acts → (a : ItemAction) → item_next p.core ≡ a
    → (done : Worked) → item_in a last p owner ≡ Some done → IsAt acts done
item_goes p acts None owner r a is done does = absurd (cc)
item_goes p acts (Some s) owner r a is done does =
    at_work ItemProgress SessionJob.Items acts owner
    (through OfItems s.goods (item_works a p s)) (λ work e. items_on p acts s r a is work
    (through_some OfItems s.goods (item_works a p s) work e).1) done does

seek_goes : (p : SeekProgress) (acts : List Act) (last : Option Session) (owner : Owner)
    → SeekAs p acts → (a : SeekAction) → seek_next p.core ≡ a
    → (done : Worked) → seek_in a last p owner ≡ Some done → IsAt acts done
seek_goes p acts None owner r a is done does = absurd (cc)
seek_goes p acts (Some s) owner r a is done does = at_work SeekProgress SessionJob.Seek acts owner
    (seek_works a p s) (λ work e. seeks_on p acts s r a is work e) done does

op_goes : (p : OpProgress) (acts : List Act) (last : Option Session) (owner : Owner)
    → OperationAs p acts → (a : OpAction) → op_next p.core ≡ a
    → (done : Worked) → op_in a last p owner ≡ Some done → IsAt acts done
op_goes p acts None owner r a is done does = absurd (cc)
op_goes p acts (Some s) owner r a is done does = at_work OpProgress SessionJob.Operate acts
    owner (op_works a p s) (λ work e. operates_on p acts s r a is work e) done does

-- how far it is after what it does next by itself
pub worked_on : (p : SessionJob) (acts : List Act) (owner : Owner) (done : Worked) → JobAs p acts
    → worked p owner ≡ Some done → JobAs done.job (done.act ∷ acts)
worked_on (SessionJob.Read p) acts owner done r does = by (read_next p.core) refl does
  where
    by : (a : ReadAction) → read_next p.core ≡ a → read_as a p owner ≡ Some done → IsAt acts done
    by ReadAction.Deliver is does = moved (IsAt acts) _ done does (of_reader.wakes p acts r is)
    by a is does = read_goes p acts owner.session owner r a is done does
worked_on (SessionJob.Write p) acts owner done r does = by (write_next p.core) refl does
  where
    by : (a : WriteAction) → write_next p.core ≡ a → write_as a p owner ≡ Some done → IsAt acts done
    by WriteAction.Deliver is does = moved (IsAt acts) _ done does (of_writer.wakes p acts r is)
    by a is does = write_goes p acts owner.session owner r a is done does
worked_on (SessionJob.Items p) acts owner done r does = by (item_next p.core) refl does
  where
    by : (a : ItemAction) → item_next p.core ≡ a → item_as a p owner ≡ Some done → IsAt acts done
    by ItemAction.Deliver is does = moved (IsAt acts) _ done does (of_streamer.wakes p acts r is)
    by a is does = item_goes p acts owner.session owner r a is done does
worked_on (SessionJob.Seek p) acts owner done r does = by (seek_next p.core) refl does
  where
    by : (a : SeekAction) → seek_next p.core ≡ a → seek_as a p owner ≡ Some done → IsAt acts done
    by SeekAction.Deliver is does = moved (IsAt acts) _ done does (of_seeker.wakes p acts r is)
    by a is does = seek_goes p acts owner.session owner r a is done does
worked_on (SessionJob.Operate p) acts owner done r does = by (op_next p.core) refl does
  where
    by : (a : OpAction) → op_next p.core ≡ a → op_as a p owner ≡ Some done
        → IsAt acts done
    by OpAction.Deliver is does = moved (IsAt acts) _ done does (of_operator.wakes p acts r is)
    by a is does = op_goes p acts owner.session owner r a is done does
