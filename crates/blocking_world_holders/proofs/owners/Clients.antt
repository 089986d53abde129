-- An owner stays of its client, whatever step it takes.
use Rattle.std.proofs.Common.{◌≡◌, ℕ, List, ◌∷◌, length, refl, arith, Option, Some, None}
use Rattle.blocking_world_holders.proofs.Types.{HandleCall, ItemAction, OpAction, OwnerAction}
use Rattle.blocking_world_holders.proofs.Types.{OwnerStage, ReadAction, SeekAction, SessionJob}
use Rattle.blocking_world_holders.proofs.Types.{Told, WriteAction}
use Rattle.blocking_world_holders.proofs.Words.{Acts, Begins, CallsWaker, Closed, Delivers, Did}
use Rattle.blocking_world_holders.proofs.Words.{DoesWork, GivesUp, Goods, IsAnswered, IsAsked}
use Rattle.blocking_world_holders.proofs.Words.{IsDropped, IsRefused, ItemProgress, JobNumber, Met}
use Rattle.blocking_world_holders.proofs.Words.{OfBytes, OfItems, OpProgress, Owner, OwnerMachine}
use Rattle.blocking_world_holders.proofs.Words.{OwnerStep, ReadProgress, SeekProgress, Served}
use Rattle.blocking_world_holders.proofs.Words.{Session, Waiting, Work, WriteProgress, awaited_as}
use Rattle.blocking_world_holders.proofs.Words.{close_did, did_by, did_in, drain_did, drained}
use Rattle.blocking_world_holders.proofs.Words.{fill_did, fill_did_in, filled, find_did, if_piped}
use Rattle.blocking_world_holders.proofs.Words.{last_item, item_next, look_did, looked_as, op_as}
use Rattle.blocking_world_holders.proofs.Words.{op_in, op_next, op_works}
use Rattle.blocking_world_holders.proofs.Words.{owner_next, owner_after_step as owner_after}
use Rattle.blocking_world_holders.proofs.Words.{owner_after_work, owner_in_step as owner_in, reach}
use Rattle.blocking_world_holders.proofs.Words.{read_as, read_in, read_next, receive_did, received}
use Rattle.blocking_world_holders.proofs.Words.{reply_as, reply_did, seek_as, seek_in, seek_next}
use Rattle.blocking_world_holders.proofs.Words.{seek_works, session_after_find, session_after_look}
use Rattle.blocking_world_holders.proofs.Words.{item_as, item_in, item_works, through}
use Rattle.blocking_world_holders.proofs.Words.{read_works, worked_by, write_as, write_in}
use Rattle.blocking_world_holders.proofs.Words.{write_next}
use Rattle.blocking_world_holders.proofs.Words.{write_works}
use Rattle.blocking_core.specs.Pipes.{Pipe, empty_pipe}
use Rattle.blocking_world_holders.specs.Owners.{after_ask, after_begin, capacity_asked, did_at}
use Rattle.blocking_world_holders.specs.Owners.{goods_asked}
use Rattle.blocking_world_holders.specs.declared.session.op.Awaited.{Awaited}
use Rattle.blocking_world_holders.specs.declared.session.Looked.{Looked}

-- ---- its poll acts

module _ (poll : OwnerMachine ℕ) (owner : Owner) where
  -- what is done leaves it of its client
  abbrev Stays : Option Did → Type 0
  Stays done = (owner_in done owner).client ≡ owner.client

  through_stays : (wanted there : Goods) (done : Did) → done.owner.client ≡ owner.client
      → Stays (through wanted there (Some done))
  through_stays wanted there done is = grind arith

  piped_stays : (there : Goods) (done : Did) → done.owner.client ≡ owner.client
      → Stays (if_piped there (Some done))
  piped_stays there done is = grind arith

  drain_stays : (found : Met (List ℕ × Option JobNumber)) (s : Session)
      → (drain_did found poll s owner).owner.client ≡ owner.client
  drain_stays (Served got) s = refl
  drain_stays Waiting s = refl
  drain_stays Closed s = refl

  receive_stays : (found : Met (ℕ × Option JobNumber)) (s : Session)
      → (receive_did found poll s owner).owner.client ≡ owner.client
  receive_stays (Served got) s = refl
  receive_stays Waiting s = refl
  receive_stays Closed s = refl

  fill_stays : (bytes : List ℕ) (found : Met (ℕ × Option JobNumber)) (s : Session)
      → (fill_did bytes found poll s owner).owner.client ≡ owner.client
  fill_stays bytes (Served went) s = refl
  fill_stays bytes Waiting s = refl
  fill_stays bytes Closed s = refl

  fills_stay : (asked : Option HandleCall) (session : Option Session)
      → Stays (fill_did_in poll asked session owner)
  fills_stay (Some (HandleCall.Write (byte ∷ bytes))) (Some s) =
      let found = filled (length (byte ∷ bytes)) s in
      through_stays OfBytes s.goods (fill_did (byte ∷ bytes) found poll s owner)
      (fill_stays (byte ∷ bytes) found s)
  fills_stay _ _ = refl

  look_stays : (found : Looked) (s : Session) → Stays (look_did found poll s owner)
  look_stays (Looked.Handle why) s = refl
  look_stays Looked.Nothing s = refl
  look_stays Looked.Gone s = refl

  find_stays : (found : Awaited) (s : Session) → Stays (find_did found poll s owner)
  find_stays (Awaited.Result n) s = refl
  find_stays Awaited.Nothing s = refl
  find_stays Awaited.Gone s = refl

  reply_stays : (told : Option Told) → Stays (reply_did told poll owner)
  reply_stays None = refl
  reply_stays (Some told) = refl

  at_stays : (doing : OwnerAction ℕ) (s : Session) → Stays (did_at doing poll s owner)
  at_stays OwnerAction.Close s = piped_stays s.goods (close_did poll s owner) refl
  at_stays (OwnerAction.Drain most) s = through_stays OfBytes s.goods
      (drain_did (drained (reach most s) s) poll s owner) (drain_stays (drained (reach most s) s) s)
  at_stays OwnerAction.Receive s = through_stays OfItems s.goods
      (receive_did (received s) poll s owner) (receive_stays (received s) s)
  at_stays OwnerAction.PollSlot s =
      look_stays (looked_as s.slot.content) (session_after_look s.slot.content s)
  at_stays OwnerAction.PollResult s =
      find_stays (awaited_as s.result.content) (session_after_find s.result.content s)
  at_stays _ s = refl

  in_stays : (doing : OwnerAction ℕ) (session : Option Session)
      → Stays (did_in doing poll session owner)
  in_stays (OwnerAction.Reply reply) session = reply_stays (reply_as (last_item session) reply)
  in_stays (OwnerAction.Fill most) session = fills_stay owner.asked session
  in_stays OwnerAction.DropHandle session = refl
  in_stays OwnerAction.Close (Some s) = at_stays OwnerAction.Close s
  in_stays (OwnerAction.Drain most) (Some s) = at_stays (OwnerAction.Drain most) s
  in_stays OwnerAction.Receive (Some s) = at_stays OwnerAction.Receive s
  in_stays OwnerAction.PollSlot (Some s) = at_stays OwnerAction.PollSlot s
  in_stays OwnerAction.PollResult (Some s) = at_stays OwnerAction.PollResult s
  in_stays _ None = refl
  in_stays _ (Some s) = refl

acts_stay : (here : OwnerStage) (owner : Owner)
    → (owner_in (did_by here owner) owner).client ≡ owner.client
acts_stay (OwnerStage.Polls poll) owner = in_stays poll owner (owner_next poll) owner.session
acts_stay _ owner = refl

-- ---- its job acts

module _ (owner : Owner) where
  work_stays : {J : Type 0} (job_of : J → SessionJob) (work : Option (Work J))
      → (owner_after_work (worked_by job_of work owner) owner).client ≡ owner.client
  work_stays job_of None = refl
  work_stays job_of (Some work) = refl

  read_stays : (next : ReadAction) (job : ReadProgress) (session : Option Session)
      → (owner_after_work (read_in next session job owner) owner).client ≡ owner.client
  read_stays next job None = refl
  read_stays next job (Some s) =
      work_stays SessionJob.Read (through OfBytes s.goods (read_works next job s))

  write_stays : (next : WriteAction) (job : WriteProgress) (session : Option Session)
      → (owner_after_work (write_in next session job owner) owner).client ≡ owner.client
  write_stays next job None = refl
  write_stays next job (Some s) =
      work_stays SessionJob.Write (through OfBytes s.goods (write_works next job s))

  item_stays : (next : ItemAction) (job : ItemProgress) (session : Option Session)
      → (owner_after_work (item_in next session job owner) owner).client ≡ owner.client
  item_stays next job None = refl
  item_stays next job (Some s) =
      work_stays SessionJob.Items (through OfItems s.goods (item_works next job s))

  seek_stays : (next : SeekAction) (job : SeekProgress) (session : Option Session)
      → (owner_after_work (seek_in next session job owner) owner).client ≡ owner.client
  seek_stays next job None = refl
  seek_stays next job (Some s) = work_stays SessionJob.Seek (seek_works next job s)

  op_stays : (next : OpAction) (job : OpProgress) (session : Option Session)
      → (owner_after_work (op_in next session job owner) owner).client ≡ owner.client
  op_stays next job None = refl
  op_stays next job (Some s) = work_stays SessionJob.Operate (op_works next job s)

  reads_stay : (next : ReadAction) (job : ReadProgress)
      → (owner_after_work (read_as next job owner) owner).client ≡ owner.client
  reads_stay ReadAction.Deliver job = refl
  reads_stay next job = read_stays next job owner.session

  writes_stay : (next : WriteAction) (job : WriteProgress)
      → (owner_after_work (write_as next job owner) owner).client ≡ owner.client
  writes_stay WriteAction.Deliver job = refl
  writes_stay next job = write_stays next job owner.session

  items_stay : (next : ItemAction) (job : ItemProgress)
      → (owner_after_work (item_as next job owner) owner).client ≡ owner.client
  items_stay ItemAction.Deliver job = refl
  items_stay next job = item_stays next job owner.session

  seeks_stay : (next : SeekAction) (job : SeekProgress)
      → (owner_after_work (seek_as next job owner) owner).client ≡ owner.client
  seeks_stay SeekAction.Deliver job = refl
  seeks_stay next job = seek_stays next job owner.session

  ops_stay : (next : OpAction) (job : OpProgress)
      → (owner_after_work (op_as next job owner) owner).client ≡ owner.client
  ops_stay OpAction.Deliver job = refl
  ops_stay next job = op_stays next job owner.session

-- ---- any step

ask_stays : (call : HandleCall) (here : OwnerStage) (owner : Owner)
    → (after_ask call here owner).client ≡ owner.client
ask_stays call (OwnerStage.Rests at end) owner = refl
ask_stays call _ owner = refl

begin_stays : (number : JobNumber) (goods : Goods) (pipe : Pipe ℕ (Unit {0})) (here : OwnerStage)
    (owner : Owner) → (after_begin number goods pipe here owner).client ≡ owner.client
begin_stays number goods pipe (OwnerStage.Polls poll) owner = refl
begin_stays number goods pipe _ owner = refl

pub steady : (step : OwnerStep) (owner : Owner) → (owner_after step owner).client ≡ owner.client
steady (IsAsked call) owner = ask_stays call owner.stage owner
steady Acts owner = acts_stay owner.stage owner
steady (Begins number) owner =
    begin_stays number (goods_asked owner) (empty_pipe (capacity_asked owner)) owner.stage owner
steady (DoesWork (SessionJob.Read job)) owner = reads_stay owner (read_next job.core) job
steady (DoesWork (SessionJob.Write job)) owner = writes_stay owner (write_next job.core) job
steady (DoesWork (SessionJob.Items job)) owner = items_stay owner (item_next job.core) job
steady (DoesWork (SessionJob.Seek job)) owner = seeks_stay owner (seek_next job.core) job
steady (DoesWork (SessionJob.Operate job)) owner = ops_stay owner (op_next job.core) job
steady _ owner = refl
