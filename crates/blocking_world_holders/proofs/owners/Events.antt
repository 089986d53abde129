-- What is seen of the steps of owners: acts that no pool decides, and a new job only where a
-- session begins.
use Rattle.std.proofs.Common.{◌≡◌, ℕ, List, [], ◌∷◌, length, Bool, true, false, refl, Option, Some}
use Rattle.std.proofs.Common.{None, if◌then◌else◌}
use Rattle.blocking_world_holders.proofs.Types.{Fault, ItemAction, OpAction, ReadAction, SeekAction}
use Rattle.blocking_world_holders.proofs.Types.{WriteAction, OwnerAction, Act, Told, HandleCall}
use Rattle.blocking_world_holders.proofs.Types.{SessionJob, OwnerStage}
use Rattle.blocking_world_holders.proofs.Words.{item_next, op_next, OwnerMachine, owner_next}
use Rattle.blocking_world_holders.proofs.Words.{Met, Served, read_next, seek_next, Abandoned}
use Rattle.blocking_world_holders.proofs.Words.{Content, GivenUp, write_next, JobNumber}
use Rattle.blocking_world_holders.proofs.Words.{accepted_by, seen_peek, seen_put, seen_room}
use Rattle.blocking_world_holders.proofs.Words.{is_nothing, is_of_pool, is_making, OpProgress, Acts}
use Rattle.blocking_world_holders.proofs.Words.{Begins, Delivers, OwnerStep, DoesWork as Works}
use Rattle.blocking_world_holders.proofs.Words.{act_in, act_of, act_of_work, delivered, Did, Owner}
use Rattle.blocking_world_holders.proofs.Words.{Worked, awaited_as, did, did_by, did_in, drain_did}
use Rattle.blocking_world_holders.proofs.Words.{fill_did, fill_did_in, find_did, last_item}
use Rattle.blocking_world_holders.proofs.Words.{look_did}
use Rattle.blocking_world_holders.proofs.Words.{looked_as, note_at, op_as, op_in, read_as}
use Rattle.blocking_world_holders.proofs.Words.{read_in, receive_did, reply_as, reply_did, seek_as}
use Rattle.blocking_world_holders.proofs.Words.{seek_in, item_as, item_in, worked, worked_by}
use Rattle.blocking_world_holders.proofs.Words.{write_as, write_in, OfBytes, OfItems, through}
use Rattle.blocking_world_holders.proofs.Words.{ReadProgress, SeekProgress, Session, Work, drained}
use Rattle.blocking_world_holders.proofs.Words.{filled, fits_in, found_piece, found_put, found_room}
use Rattle.blocking_world_holders.proofs.Words.{found_send, holds, reach, received}
use Rattle.blocking_world_holders.proofs.Words.{session_after_find, session_after_look}
use Rattle.blocking_world_holders.proofs.Words.{item_works, read_at_put, read_works}
use Rattle.blocking_world_holders.proofs.Words.{write_consumes, write_works, ItemProgress}
use Rattle.blocking_world_holders.proofs.Words.{WriteProgress}
use Rattle.blocking_world_holders.proofs.owners.Goods.{piped_some, through_some}
use Rattle.blocking_world_holders.proofs.owners.Polls.{moved}

-- Such an act is seen, and accepts these jobs.
pub record IsPlain (jobs : List ℕ) (act : Act) : Type 0 where
  pub pool : is_of_pool act ≡ false
  pub nothing : is_nothing act ≡ false
  pub made : is_making act ≡ false
  pub new : accepted_by act ≡ jobs

-- and so is what an owner did, or its job, which brings no new one
abbrev PlainDid : Did → Type 0
PlainDid done = IsPlain [] done.act

abbrev PlainWork : {J : Type 0} → Work J → Type 0
PlainWork work = IsPlain [] work.act

abbrev PlainWorked : Worked → Type 0
PlainWorked done = IsPlain [] done.act

-- the job that a step brings
abbrev pub brought : OwnerStep → List ℕ
brought (Begins number) = number.serial ∷ []
brought _ = []

plain_drain : (met : Met (List ℕ × Option JobNumber)) (p : OwnerMachine ℕ) (s : Session)
    (owner : Owner) → IsPlain [] (drain_did met p s owner).act
plain_drain (Served got) p s owner = assumption
plain_drain _ p s owner = assumption

plain_receive : (met : Met (ℕ × Option JobNumber)) (p : OwnerMachine ℕ) (s : Session)
    (owner : Owner) → IsPlain [] (receive_did met p s owner).act
plain_receive (Served got) p s owner = assumption
plain_receive _ p s owner = assumption

plain_fill : (bytes : List ℕ) (met : Met (ℕ × Option JobNumber)) (p : OwnerMachine ℕ) (s : Session)
    (owner : Owner) → IsPlain [] (fill_did bytes met p s owner).act
plain_fill bytes (Served went) p s owner = assumption
plain_fill bytes _ p s owner = assumption

plain_fills : (p : OwnerMachine ℕ) (asked : Option HandleCall) (last : Option Session)
    (owner : Owner) (done : Did) → fill_did_in p asked last owner ≡ Some done → IsPlain [] done.act
plain_fills p (Some (HandleCall.Write (byte ∷ bytes))) (Some s) owner done e =
    moved PlainDid _ done (through_some OfBytes s.goods _ done e).1
    (plain_fill (byte ∷ bytes) (filled (length (byte ∷ bytes)) s) p s owner)
plain_fills p (Some (HandleCall.Write (byte ∷ bytes))) None owner done e = absurd (cc)
plain_fills p (Some (HandleCall.Write [])) last owner done e = absurd (cc)
plain_fills p _ last owner done e = absurd (cc)

plain_look : (content : Content (Option (Fault ℕ))) (p : OwnerMachine ℕ)
    (s : Session) (owner : Owner) (done : Did) → look_did (looked_as content) p s owner ≡ Some done
    → IsPlain [] done.act
plain_look GivenUp p s owner done e = absurd (cc)
plain_look (Abandoned true) p s owner done e = absurd (cc)
plain_look (Abandoned false) p s owner done e = moved PlainDid _ done e assumption
plain_look _ p s owner done e = moved PlainDid _ done e assumption

plain_find : (content : Content ℕ) (p : OwnerMachine ℕ) (s : Session) (owner : Owner) (done : Did)
    → find_did (awaited_as content) p s owner ≡ Some done → IsPlain [] done.act
plain_find GivenUp p s owner done e = absurd (cc)
plain_find (Abandoned true) p s owner done e = absurd (cc)
plain_find (Abandoned false) p s owner done e = moved PlainDid _ done e assumption
plain_find _ p s owner done e = moved PlainDid _ done e assumption

plain_did : (next : OwnerAction ℕ) (p : OwnerMachine ℕ) (last : Option Session) (owner : Owner)
    (done : Did) → did_in next p last owner ≡ Some done → IsPlain [] done.act
plain_did (OwnerAction.Reply r) p last owner done e = by_told (reply_as (last_item last) r) e
  where
    by_told : (told : Option Told) → reply_did told p owner ≡ Some done → IsPlain [] done.act
    by_told (Some told) e = moved PlainDid _ done e assumption
    by_told None e = absurd (cc)
plain_did (OwnerAction.Fill most) p last owner done e = plain_fills p owner.asked last owner done e
plain_did OwnerAction.DropHandle p last owner done e = moved PlainDid _ done e assumption
plain_did OwnerAction.Close p (Some s) owner done e =
    moved PlainDid _ done (piped_some s.goods _ done e) assumption
plain_did (OwnerAction.Drain most) p (Some s) owner done e = moved PlainDid _ done
    (through_some OfBytes s.goods _ done e).1 (plain_drain (drained (reach most s) s) p s owner)
plain_did OwnerAction.Receive p (Some s) owner done e = moved PlainDid _ done
    (through_some OfItems s.goods _ done e).1 (plain_receive (received s) p s owner)
plain_did OwnerAction.PollSlot p (Some s) owner done e =
    plain_look s.slot.content p (session_after_look s.slot.content s) owner done e
plain_did OwnerAction.PollResult p (Some s) owner done e =
    plain_find s.result.content p (session_after_find s.result.content s) owner done e
plain_did _ p None owner done e = absurd (cc)
plain_did _ p (Some s) owner done e = absurd (cc)

plain_room : (met : Met ℕ) → IsPlain [] (seen_room met)
plain_room (Served n) = assumption
plain_room _ = assumption

plain_put : (n : ℕ) (met : Met (Option (Unit {0}))) → IsPlain [] (seen_put n met)
plain_put n (Served seat) = assumption
plain_put n _ = assumption

plain_read_work : (a : ReadAction) (p : ReadProgress) (s : Session) (work : Work ReadProgress)
    → read_works a p s ≡ Some work → IsPlain [] work.act
plain_read_work ReadAction.FindRoom p s work e =
    moved PlainWork _ work e (plain_room (found_room s))
plain_read_work (ReadAction.Put count) p s work e = at (fits_in p.piece s) e
  where
    at : (b : Bool) → (if b then Some (read_at_put (found_put p.piece s) p s) else None) ≡ Some work
        → IsPlain [] work.act
    at true e = moved PlainWork _ work e (plain_put _ (found_put p.piece s))
    at false e = absurd (cc)
plain_read_work ReadAction.Close p s work e = moved PlainWork _ work e assumption
plain_read_work ReadAction.Finish p s work e = moved PlainWork _ work e assumption
plain_read_work _ p s work e = absurd (cc)

plain_peek : (met : Met (List ℕ)) → IsPlain [] (seen_peek met)
plain_peek (Served piece) = assumption
plain_peek _ = assumption

plain_write_work : (a : WriteAction) (p : WriteProgress) (s : Session) (work : Work WriteProgress)
    → write_works a p s ≡ Some work → IsPlain [] work.act
plain_write_work WriteAction.Peek p s work e = moved PlainWork _ work e (plain_peek (found_piece s))
plain_write_work (WriteAction.Consume count) p s work e = at (holds count s) e
  where
    at : (b : Bool) → (if b then Some (write_consumes count p s) else None) ≡ Some work
        → IsPlain [] work.act
    at true e = moved PlainWork _ work e assumption
    at false e = absurd (cc)
plain_write_work WriteAction.Close p s work e = moved PlainWork _ work e assumption
plain_write_work WriteAction.Finish p s work e = moved PlainWork _ work e assumption
plain_write_work _ p s work e = absurd (cc)

plain_item_work : (a : ItemAction) (p : ItemProgress) (s : Session) (work : Work ItemProgress)
    → item_works a p s ≡ Some work → IsPlain [] work.act
plain_item_work ItemAction.Send p s work e = moved PlainWork _ work e (plain_put 1 (found_send s))
plain_item_work ItemAction.Close p s work e = moved PlainWork _ work e assumption
plain_item_work ItemAction.Finish p s work e = moved PlainWork _ work e assumption
plain_item_work _ p s work e = absurd (cc)

-- what a job does at its session
plain_by : {J : Type 0} (job_of : J → SessionJob) (o : Option (Work J)) (owner : Owner)
    (done : Worked) → ((work : Work J) → o ≡ Some work → IsPlain [] work.act)
    → worked_by job_of o owner ≡ Some done → IsPlain [] done.act
plain_by job_of None owner done plain e = absurd (cc)
plain_by job_of (Some work) owner done plain e = moved PlainWorked _ done e (plain work refl)

plain_read_in : (a : ReadAction) (last : Option Session) (p : ReadProgress) (owner : Owner)
    (done : Worked) → read_in a last p owner ≡ Some done → IsPlain [] done.act
plain_read_in a None p owner done e = absurd (cc)
plain_read_in a (Some s) p owner done e =
    plain_by SessionJob.Read (through OfBytes s.goods (read_works a p s)) owner done (λ work does.
    plain_read_work a p s work (through_some OfBytes s.goods (read_works a p s) work does).1) e

plain_read : (a : ReadAction) (p : ReadProgress) (owner : Owner) (done : Worked)
    → read_as a p owner ≡ Some done → IsPlain [] done.act
plain_read ReadAction.Deliver p owner done e = moved PlainWorked _ done e assumption
plain_read a p owner done e = plain_read_in a owner.session p owner done e

plain_write_in : (a : WriteAction) (last : Option Session) (p : WriteProgress) (owner : Owner)
    (done : Worked) → write_in a last p owner ≡ Some done → IsPlain [] done.act
plain_write_in a None p owner done e = absurd (cc)
plain_write_in a (Some s) p owner done e = plain_by
    SessionJob.Write (through OfBytes s.goods (write_works a p s)) owner done (λ work does.
    plain_write_work a p s work (through_some OfBytes s.goods (write_works a p s) work does).1) e

plain_write : (a : WriteAction) (p : WriteProgress) (owner : Owner) (done : Worked)
    → write_as a p owner ≡ Some done → IsPlain [] done.act
plain_write WriteAction.Deliver p owner done e = moved PlainWorked _ done e assumption
plain_write a p owner done e = plain_write_in a owner.session p owner done e

plain_item_in : (a : ItemAction) (last : Option Session) (p : ItemProgress) (owner : Owner)
    (done : Worked) → item_in a last p owner ≡ Some done → IsPlain [] done.act
plain_item_in a None p owner done e = absurd (cc)
plain_item_in a (Some s) p owner done e =
    plain_by SessionJob.Items (through OfItems s.goods (item_works a p s))
    owner done (λ work does. plain_item_work a p s work
    (through_some OfItems s.goods (item_works a p s) work does).1) e

plain_item : (a : ItemAction) (p : ItemProgress) (owner : Owner) (done : Worked)
    → item_as a p owner ≡ Some done → IsPlain [] done.act
plain_item ItemAction.Deliver p owner done e = moved PlainWorked _ done e assumption
plain_item a p owner done e = plain_item_in a owner.session p owner done e

plain_seek_in : (a : SeekAction) (last : Option Session) (p : SeekProgress) (owner : Owner)
    (done : Worked) → seek_in a last p owner ≡ Some done → IsPlain [] done.act
plain_seek_in a None p owner done e = absurd (cc)
plain_seek_in SeekAction.Finish (Some s) p owner done e = moved PlainWorked _ done e assumption
plain_seek_in _ (Some s) p owner done e = absurd (cc)

plain_seek : (a : SeekAction) (p : SeekProgress) (owner : Owner) (done : Worked)
    → seek_as a p owner ≡ Some done → IsPlain [] done.act
plain_seek SeekAction.Deliver p owner done e = moved PlainWorked _ done e assumption
plain_seek a p owner done e = plain_seek_in a owner.session p owner done e

plain_op_in : (a : OpAction) (last : Option Session) (p : OpProgress) (owner : Owner)
    (done : Worked) → op_in a last p owner ≡ Some done → IsPlain [] done.act
plain_op_in a None p owner done e = absurd (cc)
plain_op_in OpAction.PutResult (Some s) p owner done e = moved PlainWorked _ done e assumption
plain_op_in OpAction.Finish (Some s) p owner done e = moved PlainWorked _ done e assumption
plain_op_in _ (Some s) p owner done e = absurd (cc)

plain_op : (a : OpAction) (p : OpProgress) (owner : Owner) (done : Worked)
    → op_as a p owner ≡ Some done → IsPlain [] done.act
plain_op OpAction.Deliver p owner done e = moved PlainWorked _ done e assumption
plain_op a p owner done e = plain_op_in a owner.session p owner done e

-- an act of a job, whatever it does
plain_worked : (p : SessionJob) (owner : Owner) (done : Worked) → worked p owner ≡ Some done
    → IsPlain [] done.act
plain_worked (SessionJob.Read p) owner done e = plain_read (read_next p.core) p owner done e
plain_worked (SessionJob.Write p) owner done e = plain_write (write_next p.core) p owner done e
plain_worked (SessionJob.Items p) owner done e = plain_item (item_next p.core) p owner done e
plain_worked (SessionJob.Seek p) owner done e = plain_seek (seek_next p.core) p owner done e
plain_worked (SessionJob.Operate p) owner done e =
    plain_op (op_next p.core) p owner done e

-- each step
pub plain_of : (step : OwnerStep) (owner : Owner) (act : Act) → act_of step owner ≡ Some act
    → IsPlain (brought step) act
plain_of Acts owner act e = at (did owner) refl e
  where
    by_stage : (here : OwnerStage) (done : Did) → did_by here owner ≡ Some done
        → IsPlain [] done.act
    by_stage (OwnerStage.Polls p) done e = plain_did (owner_next p) p owner.session owner done e
    by_stage _ done e = absurd (cc)

    at : (o : Option Did) → did owner ≡ o → act_in o ≡ Some act → IsPlain [] act
    at None is e = absurd (cc)
    at (Some done) is e = moved (IsPlain []) done.act act e (by_stage owner.stage done is)
plain_of (Begins number) owner act e = moved (IsPlain (number.serial ∷ [])) _ act e assumption
plain_of (Delivers woke) owner act e = at (note_at owner.stage) e
  where
    at : (o : Option JobNumber) → delivered woke o ≡ Some act → IsPlain [] act
    at None e = absurd (cc)
    at (Some number) e = moved (IsPlain []) _ act e assumption
plain_of (Works p) owner act e = at (worked p owner) refl e
  where
    at : (o : Option Worked) → worked p owner ≡ o → act_of_work o ≡ Some act → IsPlain [] act
    at None is e = absurd (cc)
    at (Some done) is e = moved (IsPlain []) done.act act e (plain_worked p owner done is)
plain_of _ owner act e = moved (IsPlain []) _ act e assumption
