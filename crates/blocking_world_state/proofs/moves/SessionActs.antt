-- What the job of a session does that is its own to do: it calls the waker that it took, or acts at
-- the session. The other files go by these few acts, whatever kind of job it is.
use Rattle.std.proofs.Common.{◌≡◌, ◌⊎◌, inl, ◌≤◌, ℕ, List, [], ◌∷◌, length, Bool, true, false, refl}
use Rattle.std.proofs.Common.{ap, ◌∙◌, subst, arith, Option, Some, None, if◌then◌else◌, nat_le, min}
use Rattle.std.proofs.Common.{take, ◌&&◌, not}
use Rattle.std.proofs.lemmas.List.{length-take}
use Rattle.blocking_world_state.proofs.Types.{Fault, ItemAction, OpAction, ReadAction, SeekAction}
use Rattle.blocking_world_state.proofs.Types.{WriteAction, Act, Finished, HolderWoken, JobClosed}
use Rattle.blocking_world_state.proofs.Types.{JobParked, ResultPut, TakenOut, SessionJob}
use Rattle.blocking_world_state.proofs.Words.{item_next, op_next, room, Met, Served, Waiting}
use Rattle.blocking_world_state.proofs.Words.{peek, read_next, seek_next, after_put, write_next}
use Rattle.blocking_world_state.proofs.Words.{FindRoom, Peek, SendItem, waker_in, is_of_pool}
use Rattle.blocking_world_state.proofs.Words.{is_nothing, is_answered, may_act, Owner, Worked}
use Rattle.blocking_world_state.proofs.Words.{worked_by, calls_waker, read_in, read_as, write_in}
use Rattle.blocking_world_state.proofs.Words.{write_as, item_in, item_as, seek_in, seek_as}
use Rattle.blocking_world_state.proofs.Words.{op_in, op_as, worked, Goods, OfBytes}
use Rattle.blocking_world_state.proofs.Words.{OfItems, through, Session, found_room}
use Rattle.blocking_world_state.proofs.Words.{session_after_room, found_put, session_after_put}
use Rattle.blocking_world_state.proofs.Words.{fits_in, closing_wakes, finish_wakes}
use Rattle.blocking_world_state.proofs.Words.{session_after_job_close, session_after_finish}
use Rattle.blocking_world_state.proofs.Words.{front_len, found_piece, session_after_peek, holds}
use Rattle.blocking_world_state.proofs.Words.{session_after_consume, Work, read_at_put, read_works}
use Rattle.blocking_world_state.proofs.Words.{write_consumes, write_works, found_send}
use Rattle.blocking_world_state.proofs.Words.{session_after_send, item_works, result_wakes}
use Rattle.blocking_world_state.proofs.Words.{bytes_of, is_first}
use Rattle.blocking_core.specs.Places.{hand_in}
use Rattle.blocking_core.specs.declared.job.item.ItemAction.TheVariants as item
use Rattle.blocking_core.specs.declared.job.op.OpAction.TheVariants as operation
use Rattle.blocking_core.specs.declared.job.read.ReadAction.TheVariants as read
use Rattle.blocking_core.specs.declared.job.seek.SeekAction.TheVariants as seek
use Rattle.blocking_core.specs.declared.job.write.WriteAction.TheVariants as write
use Rattle.blocking_world_laws.specs.Places.{seen_peek, seen_put, seen_room}
use Rattle.blocking_world_laws.specs.declared.event.HolderWaker.{HolderWaker}
use Rattle.blocking_world_pool.specs.declared.hand.TurnStage.TheVariants as stage
use Rattle.blocking_world_holders.specs.Ops as operations
use Rattle.blocking_world_holders.specs.Reads as reads
use Rattle.blocking_world_holders.specs.Seeks as seeks
use Rattle.blocking_world_holders.specs.SessionJobs.{action_of, kind_of}
use Rattle.blocking_world_holders.specs.Items as streams
use Rattle.blocking_world_holders.specs.Writes as writes
use Rattle.blocking_world_holders.specs.declared.job.SessionJob.TheVariants as job_of

-- An act of a job at its session, by what it finds there.
pub data SessionAct : Type 0 where
  FindsRoom : Met ℕ → SessionAct
  Puts : List ℕ → Met (Option (Unit {0})) → SessionAct
  Sends : ℕ → Met (Option (Unit {0})) → SessionAct
  Peeks : Met (List ℕ) → SessionAct
  TakesOut : ℕ → HolderWaker → SessionAct
  Closes : HolderWaker → SessionAct
  Finishes : Option (Fault ℕ) → HolderWaker → SessionAct
  Leaves : ℕ → Option (Fault ℕ) → HolderWaker → SessionAct
  PutsResult : ℕ → HolderWaker → SessionAct

-- what is seen of it
abbrev pub seen : SessionAct → Act
seen (FindsRoom met) = seen_room met
seen (Puts piece met) = seen_put (length piece) met
seen (Sends x met) = seen_put 1 met
seen (Peeks met) = seen_peek met
seen (TakesOut n waker) = TakenOut n waker
seen (Closes waker) = JobClosed waker
seen (Finishes why waker) = Finished waker
seen (Leaves place why waker) = Finished waker
seen (PutsResult n waker) = ResultPut waker

-- the session after it
abbrev pub after : SessionAct → Session → Session
after (FindsRoom met) s = session_after_room met s
after (Puts piece met) s = session_after_put piece met s
after (Sends x met) s = session_after_send x met s
after (Peeks met) s = session_after_peek met s
after (TakesOut n waker) s = session_after_consume n s
after (Closes waker) s = session_after_job_close s
after (Finishes why waker) s = session_after_finish why s
after (Leaves place why waker) s = record (session_after_finish why s) { left = place }
after (PutsResult n waker) s = record s { result = after_put s.result n }

-- when a job does so: it looks for room, or at the front, or sends an item, where that is next; and
-- what it puts fits, so that it needn't wait
abbrev pub Fits : SessionAct → SessionJob → Session → Type 0
Fits (FindsRoom met) job s = action_of job ≡ FindRoom
Fits (Puts piece met) job s = met ≡ Waiting → ⊥
Fits (Sends x met) job s = action_of job ≡ SendItem x
Fits (Peeks met) job s = (action_of job ≡ Peek) × (found_piece s ≡ met)
Fits _ job s = Unit {0}

-- A job that acts at its session.
pub record ActsAt (job : SessionJob) (owner : Owner) (done : Worked) : Type 0 where
  pub session : Session
  pub here : owner.session ≡ Some session
  pub act : SessionAct
  pub fits : Fits act job session
  pub act_is : done.act ≡ seen act
  pub owner_is : done.owner ≡ record owner { session = Some (after act session) }
  pub kind_is : kind_of done.job ≡ kind_of job

-- A job that calls a waker, which leaves its owner as it was.
abbrev pub Wakes : SessionJob → Owner → Worked → Type 0
Wakes job owner done =
    (done.act ≡ HolderWoken) × (done.owner ≡ owner) × (kind_of done.job ≡ kind_of job)

-- A job that does something calls a waker, or acts at its session; and it stays of its kind.
abbrev pub DoesSo : SessionJob → Owner → Worked → Type 0
DoesSo job owner done = Wakes job owner done ⊎ ActsAt job owner done

-- what holds of a value that is there holds of it under another name
pub moved : {A : Type 0} (P : A → Type 0) (x y : A) → Some x ≡ Some y → P x → P y
moved P x y e holds = let same : x ≡ y = cc in subst P same holds

-- what fits needn't wait
never_waits : (n free : ℕ) (lasts : Bool) (seat : Option (Unit {0})) → nat_le n free ≡ true
    → hand_in n free lasts seat ≡ Waiting → ⊥
never_waits n free lasts seat fits is = grind arith

-- what is done where such things pass as are wanted would be done anyhow
works_anyhow : (J : Type 0) (of : J → SessionJob) (wanted there : Goods) (work : Option (Work J))
    (owner : Owner) (done : Worked) → worked_by of (through wanted there work) owner ≡ Some done
    → worked_by of work owner ≡ Some done
works_anyhow J of wanted there work owner done does = grind arith

-- what becomes of a job that acts so
abbrev acting : SessionJob → Owner → Session → SessionAct → Worked
acting job owner s act =
    record { act = seen act; job = job; owner = record owner { session = Some (after act s) } }

module _ (owner : Owner) (done : Worked) where
  acts : (job new : SessionJob) (s : Session) (act : SessionAct) → owner.session ≡ Some s
      → Fits act job s → Some (acting new owner s act) ≡ Some done → kind_of new ≡ kind_of job
      → ActsAt job owner done
  acts job new s act here fits does kind =
      moved (ActsAt job owner) _ done does (record {
        session = s;
        here = here;
        act = act;
        fits = fits;
        act_is = refl;
        owner_is = refl;
        kind_is = kind;
      })

  wakes : (job new : SessionJob) → calls_waker new owner ≡ Some done → kind_of new ≡ kind_of job
      → DoesSo job owner done
  wakes job new does kind = inl (moved (Wakes job owner) _ done does (refl, refl, kind))

  -- with no session nothing is done
  at_last : (job : SessionJob) (works : Option Session → Option Worked) → works None ≡ None
      → ((s : Session) → owner.session ≡ Some s → works (Some s) ≡ Some done
      → ActsAt job owner done)
      → works owner.session ≡ Some done → DoesSo job owner done
  at_last job works none at does = grind arith

  -- a job that reads
  read_at : (a : ReadAction) (p : reads.Progress) → read_next p.core ≡ a → (s : Session)
      → owner.session ≡ Some s → worked_by job_of.Read (read_works a p s) owner ≡ Some done
      → ActsAt (job_of.Read p) owner done
  read_at read.FindRoom p is s here does = acts (job_of.Read p) _ s (FindsRoom (found_room s)) here
      (ap (reads.action_as p.piece) is) does refl
  read_at (read.Put count) p is s here does = by (fits_in p.piece s) refl does
    where
      by : (b : Bool) → fits_in p.piece s ≡ b → worked_by job_of.Read
          (if b then Some (read_at_put (found_put p.piece s) p s) else None) owner ≡ Some done
          → ActsAt (job_of.Read p) owner done
      by true fits does = acts (job_of.Read p) _ s (Puts p.piece (found_put p.piece s)) here
          (never_waits (length p.piece) (room s.pipe) s.pipe.is_owner_open s.pipe.owner_seat fits)
          does refl
      by false fits does = absurd cc
  read_at read.Close p is s here does =
      acts (job_of.Read p) _ s (Closes (waker_in (closing_wakes s))) here tt does refl
  read_at read.Finish p is s here does = acts (job_of.Read p) _ s
      (Finishes p.fault (waker_in (finish_wakes p.fault s))) here tt does refl
  read_at _ p is s here does = absurd cc

  read_does : (a : ReadAction) (p : reads.Progress) → read_next p.core ≡ a
      → read_as a p owner ≡ Some done → DoesSo (job_of.Read p) owner done
  read_does read.Deliver p is does = wakes (job_of.Read p) _ does refl
  read_does a p is does =
      at_last (job_of.Read p) (λ last. read_in a last p owner) refl
      (λ s here does. read_at a p is s here (works_anyhow reads.Progress job_of.Read OfBytes
      s.goods (read_works a p s) owner done does)) does

  -- a job that writes
  write_at : (a : WriteAction) (p : writes.Progress) → write_next p.core ≡ a → (s : Session)
      → owner.session ≡ Some s → worked_by job_of.Write (write_works a p s) owner ≡ Some done
      → ActsAt (job_of.Write p) owner done
  write_at write.Peek p is s here does = acts (job_of.Write p) _ s (Peeks (found_piece s)) here
      (ap (writes.action_as p.piece) is, refl) does refl
  write_at (write.Consume count) p is s here does = by (holds count s) does
    where
      by : (b : Bool)
          → worked_by job_of.Write (if b then Some (write_consumes count p s) else None) owner
          ≡ Some done → ActsAt (job_of.Write p) owner done
      by true does =
          acts (job_of.Write p) _ s (TakesOut count (waker_in (closing_wakes s))) here tt does refl
      by false does = absurd cc
  write_at write.Close p is s here does =
      acts (job_of.Write p) _ s (Closes (waker_in (closing_wakes s))) here tt does refl
  write_at write.Finish p is s here does =
      acts (job_of.Write p) _ s (Finishes (writes.fault_of p.core)
      (waker_in (finish_wakes (writes.fault_of p.core) s))) here tt does refl
  write_at _ p is s here does = absurd cc

  write_does : (a : WriteAction) (p : writes.Progress) → write_next p.core ≡ a
      → write_as a p owner ≡ Some done → DoesSo (job_of.Write p) owner done
  write_does write.Deliver p is does = wakes (job_of.Write p) _ does refl
  write_does a p is does =
      at_last (job_of.Write p) (λ last. write_in a last p owner) refl
      (λ s here does. write_at a p is s here (works_anyhow writes.Progress job_of.Write OfBytes
      s.goods (write_works a p s) owner done does)) does

  -- a job that runs an iterator
  item_at : (a : ItemAction) (p : streams.Progress) → item_next p.core ≡ a → (s : Session)
      → owner.session ≡ Some s → worked_by job_of.Items (item_works a p s) owner ≡ Some done
      → ActsAt (job_of.Items p) owner done
  item_at item.Send p is s here does = acts (job_of.Items p) _ s (Sends p.item (found_send s))
      here (ap (streams.action_as p.item) is) does refl
  item_at item.Close p is s here does =
      acts (job_of.Items p) _ s (Closes (waker_in (closing_wakes s))) here tt does refl
  item_at item.Finish p is s here does =
      acts (job_of.Items p) _ s (Finishes None (waker_in (finish_wakes None s))) here tt does refl
  item_at _ p is s here does = absurd cc

  item_does : (a : ItemAction) (p : streams.Progress) → item_next p.core ≡ a
      → item_as a p owner ≡ Some done → DoesSo (job_of.Items p) owner done
  item_does item.Deliver p is does = wakes (job_of.Items p) _ does refl
  item_does a p is does =
      at_last (job_of.Items p) (λ last. item_in a last p owner)
      refl (λ s here does. item_at a p is s here (works_anyhow streams.Progress job_of.Items
      OfItems s.goods (item_works a p s) owner done does)) does

  -- a job that seeks
  seek_at : (a : SeekAction) (p : seeks.Progress) (s : Session) → owner.session ≡ Some s
      → seek_in a (Some s) p owner ≡ Some done → ActsAt (job_of.Seek p) owner done
  seek_at seek.Finish p s here does = acts (job_of.Seek p) _ s
      (Leaves p.place p.fault (waker_in (finish_wakes p.fault s))) here tt does refl
  seek_at _ p s here does = absurd cc

  seek_does : (a : SeekAction) (p : seeks.Progress) → seek_as a p owner ≡ Some done
      → DoesSo (job_of.Seek p) owner done
  seek_does seek.Deliver p does = wakes (job_of.Seek p) _ does refl
  seek_does a p does =
      at_last (job_of.Seek p) (λ last. seek_in a last p owner) refl (seek_at a p) does

  -- a job that runs an operation
  op_at : (a : OpAction) (p : operations.Progress) (s : Session) → owner.session ≡ Some s
      → op_in a (Some s) p owner ≡ Some done → ActsAt (job_of.Operate p) owner done
  op_at operation.PutResult p s here does = acts (job_of.Operate p) _ s
      (PutsResult p.number (waker_in (result_wakes p.number s))) here tt does refl
  op_at operation.Finish p s here does =
      acts (job_of.Operate p) _ s (Finishes None (waker_in (finish_wakes None s))) here tt does refl
  op_at _ p s here does = absurd cc

  op_does : (a : OpAction) (p : operations.Progress) → op_as a p owner ≡ Some done
      → DoesSo (job_of.Operate p) owner done
  op_does operation.Deliver p does = wakes (job_of.Operate p) _ does refl
  op_does a p does =
      at_last (job_of.Operate p) (λ last. op_in a last p owner) refl (op_at a p) does

pub worked_so : (job : SessionJob) (owner : Owner) (done : Worked) → worked job owner ≡ Some done
    → DoesSo job owner done
worked_so (job_of.Read p) owner done does = read_does owner done (read_next p.core) p refl does
worked_so (job_of.Write p) owner done does = write_does owner done (write_next p.core) p refl does
worked_so (job_of.Seek p) owner done does = seek_does owner done (seek_next p.core) p does
worked_so (job_of.Operate p) owner done does =
    op_does owner done (op_next p.core) p does
worked_so (job_of.Items p) owner done does = item_does owner done (item_next p.core) p refl does

-- ---- what each act is

-- only a job at its first action parks
pub first_where_parked : (job : SessionJob) (owner : Owner) (done : Worked)
    → worked job owner ≡ Some done → done.act ≡ JobParked → is_first (action_of job) ≡ true
first_where_parked job owner done does parks = grind arith

-- a job stays of its kind
pub same_kind : (job : SessionJob) (owner : Owner) (done : Worked) → worked job owner ≡ Some done
    → kind_of done.job ≡ kind_of job
same_kind job owner done does = grind arith

-- it is done while the job's turn goes on
pub fits_turn : (act : SessionAct) → may_act stage.Runs (seen act) ≡ true
fits_turn act = grind arith

-- whether something was done that neither the pool decides nor anyone answers from outside
abbrev pub is_own : Act → Bool
is_own act = not (is_of_pool act) && not (is_nothing act) && not (is_answered act)

pub own_at : (act : SessionAct) → is_own (seen act) ≡ true
own_at act = grind arith

-- it carries no more than is found at the front of the pipe
front_found : (items : List ℕ) (is_open : Bool) (found : List ℕ)
    → peek 65536 items is_open ≡ Served found → length found ≤ min (length items) 65536
front_found [] true found is = absurd cc
front_found [] false found is = absurd cc
front_found (x ∷ xs) is_open found is =
    let same : found ≡ take 65536 (x ∷ xs) = cc in
    let count = ap length same ∙ length-take 65536 (x ∷ xs) in
    omega (arith, count)

pub carried_at : (job : SessionJob) (s : Session) (act : SessionAct) → Fits act job s
    → length (bytes_of (seen act)) ≤ front_len s
carried_at job s act fits = grind (arith, front_found)
