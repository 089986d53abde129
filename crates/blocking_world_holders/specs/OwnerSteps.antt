-- What happens to an owner in one step, in the words of its cut: it is asked, its poll acts, the
-- pool answers it, it is dropped, or its job acts.
use Rattle.std.specs.Prelude.{◌≡◌, ℕ, Bool, true, false, List, slice_get, slice_set, Option, Some}
use Rattle.std.specs.Prelude.{None}
use Rattle.blocking_core.specs.Pipes.{empty_pipe}
use Rattle.blocking_world_laws.specs.JobTable.{Kind, WakeHolder, next_of_job, next_but_wake}
use Rattle.blocking_world_laws.specs.JobTable.{is_answer, is_over}
use Rattle.blocking_world_laws.specs.Jobs.{accepts, holder}
use Rattle.blocking_world_laws.specs.Seen.{events, acts_of, cut, own, is_in_cut, is_of_job}
use Rattle.blocking_world_laws.specs.Sessions.{kind_of_job}
use Rattle.blocking_world_laws.specs.Steps.{is_making}
use Rattle.blocking_world_laws.specs.declared.event.Act.{Act}
use Rattle.blocking_world_laws.specs.declared.event.Act.TheVariants.{Made, Asked, Accepted, Refused}
use Rattle.blocking_world_laws.specs.declared.event.Act.TheVariants.{JobWoken, HolderDropped}
use Rattle.blocking_world_laws.specs.declared.event.Act.TheVariants.{Answered, HolderWoken}
use Rattle.blocking_world_laws.specs.declared.event.Event.{Event}
use Rattle.blocking_world_laws.specs.declared.event.Moment.{Moment}
use Rattle.blocking_world_laws.specs.declared.event.Party.TheVariants.{Owner as ByOwner}
use Rattle.blocking_world_laws.specs.declared.event.Party.TheVariants.{Task as ByTask, Worker}
use Rattle.blocking_world_laws.specs.declared.step.HandleAnswer.{HandleAnswer}
use Rattle.blocking_world_laws.specs.declared.step.HandleCall.{HandleCall}
use Rattle.blocking_world_holders.specs.Owners.{Owner, Did, Worked, capacity_asked, goods_asked}
use Rattle.blocking_world_holders.specs.Owners.{rests, may_ask, is_gone, note_at, next_of, did}
use Rattle.blocking_world_holders.specs.Owners.{worked, owner_after_ask, owner_after_begin}
use Rattle.blocking_world_holders.specs.Owners.{owner_after_refusal, owner_after_delivery}
use Rattle.blocking_world_holders.specs.Owners.{owner_after_drop, give_up_act, owner_after_give_up}
use Rattle.blocking_world_holders.specs.SessionJobs.{JobAs, kind_of, action_of}
use Rattle.blocking_world_holders.specs.declared.job.SessionJob.{SessionJob}
use Rattle.blocking_world_holders.specs.declared.owner.OwnerNext.TheVariants as next
use Rattle.blocking_pool.specs.Growth.{Growth}
use Rattle.blocking_pool.specs.Jobs.{JobNumber}
use Rattle.blocking_pool.specs.declared.pool.answer.Refusal.{Refusal}
use Rattle.blocking_pool.specs.declared.pool.answer.Woke.{Woke}

pub data OwnerStep : Type 0 where
  -- a poll of it begins, and asks for this
  IsAsked : HandleCall → OwnerStep
  -- its poll takes its next action, which asks no pool
  Acts : OwnerStep
  -- a session begins, with this job
  Begins : JobNumber → OwnerStep
  -- the session that was to begin is refused
  IsRefused : Refusal → OwnerStep
  -- the note that it took is delivered, and did this
  Delivers : Woke → OwnerStep
  -- it is dropped
  IsDropped : OwnerStep
  -- a job of it, which is so far, takes its next action, which is its own
  Works : SessionJob → OwnerStep
  -- the handle of a job of it, which is so far, answers so
  IsAnswered : SessionJob → HandleAnswer → OwnerStep
  -- its job gives up
  GivesUp : OwnerStep
  -- a job that gave up calls the waker that it took
  CallsWaker : OwnerStep

-- ---- what is seen of it, and what it leaves

abbrev pub act_in : Option Did → Option Act
act_in None = None
act_in (Some done) = Some done.act

abbrev pub owner_in : Option Did → Owner → Owner
owner_in None owner = owner
owner_in (Some done) owner = done.owner

abbrev pub act_of_work : Option Worked → Option Act
act_of_work None = None
act_of_work (Some done) = Some done.act

abbrev pub owner_after_work : Option Worked → Owner → Owner
owner_after_work None owner = owner
owner_after_work (Some done) owner = done.owner

abbrev pub job_after_work : Option Worked → SessionJob → SessionJob
job_after_work None job = job
job_after_work (Some done) job = done.job

-- the delivery of a note, where there is one
abbrev pub delivered : Woke → Option JobNumber → Option Act
delivered woke None = None
delivered woke (Some number) = Some (JobWoken number.serial woke)

-- what is seen of a step; of some there is nothing to be seen where the owner or the job has
-- nothing of that kind to do
abbrev pub act_of : OwnerStep → Owner → Option Act
act_of (IsAsked call) owner = Some (Asked call)
act_of Acts owner = act_in (did owner)
act_of (Begins number) owner = Some (Accepted number.serial)
act_of (IsRefused why) owner = Some (Refused why)
act_of (Delivers woke) owner = delivered woke (note_at owner.stage)
act_of IsDropped owner = Some HolderDropped
act_of (Works job) owner = act_of_work (worked job owner)
act_of (IsAnswered job answer) owner = Some (Answered answer)
act_of GivesUp owner = Some (give_up_act owner)
act_of CallsWaker owner = Some HolderWoken

-- the owner after it
abbrev pub owner_after : OwnerStep → Owner → Owner
owner_after (IsAsked call) owner = owner_after_ask call owner
owner_after Acts owner = owner_in (did owner) owner
owner_after (Begins number) owner =
    owner_after_begin number (goods_asked owner) (empty_pipe (capacity_asked owner)) owner
owner_after (IsRefused why) owner = owner_after_refusal why owner
owner_after (Delivers woke) owner = owner_after_delivery owner
owner_after IsDropped owner = owner_after_drop owner
owner_after (Works job) owner = owner_after_work (worked job owner) owner
owner_after (IsAnswered job answer) owner = owner
owner_after GivesUp owner = owner_after_give_up owner
owner_after CallsWaker owner = owner

-- Whether there may be such a step of an owner, where its job is of this kind and has done this so
-- far.
abbrev pub MayTake : OwnerStep → Owner → Kind → List Act → Type 0
MayTake (IsAsked call) owner kind acts = may_ask owner call ≡ true
MayTake Acts owner kind acts = Unit {0}
MayTake (Begins number) owner kind acts = next_of owner ≡ next.Begins
MayTake (IsRefused why) owner kind acts = next_of owner ≡ next.Begins
MayTake (Delivers woke) owner kind acts = Unit {0}
MayTake IsDropped owner kind acts = rests owner ≡ true
MayTake (Works job) owner kind acts = (kind ≡ kind_of job) × JobAs job acts
MayTake (IsAnswered job answer) owner kind acts =
    (kind ≡ kind_of job) × JobAs job acts × (is_answer (action_of job) answer ≡ true)
MayTake GivesUp owner kind acts =
    (is_gone owner.stage ≡ true) × (is_over (next_but_wake kind acts) ≡ false)
MayTake CallsWaker owner kind acts = next_of_job kind acts ≡ WakeHolder

-- ---- events

-- an act of owner h
abbrev pub by_owner : ℕ → Act → ℕ → Growth → Event
by_owner h act first growth = record {
  party = ByOwner h;
  owner = None;
  job = None;
  act = act;
  first = first;
  started = growth.started;
  start_refused = growth.refused;
}

-- an act of job s of owner h, in the hand of worker v
abbrev pub by_its_job : ℕ → ℕ → ℕ → Act → ℕ → Growth → Event
by_its_job h v s act first growth = record {
  party = Worker v;
  owner = Some h;
  job = Some s;
  act = act;
  first = first;
  started = growth.started;
  start_refused = growth.refused;
}

-- whether a step is an act of a job
abbrev pub is_of_its_job : OwnerStep → Bool
is_of_its_job (Works job) = true
is_of_its_job (IsAnswered job answer) = true
is_of_its_job GivesUp = true
is_of_its_job CallsWaker = true
is_of_its_job _ = false

abbrev pub event_for : Bool → ℕ → ℕ → ℕ → Act → ℕ → Growth → Event
event_for true h v s act first growth = by_its_job h v s act first growth
event_for false h v s act first growth = by_owner h act first growth

-- whose act a step is
abbrev pub event_by : OwnerStep → ℕ → ℕ → ℕ → Act → ℕ → Growth → Event
event_by step h v s act first growth = event_for (is_of_its_job step) h v s act first growth

-- An event of no owner: it stands in the cut of none, and makes none. If it is an act of a job, a
-- task holds that; if it accepts one, nobody held that, and no owner does.
pub record IsAside (past : List Moment) (e : Event) : Type 0 where
  pub out : (h : ℕ) → is_in_cut h e ≡ false
  pub none_made : is_making e.act ≡ false
  pub of_task : (s : ℕ) → is_of_job s e ≡ true → (k : ℕ) × (holder past s ≡ Some (ByTask k))
  pub new : (s : ℕ) → accepts s e.act ≡ true → holder past s ≡ None
  pub not_theirs : (h s : ℕ) → accepts s e.act ≡ true → e.party ≡ ByOwner h → ⊥

-- an event by which the owner of this number is made, with so many bytes
pub record MakesOwner (e : Event) (h capacity : ℕ) : Type 0 where
  pub first : ℕ
  pub growth : Growth
  pub event_is : e ≡ by_owner h (Made h capacity) first growth

-- ---- one step of one owner

-- a job that acts is held by this owner
abbrev pub IsHeld : Bool → List Moment → ℕ → ℕ → Type 0
IsHeld true past h s = holder past s ≡ Some (ByOwner h)
IsHeld false past h s = Unit {0}

-- a job with which a session begins was held by nobody
abbrev pub IsFresh : OwnerStep → List Moment → Type 0
IsFresh (Begins number) past = holder past number.serial ≡ None
IsFresh _ past = Unit {0}

-- Owner h takes a step, or job s of it does, in the hand of worker v; the other owners stay.
pub record TakesStep (past : List Moment) (old : List Owner) (e : Event) (new : List Owner) :
    Type 0 where
  pub step : OwnerStep
  pub place : ℕ
  pub job : ℕ
  pub worker : ℕ
  pub first : ℕ
  pub growth : Growth
  pub owner : Owner
  pub act : Act
  pub there : slice_get old place ≡ Some owner
  pub held : IsHeld (is_of_its_job step) past place job
  pub fresh : IsFresh step past
  pub may : MayTake step owner (kind_of_job job (own (cut place (events past))))
      (acts_of job (events past))
  pub act_is : act_of step owner ≡ Some act
  pub event_is : e ≡ event_by step place worker job act first growth
  pub after_is : new ≡ slice_set old place (owner_after step owner)
