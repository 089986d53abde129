-- Each move keeps that a job which is left to its owner is met there: one that was left before
-- still is, and one that parks now is seated.
use Rattle.std.proofs.Common.{◌≡◌, ◌⊎◌, inl, inr, ℕ, ◌<◌, List, [], ◌∷◌, ◌++◌, length, Bool, true}
use Rattle.std.proofs.Common.{false, refl, sym, ap, ◌∙◌, subst, arith, Option, Some, None}
use Rattle.std.proofs.Common.{slice_get, slice_set, is_some, is_none, Ok, Err}
use Rattle.std.proofs.lemmas.Bool.{eqb-true, eq-eqb}
use Rattle.std.proofs.lemmas.Option.{slice_get_within}
use Rattle.blocking_world_state.proofs.Types.{Running, Act, JobParked, Event, Moment, Party}
use Rattle.blocking_world_state.proofs.Types.{ByOwner, HandleCall, TurnStage}
use Rattle.blocking_world_state.proofs.Types.{SessionJob, OwnerStage}
use Rattle.blocking_world_state.proofs.Types.{Core}
use Rattle.blocking_world_state.proofs.Words.{IsPlanned, Kind, next_but_wake, is_over, fault}
use Rattle.blocking_world_state.proofs.Words.{has_finished, has_given_up, holder, is_woken}
use Rattle.blocking_world_state.proofs.Words.{standing, PoolLaw, is_job_seated, EachMayFollow}
use Rattle.blocking_world_state.proofs.Words.{events, is_of_pool, is_nothing, is_of_job, acts_of}
use Rattle.blocking_world_state.proofs.Words.{cut, own, kind_of_job, kind_by, turn, turn_of}
use Rattle.blocking_world_state.proofs.Words.{CrewHolds, OwnerStep, ResultAs, LastAs, OwnerAs}
use Rattle.blocking_world_state.proofs.Words.{Owner, new_owner, capacity_of, number_in, number_of}
use Rattle.blocking_world_state.proofs.Words.{note_at, next_of, Worked, worked, JobAs, Session}
use Rattle.blocking_world_state.proofs.Words.{Move, Makes, Asks, Owns, Lends, Delivers, IsDropped}
use Rattle.blocking_world_state.proofs.Words.{Works, IsAnswered, step_of, owners_after, May}
use Rattle.blocking_world_state.proofs.Words.{CrewMoves, Parts, InHand, done_by, party_of, kind_of}
use Rattle.blocking_world_state.proofs.Words.{is_first, is_at_first, session_step, Done, done}
use Rattle.blocking_world_state.proofs.Words.{CoreAs, PlaceAs, is_left, seated_in, is_number, IsMet}
use Rattle.blocking_world_state.proofs.Words.{Crossed, moment, Tied}
use Rattle.blocking_world_laws.specs.Sessions as sessions
use Rattle.blocking_world_pool.specs.declared.hand.TurnStage.TheVariants as stage
use Rattle.blocking_world_holders.specs.OwnerSteps as owners
use Rattle.blocking_world_holders.specs.Owners.{next_at}
use Rattle.blocking_world_holders.specs.SessionJobs as jobs
use Rattle.blocking_world_holders.specs.declared.owner.OwnerNext.TheVariants as next
use Rattle.blocking_world_state.specs.declared.row.Core.TheVariants as core
use Rattle.blocking_pool.proofs.Places.{got_same, in_pushed}
use Rattle.blocking_world_laws.proofs.Beginnings.{keeps}
use Rattle.blocking_world_holders.proofs.owners.Cuts.{its_kind, kind_is}
use Rattle.blocking_world_holders.proofs.owners.Polls.{owner_by_parts, value_of}
use Rattle.blocking_world_holders.proofs.owners.ReadSessions.{going}
use Rattle.blocking_world_holders.proofs.owners.Steps.{IsLast, its_last}
use Rattle.blocking_world_state.proofs.moves.Lookups.{in_set, one_found}
use Rattle.blocking_world_state.proofs.moves.Seats.{SeatAs, asked_met, delivered_met, did_met}
use Rattle.blocking_world_state.proofs.moves.Seats.{dropped_met, gave_up_met, refused_met}
use Rattle.blocking_world_state.proofs.moves.Seats.{worked_met}
use Rattle.blocking_world_state.proofs.past.LeftJobs.{left_before, left_place, left_stands}
use Rattle.blocking_world_state.proofs.ties.CrewEvents.{by_worker}
use Rattle.blocking_world_state.proofs.ties.Events.{SaidBy, no_work, said}
use Rattle.blocking_world_state.proofs.ties.JobSteps.{call_acts, session_acts}
use Rattle.blocking_world_state.proofs.ties.Jobs.{IsHere, held_row, holder_stands, job_here}
use Rattle.blocking_world_state.proofs.ties.Jobs.{job_place}
use Rattle.blocking_world_state.proofs.ties.Owners.{first_goes}
use Rattle.blocking_world_state.proofs.ties.Releases.{owner_there}

-- ---- the last session

-- the seat is empty, or that of its job
seat_as : (last : Option Session) (bytes : Kind → ℕ) (X : List Event) → LastAs last bytes X
    → SeatAs (is_job_seated X) last
seat_as last bytes X t = grind arith

-- while its job isn't over, the handle isn't back
still_lent : (session : Session) (bytes : Kind → ℕ) (X : List Event) → LastAs (Some session) bytes X
    → is_over (next_but_wake (kind_of_job session.number.serial (own X))
    (acts_of session.number.serial X)) ≡ false
    → is_none (sessions.session (own X)) ≡ false
still_lent session bytes X t goes =
    let works = acts_of session.number.serial X in
    let kind = its_kind session bytes X t in
    let back = is_none (sessions.session (own X)) in
    let dropped = sessions.is_dropped (own X) in
    let on : is_over (next_but_wake kind works) ≡ false =
    ap (λ k. is_over (next_but_wake k works)) (sym (kind_is session bytes X t)) ∙ goes in
    (going session.slot.content (has_finished works) (has_given_up works) back dropped
    (fault kind works)
    (subst (λ over. ResultAs session.slot.content (has_finished works) (has_given_up works) over
    back dropped (fault kind works)) on t.result)).lent

-- where the handle is with its owner, it is back
idle_back : (last : Option sessions.Session) (shut : Bool)
    → sessions.state_in last shut ≡ sessions.Idle → is_none last ≡ true
idle_back last shut is = grind arith

-- an owner whose session begins has its handle
begins_idle : (bytes client : ℕ)
    (asked : Option HandleCall) (here : OwnerStage) (last : Option Session) (X : List Event)
    → OwnerAs (owner_by_parts bytes client asked here last) X → next_at here last ≡ next.Begins
    → sessions.state_in (sessions.session (own X)) (sessions.is_shut (own X)) ≡ sessions.Idle
begins_idle bytes client asked here last X t begins = grind arith

-- ---- one act of a job

-- the job of an owner at its first action isn't over
first_stays : (h : ℕ) (c : Core) (acts : List Act) → party_of c ≡ ByOwner h → is_at_first c ≡ true
    → has_given_up acts ≡ false → CoreAs c acts → is_over (next_but_wake (kind_of c) acts) ≡ false
first_stays h c acts party first going so = grind arith

-- what its job does leaves a job with its owner
step_met : (at : TurnStage) (job : SessionJob) (step : OwnerStep) (owner : Owner) (s : ℕ)
    (seated : Bool) → session_step at job ≡ Some step → SeatAs seated owner.session → IsMet owner s
    → IsMet (owners.owner_after step owner) s
step_met stage.Runs job step owner s seated is seat met =
    subst (λ (x : OwnerStep). IsMet (owners.owner_after x owner) s) (ap (value_of step) is)
    (by (worked job owner) refl)
  where
    by : (o : Option Worked) → worked job owner ≡ o → IsMet (owners.owner_after_work o owner) s
    by None does = met
    by (Some did) does = worked_met job owner did s seated does seat met
step_met stage.MustGiveUp job step owner s seated is seat met =
    subst (λ (x : OwnerStep). IsMet (owners.owner_after x owner) s) (ap (value_of step) is)
    (gave_up_met owner s met)
step_met stage.MustWake job step owner s seated is seat met =
    subst (λ (x : OwnerStep). IsMet (owners.owner_after x owner) s) (ap (value_of step) is) met
step_met _ job step owner s seated is seat met = absurd cc

-- A job parks while its turn goes on, at its first action, and is seated.
record ParksSo (at : TurnStage) (job : SessionJob) (step : OwnerStep) (owner : Owner) : Type 0 where
  runs : at ≡ stage.Runs
  first : is_first (jobs.action_of job) ≡ true
  seat : seated_in (owners.owner_after step owner).session ≡ number_of owner

parks_so : (at : TurnStage) (job : SessionJob) (step : OwnerStep) (owner : Owner) (act : Act)
    → session_step at job ≡ Some step → owners.act_of step owner ≡ Some act → act ≡ JobParked
    → ParksSo at job step owner
parks_so at job step owner act is does parks = grind arith

-- ---- a job that was left before

module _ (setting : ℕ) (plan : List Bool) (w : Parts) (past : List Moment)
    (t : Tied setting plan w past) where
  -- it isn't over
  left_goes : (h s : ℕ) → holder past s ≡ Some (ByOwner h) → is_left past s ≡ true → is_over
      (next_but_wake (kind_of_job s (own (cut h (events past)))) (acts_of s (cut h (events past))))
      ≡ false
  left_goes h s held left =
      let row = held_row setting plan w past t s (ByOwner h) held in
      let r = t.rowed.each s row.0 row.1 in
      let place = left_place (standing past s) (turn past s) (is_woken past s)
      (is_at_first row.0.core) (acts_of s (events past)) left r.place in
      ap (λ l. is_over (next_but_wake (kind_of_job s (own (cut h (events past)))) l))
      (t.owned.acts h s held)
      ∙ ap (λ k. is_over (next_but_wake k (acts_of s (events past))))
      (ap (λ who. kind_by who past s) (sym held) ∙ r.kind_is)
      ∙ first_stays h row.0.core (acts_of s (events past)) row.2 place.0 place.1 r.core

  -- a job that isn't over is that of its owner's last session
  is_its_last : (h s : ℕ) (owner : Owner) → slice_get w.owners h ≡ Some owner
      → holder past s ≡ Some (ByOwner h) → is_over (next_but_wake
      (kind_of_job s (own (cut h (events past)))) (acts_of s (cut h (events past)))) ≡ false
      → IsLast owner.session s
  is_its_last h s owner found held goes =
      its_last owner.capacity owner.client owner.asked owner.stage owner.session s
      (cut h (events past)) (t.owned.each h owner found) (t.owned.begun h s held) goes

  -- so no session of its owner begins
  none_begins : (h s : ℕ) (owner : Owner) → slice_get w.owners h ≡ Some owner
      → holder past s ≡ Some (ByOwner h) → is_left past s ≡ true → next_of owner ≡ next.Begins → ⊥
  none_begins h s owner found held left begins =
      let X = cut h (events past) in
      let tie = t.owned.each h owner found in
      let goes = left_goes h s held left in
      let l = is_its_last h s owner found held goes in
      let lent = still_lent l.session (capacity_of owner) X
      (subst (λ o. LastAs o (capacity_of owner) X) l.here tie.last) (subst (λ n.
      is_over (next_but_wake (kind_of_job n (own X)) (acts_of n X)) ≡ false) l.same goes) in
      let back = idle_back (sessions.session (own X)) (sessions.is_shut (own X)) (begins_idle
      owner.capacity owner.client owner.asked owner.stage owner.session X tie begins) in
      let bad : true ≡ false = sym back ∙ lent in cc

  module _ (h s : ℕ) (held : holder past s ≡ Some (ByOwner h)) (left : is_left past s ≡ true) where
    -- the owner of that job, in these owners, meets it
    abbrev MetIn : List Owner → Type 0
    MetIn all = (owner : Owner) → slice_get all h ≡ Some owner → IsMet owner s

    still : MetIn w.owners
    still owner found = t.crossed h s owner found held left

    -- where one owner changed
    set_met : (g : ℕ) (old new : Owner) → slice_get w.owners g ≡ Some old
        → (g ≡ h → IsMet old s → IsMet new s) → MetIn (slice_set w.owners g new)
    set_met g old new found keep owner at = by (in_set w.owners g old new found h owner at)
      where
        by : (slice_get w.owners h ≡ Some owner) ⊎ ((g ≡ h) × (new ≡ owner)) → IsMet owner s
        by o = grind arith

    -- where there is one more, which holds no job yet
    pushed_met : (new : Owner) → MetIn (w.owners ++ new ∷ [])
    pushed_met new owner at = by (in_pushed w.owners new h owner at)
      where
        by : (slice_get w.owners h ≡ Some owner) ⊎ ((h ≡ length w.owners) × (new ≡ owner))
            → IsMet owner s
        by (inl before) = still owner before
        by (inr now) =
            let there = owner_there setting plan w past t h s held in
            let within : h < length w.owners = slice_get_within w.owners h there.0 there.1 in
            let beyond = now.0 in
            absurd (omega (arith, within, beyond))

    -- where a job acts
    acts_met : (v : ℕ) (job : InHand) (did : Done) → done_by w job ≡ Some did → MetIn did.owners
    acts_met v job did does = by job.row.core refl
      where
        by : (c : Core) → job.row.core ≡ c → MetIn did.owners
        by (core.Call k call) is =
            let a = call_acts w job.held.stage k call did
            (ap (λ c. done job.held.stage c w.tasks w.owners) (sym is) ∙ does) in
            subst MetIn (sym a.owners_are) still
        by (core.Session g read) is =
            let a = session_acts w job.held.stage g read did
            (ap (λ c. done job.held.stage c w.tasks w.owners) (sym is) ∙ does) in
            let seat = seat_as a.owner.session (capacity_of a.owner) (cut g (events past))
            (t.owned.each g a.owner a.there).last in
            subst MetIn (sym a.owners_are)
            (set_met g a.owner (owners.owner_after a.step a.owner)
            a.there (λ same met. step_met job.held.stage read a.step a.owner s
            (is_job_seated (cut g (events past))) a.next seat met))

    -- after each move
    move_met : (move : Move) (e : Event) (new : Parts) → May w move → SaidBy w move e
        → EachMayFollow (PoolLaw setting plan) (moment new (step_of move) e ∷ past)
        → is_left (moment new (step_of move) e ∷ past) s ≡ true
        → MetIn (owners_after w move)
    move_met (Makes capacity client) e new may told laws later =
        pushed_met (new_owner capacity client)
    move_met (Asks step g call owner) e new may told laws later =
        set_met g owner _ may.0 (λ same met. asked_met call owner s met)
    move_met (Owns g owner did) e new may told laws later =
        set_met g owner did.owner may.0 (λ same met. did_met owner s did may.1 met)
    move_met (Lends g owner (Ok number)) e new may told laws later =
        set_met g owner _ may.0 (λ same met. absurd
        (none_begins h s owner (ap (slice_get w.owners) (sym same) ∙ may.0) held left may.1))
    move_met (Lends g owner (Err why)) e new may told laws later =
        set_met g owner _ may.0 (λ same met. refused_met why owner s met)
    move_met (Delivers g owner number) e new may told laws later =
        set_met g owner _ may.0 (λ same met. delivered_met owner s other met)
      where
        -- a wake that reaches a job takes it from its owner
        other : is_number (note_at owner.stage) s ≡ true → ⊥
        other noted = grind arith
    move_met (IsDropped g owner) e new may told laws later =
        set_met g owner _ may.0 (λ same met. dropped_met owner s may.1 met)
    move_met (Works v job did) e new may told laws later = acts_met v job did may.1
    move_met _ e new may told laws later = still

  -- ---- a job that parks now

  -- the job in a hand parks: it is seated at its owner
  job_parks : (v : ℕ) (job : InHand) (did : Done) (h : ℕ) (owner : Owner) → IsHere w v job
      → done_by w job ≡ Some did → did.act ≡ JobParked → party_of job.row.core ≡ ByOwner h
      → slice_get did.owners h ≡ Some owner
      → IsMet owner job.held.turn.serial
  job_parks v job did h owner here does parks mine found = by job.row.core refl mine
    where
      by : (c : Core) → job.row.core ≡ c → party_of c ≡ ByOwner h → IsMet owner job.held.turn.serial
      by (core.Call k call) is its = absurd cc
      by (core.Session g read) is its =
          let s = job.held.turn.serial in
          let same : g ≡ h = cc in
          let acts = acts_of s (events past) in
          let as_row = t.rowed.each s job.row here.has_row in
          let held : holder past s ≡ Some (ByOwner g) =
          as_row.held_by ∙ ap (λ c. Some (party_of c)) is in
          let a = session_acts w job.held.stage g read did
          (ap (λ c. done job.held.stage c w.tasks w.owners) (sym is) ∙ does) in
          let p = parks_so job.held.stage read a.step a.owner did.act a.next a.act_is parks in
          let going : has_given_up acts ≡ false =
          subst (λ at. PlaceAs (Some Running) (turn_of at) (is_at_first job.row.core) acts)
          p.runs (job_place setting plan w past t v job here) in
          let read_so : JobAs read acts = subst (λ c. CoreAs c acts) is as_row.core going in
          let kind : kind_of_job s (own (cut g (events past))) ≡ jobs.kind_of read =
          ap (λ who. kind_by who past s) (sym held) ∙ as_row.kind_is ∙ ap kind_of is in
          let goes = first_goes read acts read_so p.first in
          let l = is_its_last g s a.owner a.there held
          (ap (λ l. is_over (next_but_wake (kind_of_job s (own (cut g (events past)))) l))
          (t.owned.acts g s held) ∙ ap (λ k. is_over (next_but_wake k acts)) kind ∙ goes) in
          let seat : seated_in (owners.owner_after a.step a.owner).session ≡ Some l.session.number =
          p.seat ∙ ap number_in l.here in
          let now = got_same w.owners g (owners.owner_after a.step a.owner)
          (slice_get_within w.owners g a.owner a.there) in
          let there : slice_get (slice_set w.owners g (owners.owner_after a.step a.owner)) g
          ≡ Some owner =
          ap (λ l. slice_get l g) (sym a.owners_are) ∙ ap (slice_get did.owners) same ∙ found in
          let one =
          one_found (slice_get (slice_set w.owners g (owners.owner_after a.step a.owner)) g)
          (owners.owner_after a.step a.owner) owner now there in
          subst (λ (o : Owner). IsMet o s) one
          (inl (ap (λ o. is_number o s) seat ∙ eq-eqb l.session.number.serial s (sym l.same)))

  move_parks : (move : Move) (e : Event) (new : Parts) (h s : ℕ) (owner : Owner) → May w move
      → SaidBy w move e → EachMayFollow (PoolLaw setting plan) (moment new (step_of move) e ∷ past)
      → e.act ≡ JobParked → is_of_job s e ≡ true
      → holder (moment new (step_of move) e ∷ past) s ≡ Some (ByOwner h)
      → slice_get (owners_after w move) h ≡ Some owner → IsMet owner s
  move_parks (Works v job did) e new h s owner may told laws parks its held found =
      let n = job.held.turn.serial in
      let here = job_here w v job may.0 in
      let act : did.act ≡ JobParked = sym told.act_is ∙ parks in
      let same : n ≡ s = eqb-true n s
      (sym (by_worker v n s did.act e told (ap is_of_pool act) (ap is_nothing act)) ∙ its) in
      let mine : Some (party_of job.row.core) ≡ Some (ByOwner h) =
      sym (keeps setting plan
      past _ laws n (party_of job.row.core) (t.rowed.each n job.row here.has_row).held_by)
      ∙ ap (holder (moment new (step_of (Works v job did)) e ∷ past)) same ∙ held in
      subst (IsMet owner) same
      (job_parks v job did h owner here may.1 act (ap (value_of (ByOwner h)) mine) found)
  move_parks (IsAnswered v job answer) e new h s owner may told laws parks its held found =
      absurd (let other = told.act_is in cc)
  move_parks move e new h s owner may told laws parks its held found =
      absurd (let other = no_work w move e s refl told in cc)

  -- ---- all of them

  -- A job that is left to its owner after a move is met there.
  pub crossed_after : (move : Move) (e : Event) (new : Parts)
      → May w move → CrewMoves (IsPlanned plan) move w e new → new.owners ≡ owners_after w move
      → CrewHolds setting plan new.crew (moment new (step_of move) e ∷ past)
      → Crossed new (moment new (step_of move) e ∷ past)
  crossed_after move e new may does owners later h s owner found held left =
      by (left_before setting plan past (moment new (step_of move) e) later.laws s left)
    where
      told : SaidBy w move e
      told = said plan w move e new may does

      there : slice_get (owners_after w move) h ≡ Some owner
      there = ap (λ l. slice_get l h) (sym owners) ∙ found

      -- a job that was left had a holder before, which it keeps
      held_before : is_left past s ≡ true → (o : Option Party) → holder past s ≡ o
          → holder past s ≡ Some (ByOwner h)
      held_before before None none =
          absurd (let stands = ap is_some (sym none) ∙ holder_stands setting plan w past t s
          ∙ left_stands (standing past s) (turn past s) (is_woken past s) before in cc)
      held_before before (Some who) is = is
          ∙ sym (keeps setting plan past (moment new (step_of move) e) later.laws s who is) ∙ held

      by : (is_left past s ≡ true) ⊎ ((e.act ≡ JobParked) × (is_of_job s e ≡ true)) → IsMet owner s
      by (inl before) = move_met h s (held_before before (holder past s) refl) before move e new may
          told later.laws left owner there
      by (inr parks) =
          move_parks move e new h s owner may told later.laws parks.0 parks.1 held there
