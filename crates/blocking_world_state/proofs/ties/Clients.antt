-- Each move leaves each owner of the client that it was made for.
use Rattle.std.proofs.Common.{◌≡◌, ◌⊎◌, inl, inr, ℕ, ◌==◌, ◌++◌, List, [], ◌∷◌, length, Bool, true}
use Rattle.std.proofs.Common.{false, refl, sym, ap, ◌∙◌, subst, Some, if◌then◌else◌, slice_get}
use Rattle.std.proofs.Common.{slice_set, Result, arith}
use Rattle.std.proofs.lemmas.Bool.{eq-eqb}
use Rattle.std.proofs.lemmas.Bool.Decides.{nat_tests}
use Rattle.std.proofs.lemmas.Option.{slice_get_within}
use Rattle.blocking_world_state.proofs.Types.{Refusal, Act, Made, Event, Moment, New, Core}
use Rattle.blocking_world_state.proofs.Words.{JobNumber, IsPlanned, client_made, client_of_owner}
use Rattle.blocking_world_state.proofs.Words.{makes, is_making, added_act, OwnerStep, Acts}
use Rattle.blocking_world_state.proofs.Words.{owner_after, Owner, did, new_owner, Move, Makes, Asks}
use Rattle.blocking_world_state.proofs.Words.{Owns, Lends, Delivers, IsDropped, Begins, Calls}
use Rattle.blocking_world_state.proofs.Words.{Works, IsAnswered, lent_step, step_of, owners_after}
use Rattle.blocking_world_state.proofs.Words.{May, CrewMoves, Parts, InHand, Done, done, done_by}
use Rattle.blocking_world_state.proofs.Words.{Assigned, moment, Tied}
use Rattle.blocking_world_holders.specs.OwnerSteps as owners
use Rattle.blocking_world_holders.specs.OwnerSteps.{owner_in}
use Rattle.blocking_world_state.specs.declared.row.Core.TheVariants as core
use Rattle.blocking_pool.proofs.Places.{in_pushed}
use Rattle.blocking_world_holders.proofs.acts.Calls.{by_call}
use Rattle.blocking_world_holders.proofs.owners.Clients.{steady}
use Rattle.blocking_world_holders.proofs.owners.Events.{plain_of}
use Rattle.blocking_world_state.proofs.moves.Lookups.{kept_in}
use Rattle.blocking_world_state.proofs.ties.Events.{SaidBy, alone, done_fits, said}
use Rattle.blocking_world_state.proofs.ties.JobSteps.{call_acts, may_plain, session_acts}

-- ---- an owner is made

-- what makes no owner makes this one neither
makes_none : (h : ℕ) (act : Act) → is_making act ≡ false → makes h act ≡ false
makes_none h act none = grind arith

-- whether a move makes an owner
abbrev is_maker : Move → Bool
is_maker (Makes capacity client) = true
is_maker _ = false

added_none : (added : Result JobNumber Refusal) → is_making (added_act added) ≡ false
added_none added = grind arith

-- no other move is seen to make one
none_made : (w : Parts) (move : Move) (e : Event) → May w move → SaidBy w move e
    → is_maker move ≡ false → is_making e.act ≡ false
none_made w (Makes capacity client) e may told other = absurd cc
none_made w (Asks step h call owner) e may told other = ap is_making told.act_is
none_made w (Owns h owner did) e may told other =
    ap is_making told.act_is ∙ (plain_of Acts owner did.act (ap owners.act_in may.1)).made
none_made w (Lends h owner added) e may told other = ap is_making told.act_is ∙ added_none added
none_made w (Delivers h owner number) e may told other = ap is_making told.1.act_is
none_made w (IsDropped h owner) e may told other = ap is_making told.act_is
none_made w (Begins client added) e may told other = ap is_making told.act_is ∙ added_none added
none_made w (Calls k call task) e may told other =
    ap is_making told.act_is
    ∙ by_call (λ act. is_making act ≡ false) refl (λ n. refl) refl refl refl refl call task
none_made w (Works v job did) e may told other =
    ap is_making told.act_is ∙ (may_plain job.held.stage did.act
    (done_fits did job.held.stage job.row.core w.tasks w.owners may.1)).made
none_made w (IsAnswered v job answer) e may told other = ap is_making told.act_is
none_made w move e may told other = (alone w move e refl told).none_made

-- ---- the owners after it

-- an owner that was there was of the same client
abbrev WasOf : Parts → ℕ → Owner → Type 0
WasOf w h owner = (old : Owner) × (slice_get w.owners h ≡ Some old) × (old.client ≡ owner.client)

stepped : (w : Parts) (g : ℕ) (step : OwnerStep) (old : Owner)
    → slice_get w.owners g ≡ Some old → (h : ℕ) (owner : Owner)
    → slice_get (slice_set w.owners g (owner_after step old)) h ≡ Some owner → WasOf w h owner
stepped w g step old there h owner found = kept_in (λ (o : Owner). o.client) w.owners g old
    (owner_after step old) there (sym (steady step old)) h owner found

-- so too where a job acts
worked : (w : Parts) (job : InHand) (did : Done) → done_by w job ≡ Some did
    → (h : ℕ) (owner : Owner) → slice_get did.owners h ≡ Some owner → WasOf w h owner
worked w job did does h owner found = by job.row.core refl
  where
    by : (c : Core) → job.row.core ≡ c → WasOf w h owner
    by (core.Call k call) is =
        let a = call_acts w job.held.stage k call did
        (ap (λ c. done job.held.stage c w.tasks w.owners) (sym is) ∙ does) in
        (owner, ap (λ (l : List Owner). slice_get l h) (sym a.owners_are) ∙ found, refl)
    by (core.Session g read) is =
        let a = session_acts w job.held.stage g read did
        (ap (λ c. done job.held.stage c w.tasks w.owners) (sym is) ∙ does) in
        stepped w g a.step a.owner a.there h owner
        (ap (λ (l : List Owner). slice_get l h) (sym a.owners_are) ∙ found)

stays_of : (w : Parts) (move : Move) → May w move → is_maker move ≡ false → (h : ℕ) (owner : Owner)
    → slice_get (owners_after w move) h ≡ Some owner → WasOf w h owner
stays_of w (Makes capacity client) may other h owner found = absurd cc
stays_of w (Asks step g call old) may other h owner found =
    stepped w g (owners.IsAsked call) old may.0 h owner found
stays_of w (Owns g old did) may other h owner found =
    stepped w g Acts old may.0 h owner
    (ap (λ o. slice_get (slice_set w.owners g (owner_in o old)) h) may.1 ∙ found)
stays_of w (Lends g old added) may other h owner found =
    stepped w g (lent_step added) old may.0 h owner found
stays_of w (Delivers g old number) may other h owner found =
    kept_in (λ (o : Owner). o.client) w.owners g old _ may.0 refl h owner found
stays_of w (IsDropped g old) may other h owner found =
    stepped w g owners.IsDropped old may.0 h owner found
stays_of w (Works v job did) may other h owner found = worked w job did may.1 h owner found
stays_of w _ may other h owner found = (owner, found, refl)

-- ---- each move

module _ (setting : ℕ) (plan : List Bool) (w : Parts) (past : List Moment)
    (t : Tied setting plan w past) (e : Event) (new : Parts) where
  -- a new owner is of the client that its step names
  made_of : (capacity client : ℕ) → e.act ≡ Made (length w.owners) capacity → Assigned
      (w.owners ++ new_owner capacity client ∷ []) (moment new (New capacity client) e ∷ past)
  made_of capacity client act h owner found =
      by (in_pushed w.owners (new_owner capacity client) h owner found)
    where
      whose : Bool → ℕ
      whose b = if b then client else client_of_owner past h

      here : client_of_owner (moment new (New capacity client) e ∷ past) h
          ≡ whose (length w.owners == h)
      here = ap (λ a. whose (makes h a)) act

      by : (slice_get w.owners h ≡ Some owner)
          ⊎ ((h ≡ length w.owners) × (new_owner capacity client ≡ owner))
          → owner.client ≡ client_of_owner (moment new (New capacity client) e ∷ past) h
      by (inl before) =
          let within = slice_get_within w.owners h owner before in
          let other : (length w.owners == h) ≡ false = grind (arith, nat_tests) in
          t.assigned h owner before ∙ sym (here ∙ ap whose other)
      by (inr now) =
          sym (ap (λ (o : Owner). o.client) now.1)
          ∙ sym (here ∙ ap whose (ap (λ n. n == h) (sym now.0) ∙ eq-eqb h h refl))

  -- the others stay of theirs
  others_of : (move : Move) → May w move → SaidBy w move e → is_maker move ≡ false
      → Assigned (owners_after w move) (moment new (step_of move) e ∷ past)
  others_of move may told other h owner found =
      let was = stays_of w move may other h owner found in
      let none = makes_none h e.act (none_made w move e may told other) in
      sym was.2 ∙ t.assigned h was.0 was.1
      ∙ sym (ap (λ b. if b then client_made (step_of move) else client_of_owner past h) none)

  by_move : (move : Move) → May w move → SaidBy w move e
      → Assigned (owners_after w move) (moment new (step_of move) e ∷ past)
  by_move (Makes capacity client) may told = made_of capacity client told.act_is
  by_move move may told = others_of move may told refl

  -- After each move each owner is of the client that it was made for.
  pub assigned_after : (move : Move) → May w move → CrewMoves (IsPlanned plan) move w e new
      → new.owners ≡ owners_after w move → Assigned new.owners (moment new (step_of move) e ∷ past)
  assigned_after move may does owners =
      subst (λ all. Assigned all (moment new (step_of move) e ∷ past)) (sym owners)
      (by_move move may (said plan w move e new may does))
