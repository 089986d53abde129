-- What an act of a job does at its task or at its owner is what it does to all of them.
use Rattle.std.proofs.Common.{◌≡◌, ℕ, List, length, refl, sym, ap, ◌∙◌, subst, Option, Some, None}
use Rattle.std.proofs.Common.{slice_get, slice_set, arith}
use Rattle.std.proofs.Math.ListN.{length-set}
use Rattle.blocking_world_state.proofs.Types.{Act, TurnStage, SessionJob, Core}
use Rattle.blocking_world_state.proofs.Words.{OwnerStep, act_of_work, owner_after_work}
use Rattle.blocking_world_state.proofs.Words.{job_after_work, Owner, Worked, worked, TaskStep, Task}
use Rattle.blocking_world_state.proofs.Words.{call_step, session_step, Done, call_done}
use Rattle.blocking_world_state.proofs.Words.{session_seen, session_done, done, IsDone, IsActed}
use Rattle.blocking_world_state.proofs.Words.{IsActedFor}
use Rattle.blocking_world_pool.specs.declared.hand.TurnStage.TheVariants as stage
use Rattle.blocking_world_holders.specs.Calls as calls
use Rattle.blocking_world_holders.specs.OwnerSteps as owner_steps
use Rattle.blocking_world_state.specs.declared.row.Core.TheVariants as core
use Rattle.blocking_pool.proofs.Places.{set_same}
use Rattle.blocking_world_state.proofs.moves.SessionActs.{moved}

-- the job of a call
pub call_acts : (tasks : List Task) (owners : List Owner) (k : ℕ) (call new_call : calls.Progress)
    (at : TurnStage) (task new_task : Task) (seen : Option Act) → slice_get tasks k ≡ Some task
    → IsActed (call_step at call) at call task seen new_call new_task
    → IsDone (done at (core.Call k call) tasks owners) (core.Call k call) tasks owners seen
    (core.Call k new_call) (slice_set tasks k new_task) owners
call_acts tasks owners k call new_call at task new_task seen found acts = grind (arith, set_same)

-- the job of a session
pub session_acts : (tasks : List Task) (owners : List Owner) (h : ℕ) (read new_read : SessionJob)
    (at : TurnStage) (owner new_owner : Owner) (seen : Option Act) → slice_get owners h ≡ Some owner
    → IsActedFor (session_step at read) read owner seen new_read new_owner
    → IsDone (done at (core.Session h read) tasks owners) (core.Session h read) tasks owners seen
    (core.Session h new_read) tasks (slice_set owners h new_owner)
session_acts tasks owners h read new_read at owner new_owner seen found acts =
    subst (λ o. IsDone (session_done h read tasks owners o (session_step at read))
    (core.Session h read) tasks owners seen (core.Session h new_read) tasks
    (slice_set owners h new_owner)) (sym found) (by at acts)
  where
    same : seen ≡ None → new_read ≡ read → new_owner ≡ owner → IsDone None (core.Session h read)
        tasks owners seen (core.Session h new_read) tasks (slice_set owners h new_owner)
    same none job stays = (
      none,
      ap (core.Session h) job,
      refl,
      ap (slice_set owners h) stays ∙ set_same owners h owner found,
    )

    by : (at : TurnStage) → IsActedFor (session_step at read) read owner seen new_read new_owner
        → IsDone (session_done h read tasks owners (Some owner) (session_step at read))
        (core.Session h read) tasks owners seen (core.Session h new_read) tasks
        (slice_set owners h new_owner)
    by stage.MustGiveUp is = (is.0, ap (core.Session h) is.1, refl, ap (slice_set owners h) is.2)
    by stage.MustWake is = (is.0, ap (core.Session h) is.1, refl, ap (slice_set owners h) is.2)
    by stage.Runs is = works (worked read owner) refl is
      where
        works : (o : Option Worked)
            → worked read owner ≡ o → (seen ≡ act_of_work (worked read owner))
            × (new_read ≡ job_after_work (worked read owner) read)
            × (new_owner ≡ owner_after_work (worked read owner) owner)
            → IsDone (session_done h read tasks owners (Some owner) (session_step stage.Runs read))
            (core.Session h read) tasks owners seen (core.Session h new_read) tasks
            (slice_set owners h new_owner)
        works None none is =
            subst (λ a. IsDone (session_seen h read tasks owners owner (owner_steps.Works read) a)
            (core.Session h read) tasks owners seen (core.Session h new_read) tasks
            (slice_set owners h new_owner)) (sym (ap act_of_work none))
            (same (is.0 ∙ ap act_of_work none) (is.1 ∙ ap (λ o. job_after_work o read) none)
            (is.2 ∙ ap (λ o. owner_after_work o owner) none))
        works (Some did) some is =
            subst (λ a. IsDone (session_seen h read tasks owners owner (owner_steps.Works read) a)
            (core.Session h read) tasks owners seen (core.Session h new_read) tasks
            (slice_set owners h new_owner)) (sym (ap act_of_work some)) (
              is.0 ∙ ap act_of_work
                  some,
              ap (core.Session h) is.1,
              refl,
              ap (slice_set owners h) is.2,
            )
    by _ is = same is.0 is.1 is.2

-- ---- how many there are

abbrev SameLengths : List Task → List Owner → Done → Type 0
SameLengths tasks owners did =
    (length did.tasks ≡ length tasks) × (length did.owners ≡ length owners)

done_lengths : (at : TurnStage) (c : Core) (tasks : List Task) (owners : List Owner) (did : Done)
    → done at c tasks owners ≡ Some did → SameLengths tasks owners did
done_lengths at (core.Call k call) tasks owners did is =
    by (slice_get tasks k) (call_step at call) is
  where
    by : (o : Option Task) (step : Option TaskStep)
        → call_done k call at tasks owners o step ≡ Some did → SameLengths tasks owners did
    by (Some task) (Some step) is =
        moved (SameLengths tasks owners) _ did is (length-set tasks k _, refl)
    by _ _ is = absurd cc
done_lengths at (core.Session h read) tasks owners did is =
    by (slice_get owners h) (session_step at read) is
  where
    seen : (owner : Owner) (step : OwnerStep) (a : Option Act)
        → session_seen h read tasks owners owner step a ≡ Some did → SameLengths tasks owners did
    seen owner step None is = absurd cc
    seen owner step (Some act) is =
        moved (SameLengths tasks owners) _ did is (refl, length-set owners h _)

    by : (o : Option Owner) (step : Option OwnerStep)
        → session_done h read tasks owners o step ≡ Some did → SameLengths tasks owners did
    by (Some owner) (Some step) is = seen owner step (owner_steps.act_of step owner) is
    by _ _ is = absurd cc

pub same_lengths : (at : TurnStage) (c : Core) (tasks : List Task) (owners : List Owner)
    (act : Option Act) (new : Core) (new_tasks : List Task) (new_owners : List Owner)
    → IsDone (done at c tasks owners) c tasks owners act new new_tasks new_owners
    → (length new_tasks ≡ length tasks) × (length new_owners ≡ length owners)
same_lengths at c tasks owners act new new_tasks new_owners is = by (done at c tasks owners) refl is
  where
    by : (o : Option Done)
        → done at c tasks owners ≡ o → IsDone o c tasks owners act new new_tasks new_owners
        → (length new_tasks ≡ length tasks) × (length new_owners ≡ length owners)
    by None none is = (ap length is.2, ap length is.3)
    by (Some did) some is = let l = done_lengths at c tasks owners did some in
        (ap length is.2 ∙ l.0, ap length is.3 ∙ l.1)
