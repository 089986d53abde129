-- What a step makes of the row of the job in a worker's hand, and of its task or owner, is a move.
use Rattle.std.proofs.Common.{◌≡◌, ℕ, ◌-◌, ◌<◌, List, length, Bool, true, false, refl, sym, ap, ◌∙◌}
use Rattle.std.proofs.Common.{subst, Option, Some, None, slice_index_or, slice_get, slice_set}
use Rattle.std.proofs.Common.{option_map, is_some, arith}
use Rattle.std.proofs.lemmas.Option.{slice_get_within, slice_get_read}
use Rattle.blocking_world_state.proofs.Types.{Act, Answered, Event, Worker}
use Rattle.blocking_world_state.proofs.Types.{HandleAnswer, End, Io, Job}
use Rattle.blocking_world_state.proofs.Types.{Hand, Holds, TurnStage, Core, Row}
use Rattle.blocking_world_state.proofs.Words.{is_answered_action, is_turn_end, Crew, may_end}
use Rattle.blocking_world_state.proofs.Words.{hand_at, in_hand_of, next_start, nothing, NeverAsked}
use Rattle.blocking_world_state.proofs.Words.{Owner, Task, Idles, Works, IsAnswered, Parks, IsDue}
use Rattle.blocking_world_state.proofs.Words.{Moves, Parts, row_of, InHand, job_with, job_in}
use Rattle.blocking_world_state.proofs.Words.{job_at, places_of, next_in, next_at, done_by, done_in}
use Rattle.blocking_world_state.proofs.Words.{let_go_of, Done, done, IsDone, core_after_answer}
use Rattle.blocking_world_pool.specs.Moves as crew
use Rattle.blocking_world_pool.specs.declared.crew.InHand as crew_hand
use Rattle.blocking_world_pool.specs.declared.hand.TurnStage.TheVariants as stage
use Rattle.blocking_world_state.specs.Rows.{next_of}
use Rattle.blocking_world_state.specs.declared.parts.JobAt.{JobAt}
use Rattle.blocking_pool.proofs.Places.{set_same}
use Rattle.blocking_world_state.proofs.moves.Lookups.{one_found}
use Rattle.blocking_world_state.proofs.ties.Jobs.{job_here}

-- ---- the job in a hand

held_as : (hand : Hand) (here : crew_hand.InHand) → Some here ≡ in_hand_of hand
    → hand ≡ Holds (record { turn = here.number; stage = here.stage })
held_as hand here is = grind arith

-- the job in a hand, by what the crew tells of it and by its row
pub job_by_row : (w : Parts) (v : ℕ) (here : crew_hand.InHand) (row : Option Row)
    → Some here ≡ in_hand_of (hand_at w.crew.hands v) → row_of w.rows here.number.serial ≡ row
    → job_at w v ≡ job_with (record { turn = here.number; stage = here.stage }) row
job_by_row w v here row at found = ap (job_in w.rows) (held_as (hand_at w.crew.hands v) here at)
    ∙ ap (job_with (record { turn = here.number; stage = here.stage })) found

-- the job that is told by its places, and what stands there
pub record Placed (w : Parts) (v : ℕ) (at : JobAt) : Type 0 where
  pub job : InHand
  pub job_is : job_at w v ≡ Some job
  pub at_is : at ≡ places_of job
  pub row : slice_get w.rows at.row ≡ Some job.row

pub placed : (w : Parts) (v : ℕ) (at : JobAt) → Some at ≡ option_map places_of (job_at w v)
    → Placed w v at
placed w v at is = grind arith

pub row_within : (w : Parts) (v : ℕ) (at : JobAt) → Some at ≡ option_map places_of (job_at w v)
    → at.row < length w.rows
row_within w v at is = let p = placed w v at is in slice_get_within w.rows at.row p.job.row p.row

-- the row that is read there is that of the job
pub row_read : (w : Parts) (v : ℕ) (at : JobAt) (is : Some at ≡ option_map places_of (job_at w v))
    (old : Row) → old ≡ slice_index_or w.rows at.row old → (placed w v at is).job.row ≡ old
row_read w v at is old value = grind (arith, placed, one_found, slice_get_read, row_within)

-- what its worker does next
pub next_placed :
    (w : Parts) (v : ℕ) (at : JobAt) (is : Some at ≡ option_map places_of (job_at w v)) (old : Row)
    → old ≡ slice_index_or w.rows at.row old → next_at w v ≡ next_of at.stage old.core
next_placed w v at is old value =
    let p = placed w v at is in
    ap next_in p.job_is ∙ ap (λ (r : Row). next_of p.job.held.stage r.core)
    (row_read w v at is old value) ∙ sym (ap (λ (q : JobAt). next_of q.stage old.core) p.at_is)

none_at : (o : Option InHand) → None ≡ option_map places_of o → o ≡ None
none_at o is = grind arith

pub none_next : (w : Parts) (v : ℕ) → None ≡ option_map places_of (job_at w v)
    → next_at w v ≡ next_in None
none_next w v none = ap next_in (none_at (job_at w v) none)

pub none_done : (w : Parts) (v : ℕ) → None ≡ option_map places_of (job_at w v)
    → is_some (done_in w (job_at w v)) ≡ false
none_done w v none = ap (λ o. is_some (done_in w o)) (none_at (job_at w v) none)

-- ---- it acts

-- The job takes its next action, where that is its own to take; else nothing is done.
pub record Acted (w : Parts) (at : JobAt) (old : Row) (core : Core) (tasks : List Task)
    (owners : List Owner) (act : Option Act) : Type 0 where
  pub at_row : old ≡ slice_index_or w.rows at.row old
  pub is_done : IsDone (done at.stage old.core w.tasks w.owners) old.core w.tasks w.owners act core
      tasks owners

done_same : (w : Parts) (v : ℕ) (at : JobAt) (is : Some at ≡ option_map places_of (job_at w v))
    (old : Row) → old ≡ slice_index_or w.rows at.row old
    → done at.stage old.core w.tasks w.owners ≡ done_by w (placed w v at is).job
done_same w v at is old value = grind (arith, placed, row_read)

pub job_acts : (w : Parts) (v : ℕ) (at : JobAt) (old : Row) (core : Core)
    (tasks : List Task) (owners : List Owner) (act : Act) (e : Event) (new : Crew)
    → Some at ≡ option_map places_of (job_at w v)
    → Acted w at old core tasks owners (Some act)
    → crew.Moves NeverAsked (crew.Work v act) w.crew e new
    → Moves NeverAsked (Job v) w e (record {
      crew = new;
      rows =
          slice_set w.rows at.row (record old { core = core });
      tasks = tasks;
      owners = owners;
    })
job_acts w v at old core tasks owners act e new is a does =
    by (done at.stage old.core w.tasks w.owners) refl a.is_done
  where
    p : Placed w v at
    p = placed w v at is

    by : (o : Option Done) → done at.stage old.core w.tasks w.owners ≡ o
        → IsDone o old.core w.tasks w.owners (Some act) core tasks owners
        → Moves NeverAsked (Job v) w e (record {
          crew = new;
          rows = slice_set w.rows at.row
              (record old { core = core });
          tasks = tasks;
          owners = owners;
        })
    by None none d = let seen = d.0 in absurd cc
    by (Some did) some d =
        let same : act ≡ did.act = let seen = d.0 in cc in
        record {
          its_own = refl;
          move = Works v p.job did;
          step_is = refl;
          may = (p.job_is, sym (done_same w v at is old a.at_row) ∙ some);
          crew = subst (λ x. crew.Moves NeverAsked (crew.Work v x) w.crew e new) same does;
          rows_are =
              ap (λ (q : JobAt). slice_set w.rows q.row (record old { core = core })) p.at_is
              ∙ ap (λ (r : Row). slice_set w.rows (p.job.held.turn.serial - 1)
              (record r { core = core })) (sym (row_read w v at is old a.at_row))
              ∙ ap (λ c. slice_set w.rows (p.job.held.turn.serial - 1)
              (record p.job.row { core = c })) d.1;
          tasks_are = d.2;
          owners_are = d.3;
        }

pub job_rests : (w : Parts) (v : ℕ) (at : JobAt) (old : Row) (core : Core) (tasks : List Task)
    (owners : List Owner) (e : Event) → Some at ≡ option_map places_of (job_at w v)
    → Acted w at old core tasks owners None
    → e ≡ nothing (Worker v) (next_start w.crew) → Moves NeverAsked (Job v) w e (record w {
      rows =
          slice_set w.rows at.row (record old { core = core });
      tasks = tasks;
      owners = owners;
    })
job_rests w v at old core tasks owners e is a event =
    by (done at.stage old.core w.tasks w.owners) refl a.is_done
  where
    p : Placed w v at
    p = placed w v at is

    by : (o : Option Done) → done at.stage old.core w.tasks w.owners ≡ o
        → IsDone o old.core w.tasks w.owners None core tasks owners
        → Moves NeverAsked (Job v) w e (record w {
          rows = slice_set w.rows at.row
              (record old { core = core });
          tasks = tasks;
          owners = owners;
        })
    by (Some did) some d = let seen = d.0 in absurd cc
    by None none d =
        record {
          its_own = refl;
          move = Idles (Job v);
          step_is = refl;
          may = ap (λ o. is_some (done_in w o)) p.job_is
              ∙ ap is_some (sym (done_same w v at is old a.at_row) ∙ none);
          crew = (event, refl);
          rows_are = ap (λ c. slice_set w.rows at.row (record old { core = c })) d.1
              ∙ ap (slice_set w.rows at.row) (sym (row_read w v at is old a.at_row))
              ∙ set_same w.rows at.row p.job.row p.row;
          tasks_are = d.2;
          owners_are = d.3;
        }

-- ---- it is answered, and it parks

pub io_does : (w : Parts) (v : ℕ) (answer : HandleAnswer) (at : JobAt) (old : Row)
    (core : Core) (e : Event) (new : Crew) (is : Some at ≡ option_map places_of (job_at w v))
    → old ≡ slice_index_or w.rows at.row old
    → is_answered_action (next_of at.stage old.core) answer ≡ true
    → core ≡ core_after_answer answer old.core
    → crew.Moves NeverAsked (crew.Work v (Answered answer)) w.crew e new
    → Moves NeverAsked (Io v answer) w e
    (record w { crew = new; rows = slice_set w.rows at.row (record old { core = core }) })
io_does w v answer at old core e new is value answers core_is does =
    let p = placed w v at is in
    record {
      its_own = refl;
      move = IsAnswered v p.job answer;
      step_is = refl;
      may = (
        p.job_is,
        ap (λ next. is_answered_action next answer) (next_placed w v at is old value)
            ∙ answers,
      );
      crew = does;
      rows_are =
          ap (λ (q : JobAt). slice_set w.rows q.row (record old { core = core })) p.at_is ∙ ap
          (λ c. slice_set w.rows (p.job.held.turn.serial - 1) (record old { core = c })) core_is
          ∙ ap (λ (r : Row). slice_set w.rows
          (p.job.held.turn.serial - 1) (record r { core = core_after_answer answer r.core }))
          (sym (row_read w v at is old value));
      tasks_are = refl;
      owners_are = refl;
    }

pub parked : (w : Parts) (v : ℕ) (at : JobAt) (old : Row) (mark : Bool) (e : Event) (new : Crew)
    (is : Some at ≡ option_map places_of (job_at w v)) → old ≡ slice_index_or w.rows at.row old
    → at.stage ≡ stage.Waits
    → mark ≡ let_go_of w old.core
    → crew.Moves NeverAsked (crew.Park v (record { is_marked = mark })) w.crew e new
    → Moves NeverAsked (End v) w e (record w { crew = new })
parked w v at old mark e new is value waits mark_is does =
    let p = placed w v at is in
    let same : mark ≡ let_go_of w p.job.row.core =
    mark_is ∙ ap (λ (r : Row). let_go_of w r.core) (sym (row_read w v at is old value)) in
    record {
      its_own = refl;
      move = Parks v p.job;
      step_is = refl;
      may = (p.job_is, sym (ap (λ (q : JobAt). q.stage) p.at_is) ∙ waits);
      crew = subst (λ b.
          crew.Moves NeverAsked (crew.Park v (record { is_marked = b })) w.crew e new) same does;
      rows_are = refl;
      tasks_are = refl;
      owners_are = refl;
    }

-- ---- its turn ends

ends_here : (at : TurnStage) (c : Core) → is_turn_end (next_of at c) ≡ true → (at ≡ stage.Waits → ⊥)
    → may_end at ≡ true
ends_here at c ends other = grind arith

-- a turn with nothing left to do may end, where its job doesn't wait
pub due :
    (w : Parts) (v : ℕ) (at : JobAt) (old : Row) (is : Some at ≡ option_map places_of (job_at w v))
    → old ≡ slice_index_or w.rows at.row old → is_turn_end (next_of at.stage old.core) ≡ true
    → (at.stage ≡ stage.Waits → ⊥) → IsDue w (crew.End v)
due w v at old is value ends other = grind (arith, placed, ends_here, next_placed, job_here)
