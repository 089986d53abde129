-- Whatever a crew does, it hangs together with what was seen, and the law of the pool holds.
use Rattle.std.proofs.Common.{[], ◌||◌, ◌≡◌, ℕ, List, ◌∷◌, Bool, true, false, refl, sym, ap, ◌∙◌}
use Rattle.std.proofs.Common.{subst, Option, Some, None, ◌==◌, arith}
use Rattle.std.proofs.lemmas.Bool.{cond_both}
use Rattle.std.specs.Ordering.{nat_cmp}
use Rattle.blocking_world_pool.proofs.Types.{Act, Event, Moment, Step, Out}
use Rattle.blocking_world_pool.proofs.Words.{Narrows, empty_pool, IsPlanned, is_nothing, Crew, Call}
use Rattle.blocking_world_pool.proofs.Words.{Move, Tells, call_of, next_start, after, is_aside, May}
use Rattle.blocking_world_pool.proofs.Words.{Moves, no_growth, FiledAs, HandAs, Crewed, CrewHolds}
use Rattle.blocking_world_pool.proofs.Words.{seen_as, moment_of, IsAsked, IsAside}
use Rattle.std.specs.FinMap as map
use Rattle.blocking_world_laws.specs.Legal.{PoolLaw}
use Rattle.blocking_world_laws.proofs.Queues.{order_after}
use Rattle.blocking_world_pool.proofs.laws.Answers.{answer_law}
use Rattle.blocking_world_pool.proofs.laws.Growth.{growth_law}
use Rattle.blocking_world_pool.proofs.laws.Turns.{turn_law}
use Rattle.blocking_world_pool.proofs.ready.Changes.{no_hand, empty_ready}
use Rattle.blocking_world_pool.proofs.ready.Moves.{ready_after}
use Rattle.blocking_world_pool.proofs.ties.Acts.{now_with}
use Rattle.blocking_world_pool.proofs.ties.Clients.{clients_after, client_limit_after}
use Rattle.blocking_world_pool.proofs.ties.Counts.{counts_after}
use Rattle.blocking_world_pool.proofs.ties.Hands.{hands_after}
use Rattle.blocking_world_pool.proofs.ties.Jobs.{jobs_after}
use Rattle.blocking_world_pool.proofs.ties.Queue.{queue_after, serials_after}
use Rattle.blocking_world_pool.proofs.ties.Starts.{may_more}

-- an act that is nothing to the crew, or none at all
aside_is : (act : Act) → (is_aside act || is_nothing act) ≡ true → is_aside act ≡ true
aside_is act is = grind arith

module _ (setting : ℕ) (plan : List Bool) (crew : Crew) (past : List Moment)
    (h : CrewHolds setting plan crew past) where
  -- After each move the crew hangs together with what was seen.
  pub tied_after : (move : Move) (step : Step) (owner : Option ℕ)
      → May (IsPlanned plan) crew move → IsAsked crew past step (call_of move)
      → Crewed setting (after crew move) (moment_of crew move step owner ∷ past)
  tied_after move step owner may asked = record {
    numbered = serials_after setting plan crew past step owner h move may asked;
    filed = jobs_after setting plan crew past step owner h move may asked;
    assigned = clients_after setting plan crew past step owner h move may asked;
    limited = client_limit_after setting plan crew past step owner h move may;
    lined = queue_after setting plan crew past step owner h move may asked;
    counted = counts_after setting plan crew past step owner h move may asked;
    handed = hands_after setting plan crew past step owner h move may;
  }

  -- At each move the law of the pool holds. That jobs are taken in order is a theorem of the laws,
  -- since each move is answered as they say.
  pub pool_law : (move : Move) (step : Step) (owner : Option ℕ)
      → May (IsPlanned plan) crew move → IsAsked crew past step (call_of move)
      → PoolLaw setting plan past (moment_of crew move step owner)
  pool_law move step owner may asked = record {
    growth = growth_law setting plan crew past step owner h move may asked;
    answers = answer_law setting plan crew past step owner h move may asked;
    turns = turn_law setting plan crew past step owner h move may;
    order = order_after setting plan past (moment_of crew move step owner) h.laws
        (answer_law setting plan crew past step owner h move may asked);
  }

  -- So all of it holds after each move,
  pub holds_after : (move : Move) (step : Step) (owner : Option ℕ)
      → May (IsPlanned plan) crew move → IsAsked crew past step (call_of move)
      → CrewHolds setting plan (after crew move) (moment_of crew move step owner ∷ past)
  holds_after move step owner may asked = record {
    tied = tied_after move step owner may asked;
    ready = ready_after (IsPlanned plan) crew move h.ready may;
    laws = (pool_law move step owner may asked, h.laws);
  }

  -- after each call, whatever step of the layer above it was, and whoever's job,
  pub holds_moved : (may_answer : ℕ → Bool → Type 0) (call : Call) (e : Event)
      (new : Crew) (step : Step) (owner : Option ℕ) → Narrows (IsPlanned plan) may_answer
      → Moves may_answer call crew e new → IsAsked crew past step call
      → CrewHolds setting plan new (seen_as step e owner ∷ past)
  holds_moved may_answer call e new step owner narrow moves asked =
      rw (moves.after_is, moves.event_is) (holds_after moves.move
      step owner (may_more (IsPlanned plan) may_answer narrow crew moves.move moves.may)
      (subst (IsAsked crew past step) moves.call_is asked))

  -- and after an event that is nothing to the crew.
  pub holds_aside : (last : Moment) → IsAside crew last.event
      → CrewHolds setting plan crew (last ∷ past)
  holds_aside last a =
      subst (λ (f : Event).
      CrewHolds setting plan crew (record { step = last.step; event = f } ∷ past)) same
      (holds_after (Tells last.event.party last.event.act) last.step last.event.owner
      (aside_is last.event.act a.act) tt)
    where
      same : (now_with last.step last.event.owner last.event.party None last.event.act
          (next_start crew) no_growth).event ≡ last.event
      same =
          ap (λ (j : Option ℕ). record last.event {
            job = j;
            first = next_start crew;
            started = 0;
            start_refused = false;
          }) (sym a.job)
          ∙ ap (λ (n : ℕ). record last.event { first = n; started = 0; start_refused = false })
          (sym a.first)
          ∙ ap (λ (n : ℕ). record last.event { started = n; start_refused = false }) (sym a.started)
          ∙ ap (λ (b : Bool). record last.event { start_refused = b }) (sym a.refused)

-- ---- a new crew

-- A new crew hangs together with what was seen, which is nothing.
pub begins : (setting : ℕ) (plan : List Bool)
    → CrewHolds setting plan (record { pool = empty_pool setting 1 1; hands = [] }) []
begins setting plan = record {
  tied = record {
    numbered = record { next = refl; all_are = refl };
    filed = λ s. subst (λ entry. FiledAs entry None false false false false)
        (sym (map.get-empty nat_cmp s)) (refl, refl, refl, refl);
    assigned = λ s entry found.
        absurd (let bad : None ≡ Some entry = sym (map.get-empty nat_cmp s) ∙ found in cc);
    limited = record { limit_is = refl; positive = tt };
    lined = refl;
    counted = record {
      workers_are = refl;
      idle_are = refl;
      arriving_are = refl;
      hands_are = refl;
      busy_are = refl;
      setting_is = refl;
      limit_is = refl;
      known_is = refl;
      next_is = refl;
    };
    handed =
        record {
          each = λ v. cond_both (v == 0)
              Out Out (λ hand. HandAs hand false None) (λ is. (refl, refl)) (λ is. (refl, refl));
          turn_is = λ v held there. absurd (no_hand v held there);
        };
  };
  ready = empty_ready setting (empty_pool setting 1 1) [] refl refl;
  laws = tt;
}
