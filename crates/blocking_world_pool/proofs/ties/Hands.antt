-- Each move keeps the hands as they were seen.
use Rattle.std.proofs.Common.{[], ◌≡◌, ℕ, ◌+◌, ◌==◌, List, ◌∷◌, ◌++◌, Bool, true, false, length}
use Rattle.std.proofs.Common.{refl, sym, ap, ◌∙◌, subst, if◌then◌else◌, Option, Some, None, ◌&&◌}
use Rattle.std.proofs.Common.{◌||◌, not, Ok, Err, arith}
use Rattle.std.proofs.lemmas.Bool.{eqb-true, eqb-false, eq-eqb, ne_eqb, cond_both}
use Rattle.blocking_world_pool.proofs.Types.{Stay, Stop, Standing, Parked, Queued, Running}
use Rattle.blocking_world_pool.proofs.Types.{WorkerPass, Act, Ended, GaveUp, JobParked, HolderWaker}
use Rattle.blocking_world_pool.proofs.Types.{Moment, Party, Worker, Step, Hand, Free, Holds, Out}
use Rattle.blocking_world_pool.proofs.Types.{JobInHand, TurnStage}
use Rattle.blocking_world_pool.proofs.Words.{Growth, JobNumber, IsPlanned, standing, is_there, Turn}
use Rattle.blocking_world_pool.proofs.Words.{GoesOn, IsWaiting, MustGiveUp, HasGivenUp, turn, hand}
use Rattle.blocking_world_pool.proofs.Words.{Crew, may_act, stage_after, outcome_of, standing_after}
use Rattle.blocking_world_pool.proofs.Words.{hand_at, with_hand, held_after_act, Move, Adds}
use Rattle.blocking_world_pool.proofs.Words.{Arrives, TakesJob, TakesNone, Works, EndsTurn, Parks}
use Rattle.blocking_world_pool.proofs.Words.{HasWaited, IsLetGo, Tells, next_start, first_stage}
use Rattle.blocking_world_pool.proofs.Words.{after, May, no_growth, JobPool, HandAs, turn_of}
use Rattle.blocking_world_pool.proofs.Words.{Handed, CrewHolds, moment_of}
use Rattle.blocking_world_pool.specs.declared.hand.TurnStage.TheVariants as stage
use Rattle.blocking_world_pool.specs.declared.tickets.Parking.TheVariants as parking
use Rattle.blocking_world_pool.proofs.hands.Rows.{IsAt, at_held, at_free, hand_set, hand_pushed}
use Rattle.blocking_world_pool.proofs.hands.Rows.{hand_next}
use Rattle.blocking_world_pool.proofs.ties.Acts.{now_with, plain, aside_plain, by_work, by_let_go}
use Rattle.blocking_world_pool.proofs.ties.Standings.{held_runs, front_stands}

-- ---- a row of hands in which one has changed

at_set : (row : List Hand) (v u : ℕ) (old h : Hand) → IsAt row v old
    → (P : Hand → Type 0) → ((v == u) ≡ true → P h) → ((v == u) ≡ false → P (hand_at row u))
    → P (hand_at (with_hand row v h) u)
at_set row v u old h at P same other =
    subst P (sym (hand_set row v u old h at)) (cond_both (v == u) h (hand_at row u) P same other)

at_pushed : (row : List Hand) (u : ℕ) (h : Hand) (P : Hand → Type 0)
    → ((length row + 1 == u) ≡ true → P h) → ((length row + 1 == u) ≡ false → P (hand_at row u))
    → P (hand_at (row ++ h ∷ []) u)
at_pushed row u h P same other = subst P (sym (hand_pushed row u h))
    (cond_both (length row + 1 == u) h (hand_at row u) P same other)

module _ (setting : ℕ) (plan : List Bool) (crew : Crew) (past : List Moment) (step : Step)
    (owner : Option ℕ) (h : CrewHolds setting plan crew past) where
  abbrev now : Party → Option ℕ → Act → Growth → Moment
  now who job act growth = now_with step owner who job act (next_start crew) growth

  -- a worker's hand, by what was seen of it
  pub hand_seen : (v : ℕ) (hand_is : Hand) → hand_at crew.hands v ≡ hand_is
      → HandAs hand_is (is_there past v) (hand past v)
  hand_seen v hand_is e =
      subst (λ g. HandAs g (is_there past v) (hand past v)) e (h.tied.handed.each v)

  -- the hand of one worker changes
  changed : (v : ℕ) (old new : Hand) (pool : JobPool) (last : Moment) → IsAt crew.hands v old
      → HandAs new (is_there (last ∷ past) v) (hand (last ∷ past) v)
      → ((u : ℕ) → (v == u) ≡ false
      → (is_there (last ∷ past) u ≡ is_there past u) × (hand (last ∷ past) u ≡ hand past u))
      → ((held : JobInHand) → new ≡ Holds held
      → turn (last ∷ past) held.turn.serial ≡ turn_of held.stage)
      → ((u : ℕ) (held : JobInHand) → (v == u) ≡ false → hand_at crew.hands u ≡ Holds held
      → turn (last ∷ past) held.turn.serial ≡ turn past held.turn.serial)
      → Handed (record { pool = pool; hands = with_hand crew.hands v new }) (last ∷ past)
  changed v old new pool last at here others own_turn other_turns = record {
    each = λ u.
        at_set crew.hands v u old new at
        (λ g. HandAs g (is_there (last ∷ past) u) (hand (last ∷ past) u))
        (λ e. subst (λ n. HandAs new (is_there (last ∷ past) n) (hand (last ∷ past) n))
        (eqb-true v u e) here)
        (λ e. rw ((others u e).0, (others u e).1) (h.tied.handed.each u));
    turn_is = λ u held.
        at_set crew.hands v u old new at (λ g. g ≡ Holds held
        → turn (last ∷ past) held.turn.serial ≡ turn_of held.stage)
        (λ e is. own_turn held is)
        (λ e is. other_turns u held e is ∙ h.tied.handed.turn_is u held is);
  }

  -- the job in another hand is another
  other_job : (v u : ℕ) (one other : JobInHand) → (v == u) ≡ false
      → hand_at crew.hands v ≡ Holds one
      → hand_at crew.hands u ≡ Holds other → (one.turn.serial == other.turn.serial) ≡ false
  other_job v u one other e at is = ne_eqb one.turn.serial other.turn.serial
      (λ same. eqb-false v u e (h.ready.apart v u one other at is same))

  -- ---- each kind of move

  -- a free worker takes a job
  takes : (v : ℕ) (old : WorkerPass) (new : JobInHand) (turn_now : Turn) (pool : JobPool)
      (last : Moment)
      → hand_at crew.hands v ≡ Free old → standing past new.turn.serial ≡ Some Queued
      → turn_now ≡ turn_of new.stage
      → ((u : ℕ) → is_there (last ∷ past) u ≡ is_there past u)
      → ((u : ℕ) → hand (last ∷ past) u ≡ (if v == u then Some new.turn.serial else hand past u))
      → ((s : ℕ) → turn (last ∷ past) s ≡ (if new.turn.serial == s then turn_now else turn past s))
      → Handed (record { pool = pool; hands = with_hand crew.hands v (Holds new) }) (last ∷ past)
  takes v old new turn_now pool last at queued stage_is there job turns =
      let mine = hand_seen v (Free old) at in
      let t = new.turn.serial in
      changed v (Free old) (Holds new) pool last (at_free crew.hands v old at) (
        there v ∙ mine.0,
        job v ∙ ap (λ b. if b then Some t else hand past v) (eq-eqb v v refl),
      )
      (λ u e. (there u, job u ∙ ap (λ b. if b then Some t else hand past u) e))
      (λ held is. (let same : new ≡ held = cc in
      subst (λ (g : JobInHand). turn (last ∷ past) g.turn.serial ≡ turn_of g.stage) same
      (turns t ∙ ap (λ b. if b then turn_now else turn past t) (eq-eqb t t refl) ∙ stage_is)))
      (λ u held e is.
      (let differs = ne_eqb t held.turn.serial
      (λ same. (let rests = subst (λ n. standing past n ≡ Some Queued) same queued in
      let runs = held_runs setting plan crew past h u held is in
      let bad : Some Queued ≡ Some Running = sym rests ∙ runs in cc)) in
      turns held.turn.serial
      ∙ ap (λ b. if b then turn_now else turn past held.turn.serial) differs))

  -- the job in a hand is elsewhere in its turn
  acts : (v : ℕ) (old new : JobInHand) (pool : JobPool) (last : Moment)
      → hand_at crew.hands v ≡ Holds old → new.turn ≡ old.turn
      → ((u : ℕ) → is_there (last ∷ past) u ≡ is_there past u)
      → ((u : ℕ) → hand (last ∷ past) u ≡ hand past u)
      → turn (last ∷ past) old.turn.serial ≡ turn_of new.stage
      → ((s : ℕ) → (old.turn.serial == s) ≡ false → turn (last ∷ past) s ≡ turn past s)
      → Handed (record { pool = pool; hands = with_hand crew.hands v (Holds new) }) (last ∷ past)
  acts v old new pool last at same there job own_turn other_turns =
      let mine = hand_seen v (Holds old) at in
      changed v (Holds old) (Holds new) pool last (at_held crew.hands v old at) (
        there v ∙ mine.0,
        job v ∙ mine.1 ∙ ap (λ (n : JobNumber). Some n.serial) (sym same),
      )
      (λ u e. (there u, job u))
      (λ held is. (let alike : new ≡ held = cc in
      subst (λ (g : JobInHand). turn (last ∷ past) g.turn.serial ≡ turn_of g.stage) alike
      (ap (λ (n : JobNumber). turn (last ∷ past) n.serial) same ∙ own_turn)))
      (λ u held e is. other_turns held.turn.serial (other_job v u old held e at is))

  -- a turn ends, and its worker is free
  ends : (v : ℕ) (old : JobInHand) (how : Standing) (pass : WorkerPass) (pool : JobPool)
      → hand_at crew.hands v ≡ Holds old
      → Handed (record { pool = pool; hands = with_hand crew.hands v (Free pass) })
      (now (Worker v) (Some old.turn.serial) (Ended old.turn.serial how) no_growth ∷ past)
  ends v old how pass pool at =
      let mine = hand_seen v (Holds old) at in
      changed v (Holds old) (Free pass) pool (now (Worker v) (Some old.turn.serial)
      (Ended old.turn.serial how) no_growth) (at_held crew.hands v old at)
      (mine.0, ap (λ b. if b then None else hand past v) (eq-eqb v v refl))
      (λ u e. (refl, ap (λ b. if b then None else hand past u) e)) (λ held is. absurd cc)
      (λ u held e is. refl)

  -- a worker arrives
  arrives : (pass : WorkerPass)
      → Handed (after crew (Arrives pass)) (moment_of crew (Arrives pass) step owner ∷ past)
  arrives pass =
      let row = crew.hands in
      let next = length row + 1 in
      let none : hand past next ≡ None = (hand_seen next Out (hand_next row)).1 in
      record {
        each = λ u.
            at_pushed row u (Free pass) (λ g. HandAs g (next == u || is_there past u) (hand past u))
            (λ e. rw e (refl, subst (λ n. hand past n ≡ None) (eqb-true next u e) none))
            (λ e. rw e (h.tied.handed.each u));
        turn_is = λ u held.
            at_pushed row u (Free pass) (λ g. g ≡ Holds held → turn past held.turn.serial ≡ turn_of
            held.stage) (λ e is. absurd cc) (λ e is. h.tied.handed.turn_is u held is);
      }

  -- a job in a hand acts
  works : (v : ℕ) (held : JobInHand) (act : Act)
      → hand_at crew.hands v ≡ Holds held → may_act held.stage act ≡ true
      → Handed (after crew (Works v held act)) (moment_of crew (Works v held act) step owner ∷ past)
  works v held act at_hand may =
      by_work
      (λ at act. held.stage ≡ at → Handed (record crew {
        hands = with_hand crew.hands v
            (Holds (held_after_act held act));
      }) (now (Worker v) (Some t) act no_growth ∷ past))
      (λ at act is same fits e.
      (let p =
      plain setting past step owner (Worker v) (Some t) (next_start crew) no_growth act is in
      acts v held (held_after_act held act) crew.pool _ at_hand refl p.there p.hand_is (p.turn_is t
      ∙ before ∙ ap turn_of e ∙ sym same ∙ ap (λ st. turn_of (stage_after act st)) (sym e))
      (λ s other. p.turn_is s)))
      (λ e. acts v held (held_after_act held JobParked) crew.pool _ at_hand refl (λ u. refl)
      (λ u. refl) (ap (λ b. if b then IsWaiting else turn past t) (eq-eqb t t refl))
      (λ s o. ap (λ b. if b then IsWaiting else turn past s) o))
      (λ w e. acts v held (held_after_act held (GaveUp w)) crew.pool _ at_hand refl (λ u. refl)
      (λ u. refl) (ap (λ b. if b then HasGivenUp else turn past t) (eq-eqb t t refl)
      ∙ gave_up w held.stage)
      (λ s o. ap (λ b. if b then HasGivenUp else turn past s) o))
      held.stage act may refl
    where
      t : ℕ
      t = held.turn.serial

      before : turn past t ≡ turn_of held.stage
      before = h.tied.handed.turn_is v held at_hand

      gave_up : (w : HolderWaker) (st : TurnStage)
          → HasGivenUp ≡ turn_of (stage_after (GaveUp w) st)
      gave_up w st = grind arith

  -- ---- every move

  -- Each move keeps the hands as they were seen.
  pub hands_after : (move : Move) → May (IsPlanned plan) crew move
      → Handed (after crew move) (moment_of crew move step owner ∷ past)
  hands_after (Adds who c (Ok number) growth pool) may =
      record { each = h.tied.handed.each; turn_is = h.tied.handed.turn_is }
  hands_after (Adds who c (Err why) growth pool) may =
      record { each = h.tied.handed.each; turn_is = h.tied.handed.turn_is }
  hands_after (Arrives pass) may = arrives pass
  hands_after (TakesJob v old true number ticket growth pool) may =
      takes v old (record { turn = number; stage = first_stage true }) MustGiveUp pool _ may.0
      (front_stands setting plan crew past h (IsPlanned plan) number ticket true growth pool
      may.1) refl (λ u. refl) (λ u. refl) (λ s. refl)
  hands_after (TakesJob v old false number ticket growth pool) may =
      takes v old (record { turn = number; stage = first_stage false }) GoesOn pool _ may.0
      (front_stands setting plan crew past h (IsPlanned plan) number ticket false growth pool
      may.1) refl (λ u. refl) (λ u. refl) (λ s. refl)
  hands_after (TakesNone v old pass) may =
      changed v (Free old) (Free pass) crew.pool _ (at_free crew.hands v old may.0)
      (hand_seen v (Free old) may.0) (λ u e. (refl, refl)) (λ held is. absurd cc)
      (λ u held e is. refl)
  hands_after (Works v held act) may = works v held act may.0 may.1
  hands_after (EndsTurn v held pass) may = ends v held (standing_after (outcome_of held.stage)) pass
      (after crew (EndsTurn v held pass)).pool may.0
  hands_after (Parks v held ticket (parking.Parked pass) pool) may =
      ends v held Parked pass pool may.0
  hands_after (Parks v held ticket (parking.Queued pass) pool) may =
      ends v held Queued pass pool may.0
  hands_after (Parks v held ticket (parking.HandedOut back) pool) may =
      let t = held.turn.serial in
      acts v held (record { turn = back; stage = stage.MustGiveUp }) pool
      _ may.0 may.2.effect.1 (λ u. refl) (λ u. refl)
      (ap (λ b. if b then MustGiveUp else turn past t) (eq-eqb t t refl))
      (λ s e. ap (λ b. if b then MustGiveUp else turn past s) e)
  hands_after (HasWaited v pass end (Stay back) growth pool) may =
      changed v (Free pass) (Free back) pool _ (at_free crew.hands v pass may.0)
      (hand_seen v (Free pass) may.0) (λ u e. (refl, refl)) (λ held is. absurd cc)
      (λ u held e is. refl)
  hands_after (HasWaited v pass end Stop growth pool) may =
      changed v (Free pass) Out pool _ (at_free crew.hands v pass may.0)
      (ap (λ b. not b && is_there past v) (eq-eqb v v refl), (hand_seen v (Free pass) may.0).1)
      (λ u e. (ap (λ b. not b && is_there past u) e, refl)) (λ held is. absurd cc)
      (λ u held e is. refl)
  hands_after (IsLetGo who act number) may =
      by_let_go
      (λ act. Handed (after crew (IsLetGo who act number)) (now who None act no_growth ∷ past))
      (record { each = h.tied.handed.each; turn_is = h.tied.handed.turn_is })
      (record { each = h.tied.handed.each; turn_is = h.tied.handed.turn_is }) act may
  hands_after (Tells who act) may = (plain setting past step owner who None (next_start crew)
      no_growth act (aside_plain act may)).handed crew h.tied.handed
  hands_after move may = record { each = h.tied.handed.each; turn_is = h.tied.handed.turn_is }
