-- A crew stays ready where its pool changes, and where one hand changes with it.
use Rattle.std.proofs.Common.{◌≡◌, ℕ, ◌+◌, ◌-◌, ◌==◌, Bool, true, false, if◌then◌else◌, List, []}
use Rattle.std.proofs.Common.{◌∷◌, ◌++◌, refl, sym, ap, ◌∙◌, subst, arith}
use Rattle.std.proofs.lemmas.Bool.{cond_both}
use Rattle.std.specs.FinMap.{get, get-empty}
use Rattle.std.specs.Ordering.{nat_cmp}
use Rattle.blocking_world_pool.proofs.Types.{WorkerPass, Hand, Free, Holds, Out, JobInHand}
use Rattle.blocking_world_pool.proofs.Words.{is_running_as, empty_pool, Crew, hand_at, with_hand}
use Rattle.blocking_world_pool.proofs.Words.{one_if_free, IsReady, JobPool, is_valued, AreValued}
use Rattle.blocking_world_pool.proofs.hands.Rows.{IsAt, hand_set, hand_pushed, sum_set, sum_pushed}
use Rattle.blocking_world_pool.proofs.ready.Jobs.{IsKept}

pub pool_ready : (crew : Crew) (pool : JobPool)
    → IsReady crew → ((s : ℕ) → IsKept false (get crew.pool.jobs s) (get pool.jobs s))
    → pool.counts.idle + crew.pool.counts.arriving ≡ crew.pool.counts.idle + pool.counts.arriving
    → IsReady (record crew { pool = pool })
pool_ready crew pool ready kept level = grind arith

-- ---- one hand changes

-- What has to be known where the hand of worker v, which was this one, becomes that one: the other
-- jobs in hands run on; what is put into the hand runs, and is in no other; and the idle workers
-- are counted.
pub record HandFits (crew : Crew) (pool : JobPool) (v : ℕ) (old new : Hand) : Type 0 where
  pub at : IsAt crew.hands v old
  pub level : pool.counts.idle + one_if_free old + crew.pool.counts.arriving
      ≡ crew.pool.counts.idle + pool.counts.arriving + one_if_free new
  pub others : (u : ℕ) (held : JobInHand) → (v == u) ≡ false → hand_at crew.hands u ≡ Holds held
      → is_running_as pool.jobs held.turn ≡ true
  pub own : (held : JobInHand) → new ≡ Holds held → is_running_as pool.jobs held.turn ≡ true
  pub alone : (u : ℕ) (held other : JobInHand) → (v == u) ≡ false → new ≡ Holds held
      → hand_at crew.hands u ≡ Holds other → held.turn.serial ≡ other.turn.serial → ⊥
  pub valued : AreValued pool.jobs

module _ (crew : Crew) (pool : JobPool) (v : ℕ) (old new : Hand) (ready : IsReady crew)
    (fits : HandFits crew pool v old new) where
  row : List Hand
  row = with_hand crew.hands v new

  runs_by : (u : ℕ) (held : JobInHand) (b : Bool)
      → (v == u) ≡ b → (if b then new else hand_at crew.hands u) ≡ Holds held
      → is_running_as pool.jobs held.turn ≡ true
  runs_by u held b same is = grind arith

  apart_by : (u w : ℕ) (one other : JobInHand) (b c : Bool)
      → (v == u) ≡ b → (v == w) ≡ c → (if b then new else hand_at crew.hands u) ≡ Holds one
      → (if c then new else hand_at crew.hands w) ≡ Holds other
      → one.turn.serial ≡ other.turn.serial → u ≡ w
  apart_by u w one other b c e f is there same = grind arith

  pub hand_ready : IsReady (record { pool = pool; hands = with_hand crew.hands v new })
  hand_ready = record {
    idle = let level = fits.level in let idle = ready.idle in
        let free = sum_set one_if_free crew.hands (v - 1) old new fits.at.got in
        omega (arith, level, idle, free);
    runs = λ u held is.
        runs_by u held (v == u) refl (sym (hand_set crew.hands v u old new fits.at) ∙ is);
    apart =
        λ u w one other is there same.
        apart_by u w one
        other (v == u) (v == w) refl refl (sym (hand_set crew.hands v u old new fits.at) ∙ is)
        (sym (hand_set crew.hands v w old new fits.at) ∙ there) same;
    valued = fits.valued;
  }

-- ---- one more hand

pushed_at : (crew : Crew) (pass : WorkerPass) (u : ℕ) (held : JobInHand)
    → hand_at (crew.hands ++ Free pass ∷ []) u ≡ Holds held → hand_at crew.hands u ≡ Holds held
pushed_at crew pass u held is = grind (arith, cond_both, hand_pushed)

pub push_ready : (crew : Crew) (pool : JobPool) (pass : WorkerPass) → IsReady crew
    → pool.jobs ≡ crew.pool.jobs
    → pool.counts.idle + crew.pool.counts.arriving
    ≡ crew.pool.counts.idle + pool.counts.arriving + 1
    → IsReady (record { pool = pool; hands = crew.hands ++ Free pass ∷ [] })
push_ready crew pool pass ready same level = grind (arith, sum_pushed, pushed_at)

-- ---- a new crew

pub no_hand : (v : ℕ) (held : JobInHand) → hand_at [] v ≡ Holds held → ⊥
no_hand v held =
    cond_both (v == 0) Out Out (λ hand. hand ≡ Holds held → ⊥) (λ is e. cc) (λ is e. cc)

pub empty_ready : (setting : ℕ) (pool : JobPool) (hands : List Hand) → pool ≡ empty_pool setting 1 1
    → hands ≡ [] → IsReady (record { pool = pool; hands = hands })
empty_ready setting pool hands empty none =
    subst (λ (p : JobPool). IsReady (record { pool = p; hands = hands })) (sym empty)
    (subst (λ (row : List Hand). IsReady (record { pool = empty_pool setting 1 1; hands = row }))
    (sym none)
    (record {
      idle = refl;
      runs = λ v held is. absurd (no_hand v held is);
      apart = λ v w one other is there same. absurd (no_hand v one is);
      valued = λ s. ap is_valued (get-empty nat_cmp s);
    }))
