-- The law of growth leaves one answer alone.
use Rattle.std.proofs.Common.{◌≡◌, refl, ℕ, ◌+◌, ◌-◌, ◌<◌, ◌==◌, if◌then◌else◌, Bool, true, false}
use Rattle.std.proofs.Common.{List, ◌∷◌, length, get_or, arith, ap, ◌∙◌}
use Rattle.std.specs.Prelude.{MatchBool}
use mathlib.Core.Path.{subst, sym}
use Rattle.blocking_pool.specs.Growth.{greatest, is_due, StartAnswer, Growth, IsGrowth}
use Rattle.blocking_pool.specs.declared.pool.answer.Refusal.TheVariants.{NoWorker}
use Rattle.blocking_world_laws.specs.Seen.{joined, without_all}
use Rattle.blocking_world_laws.specs.Jobs.{client_of_step}
use Rattle.blocking_world_laws.specs.Queue.{running, has_room, ready, taken_by, ended_by}
use Rattle.blocking_world_laws.specs.Counts.{workers, limit}
use Rattle.blocking_world_laws.specs.Growth.{IsPlanned, StartsRightly, GrowthLaw, grows}
use Rattle.blocking_world_laws.specs.Growth.{turned_away}
use Rattle.blocking_world_laws.proofs.Queues.{ready_by}
use Rattle.blocking_world_laws.specs.declared.event.Act.{Act}
use Rattle.blocking_world_laws.specs.declared.event.Act.TheVariants.{Refused}
use Rattle.blocking_world_laws.specs.declared.event.Moment.{Moment}

-- a start isn't both made and refused
not_both : (b : Bool) (refused : Bool) → MatchBool b (false ≡ true) (refused ≡ false)
    → MatchBool b (true ≡ true) (refused ≡ true) → ⊥
not_both true refused made unmade = cc
not_both false refused made unmade = cc

pub apart : (plan : List Bool) (n : ℕ) → StartAnswer (IsPlanned plan) n false
    → StartAnswer (IsPlanned plan) n true → ⊥
apart plan n made unmade = not_both (n == greatest) (get_or plan (n - 1) false) made unmade

-- a growth goes on as far as another
as_far : (plan : List Bool) (ready idle workers limit first : ℕ) (g h : Growth)
    → IsGrowth (StartAnswer (IsPlanned plan)) ready idle workers limit first g
    → IsGrowth (StartAnswer (IsPlanned plan)) ready idle workers limit first h
    → g.started < h.started → ⊥
as_far plan ready idle workers limit first g h of_g of_h less =
    let there = of_h.each g.started less in
    let refused : g.refused ≡ true = cc (of_g.next, there.0) in
    apart plan (first + g.started) there.1 (of_g.cause refused)

-- two growths by the same counts are the same
pub same_starts : (plan : List Bool) (ready idle workers limit first : ℕ) (g h : Growth)
    → IsGrowth (StartAnswer (IsPlanned plan)) ready idle workers limit first g
    → IsGrowth (StartAnswer (IsPlanned plan)) ready idle workers limit first h
    → g.started ≡ h.started
same_starts plan ready idle workers limit first g h of_g of_h =
    let no_less = as_far plan ready idle workers limit first g h of_g of_h in
    let no_more = as_far plan ready idle workers limit first h g of_h of_g in
    omega (arith, no_less, no_more)

same_refusal : (plan : List Bool) (ready idle workers limit first : ℕ) (g h : Growth)
    → IsGrowth (StartAnswer (IsPlanned plan)) ready idle workers limit first g
    → IsGrowth (StartAnswer (IsPlanned plan)) ready idle workers limit first h
    → g.started ≡ h.started → g.refused ≡ h.refused
same_refusal plan ready idle workers limit first g h of_g of_h same =
    sym of_g.next ∙ ap (is_due ready idle workers limit) same ∙ of_h.next

-- the jobs beside the queue that a growth counts, told by the act and the client of the job
abbrev turned_by : List Moment → ℕ → Act → ℕ
turned_by past c (Refused NoWorker) = if has_room past c then 1 else 0
turned_by past c _ = 0

turned_is : (past : List Moment) (now : Moment) (act : Act)
    → turned_away past now act ≡ turned_by past (client_of_step past now.step) act
turned_is past now (Refused NoWorker) = refl
turned_is past now _ = refl

-- the starts of an act, told by the act and the client of the job that comes with it
abbrev GrowsAt : ℕ → List Bool → List Moment → ℕ → Act → ℕ → Growth → Type 0
GrowsAt setting plan past c act first growth =
    IsGrowth (StartAnswer (IsPlanned plan))
    (length (ready_by past act c) + turned_by past c act)
    (workers past - length (joined (without_all (ended_by act) (running past)) (taken_by act)))
    (workers past) (limit setting past) first growth

abbrev pub growth_of : Moment → Growth
growth_of now = record { started = now.event.started; refused = now.event.start_refused }

abbrev pub Same : Moment → Moment → Type 0
Same now other = (now.event.started ≡ other.event.started)
    × (now.event.start_refused ≡ other.event.start_refused)

-- a growth, told so
grows_at : (setting : ℕ) (plan : List Bool) (past : List Moment) (now : Moment)
    → StartsRightly true setting plan past now
    → GrowsAt setting plan past (client_of_step past now.step) now.event.act now.event.first
    (growth_of now)
grows_at setting plan past now starts =
    subst (λ n. IsGrowth (StartAnswer (IsPlanned plan)) (length (ready (now ∷ past)) + n)
    (workers past - length (running (now ∷ past)))
    (workers past) (limit setting past) now.event.first (growth_of now))
    (turned_is past now now.event.act) starts

same_growth : (setting : ℕ) (plan : List Bool) (past : List Moment) (c : ℕ) (act : Act) (first : ℕ)
    (now other : Moment)
    → GrowsAt setting plan past c act first (growth_of now)
    → GrowsAt setting plan past c act first (growth_of other) → Same now other
same_growth setting plan past c act first now other of_now of_other =
    let waiting = length (ready_by past act c) + turned_by past c act in
    let free =
    workers past - length (joined (without_all (ended_by act) (running past)) (taken_by act)) in
    let same = same_starts plan waiting free (workers past) (limit setting past) first
    (growth_of now) (growth_of other) of_now of_other in (
      same,
      same_refusal plan waiting free (workers past) (limit setting past) first (growth_of now)
          (growth_of other) of_now of_other same,
    )

pub same_by : (b : Bool) (setting : ℕ) (plan : List Bool) (past : List Moment) (now other : Moment)
    → client_of_step past other.step ≡ client_of_step past now.step
    → other.event.act ≡ now.event.act → other.event.first ≡ now.event.first
    → StartsRightly b setting plan past now → StartsRightly b setting plan past other
    → Same now other
same_by false setting plan past now other client act first of_now of_other =
    (of_now.0 ∙ sym of_other.0, of_now.1 ∙ sym of_other.1)
same_by true setting plan past now other client act first of_now of_other =
    same_growth setting plan past (client_of_step past now.step) now.event.act now.event.first now
    other (grows_at setting plan past now of_now)
    (subst (λ n. GrowsAt setting plan past (client_of_step past now.step) now.event.act n
    (growth_of other)) first
    (subst (λ a. GrowsAt setting plan past (client_of_step past now.step) a other.event.first
    (growth_of other)) act
    (subst (λ c. GrowsAt setting plan past c other.event.act other.event.first (growth_of other))
    client (grows_at setting plan past other of_other))))

-- the starts of two events with one act and one client are the same
pub same_event : (setting : ℕ) (plan : List Bool) (past : List Moment) (now other : Moment)
    → client_of_step past now.step ≡ client_of_step past other.step
    → now.event.act ≡ other.event.act
    → GrowthLaw setting plan past now → GrowthLaw setting plan past other
    → (now.event.first ≡ other.event.first) × (now.event.started ≡ other.event.started)
    × (now.event.start_refused ≡ other.event.start_refused)
same_event setting plan past now other client act of_now of_other =
    let first : now.event.first ≡ other.event.first = of_now.first ∙ sym of_other.first in
    let same = same_by (grows past now.event.act) setting plan past now other (sym client) (sym act)
    (sym first) of_now.starting
    (subst (λ a. StartsRightly (grows past a) setting plan past other) (sym act)
    of_other.starting) in
    (first, same.0, same.1)
