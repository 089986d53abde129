-- What the past alone says of a job that is parked: it has acted, since it parks only after its own
-- act.
use Rattle.std.proofs.Common.{◌≡◌, ℕ, ◌==◌, List, [], ◌∷◌, Bool, true, false, refl, sym, ◌∙◌, Some}
use Rattle.std.proofs.Common.{if◌then◌else◌, ◌&&◌, arith}
use Rattle.blocking_world_state.proofs.Types.{Entered, Standing, Parked, Queued, Running, Act}
use Rattle.blocking_world_state.proofs.Types.{Accepted, Ended, JobCancelled, JobWoken, Took}
use Rattle.blocking_world_state.proofs.Types.{TookDropped, Event, Moment}
use Rattle.blocking_world_state.proofs.Words.{end_of, PoolAnswers, is_marked, sweeps, stands_by}
use Rattle.blocking_world_state.proofs.Words.{is_parked, standing, PoolLaw, EachMayFollow, events}
use Rattle.blocking_world_state.proofs.Words.{is_of_job, acts_of, Turn, IsWaiting, turn}
use Rattle.blocking_world_holders.proofs.cuts.Acts.{acts_more}

-- what has acted just now has acted
acted : (s : ℕ) (e : Event) (X : List Event) → is_of_job s e ≡ true → acts_of s (e ∷ X) ≡ [] → ⊥
acted s e X own none = let more = acts_more s e X true own in cc

-- a job that waits has acted
waits_acted : (past : List Moment) (s : ℕ) → turn past s ≡ IsWaiting → acts_of s (events past) ≡ []
    → ⊥
waits_acted [] s waits none = cc
waits_acted (now ∷ past) s waits none = by (is_of_job s now.event) refl (waits_acted past s)
  where
    by : (b : Bool) → is_of_job s now.event ≡ b
        → (turn past s ≡ IsWaiting → acts_of s (events past) ≡ [] → ⊥) → ⊥
    by b own before = grind arith

-- a turn ends parked only where its job waits
ends_parked : (at : Turn) (drop woken : Bool) (s : ℕ) → Ended s Parked ≡ end_of at drop woken s
    → at ≡ IsWaiting
ends_parked at drop woken s is = grind arith

-- a job that is parked has acted
pub parked_acted : (setting : ℕ) (plan : List Bool) (past : List Moment)
    → EachMayFollow (PoolLaw setting plan) past → (s : ℕ) → standing past s ≡ Some Parked
    → acts_of s (events past) ≡ [] → ⊥
parked_acted setting plan [] laws s parked none = cc
parked_acted setting plan (now ∷ past) laws s parked none =
    by (is_of_job s now.event) refl (parked_acted setting plan past laws.1 s)
  where
    quiet_before : is_of_job s now.event ≡ false → acts_of s (events past) ≡ []
    quiet_before out = sym (acts_more s now.event (events past) false out) ∙ none

    enters : (b : Bool) (how : Standing) → (how ≡ Parked → ⊥) → (standing past s ≡ Some Parked → ⊥)
        → (if b then Some how else standing past s) ≡ Some Parked → ⊥
    enters b how other still is = grind arith

    ends : (how : Standing) (t : ℕ) (b : Bool) → (t == s) ≡ b → acts_of s (events past) ≡ []
        → PoolAnswers setting past now (Ended t how) → (standing past s ≡ Some Parked → ⊥)
        → (if b then Some how else standing past s) ≡ Some Parked → ⊥
    ends how t b same quiet answers still is = grind (arith, waits_acted, ends_parked)

    stood : (act : Act) → PoolAnswers setting past now act → acts_of s (events past) ≡ []
        → (standing past s ≡ Some Parked → ⊥) → stands_by act s (standing past s) ≡ Some Parked → ⊥
    stood (Accepted t) answers quiet still is = enters (t == s) Queued (λ e. cc) still is
    stood (JobWoken t Entered) answers quiet still is = enters (t == s) Queued (λ e. cc) still is
    stood (JobCancelled t Entered) answers quiet still is =
        enters (t == s) Queued (λ e. cc) still is
    stood (Took t) answers quiet still is = enters (t == s) Running (λ e. cc) still is
    stood (TookDropped t) answers quiet still is = enters (t == s) Running (λ e. cc) still is
    stood (Ended t how) answers quiet still is = ends how t (t == s) refl quiet answers still is
    stood _ answers quiet still is = still is

    swept : (b : Bool) → acts_of s (events past) ≡ [] → (standing past s ≡ Some Parked → ⊥)
        → (if b then Some Queued else stands_by now.event.act s (standing past s)) ≡ Some Parked → ⊥
    swept true quiet still is = cc
    swept false quiet still is = stood now.event.act laws.0.answers quiet still is

    by : (b : Bool) → is_of_job s now.event ≡ b
        → (standing past s ≡ Some Parked → acts_of s (events past) ≡ [] → ⊥) → ⊥
    by true own before = acted s now.event (events past) own none
    by false out before =
        let quiet = quiet_before out in
        swept (sweeps now.event.act && is_parked (standing past s) && is_marked past s) quiet
        (λ was. before was quiet) parked
