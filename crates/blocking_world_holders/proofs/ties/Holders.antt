-- Who holds a job, and how many tasks there are, after one more moment.
use Rattle.std.proofs.Common.{◌≡◌, ℕ, ◌+◌, ◌==◌, List, [], ◌∷◌, true, false, refl, ap, length, suc}
use Rattle.std.proofs.Common.{arith, if◌then◌else◌, Some, not, cond, filter}
use Rattle.std.proofs.lemmas.Bool.{and_right}
use Rattle.blocking_world_holders.proofs.Types.{Act, Moment, ByTask}
use Rattle.blocking_world_holders.proofs.Words.{accepted_by, accepts, holder, is_pool, makes_a_task}
use Rattle.blocking_world_holders.proofs.Words.{tasks, MakesTask}

-- ---- where no job is accepted

pub accepts_no_job : (act : Act) (s : ℕ) → accepted_by act ≡ [] → accepts s act ≡ false
accepts_no_job act s none = grind arith

-- who held a job still does
pub holder_stays : (past : List Moment) (now : Moment) → accepted_by now.event.act ≡ [] → (s : ℕ)
    → holder (now ∷ past) s ≡ holder past s
holder_stays past now none s = rw (accepts_no_job now.event.act s none) refl

-- and there are as many tasks
pub tasks_stay : (past : List Moment) (now : Moment) → accepted_by now.event.act ≡ []
    → tasks (now ∷ past) ≡ tasks past
tasks_stay past now none =
    let old : makes_a_task now.event ≡ false = and_right (is_pool now.event.party)
    (not (length (accepted_by now.event.act) == 0)) (ap (λ a. not (length a == 0)) none) in
    ap (λ b. length (cond b (now ∷ filter (λ m. makes_a_task m.event) past)
    (filter (λ m. makes_a_task m.event) past))) old

-- ---- where a call is accepted

-- its task holds it
pub holder_grows : (past : List Moment) (now : Moment) (t s : ℕ) → MakesTask now.event t
    → holder (now ∷ past) s ≡ (if t == s then Some (ByTask (tasks past)) else holder past s)
holder_grows past now t s makes = rw (makes.act_is, makes.party_is) refl

-- and there is one task more
pub tasks_grow : (past : List Moment) (now : Moment) (t : ℕ) → MakesTask now.event t
    → tasks (now ∷ past) ≡ tasks past + 1
tasks_grow past now t makes =
    let more : makes_a_task now.event ≡ true = rw (makes.act_is, makes.party_is) refl in
    let grown : tasks (now ∷ past) ≡ suc (tasks past) =
    ap (λ b. length (cond b (now ∷ filter (λ m. makes_a_task m.event) past)
    (filter (λ m. makes_a_task m.event) past))) more in
    omega (arith, grown)
