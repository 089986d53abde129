-- Look-ups of a job in the pool, after a change of that job or of others.
use Rattle.std.proofs.Common.{◌≡◌, ℕ, ◌==◌, ◌&&◌, ◌||◌, cond, Bool, true, refl, sym, ap, ◌∙◌}
use Rattle.std.proofs.Common.{if◌then◌else◌, arith, List, [], ◌∷◌, Option, Some, None, option_map}
use Rattle.std.proofs.Common.{filter}
use Rattle.std.proofs.lemmas.Map.Views.{any-filter_same}
use Rattle.std.specs.Ordering.{eq_by_cmp, nat_cmp}
use Rattle.std.specs.Cmp.{nat_cmp_total}
use Rattle.std.specs.FinMap.{get, insert, remove, get-insert, get-remove}
use Rattle.std.proofs.lemmas.Bool.{eqb-true}
use Rattle.blocking_world_pool.proofs.Types.{Entered, Standing, Parked, Ticket}
use Rattle.blocking_world_pool.proofs.Words.{JobNumber, Job as Entry, Jobs, entry_after_take}
use Rattle.blocking_world_pool.proofs.Words.{is_running_job, entry_after_requeue, if_at}
use Rattle.blocking_world_pool.proofs.Words.{is_running_as, jobs_after_change, amend}
use Rattle.blocking_world_pool.proofs.Words.{jobs_after_requeue, is_in, wake_of, cancel_of}
use Rattle.blocking_pool.proofs.Lists.{eq_by_nat_cmp, turned}

-- the order of serials tells whether they are the same
by_order : (t s : ℕ) → eq_by_cmp nat_cmp s t ≡ (t == s)
by_order t s = eq_by_nat_cmp s t ∙ turned s t

-- the jobs after one was put in
pub job_put : (jobs : Jobs Ticket) (t : ℕ) (entry : Entry Ticket) (s : ℕ) (b : Bool) → (t == s) ≡ b
    → get (insert jobs t entry) s ≡ (if b then Some entry else get jobs s)
job_put jobs t entry s b is = get-insert nat_cmp_total jobs t entry s
    ∙ ap (λ c. cond c (Some entry) (get jobs s)) (by_order t s ∙ is)

-- the jobs after one was taken out
pub job_out : (jobs : Jobs Ticket) (t s : ℕ) (b : Bool) → (t == s) ≡ b
    → get (remove jobs t) s ≡ (if b then None else get jobs s)
job_out jobs t s b is =
    get-remove nat_cmp_total jobs t s ∙ ap (λ c. cond c None (get jobs s)) (by_order t s ∙ is)

changed_at : (jobs : Jobs Ticket) (t : ℕ) (change : Entry Ticket → Entry Ticket) (s : ℕ) (b : Bool)
    (found : Option (Entry Ticket)) → get jobs t ≡ found → (t == s) ≡ b
    → get (jobs_after_change jobs t change found) s
    ≡ (if b then option_map change found else get jobs s)
changed_at jobs t change s b found at is = grind (arith, job_put)

-- the jobs after this one has changed
pub job_changed : (jobs : Jobs Ticket) (t : ℕ) (change : Entry Ticket → Entry Ticket) (s : ℕ)
    (found : Option (Entry Ticket)) → get jobs t ≡ found
    → get (jobs_after_change jobs t change found) s
    ≡ (if t == s then option_map change (get jobs s) else get jobs s)
job_changed jobs t change s found at = grind (arith, changed_at)

-- and after it has changed again
pub changed_twice : (jobs : Jobs Ticket) (t : ℕ) (one two : Entry Ticket → Entry Ticket) (s : ℕ)
    → get (amend (amend jobs t one) t two) s
    ≡ (if t == s then option_map two (option_map one (get jobs s)) else get jobs s)
changed_twice jobs t one two s = grind (arith, job_changed)

-- a job that a wake or a cancel puts back is parked
pub woken_is : (o : Option Standing) → Entered ≡ wake_of o → o ≡ Some Parked
woken_is o e = grind arith

pub cancelled_is : (o : Option Standing) → Entered ≡ cancel_of o → o ≡ Some Parked
cancelled_is o e = grind arith

-- a job that is found by its number is the job of that serial
pub found_at : (place : ℕ) (found : Option (Entry Ticket)) (entry : Entry Ticket)
    → if_at place found ≡ Some entry → found ≡ Some entry
found_at place found entry e = grind arith

twice : (b c : Bool) (found : Option (Entry Ticket))
    → (if c then option_map entry_after_requeue (if b then option_map entry_after_requeue found
    else found) else (if b then option_map entry_after_requeue found else found))
    ≡ (if b || c then option_map entry_after_requeue found else found)
twice b c found = grind arith

-- the jobs after some entered again
pub job_requeued : (serials : List ℕ) (jobs : Jobs Ticket) (s : ℕ)
    → get (jobs_after_requeue jobs serials) s
    ≡ (if is_in s serials then option_map entry_after_requeue (get jobs s) else get jobs s)
job_requeued [] jobs s = refl
job_requeued (t ∷ serials) jobs s =
    job_requeued serials (amend jobs t entry_after_requeue) s
    ∙ ap (λ o. if is_in s serials then option_map entry_after_requeue o else o)
    (job_changed jobs t entry_after_requeue s (get jobs t) refl ∙ ap
    (λ b. if b then option_map entry_after_requeue (get jobs s) else get jobs s) (turned t s))
    ∙ twice (s == t) (is_in s serials) (get jobs s)

-- a job that was taken up runs
pub taken_runs : (jobs : Jobs Ticket) (number : JobNumber) (entry : Entry Ticket)
    → entry.place ≡ number.place
    → is_running_as (insert jobs number.serial (entry_after_take entry)) number ≡ true
taken_runs jobs number entry place = grind (arith, job_put)

-- a job of a number that runs is there, and runs
pub runs_at : (place : ℕ) (found : Option (Entry Ticket))
    → is_running_job (if_at place found) ≡ true → is_running_job found ≡ true
runs_at place found runs = grind arith

-- what a filter leaves is what was there and passes its test
pub in_filter : (p : ℕ → Bool) (ns : List ℕ) (s : ℕ) → is_in s (filter p ns) ≡ (p s && is_in s ns)
in_filter p ns s = any-filter_same (λ n. s == n) p (p s) (λ n is. ap p (sym (eqb-true s n is))) ns
