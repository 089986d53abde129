-- Marks on the tickets of jobs in the pool.
use Rattle.std.proofs.Common.{◌≡◌, Option, Some, None, ℕ, ◌==◌, Bool, true, false, if◌then◌else◌}
use Rattle.std.proofs.Common.{OnSome, option_map, IfSome, arith}
use Rattle.std.proofs.lemmas.Bool.{cond_both}
use Rattle.std.specs.FinMap.{get}
use Rattle.std.specs.Borrow.{MutBor}
use Rattle.blocking_world_pool.proofs.Types.{Ticket}
use Rattle.blocking_world_pool.proofs.Words.{JobNumber, Job as Entry, if_at, job_of, value_at}
use Rattle.blocking_world_pool.proofs.Words.{entry_with, with_job, JobPool, ticket_after_mark}
use Rattle.blocking_world_pool.proofs.Words.{pool_after_mark_of, pool_after_mark, pool_after_let_go}
use Rattle.blocking_world_pool.proofs.Words.{IsNumberOf, is_serial_of}
use Rattle.blocking_world_pool.proofs.jobs.Lookups.{job_changed}

-- a mark changes the jobs alone
pub mark_alone : (pool : JobPool) (number : JobNumber) (value : Option Ticket) → pool_after_mark_of
    pool number value ≡ record pool { jobs = (pool_after_mark_of pool number value).jobs }
mark_alone pool number value = grind arith

-- so does a holder that lets go
pub let_go_alone : (pool : JobPool) (number : Option JobNumber)
    → pool_after_let_go pool number ≡ record pool { jobs = (pool_after_let_go pool number).jobs }
let_go_alone pool number = grind arith

-- a value that was lent and marked
pub lent_marked : (inside last : JobPool) (number : JobNumber) (lent : Option (MutBor Ticket))
    (job : MutBor Ticket) → lent ≡ Some job
    → OnSome lent (last ≡ with_job inside number.serial (entry_with (ticket_after_mark job.now)))
    → Some job.now ≡ value_at (job_of inside.jobs number) → last ≡ pool_after_mark inside number
lent_marked inside last number lent job is holds value = grind arith

-- ---- look-ups

-- a job whose ticket is this, marked, if it has one
abbrev pub mark_by : Option Ticket → Entry Ticket → Entry Ticket
mark_by None entry = entry
mark_by (Some value) entry = entry_with (ticket_after_mark value) entry

-- a ticket that is marked or left as it is, where it is there
abbrev pub mark_ticket : Bool → Option Ticket → Option Ticket
mark_ticket false value = value
mark_ticket true value = option_map ticket_after_mark value

-- a job with that ticket
abbrev pub mark_if : Bool → Entry Ticket → Entry Ticket
mark_if b entry = record entry { value = mark_ticket b entry.value }

unmarked : (found : Option (Entry Ticket)) → found ≡ option_map (mark_if false) found
unmarked found = grind arith

-- the jobs after the ticket of one was marked, if it was there
pub marked_by : (pool : JobPool) (number : JobNumber) (s : ℕ) (value : Option Ticket)
    → get (pool_after_mark_of pool number value).jobs s
    ≡ (if number.serial == s then option_map (mark_by value) (get pool.jobs s) else get pool.jobs s)
marked_by pool number s value = grind (arith, cond_both, unmarked, job_changed)

-- what is done to the job of a number marks its ticket
marks_it : (found : Option (Entry Ticket)) (place : ℕ) (value : Option Ticket)
    → ((entry : Entry Ticket) → found ≡ Some entry → entry.place ≡ place)
    → value ≡ value_at (if_at place found)
    → option_map (mark_by value) found ≡ option_map (mark_if true) found
marks_it found place value placed is = grind arith

-- the jobs after one was marked
marked_at : (pool : JobPool) (number : JobNumber) (s : ℕ) (value : Option Ticket) (b : Bool)
    → (number.serial == s) ≡ b → IsNumberOf pool number → value ≡ value_at (job_of pool.jobs number)
    → get (pool_after_mark_of pool number value).jobs s ≡ option_map (mark_if b) (get pool.jobs s)
marked_at pool number s value b other placed is = grind (arith, marked_by, unmarked, marks_it)

-- the jobs after a party let go of one, or of none
pub job_let_go : (pool : JobPool) (number : Option JobNumber) (s : ℕ)
    → IfSome number (IsNumberOf pool) → get (pool_after_let_go pool number).jobs s
    ≡ option_map (mark_if (is_serial_of number s)) (get pool.jobs s)
job_let_go pool number s placed = grind (arith, unmarked, marked_at)
