-- Clients: how many jobs of each aren't over, how many of these run, and which clients have room.
use Rattle.std.specs.Prelude.{◌≡◌, ℕ, ◌+◌, ◌-◌, ◌==◌, nat_lt, if◌then◌else◌, Bool, true, Option}
use Rattle.std.specs.Prelude.{Some, None, unwrap_or, refl}
use Rattle.std.specs.Ordering.{nat_cmp}
use Rattle.std.specs.FinMap.{FinMap, get}
use Rattle.std.specs.FinMap as map
use Rattle.std.specs.Coded.{Coded, code_by, coded×, coded_ℕ}

-- how many jobs of a client aren't over, and how many of these run
pub record Tally : Type 0 where
  pub jobs : ℕ
  pub running : ℕ

abbrev pub tally_code : Coded Tally
tally_code = code_by (ℕ × ℕ) (coded× coded_ℕ coded_ℕ) (λ tally. (tally.jobs, tally.running))
    (λ parts. record { jobs = parts.0; running = parts.1 }) (λ _. refl)

-- the tallies of the clients that have jobs
abbrev pub Tallies : Type 0
Tallies = FinMap nat_cmp Tally

abbrev pub tallies_code : Coded Tallies
tallies_code = map.code coded_ℕ tally_code

-- a client that has no job
abbrev pub no_jobs : Tally
no_jobs = record { jobs = 0; running = 0 }

-- the tally of a client
abbrev pub tally_at : Tallies → ℕ → Tally
tally_at tallies client = unwrap_or (get tallies client) no_jobs

-- one client has another tally now, and the others have theirs
abbrev pub IsTallied : Tallies → Tallies → ℕ → Tally → Type 0
IsTallied old new client tally = (other : ℕ)
    → tally_at new other ≡ (if other == client then tally else tally_at old other)

-- each client has the tally that it had
abbrev pub SameTallies : Tallies → Tallies → Type 0
SameTallies old new = (client : ℕ) → tally_at new client ≡ tally_at old client

-- one job more
abbrev pub enrolled : Tally → Tally
enrolled tally = record tally { jobs = tally.jobs + 1 }

-- one job more runs
abbrev pub started : Tally → Tally
started tally = record tally { running = tally.running + 1 }

-- one job fewer runs
abbrev pub stopped : Tally → Tally
stopped tally = record tally { running = tally.running - 1 }

-- one job is over
abbrev pub discharged : Tally → Tally
discharged tally = record tally { jobs = tally.jobs - 1 }

-- whether n is below the limit, if there is one
abbrev pub is_below : Option ℕ → ℕ → Bool
is_below None n = true
is_below (Some limit) n = nat_lt n limit

-- whether one more job of the client may run
abbrev pub has_room_at : Option ℕ → Tallies → ℕ → Bool
has_room_at limit tallies client = is_below limit (tally_at tallies client).running
