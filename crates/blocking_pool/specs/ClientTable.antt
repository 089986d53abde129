-- What is known of the clients that have jobs.
use Rattle.std.specs.Prelude.{◌≡◌, ℕ, ◌+◌, ◌-◌, ◌≤◌, ◌==◌, if◌then◌else◌, List, ◌∷◌, map, unwrap_or}
use Rattle.std.specs.Prelude.{refl}
use Rattle.std.specs.Ordering.{nat_cmp}
use Rattle.std.specs.FinMap.{FinMap, get, len, code, from_entries}
use Rattle.std.specs.Coded.{Coded, code_by, coded×, coded_ℕ}
use Rattle.std.specs.Map.{keys_of}
use Rattle.blocking_pool.specs.Lists.{IsOnce}
use Rattle.blocking_pool.specs.declared.pool.clients.Line.{Line}
use Rattle.blocking_pool.specs.declared.pool.clients.Client.{Client}

-- what is known of each client, by its name
abbrev pub Known : Type 0
Known = FinMap nat_cmp Client

-- The clients that are known, and for how many more there is room.
pub record Clients : Type 0 where
  pub known : Known
  pub spare : ℕ

abbrev pub client_code : Coded Client
client_code =
    code_by (ℕ × (ℕ × (ℕ × (ℕ × ℕ))))
    (coded× coded_ℕ (coded× coded_ℕ (coded× coded_ℕ (coded× coded_ℕ coded_ℕ))))
    (λ client.
    (client.line.first, (client.line.last, (client.line.len, (client.jobs, client.running)))))
    (λ parts. record {
      line = record { first = parts.0; last = parts.1.0; len = parts.1.1.0 };
      jobs = parts.1.1.1.0;
      running = parts.1.1.1.1;
    })
    (λ _. refl)

abbrev pub clients_code : Coded Clients
clients_code =
    code_by (Known × ℕ)
    (coded× (code coded_ℕ client_code) coded_ℕ) (λ clients. (clients.known, clients.spare))
    (λ parts. record { known = parts.0; spare = parts.1 }) (λ _. refl)

-- a line that is empty
abbrev pub no_line : Line
no_line = record { first = 0; last = 0; len = 0 }

-- a client that has no job
abbrev pub no_client : Client
no_client = record { line = no_line; jobs = 0; running = 0 }

-- a client with one job more or fewer, and with one more or fewer that run
abbrev pub with_job : Client → Client
with_job client = record client { jobs = client.jobs + 1 }

abbrev pub without_job : Client → Client
without_job client = record client { jobs = client.jobs - 1 }

abbrev pub with_running : Client → Client
with_running client = record client { running = client.running + 1 }

abbrev pub without_running : Client → Client
without_running client = record client { running = client.running - 1 }

-- what is known of a client: that it has no job where nothing is
abbrev pub client_at : Known → ℕ → Client
client_at known client = unwrap_or (get known client) no_client

-- nothing is known of a client now, and of the others what was
pub record Forgets (old new : Clients) (client : ℕ) : Type 0 where
  pub states : (other : ℕ) → client_at new.known other
      ≡ (if other == client then no_client else client_at old.known other)
  pub fewer : len new.known ≤ len old.known

-- each client that is known stands here once
pub record AreAll (known : Known) (entries : List (ℕ × Client)) : Type 0 where
  pub known_are : known ≡ from_entries entries
  pub once : IsOnce (keys_of entries)

-- these clients, with what is known of them
abbrev pub as_known : Known → List (ℕ × Client) → List (ℕ × Client)
as_known known entries = map (λ entry. (entry.0, client_at known entry.0)) entries

-- the names of the clients that are known beside client 0, each once, stand in these entries
abbrev pub HasNames : Known → List (ℕ × Client) → Type 0
HasNames known entries = AreAll known ((0, client_at known 0) ∷ as_known known entries)
