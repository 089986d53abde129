-- The queue by clients, as the table sees it.
use Rattle.std.specs.Prelude.{◌≡◌, ℕ, ◌<◌, ◌≤◌, ◌==◌, ◌||◌, nat_lt, Bool, List, [], filter, length}
use Rattle.std.specs.Prelude.{Option, Some, None, is_some, slice_index_or, refl}
use Rattle.std.specs.FinMap.{get}
use Rattle.std.specs.Coded.{Coded, code_by, coded×, coded_ℕ, coded_list, coded_option}
use Rattle.blocking_pool.specs.Lists.{without, first_of}
use Rattle.blocking_pool.specs.Chain.{Chain}
use Rattle.blocking_pool.specs.Clients.{Tally, Tallies, tallies_code, tally_at, IsTallied}
use Rattle.blocking_pool.specs.Clients.{SameTallies, started, has_room_at}

-- The queued places in order; the client of each place that may stand in the queue; the tallies of
-- the clients; the limit of running jobs for each client, if one is set; and for how many clients
-- more there is room.
pub record Queue : Type 0 where
  pub places : List ℕ
  pub owners : List ℕ
  pub tallies : Tallies
  pub limit : Option ℕ
  pub spare : ℕ

abbrev pub queue_code : Coded Queue
queue_code =
    code_by (List ℕ × (List ℕ × (Tallies × (Option ℕ × ℕ))))
    (coded× (coded_list coded_ℕ) (coded× (coded_list coded_ℕ)
    (coded× tallies_code (coded× (coded_option coded_ℕ) coded_ℕ))))
    (λ queue. (queue.places, (queue.owners, (queue.tallies, (queue.limit, queue.spare)))))
    (λ parts. record {
      places = parts.0;
      owners = parts.1.0;
      tallies = parts.1.1.0;
      limit = parts.1.1.1.0;
      spare = parts.1.1.1.1;
    })
    (λ _. refl)

-- the client of a place
abbrev pub owner_at : Queue → ℕ → ℕ
owner_at queue place = slice_index_or queue.owners place 0

-- the queue as a chain: its places, and how many places there are that may stand in it
abbrev pub chain_of : Queue → Chain
chain_of queue = record { places = queue.places; room = length queue.owners }

-- the queued places of a client, in order
abbrev pub line_in : Queue → ℕ → List ℕ
line_in queue client = filter (λ place. owner_at queue place == client) queue.places

-- the places that are ready, in order: those whose client has room
abbrev pub ready_in : Queue → List ℕ
ready_in queue =
    filter (λ place. has_room_at queue.limit queue.tallies (owner_at queue place)) queue.places

-- whether there is room for what is known of this client
abbrev pub has_seat : Queue → ℕ → Bool
has_seat queue client = is_some (get queue.tallies client) || nat_lt 0 queue.spare

-- Room was made: all is as it was, but for the places that have room now.
pub record Widens (old new : Queue) : Type 0 where
  pub places : new.places ≡ old.places
  pub owners : (place : ℕ) → place < length old.owners → owner_at new place ≡ owner_at old place
  pub kept : length old.owners ≤ length new.owners
  pub tallies : SameTallies old.tallies new.tallies
  pub limit : new.limit ≡ old.limit

-- One client's tally has changed so, and nothing else.
pub record Tallied (old new : Queue) (client : ℕ) (change : Tally → Tally) : Type 0 where
  pub places : new.places ≡ old.places
  pub owners : new.owners ≡ old.owners
  pub tallies : IsTallied old.tallies new.tallies client (change (tally_at old.tallies client))
  pub limit : new.limit ≡ old.limit

-- The queue has other places now, and maybe other owners, and nothing else changed.
pub record Holds (old new : Queue) (places owners : List ℕ) : Type 0 where
  pub places_are : new.places ≡ places
  pub owners_are : new.owners ≡ owners
  pub tallies : SameTallies old.tallies new.tallies
  pub limit : new.limit ≡ old.limit

-- The first ready place is taken out, and one job more of its client runs.
pub record TakesPlace (old : Queue) (place : ℕ) (new : Queue) : Type 0 where
  pub first : first_of (ready_in old) ≡ Some place
  pub places : new.places ≡ without place old.places
  pub owners : new.owners ≡ old.owners
  pub tallies : IsTallied old.tallies new.tallies (owner_at old place)
      (started (tally_at old.tallies (owner_at old place)))
  pub limit : new.limit ≡ old.limit

-- the first ready place is taken, or there is none
abbrev pub TakesReady : Queue → Option ℕ → Queue → Type 0
TakesReady old None new = (ready_in old ≡ []) × (new ≡ old)
TakesReady old (Some place) new = TakesPlace old place new
