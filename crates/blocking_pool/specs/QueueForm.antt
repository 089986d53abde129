-- How the queue by clients is kept. No public clause cites this file.
use Rattle.std.specs.Prelude.{◌≡◌, ◌≢◌, ℕ, ◌+◌, ◌-◌, ◌<◌, ◌≤◌, ◌==◌, ◌&&◌, nat_lt, if◌then◌else◌}
use Rattle.std.specs.Prelude.{Bool, true, false, List, [], ◌∷◌, ◌++◌, length, map, Option, Some}
use Rattle.std.specs.Prelude.{None, slice_index_or, IsPermutation}
use Rattle.std.specs.FinMap.{len, from_entries, entries}
use Rattle.std.specs.List.{All}
use Rattle.blocking_pool.specs.Lists.{is_in, IsOnce}
use Rattle.blocking_pool.specs.Chain.{Chain}
use Rattle.blocking_pool.specs.Growth.{greatest}
use Rattle.blocking_pool.specs.Heads.{Head, Heads}
use Rattle.blocking_pool.specs.Clients.{Tally, Tallies}
use Rattle.blocking_pool.specs.ClientTable.{Known, client_at, AreAll}
use Rattle.blocking_pool.specs.Lines.{places_of, AreLined}
use Rattle.blocking_pool.specs.Hangs.{Hangs}
use Rattle.blocking_pool.specs.declared.pool.clients.Line.{Line}
use Rattle.blocking_pool.specs.declared.pool.clients.Client.{Client}
use Rattle.blocking_pool.specs.declared.pool.queue.Spot.{Spot}

-- the tally of a client
abbrev pub tally_of : Client → Tally
tally_of client = record { jobs = client.jobs; running = client.running }

-- the tallies of the clients
abbrev pub tallies_of : Known → Tallies
tallies_of known = from_entries (map (λ entry. (entry.0, tally_of entry.1)) (entries known))

-- a spot that stands nowhere
abbrev pub nowhere : Spot
nowhere = record { client = 0; number = 0; after = 0 }

-- the client of a place
abbrev pub client_by : List Spot → ℕ → ℕ
client_by spots place = (slice_index_or spots place nowhere).client

-- the number of entry of a place
abbrev pub number_by : List Spot → ℕ → ℕ
number_by spots place = (slice_index_or spots place nowhere).number

-- the place after this one in its line
abbrev pub after_by : List Spot → ℕ → ℕ
after_by spots place = (slice_index_or spots place nowhere).after

-- whether a client of which so many jobs run is open: a limit is set, and one more may run
abbrev pub admits : Option ℕ → ℕ → Bool
admits None running = false
admits (Some limit) running = nat_lt running limit

-- whether a client is open
abbrev pub is_open_at : Option ℕ → Known → ℕ → Bool
is_open_at limit known client = admits limit (client_at known client).running

-- the line of a client
abbrev pub line_at : Known → ℕ → Line
line_at known client = (client_at known client).line

-- the places of a client's line
abbrev pub line_by : List Spot → Known → ℕ → List ℕ
line_by spots known client = places_of (after_by spots) (line_at known client)

-- The lines are those of the queue: chain, spots, clients and heads hang together, where so many
-- places are ready, and the next entry has this number.
pub record IsLined (places : Chain) (spots : List Spot) (known : Known) (heads : Heads)
    (limit : Option ℕ) (ready next : ℕ) : Type 0 where
  pub hangs : Hangs (client_by spots) (number_by spots) (is_open_at limit known) places.places
      (line_by spots known) heads.heads next ready
  pub lined : AreLined (after_by spots) (length spots) (line_at known)
  pub chain_room : length spots ≤ places.room
  pub seats : 0 < length spots → len known ≤ heads.room
  pub within : (place : ℕ) → is_in place places.places ≡ true → place < length spots
  pub left : next < greatest

-- no line has a place
abbrev pub HaveNoLines : Known → Type 0
HaveNoLines known = (client : ℕ) → (line_at known client).len ≡ 0

-- each line that has places is that of a client with a place in the queue
abbrev pub HaveLinesOf : List Spot → Known → List ℕ → Type 0
HaveLinesOf spots known places = (client : ℕ) → 0 < (line_at known client).len
    → (place : ℕ) × (is_in place places ≡ true) × (client_by spots place ≡ client)

-- each place of the queue is one of a client that has jobs
abbrev pub AreHeld : List Spot → Known → List ℕ → Type 0
AreHeld spots known places = (place : ℕ) → is_in place places ≡ true
    → 0 < (client_at known (client_by spots place)).jobs

-- the lines are kept where a client limit is set
abbrev pub AreLines : Option ℕ → Chain → List Spot → Known → Heads → ℕ → ℕ → Type 0
AreLines None places spots known heads ready next = HaveNoLines known × (heads.heads ≡ [])
AreLines (Some limit) places spots known heads ready next =
    IsLined places spots known heads (Some limit) ready next

-- What every queue keeps.
pub record IsQueue (places : Chain) (spots : List Spot) (known : Known) (heads : Heads)
    (limit : Option ℕ) (ready next : ℕ) : Type 0 where
  pub lines : AreLines limit places spots known heads ready next
  pub once : IsOnce places.places
  pub within : (place : ℕ) → is_in place places.places ≡ true → place < length spots
  pub chain_room : length spots ≤ places.room
  pub seats : 0 < length spots → len known ≤ heads.room
  pub held : AreHeld spots known places.places

-- Each client has as many jobs as before, and as many that run.
pub record SameCounts (old new : Known) : Type 0 where
  pub counts : (client : ℕ) → tally_of (client_at new client) ≡ tally_of (client_at old client)
  pub len_is : len new ≡ len old

-- The places of the queue stand in the lines of their clients, and the number after the last is
-- this one.
pub record LinesUp (old new : List Spot) (before after : Known) (places : List ℕ) (next : ℕ) :
    Type 0 where
  pub lined : IsLined (record { places = places; room = length old }) new after
      (record { heads = []; room = len before }) None 0 next
  pub count : length new ≡ length old
  pub owners : (place : ℕ) → client_by new place ≡ client_by old place
  pub same : SameCounts before after

-- One spot is put at the end of a line, and the place before it leads to it.
pub record Appends (old new : List Spot) (line : Line) (place : ℕ) (spot : Spot) : Type 0 where
  pub count : length new ≡ length old
  pub clients : (other : ℕ)
      → client_by new other ≡ (if other == place then spot.client else client_by old other)
  pub numbers : (other : ℕ)
      → number_by new other ≡ (if other == place then spot.number else number_by old other)
  pub linked : 0 < line.len → after_by new line.last ≡ place
  pub links : (other : ℕ) → other ≢ place → (0 < line.len → other ≢ line.last)
      → after_by new other ≡ after_by old other

-- the line with one more place at its end
abbrev pub longer : Line → ℕ → Line
longer line place = record {
  first = (if line.len == 0 then place else line.first);
  last = place;
  len = line.len + 1;
}

-- the line without its first place
abbrev pub shorter : List Spot → Line → Line
shorter spots line =
    record { first = after_by spots line.first; last = line.last; len = line.len - 1 }

-- a client whose first place was taken: one job more of it runs
abbrev pub taken_from : List Spot → Client → Client
taken_from spots client =
    record { line = shorter spots client.line; jobs = client.jobs; running = client.running + 1 }

-- the head of a client, if it is open and has a line
abbrev pub head_of : (ℕ → ℕ) → Option ℕ → ℕ → Client → List Head
head_of number limit name client = if admits limit client.running && nat_lt 0 client.line.len
    then (number client.line.first, name) ∷ [] else []

-- how many places of a client are ready
abbrev pub ready_at : Option ℕ → Client → ℕ
ready_at limit client = if admits limit client.running then client.line.len else 0

-- the heads of these clients
abbrev pub heads_of : (ℕ → ℕ) → Option ℕ → List (ℕ × Client) → List Head
heads_of number limit [] = []
heads_of number limit (entry ∷ entries) =
    head_of number limit entry.0 entry.1 ++ heads_of number limit entries

-- how many places of these clients are ready
abbrev pub ready_among : Option ℕ → List (ℕ × Client) → ℕ
ready_among limit [] = 0
ready_among limit (entry ∷ entries) = ready_at limit entry.1 + ready_among limit entries

-- The lines of these clients are within the spots, there is room for their heads, and what is ready
-- can be counted.
pub record Fits (spots : List Spot) (limit : Option ℕ) (room : ℕ) (entries : List (ℕ × Client)) :
    Type 0 where
  pub firsts : All (λ entry. 0 < entry.1.line.len → entry.1.line.first < length spots) entries
  pub seats : length (heads_of (number_by spots) limit entries) ≤ room
  pub count : ready_among limit entries ≤ greatest

-- The heads are those of all clients that are known, and so many places are ready.
pub record AreAnew (known : Known) (spots : List Spot) (limit : Option ℕ) (old new : Heads)
    (ready : ℕ) : Type 0 where
  pub entries : List (ℕ × Client)
  pub all : AreAll known entries
  pub heads : IsPermutation (heads_of (number_by spots) limit entries) new.heads
  pub count : ready ≡ ready_among limit entries
  pub room : old.room ≤ new.room

-- the places have these numbers, one after the other
abbrev pub AreNumbered : (ℕ → ℕ) → ℕ → List ℕ → Type 0
AreNumbered number n [] = Unit {0}
AreNumbered number n (place ∷ places) = (number place ≡ n) × AreNumbered number (n + 1) places

-- The places of the queue are numbered from 0 on, and nothing else has changed.
pub record Renumbers (old new : List Spot) (places : List ℕ) (next : ℕ) : Type 0 where
  pub count : length new ≡ length old
  pub clients : (place : ℕ) → client_by new place ≡ client_by old place
  pub links : (place : ℕ) → after_by new place ≡ after_by old place
  pub numbers : AreNumbered (number_by new) 0 places
  pub next_is : next ≡ length places
