-- How the lines of the clients, their heads and the count of what is ready hang together with the
-- queue.
use Rattle.std.specs.Prelude.{◌≡◌, ℕ, ◌<◌, ◌==◌, ◌&&◌, if◌then◌else◌, Bool, true, false, List, []}
use Rattle.std.specs.Prelude.{◌∷◌, length, filter}
use Rattle.std.specs.List.{All}
use Rattle.blocking_pool.specs.Lists.{is_in, IsOnce}
use Rattle.blocking_pool.specs.Heads.{Head, times}

-- the places of one client, in the order of the queue
abbrev pub line_of : (ℕ → ℕ) → ℕ → List ℕ → List ℕ
line_of client c queue = filter (λ p. client p == c) queue

-- the places of the open clients, in the order of the queue
abbrev pub ready_of : (ℕ → Bool) → (ℕ → ℕ) → List ℕ → List ℕ
ready_of is_open client queue = filter (λ p. is_open (client p)) queue

-- the numbers of entry rise along the queue
abbrev pub Rises : (ℕ → ℕ) → List ℕ → Type 0
Rises entry [] = Unit {0}
Rises entry (p ∷ ps) = ((q : ℕ) → is_in q ps ≡ true → entry p < entry q) × Rises entry ps

abbrev pub one_if : Bool → ℕ
one_if b = if b then 1 else 0

-- whether a line has places
abbrev pub is_some_line : List ℕ → Bool
is_some_line [] = false
is_some_line (place ∷ places) = true

-- the first of a line has this number of entry
abbrev pub Leads : (ℕ → ℕ) → List ℕ → ℕ → Type 0
Leads number [] n = ⊥
Leads number (place ∷ places) n = number place ≡ n

-- The lines are the queue's, by clients; numbers of entry rise along the queue; each client that is
-- open and has a line has one head, which has the number of its first place; and so many places are
-- ready.
pub record Hangs (client number : ℕ → ℕ) (is_open : ℕ → Bool) (queue : List ℕ) (line : ℕ → List ℕ)
    (heads : List Head) (next ready : ℕ) : Type 0 where
  pub once : IsOnce queue
  pub line_is : (c : ℕ) → line c ≡ line_of client c queue
  pub rises : Rises number queue
  pub below : (place : ℕ) → is_in place queue ≡ true → number place < next
  pub one_each : (c : ℕ) → times c heads ≡ one_if (is_open c && is_some_line (line c))
  pub led : All (λ head. Leads number (line head.1) head.0) heads
  pub counted : ready ≡ length (ready_of is_open client queue)
