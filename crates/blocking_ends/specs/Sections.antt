-- What a pipe that counts does in each call: one call of the pipe, and the counts of what went in
-- and out. A send past the greatest count, or after the sender's end was closed, is answered as if
-- the other end were closed.
use Rattle.std.specs.Prelude.{◌≡◌, ◌⊎◌, ℕ, ◌+◌, ◌<◌, min, Bool, false, List, length, Option, Some}
use Rattle.blocking_pool.specs.Jobs.{JobNumber}
use Rattle.blocking_core.specs.Pipes.{Pipe}
use Rattle.blocking_core.specs.Pipes as pipes
use Rattle.blocking_core.specs.PipeAnswers as pipe
use Rattle.blocking_core.specs.declared.pipe.Room.{Room}
use Rattle.blocking_core.specs.declared.pipe.Put.{Put}
use Rattle.blocking_core.specs.declared.pipe.Put.TheVariants as put
use Rattle.blocking_core.specs.declared.pipe.Sending.{Sending}
use Rattle.blocking_core.specs.declared.pipe.Sending.TheVariants as sending
use Rattle.blocking_core.specs.declared.pipe.Peeked.{Peeked}
use Rattle.blocking_core.specs.declared.pipe.Drained.{Drained}
use Rattle.blocking_core.specs.declared.pipe.Fetched.{Fetched}
use Rattle.blocking_core.specs.declared.pipe.Received.{Received}
use Rattle.blocking_core.specs.declared.pipe.Filled.{Filled}
use Rattle.blocking_core.specs.declared.pipe.Filled.TheVariants as filled
use Rattle.blocking_ends.specs.Answers.{got_by_drain, got_by_fetch, got_by_receive}
use Rattle.blocking_ends.specs.Counted.{Counted}

-- the greatest number of items that may be sent
abbrev pub greatest : ℕ
greatest = 18446744073709551615

-- after so many were sent: the sender's end is closed, or n more would be too many to count
abbrev pub IsAtEnd : ℕ → Bool → ℕ → Type 0
IsAtEnd sent is_open n = (is_open ≡ false) ⊎ (greatest < sent + n)

-- that, or the other end is closed
abbrev pub TakesNone : ℕ → Bool → Bool → ℕ → Type 0
TakesNone sent is_open is_read n = (is_read ≡ false) ⊎ IsAtEnd sent is_open n

-- so many more were sent, and so many more received
pub record Counts {P : Type 0} (old : Counted P) (more got : ℕ) (new : Counted P) : Type 0 where
  pub sent : new.sent ≡ old.sent + more
  pub received : new.received ≡ old.received + got

module _ {X W : Type 0} where
  -- the job looks for room
  abbrev pub FindsRoom : Counted (Pipe X W) → JobNumber → Room → Counted (Pipe X W) → Type 0
  FindsRoom old me answer new = pipe.FindsRoom old.pipe me answer new.pipe × Counts old 0 0 new

  -- the job puts items: all of them are inside, or they are lost
  abbrev pub Puts : Counted (Pipe X W) → List X → Put W → Counted (Pipe X W) → Type 0
  Puts old given (put.In waker) new =
      pipe.Puts old.pipe given (put.In waker) new.pipe × Counts old (length given) 0 new
  Puts old given put.Lost new =
      TakesNone old.sent old.pipe.is_job_open old.pipe.is_owner_open (length given) × (new ≡ old)

  -- the job sends an item: it is inside, or it comes back
  abbrev pub Sends : Counted (Pipe X W) → JobNumber → X → Sending X W → Counted (Pipe X W) → Type 0
  Sends old me item (sending.Sent waker) new =
      pipe.Sends old.pipe me item (sending.Sent waker) new.pipe × Counts old 1 0 new
  Sends old me item (sending.Parked back) new =
      pipe.Sends old.pipe me item (sending.Parked back) new.pipe × Counts old 0 0 new
  Sends old me item (sending.Shut back) new =
      TakesNone old.sent old.pipe.is_job_open old.pipe.is_owner_open 1 × (back ≡ item) × (new ≡ old)

  -- the owner drains
  abbrev pub Drains : Counted (Pipe X W) → W → List X → Drained → Option W → Counted (Pipe X W)
      → List X → Type 0
  Drains old waker out answer spare new got =
      pipe.Drains old.pipe waker out answer spare new.pipe got
      × Counts old 0 (got_by_drain answer) new

  -- the owner fetches: what it is lent counts as received
  abbrev pub Fetches : Counted (Pipe X W) → W → ℕ → Fetched → Option W → List X → Counted (Pipe X W)
      → Type 0
  Fetches old waker most answer spare piece new =
      pipe.Fetches old.pipe waker most answer spare piece new.pipe
      × Counts old 0 (got_by_fetch answer) new

  -- the owner receives
  abbrev pub Receives : Counted (Pipe X W) → W → Received X → Option W → Counted (Pipe X W) → Type 0
  Receives old waker answer spare new =
      pipe.Receives old.pipe waker answer spare new.pipe × Counts old 0 (got_by_receive answer) new

  -- the owner fills: as many as there is room for are inside; or none, and the waker comes back; or
  -- the owner is seated
  abbrev pub Fills : Counted (Pipe X W) → W → List X → Filled → Option W → Counted (Pipe X W)
      → Type 0
  Fills old waker given (filled.Took n of_job) spare new =
      pipe.Fills old.pipe waker given (filled.Took n of_job) spare new.pipe × Counts old n 0 new
  Fills old waker given filled.Shut spare new =
      TakesNone old.sent old.pipe.is_owner_open old.pipe.is_job_open
      (min (length given) (pipes.room old.pipe)) × (spare ≡ Some waker) × (new ≡ old)
  Fills old waker given (filled.Waits seat) spare new =
      pipe.Fills old.pipe waker given (filled.Waits seat) spare new.pipe × Counts old 0 0 new

  -- the job peeks
  abbrev pub Peeks : Counted (Pipe X W) → JobNumber → List X → Peeked → Counted (Pipe X W) → List X
      → Type 0
  Peeks old me out answer new shown =
      pipe.Peeks old.pipe me out answer new.pipe shown × Counts old 0 0 new

  -- the job, which has nothing in its hand, is lent the front of what is inside
  abbrev pub Lends : Counted (Pipe X W) → JobNumber → ℕ → Peeked → List X → Counted (Pipe X W)
      → Type 0
  Lends old me most answer piece new =
      pipe.Lends old.pipe me most answer piece new.pipe × Counts old 0 0 new
