-- What the calls of a pipe answer, and what each leaves.
use Rattle.std.specs.Prelude.{◌≡◌, ℕ, ◌+◌, ◌-◌, ◌<◌, min, true, false, List, [], ◌∷◌, ◌++◌, length}
use Rattle.std.specs.Prelude.{take, drop, Option, Some, None}
use Rattle.blocking_pool.specs.Jobs.{JobNumber}
use Rattle.blocking_core.specs.Pipes.{Pipe, room}
use Rattle.blocking_core.specs.Places.{Served, Waiting, Closed, drain, receive, fill, find_room}
use Rattle.blocking_core.specs.Places.{hand_in, peek}
use Rattle.blocking_core.specs.declared.pipe.Room.{Room}
use Rattle.blocking_core.specs.declared.pipe.Room.TheVariants as found
use Rattle.blocking_core.specs.declared.pipe.Put.{Put}
use Rattle.blocking_core.specs.declared.pipe.Put.TheVariants as put
use Rattle.blocking_core.specs.declared.pipe.Sending.{Sending}
use Rattle.blocking_core.specs.declared.pipe.Sending.TheVariants as sending
use Rattle.blocking_core.specs.declared.pipe.Peeked.{Peeked}
use Rattle.blocking_core.specs.declared.pipe.Peeked.TheVariants as peeked
use Rattle.blocking_core.specs.declared.pipe.Drained.{Drained}
use Rattle.blocking_core.specs.declared.pipe.Drained.TheVariants as drained
use Rattle.blocking_core.specs.declared.pipe.Fetched.{Fetched}
use Rattle.blocking_core.specs.declared.pipe.Fetched.TheVariants as fetched
use Rattle.blocking_core.specs.declared.pipe.Received.{Received}
use Rattle.blocking_core.specs.declared.pipe.Received.TheVariants as received
use Rattle.blocking_core.specs.declared.pipe.Filled.{Filled}
use Rattle.blocking_core.specs.declared.pipe.Filled.TheVariants as filled

module _ {X W : Type 0} where
  -- the job is seated
  abbrev pub job_seated : Pipe X W → JobNumber → Pipe X W
  job_seated pipe me = record pipe { job_seat = Some me }

  -- the owner is seated, in the place of whoever was
  abbrev pub owner_seated : Pipe X W → W → Pipe X W
  owner_seated pipe waker = record pipe { owner_seat = Some waker }

  -- The first n items are lent: they aren't inside any more, and take room.
  abbrev pub front_lent : Pipe X W → ℕ → Pipe X W
  front_lent pipe n =
      record pipe { items = drop n pipe.items; capacity = pipe.capacity - n; lent = pipe.lent + n }

  -- The job let go of the first n items, of those that it was lent and then of those inside, and
  -- the owner's waker left its seat.
  abbrev pub let_go : Pipe X W → ℕ → Pipe X W
  let_go pipe n =
      record pipe {
        items = drop (n - pipe.lent) pipe.items;
        capacity = pipe.capacity + min n pipe.lent;
        lent = pipe.lent - n;
        owner_seat = None;
      }

  -- The owner let go of n of the items that it was lent, and the job's note left its seat.
  abbrev pub fetched_gone : Pipe X W → ℕ → Pipe X W
  fetched_gone pipe n =
      record pipe { capacity = pipe.capacity + n; lent = pipe.lent - n; job_seat = None }

  -- The owner took the first n items, and the note of the job.
  abbrev pub without_front : Pipe X W → ℕ → Pipe X W
  without_front pipe n = record pipe { items = drop n pipe.items; job_seat = None }

  -- The job looks for room. Where there is none it is seated.
  abbrev pub FindsRoom : Pipe X W → JobNumber → Room → Pipe X W → Type 0
  FindsRoom old me (found.Free n) new =
      (find_room (room old) old.is_owner_open ≡ Served n) × (0 < n) × (new ≡ old)
  FindsRoom old me found.Parked new =
      (find_room (room old) old.is_owner_open ≡ Waiting) × (new ≡ job_seated old me)
  FindsRoom old me found.Shut new = (find_room (room old) old.is_owner_open ≡ Closed) × (new ≡ old)

  -- The job puts items that fit: all of them are inside, and the owner's waker leaves its seat; or
  -- they are lost.
  abbrev pub Puts : Pipe X W → List X → Put W → Pipe X W → Type 0
  Puts old given (put.In waker) new =
      (hand_in (length given) (room old) old.is_owner_open old.owner_seat ≡ Served waker)
      × (new ≡ record old { items = old.items ++ given; owner_seat = None })
  Puts old given put.Lost new =
      (hand_in (length given) (room old) old.is_owner_open old.owner_seat ≡ Closed) × (new ≡ old)

  -- The job sends an item: it is inside, and the owner's waker leaves its seat; or the job is
  -- seated, or nobody takes it, and the item comes back.
  abbrev pub Sends : Pipe X W → JobNumber → X → Sending X W → Pipe X W → Type 0
  Sends old me item (sending.Sent waker) new =
      (hand_in 1 (room old) old.is_owner_open old.owner_seat ≡ Served waker)
      × (new ≡ record old { items = old.items ++ item ∷ []; owner_seat = None })
  Sends old me item (sending.Parked back) new =
      (hand_in 1 (room old) old.is_owner_open old.owner_seat ≡ Waiting) × (back ≡ item)
      × (new ≡ job_seated old me)
  Sends old me item (sending.Shut back) new =
      (hand_in 1 (room old) old.is_owner_open old.owner_seat ≡ Closed) × (back ≡ item) × (new ≡ old)

  -- The job peeks: the front of what is inside is copied, and stays inside; or the job is seated;
  -- or the pipe is drained.
  abbrev pub Peeks : Pipe X W → JobNumber → List X → Peeked → Pipe X W → List X → Type 0
  Peeks old me out (peeked.Some n) new shown =
      (peek (length out) old.items old.is_owner_open ≡ Served (take n old.items))
      × (0 < n)
      × (n ≡ min (length out) (length old.items))
      × (new ≡ old)
      × (shown ≡ take n old.items ++ drop n out)
  Peeks old me out peeked.Parked new shown =
      (peek (length out) old.items old.is_owner_open ≡ Waiting) × (new ≡ job_seated old me)
      × (shown ≡ out)
  Peeks old me out peeked.Drained new shown =
      (peek (length out) old.items old.is_owner_open ≡ Closed) × (new ≡ old) × (shown ≡ out)

  -- The job is lent the front of what is inside, so many items at most; or it is seated; or the
  -- pipe is drained.
  abbrev pub Lends : Pipe X W → JobNumber → ℕ → Peeked → List X → Pipe X W → Type 0
  Lends old me most (peeked.Some n) piece new =
      (0 < n) × (n ≡ min most (length old.items)) × (piece ≡ take n old.items)
      × (new ≡ front_lent old n)
  Lends old me most peeked.Parked piece new =
      (old.items ≡ []) × (old.is_owner_open ≡ true) × (new ≡ job_seated old me)
  Lends old me most peeked.Drained piece new =
      (old.items ≡ []) × (old.is_owner_open ≡ false) × (new ≡ old)

  -- The owner drains: the front of what is inside is moved out, with the job's note; or that was
  -- all; or the owner is seated. The waker that isn't seated comes back.
  abbrev pub Drains : Pipe X W → W → List X → Drained → Option W → Pipe X W → List X → Type 0
  Drains old waker out (drained.Got n note) spare new got =
      (drain (length out) old.items old.is_job_open old.job_seat ≡ Served (take n old.items, note))
      × (0 < n)
      × (n ≡ min (length out) (length old.items))
      × (new ≡ without_front old n)
      × (got ≡ take n old.items ++ drop n out)
      × (spare ≡ Some waker)
  Drains old waker out drained.Ended spare new got =
      (drain (length out) old.items old.is_job_open old.job_seat ≡ Closed) × (new ≡ old)
      × (got ≡ out) × (spare ≡ Some waker)
  Drains old waker out (drained.Waits seat) spare new got =
      (drain (length out) old.items old.is_job_open old.job_seat ≡ Waiting)
      × (new ≡ owner_seated old waker)
      × (got ≡ out)
      × (spare ≡ old.owner_seat)

  -- The owner fetches: it is lent the front of what is inside, so many items at most; or that was
  -- all; or the owner is seated. The waker that isn't seated comes back.
  abbrev pub Fetches : Pipe X W → W → ℕ → Fetched → Option W → List X → Pipe X W → Type 0
  Fetches old waker most (fetched.Got n) spare piece new =
      (0 < n) × (n ≡ min most (length old.items)) × (piece ≡ take n old.items)
      × (new ≡ front_lent old n) × (spare ≡ Some waker)
  Fetches old waker most fetched.Ended spare piece new =
      (old.items ≡ []) × (old.is_job_open ≡ false) × (new ≡ old) × (spare ≡ Some waker)
  Fetches old waker most (fetched.Waits seat) spare piece new =
      (old.items ≡ []) × (old.is_job_open ≡ true) × (new ≡ owner_seated old waker)
      × (spare ≡ old.owner_seat)

  -- The owner receives: the first item leaves, with the job's note; or that was all; or the owner
  -- is seated. The waker that isn't seated comes back.
  abbrev pub Receives : Pipe X W → W → Received X → Option W → Pipe X W → Type 0
  Receives old waker (received.Got item note) spare new =
      (receive old.items old.is_job_open old.job_seat ≡ Served (item, note))
      × (new ≡ without_front old 1) × (spare ≡ Some waker)
  Receives old waker received.Ended spare new =
      (receive old.items old.is_job_open old.job_seat ≡ Closed) × (new ≡ old) × (spare ≡ Some waker)
  Receives old waker (received.Waits seat) spare new =
      (receive old.items old.is_job_open old.job_seat ≡ Waiting) × (new ≡ owner_seated old waker)
      × (spare ≡ old.owner_seat)

  -- The owner fills: the first of what is given are inside, and the job's note leaves its seat; or
  -- nobody takes them; or the owner is seated. The waker that isn't seated comes back.
  abbrev pub Fills : Pipe X W → W → List X → Filled → Option W → Pipe X W → Type 0
  Fills old waker given (filled.Took n note) spare new =
      (fill (length given) (room old) old.is_job_open old.job_seat ≡ Served (n, note))
      × (0 < n)
      × (new ≡ record old { items = old.items ++ take n given; job_seat = None })
      × (spare ≡ Some waker)
  Fills old waker given filled.Shut spare new =
      (fill (length given) (room old) old.is_job_open old.job_seat ≡ Closed) × (new ≡ old)
      × (spare ≡ Some waker)
  Fills old waker given (filled.Waits seat) spare new =
      (fill (length given) (room old) old.is_job_open old.job_seat ≡ Waiting)
      × (new ≡ owner_seated old waker) × (spare ≡ old.owner_seat)

  -- An owner of whom n items went in is told of them, and takes the job's note; where none did it
  -- is seated.
  abbrev pub TellsOfFill : Pipe X W → W → ℕ → Filled → Option W → Pipe X W → Type 0
  TellsOfFill old waker n (filled.Took m note) spare new =
      (0 < n) × (m ≡ n) × (note ≡ old.job_seat) × (new ≡ record old { job_seat = None })
      × (spare ≡ Some waker)
  TellsOfFill old waker n filled.Shut spare new = ⊥
  TellsOfFill old waker n (filled.Waits seat) spare new =
      (n ≡ 0) × (new ≡ owner_seated old waker) × (spare ≡ old.owner_seat)
