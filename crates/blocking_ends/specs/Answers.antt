-- How many items an answer means, and facts of what it brings.
use Rattle.std.specs.Prelude.{◌≡◌, ℕ, ⊤}
use Rattle.blocking_core.specs.declared.pipe.Room.{Room}
use Rattle.blocking_core.specs.declared.pipe.Room.TheVariants as found
use Rattle.blocking_core.specs.declared.pipe.Put.{Put}
use Rattle.blocking_core.specs.declared.pipe.Put.TheVariants as put
use Rattle.blocking_core.specs.declared.pipe.Sending.{Sending}
use Rattle.blocking_core.specs.declared.pipe.Sending.TheVariants as sending
use Rattle.blocking_core.specs.declared.pipe.Peeked.{Peeked}
use Rattle.blocking_core.specs.declared.pipe.Peeked.TheVariants as peeked
use Rattle.blocking_core.specs.declared.pipe.Drained.{Drained}
use Rattle.blocking_core.specs.declared.pipe.Drained.TheVariants as drained
use Rattle.blocking_core.specs.declared.pipe.Fetched.{Fetched}
use Rattle.blocking_core.specs.declared.pipe.Fetched.TheVariants as fetched
use Rattle.blocking_core.specs.declared.pipe.Received.{Received}
use Rattle.blocking_core.specs.declared.pipe.Received.TheVariants as received
use Rattle.blocking_core.specs.declared.pipe.Filled.{Filled}
use Rattle.blocking_core.specs.declared.pipe.Filled.TheVariants as filled

-- the room that a job may use after a look for room, where it knew of so much before
abbrev pub free_after : Room → ℕ → ℕ
free_after (found.Free n) before = n
free_after found.Parked before = before
free_after found.Shut before = before

-- a fact of the room that was found, if there is some
abbrev pub IfFree : Room → (ℕ → Type 0) → Type 0
IfFree (found.Free n) P = P n
IfFree found.Parked P = ⊤
IfFree found.Shut P = ⊤

-- how many of n items a put has sent
abbrev pub sent_by_put : {W : Type 0} → Put W → ℕ → ℕ
sent_by_put (put.In waker) n = n
sent_by_put put.Lost n = 0

-- how many items a fill has sent
abbrev pub sent_by_fill : Filled → ℕ
sent_by_fill (filled.Took n of_job) = n
sent_by_fill filled.Shut = 0
sent_by_fill (filled.Waits seat) = 0

-- a fact of how many items a fill took, if it took some
abbrev pub IfTook : Filled → (ℕ → Type 0) → Type 0
IfTook (filled.Took n of_job) P = P n
IfTook filled.Shut P = ⊤
IfTook (filled.Waits seat) P = ⊤

-- what holds where a fill waits
abbrev pub OnFullWait : Filled → Type 0 → Type 0
OnFullWait (filled.Took n of_job) P = ⊤
OnFullWait filled.Shut P = ⊤
OnFullWait (filled.Waits seat) P = P

-- how many items a drain has moved out
abbrev pub got_by_drain : Drained → ℕ
got_by_drain (drained.Got n of_job) = n
got_by_drain drained.Ended = 0
got_by_drain (drained.Waits seat) = 0

-- a fact of how many items a drain got, if it got some
abbrev pub IfDrained : Drained → (ℕ → Type 0) → Type 0
IfDrained (drained.Got n of_job) P = P n
IfDrained drained.Ended P = ⊤
IfDrained (drained.Waits seat) P = ⊤

-- what holds where a drain found the end
abbrev pub OnDrainsEnd : Drained → Type 0 → Type 0
OnDrainsEnd (drained.Got n of_job) P = ⊤
OnDrainsEnd drained.Ended P = P
OnDrainsEnd (drained.Waits seat) P = ⊤

-- what holds where a drain waits
abbrev pub OnDrainsWait : Drained → Type 0 → Type 0
OnDrainsWait (drained.Got n of_job) P = ⊤
OnDrainsWait drained.Ended P = ⊤
OnDrainsWait (drained.Waits seat) P = P

-- how many items a fetch has brought
abbrev pub got_by_fetch : Fetched → ℕ
got_by_fetch (fetched.Got n) = n
got_by_fetch fetched.Ended = 0
got_by_fetch (fetched.Waits seat) = 0

-- what holds where a fetch brought some
abbrev pub OnFetched : Fetched → Type 0 → Type 0
OnFetched (fetched.Got n) P = P
OnFetched fetched.Ended P = ⊤
OnFetched (fetched.Waits seat) P = ⊤

-- what holds where a fetch found the end
abbrev pub OnFetchEnd : Fetched → Type 0 → Type 0
OnFetchEnd (fetched.Got n) P = ⊤
OnFetchEnd fetched.Ended P = P
OnFetchEnd (fetched.Waits seat) P = ⊤

-- what holds where a fetch waits
abbrev pub OnFetchWait : Fetched → Type 0 → Type 0
OnFetchWait (fetched.Got n) P = ⊤
OnFetchWait fetched.Ended P = ⊤
OnFetchWait (fetched.Waits seat) P = P

-- how many items a peek has shown
abbrev pub shown_by : Peeked → ℕ
shown_by (peeked.Some n) = n
shown_by peeked.Parked = 0
shown_by peeked.Drained = 0

-- a fact of how many items a peek showed, if it showed some
abbrev pub IfShown : Peeked → (ℕ → Type 0) → Type 0
IfShown (peeked.Some n) P = P n
IfShown peeked.Parked P = ⊤
IfShown peeked.Drained P = ⊤

-- what holds where a peek found the end
abbrev pub OnDrained : Peeked → Type 0 → Type 0
OnDrained (peeked.Some n) P = ⊤
OnDrained peeked.Parked P = ⊤
OnDrained peeked.Drained P = P

module _ {X : Type 0} where
  -- how many items a send has sent
  abbrev pub sent_by_send : {W : Type 0} → Sending X W → ℕ
  sent_by_send (sending.Sent waker) = 1
  sent_by_send (sending.Parked item) = 0
  sent_by_send (sending.Shut item) = 0

  -- an item that isn't sent comes back
  abbrev pub ComesBack : {W : Type 0} → X → Sending X W → Type 0
  ComesBack item (sending.Sent waker) = ⊤
  ComesBack item (sending.Parked back) = back ≡ item
  ComesBack item (sending.Shut back) = back ≡ item

  -- how many items a receive has got
  abbrev pub got_by_receive : Received X → ℕ
  got_by_receive (received.Got item of_job) = 1
  got_by_receive received.Ended = 0
  got_by_receive (received.Waits seat) = 0

  -- a fact of the item that was received, if one was
  abbrev pub IfReceived : Received X → (X → Type 0) → Type 0
  IfReceived (received.Got item of_job) P = P item
  IfReceived received.Ended P = ⊤
  IfReceived (received.Waits seat) P = ⊤

  -- what holds where a receive found the end
  abbrev pub OnEnd : Received X → Type 0 → Type 0
  OnEnd (received.Got item of_job) P = ⊤
  OnEnd received.Ended P = P
  OnEnd (received.Waits seat) P = ⊤

  -- what holds where a receive waits
  abbrev pub OnWait : Received X → Type 0 → Type 0
  OnWait (received.Got item of_job) P = ⊤
  OnWait received.Ended P = ⊤
  OnWait (received.Waits seat) P = P
