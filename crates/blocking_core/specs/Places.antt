-- What each side of a pipe is answered, by what is inside, how much room there is, whether the
-- other side's end is open, and who of the other side is seated.
use Rattle.std.specs.Prelude.{ℕ, nat_le, ◌==◌, min, if◌then◌else◌, Bool, true, false, List, [], ◌∷◌}
use Rattle.std.specs.Prelude.{take, Option}

-- One side is served, or it waits for the other side, or there is nothing more to wait for, as the
-- other end is closed.
pub data Met (A : Type 0) : Type 0 where
  Served : A → Met A
  Waiting : Met A
  Closed : Met A

module _ {X N : Type 0} where
  -- The owner drains into n places: the front of what is inside, with the note of a job that is
  -- seated; or the end, where the job's end is closed; or it waits.
  abbrev pub drain : ℕ → List X → Bool → Option N → Met (List X × Option N)
  drain n [] true seat = Waiting
  drain n [] false seat = Closed
  drain n (x ∷ xs) is_open seat = Served (take n (x ∷ xs), seat)

  -- The owner receives: the first item, with the note of a job that is seated; or the end; or it
  -- waits.
  abbrev pub receive : List X → Bool → Option N → Met (X × Option N)
  receive [] true seat = Waiting
  receive [] false seat = Closed
  receive (x ∷ xs) is_open seat = Served (x, seat)

-- The owner fills with n items: as many as there is room for, with the note of a job that is
-- seated; nothing where the job's end is closed; it waits where there is no room.
abbrev pub fill : {N : Type 0} → ℕ → ℕ → Bool → Option N → Met (ℕ × Option N)
fill n room false seat = Closed
fill n room true seat = if room == 0 then Waiting else Served (min n room, seat)

-- The job looks for room: nothing is of use where the owner's end is closed; it waits where there
-- is none.
abbrev pub find_room : ℕ → Bool → Met ℕ
find_room room false = Closed
find_room room true = if room == 0 then Waiting else Served room

-- The job hands n items in, and takes the waker of an owner who is seated: they are lost where the
-- owner's end is closed; it waits where they don't fit.
abbrev pub hand_in : {W : Type 0} → ℕ → ℕ → Bool → Option W → Met (Option W)
hand_in n room false seat = Closed
hand_in n room true seat = if nat_le n room then Served seat else Waiting

-- The job peeks into n places: the front of what is inside; where nothing is, it waits, or the pipe
-- is drained for good.
abbrev pub peek : {X : Type 0} → ℕ → List X → Bool → Met (List X)
peek n [] true = Waiting
peek n [] false = Closed
peek n (x ∷ xs) is_open = Served (take n (x ∷ xs))
