-- What whole copies, reads and writes answer.
use Rattle.std.specs.Prelude.{◌≡◌, ◌<◌, ◌++◌, ℕ, List, [], Ok, Err}
use Rattle.futures.specs.declared.task.Poll.TheVariants.{Ready, Pending}
use Rattle.blocking_io.specs.Copies.{EndsFlushed, IsCopied, Passes, all_written}
use Rattle.blocking_io.specs.Passed.{AddsTo, GaveAll}
use Rattle.blocking_io.specs.Polled.{ReaderPoll, WriterPoll, OfRead}

module _ {A : Type 0} (reads : A → ReaderPoll → A → Type 0) where
  -- this reader was read to its end, and these are all bytes that it gave, in order
  abbrev pub GivesAll : A → List ℕ → Type 0
  GivesAll reader bytes = (last : A) × GaveAll reads reader bytes last

  -- some reader that is such gave all these bytes
  abbrev pub GivesAllOf : (A → Type 0) → List ℕ → Type 0
  GivesAllOf IsSuch bytes = (reader : A) × IsSuch reader × GivesAll reader bytes

  -- this reader was read to its end, and the one list is the other with all bytes that it gave
  abbrev pub GivesMore : A → List ℕ → List ℕ → Type 0
  GivesMore reader before bytes = (last : A)
      × AddsTo before bytes (λ more. GaveAll reads reader more last)

module _ {A : Type 0} (writes : A → WriterPoll → A → Type 0) where
  -- this writer took exactly these bytes, in order and once, and was then flushed
  abbrev pub TakesAll : A → List ℕ → Type 0
  TakesAll writer bytes = (last : A) × (polls : List WriterPoll)
      × Passes writes writer polls last × (all_written polls ≡ bytes) × EndsFlushed polls

  -- some writer that is such took all these bytes
  abbrev pub TakesAllOf : (A → Type 0) → List ℕ → Type 0
  TakesAllOf IsSuch bytes = (writer : A) × IsSuch writer × TakesAll writer bytes

-- what Ok with a count says of a copy from some reader to some writer that are such
abbrev pub IsCopiedOf : {A B : Type 0} → (A → ReaderPoll → A → Type 0)
    → (B → WriterPoll → B → Type 0) → (A → Type 0) → (B → Type 0) → ℕ → Type 0
IsCopiedOf {A} {B} reads writes IsFrom IsTo count = (reader : A) × IsFrom reader
    × ((writer : B) × IsTo writer × IsCopied reads writes reader writer count)

-- a poll gave the first of these bytes, and left the rest; where there was room, it gave none only
-- at their end
abbrev pub ReadsFirst : List ℕ → ReaderPoll → List ℕ → Type 0
ReadsFirst old (OfRead room (Ready (Ok bytes))) new =
    (old ≡ bytes ++ new) × (0 < room → bytes ≡ [] → new ≡ [])
ReadsFirst old (OfRead room (Ready (Err why))) new = ⊥
ReadsFirst old (OfRead room Pending) new = ⊥
