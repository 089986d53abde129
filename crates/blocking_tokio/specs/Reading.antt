-- What the kit's traits ask of a reader, said by the polls of one of ours, with the proofs of their
-- laws.
use Rattle.std.proofs.Common.{refl, ℕ, ◌<◌, List, [], ◌++◌, Ok, Err}
use Rattle.std.specs.declared.io.Error.{Error}
use Rattle.futures.specs.declared.task.Poll.TheVariants.{Ready}
use Rattle.blocking_core.specs.Faults.{IsToldAs}
use Rattle.blocking_core.specs.declared.io.Fault.{Fault}
use Rattle.blocking_io.specs.Passed.{Gave}
use Rattle.blocking_io.specs.Polled.{ReaderPoll, OfRead}
use Rattle.blocking_io.proofs.Wholes.{gave_join}

module _ {A : Type 0} (reads : A → ReaderPoll → A → Type 0) where
  -- polls led from the one state to the other, and these are all bytes that they gave, in order
  abbrev pub Gives : A → List ℕ → A → Type 0
  Gives old bytes new = Gave reads old bytes new

  -- a read with room for a byte led to this state, and gave none
  abbrev pub MetEnd : A → Type 0
  MetEnd new = (old : A) × (room : ℕ) × (0 < room) × reads old (OfRead room (Ready (Ok []))) new

  -- a read led to this state by a fault that is told as this error of the system
  abbrev pub ReadFails : A → Error → Type 0
  ReadFails new error = (old : A) × (room : ℕ) × (fault : Fault Error)
      × reads old (OfRead room (Ready (Err fault))) new × IsToldAs fault error

  pub gives_nothing : (reader : A) → Gives reader [] reader
  gives_nothing reader = ([], refl, refl)

  pub gives_in_order : (old : A) (xs : List ℕ) (mid : A) (ys : List ℕ) (new : A) → Gives old xs mid
      → Gives mid ys new → Gives old (xs ++ ys) new
  gives_in_order old xs mid ys new first rest = gave_join reads old mid new xs ys first rest
