-- What contracts see of a seeking job, and what each of its steps does.
use Rattle.std.specs.Prelude.{◌≡◌, ℕ, Bool, List, Option, Some, None, Result, Ok, Err, refl}
use Rattle.std.specs.Coded.{Coded, code_by, coded×, coded_bool, coded_ℕ, coded_option, coded_result}
use Rattle.std.specs.Io.Seek.{SeekMoves}
use Rattle.std.specs.declared.io.Error.{Error}
use Rattle.std.specs.contracts.io.Error.{the_row as error_row}
use Rattle.std.specs.declared.io.SeekFrom.{SeekFrom}
use Rattle.std.specs.declared.io.SeekFrom.TheVariants as from
use Rattle.blocking_core.specs.Machines.{Machine}
use Rattle.blocking_core.specs.Seeks.{seek_next, seek_after}
use Rattle.blocking_core.specs.declared.io.Position.{Position}
use Rattle.blocking_core.specs.declared.io.Position.TheVariants.{Start, Current, End}
use Rattle.blocking_core.specs.contracts.io.Position.{the_row as position_row}
use Rattle.blocking_core.specs.declared.job.seek.SeekAction.{SeekAction}
use Rattle.blocking_core.specs.declared.job.seek.SeekAction.TheVariants.{Seek, Finish, Deliver}
use Rattle.blocking_core.specs.declared.job.seek.SeekAction.TheVariants.{Done}
use Rattle.blocking_core.specs.declared.job.seek.SeekAnswer.{SeekAnswer}
use Rattle.blocking_core.specs.declared.job.seek.SeekAnswer.TheVariants as by
use Rattle.blocking_core.specs.contracts.job.seek.SeekAction.{the_row}
use Rattle.blocking_pool.specs.declared.pool.job.JobStep.{JobStep}
use Rattle.blocking_pool.specs.declared.pool.job.JobStep.TheVariants as step

-- a position, as a handle of the system is asked for it
abbrev pub seek_from : Position → SeekFrom
seek_from (Start place) = from.Start place
seek_from (Current offset) = from.Current offset
seek_from (End offset) = from.End offset

-- a position that a handle of the system is asked for
abbrev pub position_of : SeekFrom → Position
position_of (from.Start place) = Start place
position_of (from.Current offset) = Current offset
position_of (from.End offset) = End offset

-- a seeking job: what it does next, its handle until that is given back, where it seeks, and where
-- the handle is then, once it has sought
pub record SeekSeen (T : Type 0) : Type 0 where
  pub core : Machine SeekAction
  pub handle : Option T
  pub to : Position
  pub sought : Option (Result ℕ Error)

abbrev pub seek_code : {T : Type 0} → Coded T → Coded (SeekSeen T)
seek_code {T} code =
    code_by (SeekAction × (Bool × (Option T × (Position × Option (Result ℕ Error)))))
    (coded× the_row.coded (coded× coded_bool (coded× (coded_option code)
    (coded× position_row.coded (coded_option (coded_result coded_ℕ error_row.coded))))))
    (λ seen. (seen.core.next, (seen.core.is_waking, (seen.handle, (seen.to, seen.sought)))))
    (λ parts. record {
      core = record { next = parts.0; is_waking = parts.1.0 };
      handle = parts.1.1.0;
      to = parts.1.1.1.0;
      sought = parts.1.1.1.1;
    }) (λ _. refl)

-- this is an answer to that action
abbrev pub Answers : SeekAction → SeekAnswer → Type 0
Answers Seek by.Sought = Unit {0}
Answers Seek by.Failed = Unit {0}
Answers Finish (by.Finished woke) = Unit {0}
Answers Deliver by.Delivered = Unit {0}
Answers action answer = ⊥

-- what a step tells its worker: a job that has nothing more to do is done, and else it goes on
abbrev pub told_by : SeekAction → JobStep
told_by Done = step.Done
told_by next = step.Again

module _ {T : Type 0} (place : T → Option ℕ) (bytes : T → Option (List ℕ)) where
  -- the handle sought this position and came to that one, or failed
  abbrev pub Moves : Option T → Option T → Position → Result ℕ Error → Type 0
  Moves (Some old) (Some new) to sought =
      SeekMoves (place old) (place new) (bytes old) (seek_from to) sought
  Moves _ _ to sought = ⊥

  -- What becomes of the handle, and what the job keeps of its seek: where the handle is then, or
  -- its fault. Only a finish gives the handle away.
  abbrev pub Hands : SeekAnswer → SeekSeen T → SeekSeen T → Type 0
  Hands by.Sought old new =
      (came : ℕ) × (new.sought ≡ Some (Ok came)) × Moves old.handle new.handle old.to (Ok came)
  Hands by.Failed old new = (error : Error) × (new.sought ≡ Some (Err error))
      × Moves old.handle new.handle old.to (Err error)
  Hands (by.Finished woke) old new = new.handle ≡ None
  Hands by.Delivered old new = (new.handle ≡ old.handle) × (new.sought ≡ old.sought)

  -- the machine got one answer, to the action that was next, and what it says of the seek is what
  -- came of it
  abbrev pub OneAnswer : SeekAction → SeekSeen T → SeekSeen T → JobStep → Type 0
  OneAnswer action old new told =
      (answer : SeekAnswer) × (new.core ≡ seek_after old.core answer) × Answers action answer
      × (told ≡ told_by (seek_next new.core)) × (new.to ≡ old.to) × Hands answer old new

  -- What one step does: the machine gets one answer, to the action that was next; a job that is
  -- over does nothing.
  abbrev pub IsSteppedBy : SeekAction → SeekSeen T → SeekSeen T → JobStep → Type 0
  IsSteppedBy Done old new told = (new ≡ old) × (told ≡ step.Done)
  IsSteppedBy action old new told = OneAnswer action old new told

  abbrev pub IsStepped : SeekSeen T → SeekSeen T → JobStep → Type 0
  IsStepped old new told = IsSteppedBy (seek_next old.core) old new told

-- The job has what its next action is about: its handle until that is given back, and what came of
-- the seek once it is made.
abbrev pub Fits : {T : Type 0} → SeekAction → Option (Result ℕ Error) → Option T → Type 0
Fits Seek None (Some handle) = Unit {0}
Fits Finish (Some sought) (Some handle) = Unit {0}
Fits Done sought handle = Unit {0}
Fits action sought handle = ⊥
