-- A starter before a call and after it.
use Rattle.blocking_pool.specs.Growth.{Asking, Narrows}
use Rattle.blocking_pool.specs.declared.pool.starter.Starter.{Ghosts}

module _ {S : Type 0} where
  -- what the call asks of it
  abbrev pub asked : Ghosts S → S → S → Asking
  asked starts old new = record {
    may_answer = starts.may_answer old;
    refusals_before = starts.refusals old;
    refusals_after = starts.refusals new;
  }

  -- it answers in no way in which it might not have answered before
  abbrev pub IsSteady : Ghosts S → S → S → Type 0
  IsSteady starts old new = Narrows (starts.may_answer old) (starts.may_answer new)
