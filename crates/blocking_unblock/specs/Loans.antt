-- What an owner ends as, where a `&mut` to its handle is returned.
use Rattle.std.specs.Prelude.{◌≡◌, Option, Some, None, refl}
use Rattle.std.specs.Borrow.{LendsSo, Fml, RattleType, MutBor}
use Rattle.std.specs.Global.{Global}
use Rattle.std.specs.declared.alloc.Allocator as allocator
use Rattle.std.specs.declared.clone.Clone as clone
use Rattle.blocking_pool.specs.declared.pool.job.Job.{Ghosts}
use Rattle.blocking_unblock.specs.declared.handle_state.HandleState.{HandleState}
use Rattle.blocking_unblock.specs.declared.handle_state.HandleState.TheVariants.{Idle}
use Rattle.blocking_unblock.specs.declared.unblock.Unblock.{Unblock}
use Rattle.blocking_unblock.specs.contracts.handle_state.HandleState.{the_row as place_row}
use Rattle.blocking_unblock.specs.contracts.unblock.Unblock.{the_row}

-- what holds where a handle was lent, and what where none was
abbrev pub IfLent : {X : Type 0} → Option X → Type 0 → Type 0 → Type 0
IfLent (Some handle) lent kept = lent
IfLent None lent kept = kept

-- the handle ends as it is left there; where it isn't with its owner, all is as before
abbrev pub lends_place : (T I H : RattleType) → MutBor (HandleState T.Denot I.Denot H.Denot)
    → Option (MutBor T.Denot) → Fml
lends_place T I H place handle = LendsSo (place_row T I H) T place handle
    (λ last left. IfLent handle (last ≡ Idle left) (last ≡ place.now)) (λ last. last ≡ place.now)

-- the same of its owner, who stays as it is beside
abbrev pub lends_handle : (T I K H : RattleType) (job : Ghosts K.Denot)
    {memory : allocator.Ghosts Global} {copies : clone.Ghosts Global}
    → MutBor (Unblock T.Denot I.Denot K.Denot H.Denot job memory copies) → Option (MutBor T.Denot)
    → Fml
lends_handle T I K H job {memory} {copies} owner handle =
    LendsSo (the_row T I K H job memory copies) T owner handle
    (λ last left. IfLent handle (last ≡ record owner.now { place = Idle left; held = refl })
    (last ≡ owner.now))
    (λ last. last ≡ owner.now)
