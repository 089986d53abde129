-- What an owner that can't be closed ends as, where a `&mut` to its handle is returned.
use Rattle.std.specs.Prelude.{◌≡◌, Option, refl}
use Rattle.std.specs.Borrow.{LendsSo, Fml, RattleType, MutBor}
use Rattle.std.specs.Global.{Global}
use Rattle.std.specs.declared.alloc.Allocator as allocator
use Rattle.std.specs.declared.clone.Clone as clone
use Rattle.blocking_pool.specs.declared.pool.job.Job.{Ghosts}
use Rattle.blocking_unblock.specs.Loans.{IfLent}
use Rattle.blocking_unblock.specs.declared.handle_state.HandleState.TheVariants.{Idle}
use Rattle.blocking_anytime.specs.declared.open.Open.{Open}
use Rattle.blocking_anytime.specs.contracts.open.Open.{the_row}

-- the handle ends as it is left there, and its owner stays as it is beside; where it isn't with its
-- owner, that is as before
abbrev pub lends_open_handle : (T I K H : RattleType) (job : Ghosts K.Denot)
    {memory : allocator.Ghosts Global} {copies : clone.Ghosts Global}
    → MutBor (Open T.Denot I.Denot K.Denot H.Denot job memory copies) → Option (MutBor T.Denot)
    → Fml
lends_open_handle T I K H job {memory} {copies} lender handle =
    LendsSo (the_row T I K H job memory copies) T lender handle
    (λ last left. IfLent handle (last.owner ≡ record lender.now.owner
    { place = Idle left; held = refl }) (last.owner ≡ lender.now.owner))
    (λ last. last.owner ≡ lender.now.owner)
