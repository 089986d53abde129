use Rattle.std.proofs.Common.{refl}
use Rattle.blocking_unblock.specs.Owners.{is_lost}
use Rattle.blocking_unblock.specs.declared.handle_state.HandleState.TheVariants.{Idle as AtOwner}
use Rattle.blocking_unblock.proofs.Loans.{same, lent}
use Rattle.blocking_unblock.proofs.unblock.Unblock.handle_mut.Goals as goal

pub returns : goal.returns
returns g c = (
  (
    refl,
    λ w. lent is_lost (λ place held. record c.args.self.now { place = place; held = held })
        c.handle_mut.result (c.handle_mut.follows.lender w) (AtOwner w) c.args.self.now.place
        _ refl c.args.self.now.held (c.handle_mut.follows.holds w),
    same is_lost (λ place held. record c.args.self.now { place = place; held = held })
        c.handle_mut.follows.lender-at-none c.args.self.now.place _ c.args.self.now.held
        c.handle_mut.follows.holds-at-none,
  ),
  c.handle_mut.ensures,
)
