use Rattle.std.proofs.Common.{◌≡◌, [], ◌∷◌, arith}
use Rattle.blocking_world_pool.proofs.Words.{entry_after_cancel, with_job, asked}
use Rattle.blocking_world_pool.proofs.growth.Calls.{enters_again}
use Rattle.blocking_world_pool.proofs.growth.Reads.{numbers_last}
use Rattle.blocking_world_pool.proofs.tickets.Tickets.cancel.Goals as goal

pub next_after-self-inside-requires : goal.next_after-self-inside-requires
next_after-self-inside-requires g c =
    let entered =
    enters_again (asked g.S.Starter c.args.starter.now c.cancel-woke.new.starter)
    (with_job c.args.self.now c.args.number.serial entry_after_cancel) c.cancel-woke.new.self
    (c.args.number.serial ∷ []) c.growth_since-growth.result
    (rw (c.self.view_is, c.in-Entered.is) at c.cancel-woke.ensures.answer).effect (cc, cc) in
    let next : c.self.inside.next_start ≡ c.args.self.now.counts.next_worker = cc in
    omega (arith, numbers_last _ _ _ _ _ _ _ entered.starts, next)

pub returns : goal.returns
returns g c =
    let woken = rw (c.self.view_is, c.in-Entered.is) at c.cancel-woke.ensures.answer in
    record {
      answer = woken.answer;
      effect = enters_again (asked g.S.Starter c.args.starter.now c.cancel-woke.new.starter)
          (with_job c.args.self.now c.args.number.serial entry_after_cancel) c.cancel-woke.new.self
          (c.args.number.serial ∷ []) c.growth_since-growth.result woken.effect (cc, cc);
    }

pub invariant_of-self-2 : goal.invariant_of-self-2
invariant_of-self-2 g c = let after = (returns g c).effect.after_is in rw after (cc, cc, cc)
