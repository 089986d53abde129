use Rattle.std.proofs.Common.{rules}
use Rattle.blocking_unblock.specs.declared.handle_state.HandleState.TheVariants as place
use Rattle.blocking_unblock.proofs.Quick.{noted, quick}
use Rattle.blocking_unblock.proofs.unblock.UnblockStream.poll_next.Goals as goal

pub returns-in-Some-clause-follows : goal.returns-in-Some-clause-follows
returns-in-Some-clause-follows g c = quick c.args.self.now.place (place.Lent c.try_receive.new.self)
    (search rules) (noted c.try_receive.result) (search rules)
