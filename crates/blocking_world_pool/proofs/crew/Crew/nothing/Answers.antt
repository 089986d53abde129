use Rattle.std.proofs.Common.{refl}
use Rattle.blocking_world_pool.proofs.Types.{NoAction}
use Rattle.blocking_world_pool.proofs.Words.{Tells}
use Rattle.blocking_world_pool.proofs.crew.Crew.nothing.Goals as goal

pub returns-clause-moves : goal.returns-clause-moves
returns-clause-moves c = record {
  move = Tells c.args.party NoAction;
  may = refl;
  call_is = refl;
  event_is = cc (c.nothing.ensures, c.next_start.ensures);
  after_is = refl;
}
