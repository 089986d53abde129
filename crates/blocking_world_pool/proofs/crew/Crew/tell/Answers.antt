use Rattle.std.proofs.Common.{refl}
use Rattle.blocking_world_pool.proofs.Words.{Tells}
use Rattle.blocking_world_pool.proofs.crew.Crew.tell.Goals as goal

pub returns : goal.returns
returns c = record {
  move = Tells c.args.party c.args.act;
  may = c.requires;
  call_is = refl;
  event_is = cc (c.seen.ensures, c.next_start.ensures);
  after_is = refl;
}
