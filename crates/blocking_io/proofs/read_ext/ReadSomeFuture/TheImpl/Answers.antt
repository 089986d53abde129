use Rattle.blocking_io.proofs.Futures.{covers_none, pending_so, within_as_many}
use Rattle.blocking_io.proofs.read_ext.ReadSomeFuture.TheImpl.Goals as goal

pub poll-tells : goal.poll-tells
poll-tells g x c = record {
  value = c.ensures.count;
  again = pending_so c.result c.ensures.open;
  same = pending_so c.result (within_as_many c.ensures.same_length);
  registered = covers_none c.result _ c.ensures.armed;
  kept = c.ensures.kept;
}
