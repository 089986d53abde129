use Rattle.blocking_io.proofs.Futures.{covers_none, pending_so, promises_no_less, ready_anyhow}
use Rattle.blocking_io.proofs.seek_ext.SeekToFuture.TheImpl.Goals as goal

pub poll-tells : goal.poll-tells
poll-tells g x c = record {
  value = ready_anyhow c.result;
  again = pending_so c.result c.ensures.open;
  same = promises_no_less c.result;
  registered = covers_none c.result _ c.ensures.armed;
  kept = c.ensures.kept;
}
