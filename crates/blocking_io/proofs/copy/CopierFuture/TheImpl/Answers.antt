use Rattle.blocking_io.proofs.Copies.{ends_by, same_ends, three_on}
use Rattle.blocking_io.proofs.Futures.{covers_none}
use Rattle.blocking_io.proofs.copy.CopierFuture.TheImpl.Goals as goal

pub poll-tells : goal.poll-tells
poll-tells g x c = record {
  value = ends_by g.A.AsyncRead.reads g.B.AsyncWrite.writes c.args.self.now c.new.self.now c.result
      c.ensures.reaches c.ensures.ends;
  again = three_on _ c.result c.ensures.open c.ensures.going;
  same = same_ends g.A.AsyncRead.reads g.B.AsyncWrite.writes c.args.self.now c.new.self.now c.result
      c.ensures.reaches;
  registered = covers_none c.result _ c.ensures.armed;
  kept = c.ensures.kept;
}
