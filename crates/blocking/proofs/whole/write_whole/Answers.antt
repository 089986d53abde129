use Rattle.std.proofs.Common.{◌∙◌}
use Rattle.blocking.proofs.Wholes.{gives_all}
use Rattle.blocking.proofs.whole.write_whole.Goals as goal

pub returns : goal.returns
returns g c = let copied = c.in_ok-copy_whole.ensures in (
  copied.last_writer,
  copied.written,
  copied.by_writer,
  copied.all ∙ gives_all (λ bytes. bytes.rest.now) copied.read _ _ copied.by_reader copied.ended,
  copied.flushed,
)
