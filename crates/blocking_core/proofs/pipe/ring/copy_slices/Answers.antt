use Rattle.std.proofs.Common.{arith}
use Rattle.circular_buffer.proofs.Items.{copied_out}
use Rattle.blocking_core.proofs.pipe.ring.copy_slices.Goals as goal

pub returns-clause-front : goal.returns-clause-front
returns-clause-front g c =
    let f = c.min-from_front.ensures in
    let b = c.min-from_back.ensures in
    copied_out c.args.front.now c.args.back.now c.args.out.now c.copy_from_slice.new.self
    c.copy_from_slice-2.new.self c.min-from_front.result c.min-from_back.result
    (omega arith) (λ some. omega arith) c.copy_from_slice.ensures.after
    c.copy_from_slice-2.ensures.after
