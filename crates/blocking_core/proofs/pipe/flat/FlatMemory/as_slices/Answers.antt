use Rattle.std.proofs.Common.{arith, refl}
use Rattle.blocking_core.proofs.Flat.{window_parts}
use Rattle.blocking_core.proofs.pipe.flat.FlatMemory.as_slices.Goals as goal

pub returns : goal.returns
returns c =
    let s = c.args.self.now in
    rw (c.deref.ensures.value, c.deref-2.ensures.value)
    (window_parts _ _ _ _ s.bytes.items s.bytes.ok.0 s.start_in s.len_in s.written_in s.in_order
    c.min-first.result _ (omega arith) refl)
