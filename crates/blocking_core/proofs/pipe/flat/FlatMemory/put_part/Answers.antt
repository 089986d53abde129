use Rattle.blocking_core.proofs.Flat.{window_after_write}
use Rattle.blocking_core.proofs.pipe.flat.FlatMemory.put_part.Goals as goal

pub returns-clause-items : goal.returns-clause-items
returns-clause-items c =
    let s = c.args.self.now in
    let after = c.place_after-end.ensures in
    rw c.write_at.ensures.items
    (window_after_write _ _ _ _ s.bytes.items s.bytes.ok.0 s.start_in s.len_in s.written_in
    s.in_order c.place_after-end.result c.args.items.now c.requires.room c.requires.straight
    after.straight after.round)
