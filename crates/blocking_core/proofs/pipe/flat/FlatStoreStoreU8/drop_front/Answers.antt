use Rattle.blocking_core.proofs.Flat.{window_after_drop}
use Rattle.blocking_core.proofs.pipe.flat.FlatStoreStoreU8.drop_front.Goals as goal

pub returns : goal.returns
returns c =
    let s = c.args.memory.now in
    let after = c.place_after-memory.ensures in
    rw (window_after_drop _ _ _ _ s.bytes.items s.bytes.ok.0 s.start_in s.len_in s.written_in
    s.in_order c.args.count c.place_after-memory.result c.requires after.straight after.round)
