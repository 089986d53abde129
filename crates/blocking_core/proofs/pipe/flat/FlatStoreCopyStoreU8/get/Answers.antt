use Rattle.blocking_core.proofs.Flat.{window_item}
use Rattle.blocking_core.proofs.pipe.flat.FlatStoreCopyStoreU8.get.Goals as goal

pub returns : goal.returns
returns c =
    let s = c.args.memory.now in
    let after = c.place_after.ensures in
    window_item _ _ _ _ s.bytes.items s.bytes.ok.0 s.start_in s.len_in s.written_in s.in_order
    c.args.place c.place_after.result _ c.requires after.straight after.round c.index.ensures
