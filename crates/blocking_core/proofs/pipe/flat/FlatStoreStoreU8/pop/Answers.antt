use Rattle.std.proofs.Common.{arith, sym}
use Rattle.blocking_core.proofs.Flat.{window_item, window_length, window_none}
use Rattle.blocking_core.proofs.pipe.flat.FlatStoreStoreU8.pop.Goals as goal

pub returns-then-memory-eq0-clause-item : goal.returns-then-memory-eq0-clause-item
returns-then-memory-eq0-clause-item c = let s = c.args.memory.now in
    rw (window_none s.head s.len s.bytes.items c.if-memory-eq0.true)

pub returns-then-memory-eq0-clause-rest : goal.returns-then-memory-eq0-clause-rest
returns-then-memory-eq0-clause-rest c = let s = c.args.memory.now in
    rw (window_none s.head s.len s.bytes.items c.if-memory-eq0.true)

pub returns-clause-item : goal.returns-clause-item
returns-clause-item c =
    let s = c.args.memory.now in
    sym (window_item _ _ _ _ s.bytes.items s.bytes.ok.0 s.start_in s.len_in s.written_in
    s.in_order 0 s.head _ (grind (arith, window_length, s.bytes.ok.0)) (λ h. omega arith)
    (λ h. omega arith) c.index-item.ensures)
