use Rattle.std.proofs.Common.{refl, sym, true}
use Rattle.blocking_pool.specs.Clients.{tally_at}
use Rattle.blocking_pool.specs.Jobs.{entry_after_wake}
use Rattle.blocking_pool.proofs.ParkLemmas.{not_vacant, IsAmended, marks}
use Rattle.blocking_pool.proofs.TableLemmas.{some_of}
use Rattle.blocking_pool.proofs.pool.table.Table.mark_woken.Goals as goal

pub unreachable-requires : goal.unreachable-requires
unreachable-requires g c =
    let job = some_of _ c.requires in
    not_vacant c.self.inside.entries c.self.inside.queue c.self.inside.parked c.args.self.now
    c.args.no job.0 c.place.result c.self.invariant c.self.view_is job.1 c.place.ensures
    (sym c.in_default.ensures.value)

done : (g : _) (c : goal.After-self-2-1 g)
    → IsAmended c.self.inside.entries c.self.inside.queue c.self.inside.parked c.place.result
    (record c.in-Some.entry.now { woken = true }) c.args.self.now c.args.self.now.queue
    c.args.no entry_after_wake (tally_at c.args.self.now.tallies)
done g c =
    marks c.self.inside.entries c.self.inside.queue c.self.inside.parked c.args.self.now
    c.args.no c.place.result c.in-Some.entry.now (record c.in-Some.entry.now { woken = true })
    entry_after_wake
    c.self.invariant c.self.view_is c.requires c.place.ensures (sym c.in-Some.ensures.value) refl
    refl refl refl refl

pub invariant_of-self : goal.invariant_of-self
invariant_of-self g c = (done g c).0

pub returns : goal.returns
returns g c = (done g c).1
