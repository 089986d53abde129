use Rattle.std.proofs.Common.{◌<◌, Some, sym, subst}
use Rattle.blocking_pool.specs.Clients.{stopped}
use Rattle.blocking_pool.specs.Jobs.{entry_after_park}
use Rattle.blocking_pool.specs.Tables.{client_at, retallied}
use Rattle.blocking_pool.specs.declared.pool.standing.Standing.TheVariants.{Parked}
use Rattle.blocking_pool.proofs.ParkLemmas.{not_vacant, parks_room, tally_here, IsAmended, parks}
use Rattle.blocking_pool.proofs.Standings.{running_job}
use Rattle.blocking_pool.proofs.pool.table.Table.park.Goals as goal

pub push_back-requires-clause-room : goal.push_back-requires-clause-room
push_back-requires-clause-room g c = (parks_room c.self.inside.entries c.self.inside.queue
    c.self.inside.parked c.args.self.now c.args.no c.place-place.result c.self.invariant
    c.self.view_is c.requires.runs c.place-place.ensures).0

pub push_back-requires-clause-fresh : goal.push_back-requires-clause-fresh
push_back-requires-clause-fresh g c = (parks_room c.self.inside.entries c.self.inside.queue
    c.self.inside.parked c.args.self.now c.args.no c.place-place.result c.self.invariant
    c.self.view_is c.requires.runs c.place-place.ensures).1

pub unreachable-requires : goal.unreachable-requires
unreachable-requires g c =
    let job = running_job _ c.requires.runs in
    not_vacant c.self.inside.entries c.self.inside.queue c.self.inside.parked
    c.args.self.now c.args.no job.0 c.place-place.result c.self.invariant c.self.view_is job.1
    c.place-place.ensures (sym c.in_default.ensures.value)

pub stop-requires : goal.stop-requires
stop-requires g c =
    let job = running_job _ c.requires.runs in
    subst (λ tally. 0 < tally.running)
    (tally_here c.self.inside.entries c.self.inside.queue c.self.inside.parked c.args.self.now
    c.args.no job.0 c.place-place.result c.in-Some.entry.now c.self.invariant c.self.view_is
    job.1 c.place-place.ensures (sym c.in-Some.ensures.value))
    c.requires.counted

done : (g : _) (c : goal.After-stop g)
    → IsAmended c.self.inside.entries c.stop.new.self c.push_back.new.self c.place-place.result
    (record c.in-Some.entry.now { standing = Parked; value = Some c.args.value })
    c.args.self.now c.args.self.now.queue c.args.no (entry_after_park c.args.value)
    (retallied c.args.self.now.tallies (client_at c.args.self.now c.args.no) stopped)
done g c =
    parks c.self.inside.entries c.self.inside.queue c.stop.new.self c.self.inside.parked
    c.push_back.new.self c.args.self.now c.args.no c.place-place.result c.in-Some.entry.now
    c.args.value
    c.self.invariant c.self.view_is c.requires.runs c.place-place.ensures
    (sym c.in-Some.ensures.value) c.push_back.ensures c.stop.ensures

pub invariant_of-self : goal.invariant_of-self
invariant_of-self g c = (done g c).0

pub returns : goal.returns
returns g c = (done g c).1
