use Rattle.std.proofs.Common.{◌<◌, ◌++◌, ◌∷◌, [], sym, subst}
use Rattle.blocking_pool.specs.Clients.{tally_at}
use Rattle.blocking_pool.specs.Jobs.{entry_after_requeue}
use Rattle.blocking_pool.specs.declared.pool.standing.Standing.TheVariants.{Queued, Parked}
use Rattle.blocking_pool.proofs.ParkLemmas.{not_vacant, tally_here, IsAmended, enters, enters_room}
use Rattle.blocking_pool.proofs.Standings.{standing_job}
use Rattle.blocking_pool.proofs.pool.table.Table.enter_again.Goals as goal

pub unlink-requires : goal.unlink-requires
unlink-requires g c = (enters_room c.self.inside.entries c.self.inside.queue c.self.inside.parked
    c.args.self.now c.args.no c.place-place.result c.self.invariant c.self.view_is
    c.requires.stands c.place-place.ensures).2

pub unreachable-requires : goal.unreachable-requires
unreachable-requires g c =
    let job = standing_job _ Parked c.requires.stands in
    not_vacant c.self.inside.entries c.self.inside.queue c.self.inside.parked
    c.args.self.now c.args.no job.0 c.place-place.result c.self.invariant c.self.view_is job.1
    c.place-place.ensures (sym c.in_default.ensures.value)

pub enter-requires-clause-room : goal.enter-requires-clause-room
enter-requires-clause-room g c = (enters_room c.self.inside.entries c.self.inside.queue
    c.self.inside.parked c.args.self.now c.args.no c.place-place.result c.self.invariant
    c.self.view_is c.requires.stands c.place-place.ensures).0

pub enter-requires-clause-client : goal.enter-requires-clause-client
enter-requires-clause-client g c =
    let job = standing_job _ Parked c.requires.stands in
    subst (λ tally. 0 < tally.jobs)
    (tally_here c.self.inside.entries c.self.inside.queue c.self.inside.parked c.args.self.now
    c.args.no job.0 c.place-place.result c.in-Some.entry.now c.self.invariant c.self.view_is
    job.1 c.place-place.ensures (sym c.in-Some.ensures.value))
    c.requires.counted

pub enter-requires-clause-fresh : goal.enter-requires-clause-fresh
enter-requires-clause-fresh g c = (enters_room c.self.inside.entries c.self.inside.queue
    c.self.inside.parked c.args.self.now c.args.no c.place-place.result c.self.invariant
    c.self.view_is c.requires.stands c.place-place.ensures).1

done : (g : _) (c : goal.After-enter g)
    → IsAmended c.self.inside.entries c.enter.new.self c.unlink.new.self c.place-place.result
    (record c.in-Some.entry.now { standing = Queued })
    c.args.self.now (c.args.self.now.queue ++ c.args.no.serial ∷ []) c.args.no entry_after_requeue
    (tally_at c.args.self.now.tallies)
done g c =
    enters c.self.inside.entries c.self.inside.queue c.enter.new.self c.self.inside.parked
    c.unlink.new.self c.args.self.now c.args.no c.place-place.result c.in-Some.entry.now
    c.self.invariant c.self.view_is c.requires.stands c.place-place.ensures
    (sym c.in-Some.ensures.value) c.enter.ensures c.unlink.ensures

pub invariant_of-self : goal.invariant_of-self
invariant_of-self g c = (done g c).0

pub returns : goal.returns
returns g c = (done g c).1
