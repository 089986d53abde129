use Rattle.std.proofs.Common.{◌≡◌, ◌<◌, ◌-◌, sym, subst, ap, ◌∙◌}
use Rattle.blocking_pool.proofs.ParkLemmas.{Leaves, leaves, not_vacant, tally_here, stopped_here}
use Rattle.blocking_pool.proofs.ParkLemmas.{none_lined}
use Rattle.blocking_pool.proofs.Standings.{running_job}
use Rattle.blocking_pool.specs.Clients.{tally_at, stopped}
use Rattle.blocking_pool.specs.Tables.{tally_for}
use Rattle.blocking_pool.proofs.pool.table.Table.remove.Goals as goal

pub unreachable-requires : goal.unreachable-requires
unreachable-requires g c =
    let job = running_job _ c.requires.runs in
    not_vacant c.self.inside.entries c.self.inside.queue c.self.inside.parked c.args.self.now
    c.args.no job.0 c.place.result c.self.invariant c.self.view_is job.1 c.place.ensures
    (sym c.try_remove.ensures.value ∙ c.in_default.is)

pub stop-requires : goal.stop-requires
stop-requires g c =
    let job = running_job _ c.requires.runs in
    subst (λ tally. 0 < tally.running)
    (tally_here c.self.inside.entries c.self.inside.queue c.self.inside.parked c.args.self.now
    c.args.no job.0 c.place.result c.in-Some.entry c.self.invariant c.self.view_is job.1
    c.place.ensures (sym c.try_remove.ensures.value ∙ c.in-Some.is))
    c.requires.running

-- the tally of its client, when the job runs no more
now : (g : _) (c : goal.After-discharge-arg-1 g) → tally_at c.stop.new.self.tallies
    c.in-Some.entry.client ≡ stopped (tally_for c.args.self.now c.args.no)
now g c =
    stopped_here c.self.inside.entries c.self.inside.queue c.stop.new.self c.self.inside.parked
    c.args.self.now c.args.no c.place.result c.in-Some.entry c.self.invariant c.self.view_is
    c.requires.runs c.place.ensures
    (sym c.try_remove.ensures.value ∙ c.in-Some.is) c.stop.ensures

pub discharge-requires-clause-some : goal.discharge-requires-clause-some
discharge-requires-clause-some g c =
    subst (λ tally. 0 < tally.jobs) (sym (now g c)) c.requires.counted

pub discharge-requires-clause-idle : goal.discharge-requires-clause-idle
discharge-requires-clause-idle g c = λ one. ap (λ tally. tally.running) (now g c)
    ∙ ap (λ n. n - 1) (c.requires.none_runs (sym (ap (λ tally. tally.jobs) (now g c)) ∙ one))

pub discharge-requires-clause-none_queued : goal.discharge-requires-clause-none_queued
discharge-requires-clause-none_queued g c = λ one.
    none_lined c.self.inside.entries c.self.inside.queue c.stop.new.self c.self.inside.parked
    c.args.self.now c.args.no c.place.result c.in-Some.entry c.self.invariant c.self.view_is
    c.requires.runs c.place.ensures
    (sym c.try_remove.ensures.value ∙ c.in-Some.is) c.stop.ensures
    (c.requires.none_queued (sym (ap (λ tally. tally.jobs) (now g c)) ∙ one))

done : (g : _) (c : goal.Joined-entry g) → Leaves c.args.self.now c.try_remove.new.self
    c.discharge.new.self c.self.inside.parked c.args.no
done g c =
    leaves c.self.inside.entries c.try_remove.new.self c.self.inside.queue c.stop.new.self
    c.discharge.new.self c.self.inside.parked c.args.self.now c.args.no c.place.result
    c.in-Some.entry
    c.self.invariant c.self.view_is c.requires.runs c.place.ensures
    (sym c.try_remove.ensures.value ∙ c.in-Some.is) c.try_remove.ensures.updates c.stop.ensures
    c.discharge.ensures

pub invariant_of-self : goal.invariant_of-self
invariant_of-self g c = (done g c).kept

pub returns : goal.returns
returns g c = (done g c).becomes
