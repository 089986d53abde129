use Rattle.std.proofs.Common.{◌<◌, sym, subst, ◌∙◌, Some, IsSome}
use Rattle.std.proofs.lemmas.Bool.{false≢true}
use Rattle.slab.specs.Slab.{with_value}
use Rattle.blocking_pool.specs.Clients.{tally_at}
use Rattle.blocking_pool.specs.Growth.{greatest}
use Rattle.blocking_pool.specs.Tables.{IsKept, TakesFirst, table_of}
use Rattle.blocking_pool.proofs.OwnerLemmas.{ready_queued}
use Rattle.blocking_pool.proofs.TableLemmas.{queued_held}
use Rattle.blocking_pool.proofs.ParkLemmas.{left_by, takes_none, takes_so}
use Rattle.blocking_pool.proofs.pool.table.Table.take_first.Goals as goal

pub take-requires : goal.take-requires
take-requires g c = λ client. subst (λ t. (tally_at t.tallies client).running < greatest)
    (sym c.self.view_is) (c.requires client)

pub returns-in_err-place : goal.returns-in_err-place
returns-in_err-place g c =
    subst (λ front. TakesFirst c.args.self.now front (table_of c.self.inside.entries c.take.new.self
    c.self.inside.parked)) (sym c.from_residual.ensures)
    (takes_none c.self.inside.entries c.self.inside.queue c.take.new.self c.self.inside.parked
    c.args.self.now c.self.invariant c.self.view_is c.in_err-place.ensures)

pub unreachable-requires : goal.unreachable-requires
unreachable-requires g c =
    let within = c.self.invariant.table.occupied c.in_ok-place.place
    (ready_queued c.self.inside.queue c.in_ok-place.place c.in_ok-place.ensures.first) in
    false≢true (subst IsSome (sym c.in_default.ensures.value) within)

pub unreachable-requires-in-None : goal.unreachable-requires-in-None
unreachable-requires-in-None g c =
    queued_held c.self.inside.entries _ c.in_ok-place.place c.in-Some.entry.now
    c.self.invariant.table
    (ready_queued c.self.inside.queue c.in_ok-place.place c.in_ok-place.ensures.first)
    (sym c.in-Some.ensures.value) (sym c.take-2.ensures.value ∙ c.in-None.is)

done : (g : _) (c : goal.In-Some-take g)
    → IsKept (with_value c.self.inside.entries c.in_ok-place.place
    (left_by c.in-Some.entry.now c.take-2.new.self)) c.take.new.self c.self.inside.parked
    × TakesFirst c.args.self.now (Some (record {
      no = c.new-no.result;
      value = c.in-Some-take.value;
      cancelled = c.in-Some.entry.now.cancelled;
    }))
    (table_of (with_value c.self.inside.entries c.in_ok-place.place
    (left_by c.in-Some.entry.now c.take-2.new.self)) c.take.new.self c.self.inside.parked)
done g c =
    takes_so c.self.inside.entries c.self.inside.queue c.take.new.self c.self.inside.parked
    c.in_ok-place.place c.in-Some.entry.now c.in-Some-take.value c.take-2.new.self
    c.new-no.result c.args.self.now
    c.self.invariant c.in_ok-place.ensures (sym c.in-Some.ensures.value)
    (sym c.take-2.ensures.value ∙ c.in-Some-take.is)
    c.take-2.ensures.after c.new-no.ensures c.self.view_is

pub invariant_of-self : goal.invariant_of-self
invariant_of-self g c = subst (λ q. IsKept c.self.inside.entries q c.self.inside.parked)
    (sym c.in_err-place.ensures.1) c.self.invariant

pub invariant_of-self-2 : goal.invariant_of-self-2
invariant_of-self-2 g c = (done g c).0

pub returns : goal.returns
returns g c = (done g c).1
