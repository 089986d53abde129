use Rattle.std.proofs.Common.{rules, ap, ◌∙◌}
use Rattle.blocking_pool.specs.Jobs.{is_running_as, standing_of}
use Rattle.blocking_pool.proofs.PoolLemmas.{run_told, parked_may, parked_whole, parked_stands}
use Rattle.blocking_pool.proofs.PoolLemmas.{returned_at_once}
use Rattle.blocking_pool.proofs.SoundLemmas.{running_busy}
use Rattle.blocking_pool.proofs.pool.Pool.end_waiting.Goals as goal

pub end_job-requires : goal.end_job-requires
end_job-requires g c = running_busy _ c.args.turn c.self.invariant.sound
    (ap (λ pool. is_running_as pool.jobs c.args.turn) c.self.view_is ∙ c.requires)

pub park-requires-clause-counted : goal.park-requires-clause-counted
park-requires-clause-counted g c =
    run_told c.self.inside.table c.self.inside.counts c.self.inside.next_serial
    c.self.inside.due.room c.spend-no.result
    (ap (is_running_as c.self.inside.table.jobs) c.spend-no.ensures
    ∙ ap (λ pool. is_running_as pool.jobs c.args.turn) c.self.view_is ∙ c.requires)
    c.self.invariant

pub invariant_of-self : goal.invariant_of-self
invariant_of-self g c =
    parked_whole c.self.inside.table c.park.new.self c.spend-no.result c.args.value
    c.self.inside.counts c.end_job.new.self c.self.inside.next_serial c.self.inside.due.room
    (ap (is_running_as c.self.inside.table.jobs) c.spend-no.ensures
    ∙ ap (λ pool. is_running_as pool.jobs c.args.turn) c.self.view_is ∙ c.requires)
    c.self.invariant c.park.ensures c.end_job.ensures

pub enter_again-requires : goal.enter_again-requires
enter_again-requires g c =
    parked_may c.park.new.self c.end_job.new.self c.self.inside.next_serial c.self.inside.due.room
    c.spend-no.result
    (ap (λ jobs. standing_of jobs c.spend-no.result) c.park.ensures.jobs_are
    ∙ parked_stands c.self.inside.table.jobs c.spend-no.result c.args.value
    (ap (is_running_as c.self.inside.table.jobs) c.spend-no.ensures
    ∙ ap (λ pool. is_running_as pool.jobs c.args.turn) c.self.view_is ∙ c.requires))
    (parked_whole c.self.inside.table c.park.new.self c.spend-no.result c.args.value
    c.self.inside.counts c.end_job.new.self c.self.inside.next_serial c.self.inside.due.room
    (ap (is_running_as c.self.inside.table.jobs) c.spend-no.ensures
    ∙ ap (λ pool. is_running_as pool.jobs c.args.turn) c.self.view_is ∙ c.requires)
    c.self.invariant c.park.ensures c.end_job.ensures)

pub invariant_of-self-2 : goal.invariant_of-self-2
invariant_of-self-2 g c =
    returned_at_once c.self.inside.table c.park.new.self c.enter_again.new.self
    c.spend-no.result c.args.value c.self.inside.counts c.end_job.new.self c.ring_one.new.self
    c.self.inside.next_serial c.self.inside.due.room
    (ap (is_running_as c.self.inside.table.jobs) c.spend-no.ensures
    ∙ ap (λ pool. is_running_as pool.jobs c.args.turn) c.self.view_is ∙ c.requires)
    c.self.invariant c.park.ensures c.enter_again.ensures c.end_job.ensures c.ring_one.ensures

pub returns-then-not-found : goal.returns-then-not-found
returns-then-not-found g c = search rules

pub returns : goal.returns
returns g c = search rules
