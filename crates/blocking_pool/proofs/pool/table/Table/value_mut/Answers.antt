use Rattle.std.proofs.Common.{refl, sym, ap, ◌∙◌}
use Rattle.blocking_pool.specs.Jobs.{has_value, job_of}
use Rattle.blocking_pool.proofs.ParkLemmas.{if_lent, is_lent, idle_held, same_table, valued_job}
use Rattle.blocking_pool.proofs.ParkLemmas.{not_vacant, revalues, rewrites, rewrites_as, no_value}
use Rattle.blocking_pool.proofs.ParkLemmas.{value_found}
use Rattle.blocking_pool.proofs.pool.table.Table.value_mut.Goals as goal

pub returns-then-not-has_value : goal.returns-then-not-has_value
returns-then-not-has_value g c = (
  (
    refl,
    λ w. same_table _ c.args.self.now c.self.view_is,
    same_table _ c.args.self.now c.self.view_is,
  ),
  record {
    lends = tt;
    value = no_value c.self.inside.entries c.self.inside.queue c.self.inside.parked c.args.self.now
        c.args.no c.self.invariant c.self.view_is
        (ap (λ t. has_value (job_of t.jobs c.args.no)) (sym c.self.view_is)
        ∙ sym c.if-not-has_value.ensures);
  },
)

pub returns-in_err-entry : goal.returns-in_err-entry
returns-in_err-entry g c =
    let job = valued_job _ (ap (λ t. has_value (job_of t.jobs c.args.no)) (sym c.self.view_is)
    ∙ sym c.if-not-has_value.ensures) in
    absurd (not_vacant c.self.inside.entries c.self.inside.queue c.self.inside.parked
    c.args.self.now c.args.no job.0 c.place.result c.self.invariant c.self.view_is job.1
    c.place.ensures (sym c.in_err-entry.ensures.value))

pub invariant_of-self-lent : goal.invariant_of-self-lent
invariant_of-self-lent g c = λ _. (
  λ w. (revalues c.self.inside.entries c.self.inside.queue c.self.inside.parked c.args.self.now
      c.args.no c.place.result c.in_ok-entry.entry.now w
      c.self.invariant
      c.self.view_is (ap (λ t. has_value (job_of t.jobs c.args.no)) (sym c.self.view_is)
      ∙ sym c.if-not-has_value.ensures) c.place.ensures (sym c.in_ok-entry.ensures.value)).0,
  rewrites c.self.inside.entries c.self.inside.queue c.self.inside.parked c.place.result
      c.in_ok-entry.entry.now c.self.invariant (sym c.in_ok-entry.ensures.value),
)

pub returns : goal.returns
returns g c = (
  (
    refl,
    λ w. if_lent c.as_mut.result _ _
        (is_lent _ c.as_mut.result c.in_ok-entry.entry.now.value c.as_mut.ensures.value
        (idle_held c.self.inside.entries c.self.inside.queue c.self.inside.parked c.args.self.now
        c.args.no c.place.result c.in_ok-entry.entry.now c.self.invariant c.self.view_is
        (ap (λ t. has_value (job_of t.jobs c.args.no)) (sym c.self.view_is)
        ∙ sym c.if-not-has_value.ensures) c.place.ensures (sym c.in_ok-entry.ensures.value)))
        (revalues c.self.inside.entries c.self.inside.queue c.self.inside.parked c.args.self.now
        c.args.no c.place.result c.in_ok-entry.entry.now w
        c.self.invariant c.self.view_is (ap (λ t. has_value (job_of t.jobs c.args.no))
        (sym c.self.view_is) ∙ sym c.if-not-has_value.ensures) c.place.ensures
        (sym c.in_ok-entry.ensures.value)).1,
    rewrites_as c.self.inside.entries c.self.inside.queue c.self.inside.parked
        c.args.self.now c.place.result c.in_ok-entry.entry.now c.self.invariant c.self.view_is
        (sym c.in_ok-entry.ensures.value),
  ),
  record {
    lends = tt;
    value = c.as_mut.ensures.value
        ∙ value_found c.self.inside.entries c.self.inside.queue c.self.inside.parked c.args.self.now
        c.args.no c.place.result c.in_ok-entry.entry.now c.self.invariant c.self.view_is
        (ap (λ t. has_value (job_of t.jobs c.args.no)) (sym c.self.view_is)
        ∙ sym c.if-not-has_value.ensures) c.place.ensures (sym c.in_ok-entry.ensures.value);
  },
)
