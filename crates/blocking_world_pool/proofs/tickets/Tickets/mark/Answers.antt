use Rattle.std.proofs.Common.{ap, ◌∙◌}
use Rattle.blocking_world_pool.proofs.Words.{job_of, value_at, JobPool, ticket_after_mark}
use Rattle.blocking_world_pool.proofs.Words.{pool_after_mark_of}
use Rattle.blocking_world_pool.proofs.jobs.Marks.{mark_alone, lent_marked}
use Rattle.blocking_world_pool.proofs.tickets.Tickets.mark.Goals as goal
use Rattle.blocking_world_pool.proofs.tickets.Tickets.mark.Goals.{in-Some, in_default}

pub returns : goal.returns
returns c =
    rw (← c.self.view_is)
    (elim c.match-job_mut.branch [
      | in-Some w ↦ ap (λ inside. inside.pool) w.self-inside-is ∙ lent_marked
          c.self.inside.pool (c.job_mut.follows.lender (ticket_after_mark w.in-Some.ticket.now))
          c.args.number c.job_mut.result w.in-Some.ticket w.in-Some.is
          (c.job_mut.follows.holds (ticket_after_mark w.in-Some.ticket.now)) w.in-Some.ensures.value
      | in_default w ↦ ap (λ inside. inside.pool) w.self-inside-is ∙ c.job_mut.follows.holds-at-none
          ∙ ap (pool_after_mark_of c.self.inside.pool c.args.number) w.in_default.ensures.value
    ])

pub invariant_of-self : goal.invariant_of-self
invariant_of-self c =
    let alone = returns c ∙ mark_alone c.args.self.now c.args.number
    (value_at (job_of c.args.self.now.jobs c.args.number)) in
    let counts = ap (λ (p : JobPool). p.counts) alone in
    let serials = ap (λ (p : JobPool). p.next_serial) alone in
    elim c.match-job_mut.branch [
      | in-Some w ↦ let inside = w.self-inside-is in (cc, cc, cc)
      | in_default w ↦ let inside = w.self-inside-is in (cc, cc, cc)
    ]
