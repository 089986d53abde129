use Rattle.std.proofs.Common.{◌∙◌, sym, refl, subst, []}
use Rattle.blocking_core.specs.declared.unblock.PollCall.{PollCall}
use Rattle.blocking_unblock.specs.Polls.{KeepsOpen}
use Rattle.blocking_unblock.proofs.Crossings.{first_crosses, reply_crossed}
use Rattle.blocking_unblock.proofs.FirstRounds.{at_once_kept, closes_only, first_brought}
use Rattle.blocking_unblock.proofs.FirstRounds.{first_kept, first_stands, none_going, refused_by}
use Rattle.blocking_unblock.proofs.FirstRounds.{stays_closed}
use Rattle.blocking_unblock.proofs.Standing.{open_on, reaches_on, same_open}
use Rattle.blocking_unblock.proofs.unblock.Unblock.poll.Goals as goal

pub loop-init : goal.loop-init
loop-init g c = (
  tt,
  tt,
  first_stands _ _ _ _ _ _ _ _ c.new-poll.ensures c.state.ensures c.requires.may,
  ([], refl),
  refl,
  same_open _ _,
  λ fact held. held,
  refl,
  λ idle. first_kept _ _ _ _ c.new-poll.ensures c.state.ensures idle,
  first_brought g.B.Lends.keeps c.new-poll.result.call c.new-poll.result.next c.args.brought.now,
  λ at_once. (refl, refl),
  refl,
  refl,
  first_crosses _ _ _ _ c.new-poll.ensures c.state.ensures,
)

pub loop-preserved : goal.loop-preserved
loop-preserved g c = (
  tt,
  tt,
  c.do_next.ensures.stands,
  reaches_on _ _ _ c.loop.invariant.3 c.do_next.ensures.reaches,
  c.do_next.ensures.call_same ∙ c.loop.invariant.4,
  let P : PollCall → Type 0 = λ call. KeepsOpen call c.loop.poll.state c.do_next.new.poll.state in
      open_on _ _ _ _ c.loop.invariant.5 (subst P c.loop.invariant.4 c.do_next.ensures.kept_open),
  λ fact held. c.do_next.ensures.kept fact (c.loop.invariant.6 fact held),
  c.do_next.ensures.same_length ∙ c.loop.invariant.7,
  λ idle. c.do_next.ensures.keeps _ (c.loop.invariant.8 idle),
  c.do_next.ensures.brings _ c.loop.invariant.9,
  λ at_once. absurd (none_going _ _ c.do_next.ensures.went (c.loop.invariant.10 at_once).0 at_once),
  c.do_next.ensures.rest.0 ∙ c.loop.invariant.11,
  c.do_next.ensures.rest.1 ∙ c.loop.invariant.12,
  c.do_next.ensures.crosses _ c.loop.invariant.13,
)

pub returns-in-Reply-clause-refused : goal.returns-in-Reply-clause-refused
returns-in-Reply-clause-refused g c =
    refused_by _ _ _ _ _ _ _ _ c.loop.invariant.2 (sym c.in-Reply.is ∙ c.next-in-loop.ensures)
    c.loop.invariant.8

pub returns-in-Reply-clause-closed : goal.returns-in-Reply-clause-closed
returns-in-Reply-clause-closed g c = stays_closed _ c.loop.poll _ _ _ _ c.new-poll.ensures
    c.state.ensures c.loop.invariant.2.at c.loop.invariant.5

pub returns-in-Reply-clause-closes : goal.returns-in-Reply-clause-closes
returns-in-Reply-clause-closes g c = closes_only _ c.loop.poll _ _ _ _ c.new-poll.ensures
    c.state.ensures c.loop.invariant.2.at c.loop.invariant.5

pub returns-in-Pending-clause-closed : goal.returns-in-Pending-clause-closed
returns-in-Pending-clause-closed g c = stays_closed _ c.loop.poll _ _ _ _ c.new-poll.ensures
    c.state.ensures c.loop.invariant.2.at c.loop.invariant.5

pub returns-in-Pending-clause-closes : goal.returns-in-Pending-clause-closes
returns-in-Pending-clause-closes g c = closes_only _ c.loop.poll _ _ _ _ c.new-poll.ensures
    c.state.ensures c.loop.invariant.2.at c.loop.invariant.5

pub returns-in-Reply-clause-at_once : goal.returns-in-Reply-clause-at_once
returns-in-Reply-clause-at_once g c =
    at_once_kept _ _ _ _ _ _ c.new-poll.ensures c.state.ensures c.loop.invariant.10

pub returns-in-Pending-clause-at_once : goal.returns-in-Pending-clause-at_once
returns-in-Pending-clause-at_once g c =
    at_once_kept _ _ _ _ _ _ c.new-poll.ensures c.state.ensures c.loop.invariant.10

pub returns-in-Reply-clause-crosses : goal.returns-in-Reply-clause-crosses
returns-in-Reply-clause-crosses g c =
    reply_crossed _ _ _ _ _ _ _ c.loop.invariant.2.awake
    (sym c.in-Reply.is ∙ c.next-in-loop.ensures) c.new-poll.ensures c.loop.invariant.13
