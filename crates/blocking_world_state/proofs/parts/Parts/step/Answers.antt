use Rattle.std.proofs.Common.{ap}
use Rattle.blocking_world_state.proofs.parts.Parts.step.Goals as goal

pub returns-clause-ok : goal.returns-clause-ok
returns-clause-ok g c =
    record {
      event = c.in_ok-event.event;
      moves = c.in_ok-event.ensures.ok;
      owned = ap (λ o. record c.in_ok-event.event { owner = o }) c.owner_of-owner.ensures;
    }
