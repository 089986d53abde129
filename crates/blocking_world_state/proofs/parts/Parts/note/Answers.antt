use Rattle.std.proofs.Common.{sym}
use Rattle.blocking_world_state.specs.contracts.parts.Parts.{the_view}
use Rattle.blocking_world_state.proofs.moves.Steps.{noted}
use Rattle.blocking_world_state.proofs.ties.Events.{note_is}
use Rattle.blocking_world_state.proofs.parts.Parts.note.Goals as goal

pub tell-requires : goal.tell-requires
tell-requires c = (note_is c.args.party c.args.act c.requires).aside

pub returns : goal.returns
returns c = λ asked. rw (sym c.self.view_is) (noted (the_view c.self.inside) asked c.args.party
    c.args.act c.tell.result c.requires c.tell.ensures)
