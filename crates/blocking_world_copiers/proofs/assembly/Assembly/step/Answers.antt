-- The steps that are the parts' own.
use Rattle.blocking_world_state.proofs.moves.Steps.{ok_map}
use Rattle.blocking_world_copiers.proofs.Steps.{own_step, passed}
use Rattle.blocking_world_copiers.proofs.assembly.Assembly.step.Goals as goal

pub returns-in_default : goal.returns-in_default
returns-in_default g c =
    let its = own_step c.args.step c.in_default.not-Ask c.in_default.not-Own
    c.in_default.not-DropOwner c.in_default.not-Link c.in_default.not-Copy in
    record {
      ok = ok_map c.pass.result _ _ (λ e does. passed (g.S.Starter.may_answer c.args.starter.now)
          c.args.step c.args.self.now e c.pass.new.self its does) c.pass.ensures.ok;
      err = c.pass.ensures.err;
    }
