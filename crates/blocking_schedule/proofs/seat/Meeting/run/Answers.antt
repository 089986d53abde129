use Rattle.std.proofs.Common.{◌<◌, false, length, sym, subst, take, get_or, arith}
use Rattle.std.proofs.lemmas.List.{take_more}
use Rattle.blocking_schedule.specs.Acts.{Acts, Meets}
use Rattle.blocking_schedule.specs.declared.seat.Act.{Act}
use Rattle.blocking_schedule.specs.declared.seat.Act.TheVariants.{Look}
use Rattle.blocking_schedule.specs.declared.seat.Meeting.{Meeting}
use Rattle.blocking_schedule.proofs.Sequences.{in_turn_more}
use Rattle.blocking_schedule.proofs.seat.Meeting.run.Goals as goal

pub loop-act-preserved : goal.loop-act-preserved
loop-act-preserved c =
    let acts = c.args.acts.now in
    let within : c.loop-act.act-index < length acts = omega arith in
    let so_far = take c.loop-act.act-index acts in
    record {
      heard = c.act.ensures.heard;
      meets =
          subst (λ done. Meets done c.args.self.now c.act.new.self)
          (sym (take_more acts c.loop-act.act-index (Look false) within))
          (in_turn_more Meeting Act Acts so_far (get_or acts c.loop-act.act-index (Look false))
          c.args.self.now c.loop-act.self c.act.new.self c.loop-act.invariant.meets
          c.act.ensures.acts);
    }
