use Rattle.std.proofs.Common.{take}
use Rattle.blocking_schedule.specs.Acts.{Meets}
use Rattle.blocking_schedule.specs.Seats.{IsHeard}
use Rattle.blocking_schedule.proofs.seat.Meeting.run.Given as goal

-- the acts so far were done
abbrev pub invariant-loop-act : goal.invariant-loop-act
invariant-loop-act l =
    record { heard : IsHeard l.self; meets : Meets (take l.act-index l.acts) l.initial.self l.self }
