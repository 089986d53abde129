-- The counts of workers, and the limit.
use Rattle.std.specs.Prelude.{ℕ, ◌+◌, ◌-◌, Bool, true, false, List, [], ◌∷◌, length, filter, zero}
use Rattle.std.specs.Prelude.{suc}
use Rattle.blocking_world_laws.specs.Core.{limit_after}
use Rattle.blocking_world_laws.specs.Queue.{running}
use Rattle.blocking_world_laws.specs.declared.event.Act.{Act}
use Rattle.blocking_world_laws.specs.declared.event.Act.TheVariants.{Arrived, Stopped, LimitSet}
use Rattle.blocking_world_laws.specs.declared.event.Moment.{Moment}

-- a number with more added; where nothing is added it is left as it is
abbrev pub added : ℕ → ℕ → ℕ
added n zero = n
added n (suc m) = n + suc m

-- all workers that were started
abbrev pub starts : List Moment → ℕ
starts [] = 0
starts (now ∷ past) = added (starts past) now.event.started

-- how many starts were refused
abbrev pub refused_starts : List Moment → ℕ
refused_starts past = length (filter (λ now. now.event.start_refused) past)

-- whether a worker arrives
abbrev pub is_arrival : Act → Bool
is_arrival (Arrived w) = true
is_arrival _ = false

-- how many workers arrived
abbrev pub arrivals : List Moment → ℕ
arrivals past = length (filter (λ now. is_arrival now.event.act) past)

-- whether a worker stops
abbrev pub is_stop : Act → Bool
is_stop (Stopped w end) = true
is_stop _ = false

-- how many workers stopped
abbrev pub stops : List Moment → ℕ
stops past = length (filter (λ now. is_stop now.event.act) past)

-- the workers: those that were started less those that stopped, arrived or not
abbrev pub workers : List Moment → ℕ
workers past = starts past - stops past

-- the idle workers: those that run no job, arrived or not
abbrev pub idle : List Moment → ℕ
idle past = workers past - length (running past)

-- the limit after an act that sets it; any other act leaves it as it was
abbrev pub limit_by : Act → ℕ → ℕ
limit_by (LimitSet n) before = n
limit_by _ before = before

-- The limit: the last one that was set, or that a refused start left, which is the workers then and
-- at least 1; before that the setting's.
abbrev pub limit : ℕ → List Moment → ℕ
limit setting [] = setting
limit setting (now ∷ past) =
    limit_after (limit_by now.event.act (limit setting past)) (workers past + now.event.started)
    now.event.start_refused
