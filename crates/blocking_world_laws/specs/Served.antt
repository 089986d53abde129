-- Who serves a queued job.
use Rattle.std.specs.Prelude.{◌≡◌, ℕ, zero, suc, Bool, true, false, List, [], ◌∷◌}
use Rattle.blocking_world_laws.specs.Queue.{queue}
use Rattle.blocking_world_laws.specs.Counts.{workers}
use Rattle.blocking_world_laws.specs.declared.event.Moment.{Moment}

-- whether the last start that was tried was refused, after so many starts and maybe a refused one
abbrev pub last_refused_by : ℕ → Bool → Bool → Bool
last_refused_by started true before = true
last_refused_by zero false before = before
last_refused_by (suc count) false before = false

-- whether the last start that was tried was refused
abbrev pub last_refused : List Moment → Bool
last_refused [] = false
last_refused (now ∷ past) =
    last_refused_by now.event.started now.event.start_refused (last_refused past)

-- Where jobs are queued and no worker is left, the last start that was tried was refused.
abbrev pub IsServed : List Moment → Type 0
IsServed past = (queue past ≡ [] → ⊥) → workers past ≡ 0 → last_refused past ≡ true
