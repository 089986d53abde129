-- How far a writer may be behind its owner.
use Rattle.std.specs.Prelude.{◌≡◌, ℕ, ◌+◌, ◌≤◌, List, length}
use Rattle.blocking_world_laws.specs.JobTable.{Writing}
use Rattle.blocking_world_laws.specs.Passed.{accepted, taken, last_job, last_kind}
use Rattle.blocking_world_laws.specs.Seen.{events, cut, own}
use Rattle.blocking_world_laws.specs.Sessions.{capacity}
use Rattle.blocking_world_laws.specs.declared.event.Event.{Event}
use Rattle.blocking_world_laws.specs.declared.event.Moment.{Moment}

-- Where the last session writes, no more was accepted than its writer took and the pipe holds.
abbrev pub WritesBehind : List Event → Type 0
WritesBehind cut = last_kind cut ≡ Writing
    → length (accepted (own cut)) ≤ length (taken (last_job cut)) + capacity Writing (own cut)

-- So it is with each owner.
abbrev pub AllWriteBehind : List Moment → Type 0
AllWriteBehind past = (h : ℕ) → WritesBehind (cut h (events past))
