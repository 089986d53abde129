-- The queue: what entered it, what was taken out of it, and which queued jobs are ready.
use Rattle.std.specs.Prelude.{◌≡◌, ℕ, ◌==◌, ◌&&◌, if◌then◌else◌, Bool, List, [], ◌∷◌, length}
use Rattle.std.specs.Prelude.{filter, Option, None}
use Rattle.blocking_pool.specs.declared.pool.answer.Woke.TheVariants.{Entered}
use Rattle.blocking_pool.specs.declared.pool.standing.Standing.TheVariants.{Queued}
use Rattle.blocking_world_laws.specs.Core.{is_below}
use Rattle.blocking_world_laws.specs.Seen.{AtEveryBeginning, IsBeginning, without_all, joined}
use Rattle.blocking_world_laws.specs.Jobs.{accepted_jobs, client, standing, is_parked, is_marked, sweeps}
use Rattle.blocking_world_laws.specs.declared.event.Act.{Act}
use Rattle.blocking_world_laws.specs.declared.event.Act.TheVariants.{Accepted, JobWoken}
use Rattle.blocking_world_laws.specs.declared.event.Act.TheVariants.{JobCancelled, ClientLimitSet}
use Rattle.blocking_world_laws.specs.declared.event.Act.TheVariants.{Took, TookDropped, Ended}
use Rattle.blocking_world_laws.specs.declared.event.Moment.{Moment}

-- What a sweep puts back: the jobs that are parked and bear a mark, in the order in which they were
-- accepted.
abbrev pub to_sweep : List Moment → List ℕ
to_sweep past = filter (λ s. is_parked (standing past s) && is_marked past s) (accepted_jobs past)

-- The jobs that an act enters into the queue: a new job; one that a wake or a cancel puts back; one
-- whose turn ended and that goes on; and what a sweep puts back.
abbrev pub entered_by : List Moment → Act → List ℕ
entered_by past (Accepted s) = s ∷ []
entered_by past (JobWoken s Entered) = s ∷ []
entered_by past (JobCancelled s Entered) = s ∷ []
entered_by past (Ended s Queued) = s ∷ []
entered_by past act = if sweeps act then to_sweep past else []

-- the order of entry
abbrev pub entries : List Moment → List ℕ
entries [] = []
entries (now ∷ past) = joined (entries past) (entered_by past now.event.act)

-- the job that an act takes
abbrev pub taken_by : Act → List ℕ
taken_by (Took s) = s ∷ []
taken_by (TookDropped s) = s ∷ []
taken_by _ = []

-- the takes, in order
abbrev pub takes : List Moment → List ℕ
takes [] = []
takes (now ∷ past) = joined (takes past) (taken_by now.event.act)

-- the queue: the entries that no take has removed, in order
abbrev pub queue : List Moment → List ℕ
queue [] = []
queue (now ∷ past) = joined (without_all (taken_by now.event.act) (queue past)) (entered_by past now.event.act)

-- the job whose turn an act ends
abbrev pub ended_by : Act → List ℕ
ended_by (Ended s how) = s ∷ []
ended_by _ = []

-- the running jobs: those that were taken and whose turn has not ended
abbrev pub running : List Moment → List ℕ
running [] = []
running (now ∷ past) =
    joined (without_all (ended_by now.event.act) (running past)) (taken_by now.event.act)

-- the client limit after an act that sets it or takes it away; any other act leaves it as it was
abbrev pub client_limit_by : Act → Option ℕ → Option ℕ
client_limit_by (ClientLimitSet n) before = n
client_limit_by _ before = before

-- the client limit, if there is one: how many jobs of one client may run
abbrev pub client_limit : List Moment → Option ℕ
client_limit [] = None
client_limit (now ∷ past) = client_limit_by now.event.act (client_limit past)

-- No client limit was ever set.
abbrev pub NeverLimited : List Moment → Type 0
NeverLimited past = AtEveryBeginning (λ before. client_limit before ≡ None) past

-- these jobs without those of other clients
abbrev pub of_client : List Moment → ℕ → List ℕ → List ℕ
of_client past c jobs = filter (λ s. client past s == c) jobs

-- whether one more job of the client may run
abbrev pub has_room : List Moment → ℕ → Bool
has_room past c = is_below (client_limit past) (length (of_client past c (running past)))

-- the queued jobs that may run, in order: those whose client has room
abbrev pub ready : List Moment → List ℕ
ready past = filter (λ s. has_room past (client past s)) (queue past)

-- Each client's jobs are taken in the order in which they entered.
abbrev pub InOrder : List Moment → Type 0
InOrder past = (c : ℕ) → IsBeginning (of_client past c (takes past)) (of_client past c (entries past))

-- how often a number stands in a list
abbrev pub times : ℕ → List ℕ → ℕ
times n ns = length (filter (λ m. m == n) ns)

-- The list has the jobs of which this holds, each once, and no other.
abbrev pub AreThose : (ℕ → Bool) → List ℕ → Type 0
AreThose holds_of jobs = (s : ℕ) → times s jobs ≡ (if holds_of s then 1 else 0)
