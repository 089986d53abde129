-- THE HEADLINE ON ONE PAGE, of all that was ever seen of a world: the list of its moments, the newest
-- first. A moment is a step with its event; `AtThis` holds of each, `now`, and the `past` before it.
use Rattle.std.specs.Prelude.{◌≡◌, ℕ, zero, suc, ◌+◌, ◌<◌, ◌≤◌, ◌==◌, ◌&&◌, ◌||◌, not, Bool, true}
use Rattle.std.specs.Prelude.{false, map, List, [], ◌∷◌, ◌++◌, length, min, get_or, filter, Option, Some, None}
use Rattle.blocking_headline.specs.Words.{Moment, Event, Act, Party, Owner, Task, Worker, Pool, Asked}
use Rattle.blocking_headline.specs.Words.{Accepted, Took, Ended, JobWoken, JobCancelled, Entered}
use Rattle.blocking_headline.specs.Words.{Queued, ClientLimitSet, Back, Replied, HolderWoken, Okay}
use Rattle.blocking_headline.specs.Words.{Count, NoMore, HandleAnswer, Fine, Next, HandleCall, Read}
use Rattle.blocking_headline.specs.Words.{Flush, Close, Link, Linked, Copy, Copied}
use Rattle.blocking_headline.specs.Words.{is_in, events, greatest}  -- a list has it; of moments; 2 ^ 64 - 1
use Rattle.blocking_headline.specs.Words.{is_this, is_owner, is_task, is_nothing}  -- it is; nothing was done
use Rattle.blocking_headline.specs.Words.{IsBeginning, IsEnding}  -- the first list, of the second
use Rattle.blocking_headline.specs.Words.{client}  -- of a job
use Rattle.blocking_headline.specs.Words.{taken_by}  -- the job that an act takes
use Rattle.blocking_headline.specs.Words.{hand, hand_of}  -- what a worker took and didn't end
use Rattle.blocking_headline.specs.Words.{workers}  -- those started, less those stopped
use Rattle.blocking_headline.specs.Words.{limit}  -- the last set, or left by a refused start
use Rattle.blocking_headline.specs.Words.{cut}  -- what was seen of an owner and its jobs
use Rattle.blocking_headline.specs.Words.{acts_of_owner, acts_of_task}  -- the newest first
use Rattle.blocking_headline.specs.Words.{is_waiting}  -- the newest act is a wait
use Rattle.blocking_headline.specs.Words.{call}  -- what an owner was asked last
use Rattle.blocking_headline.specs.Words.{session, IsSessionOf}  -- a handle's loan to a job, not over
use Rattle.blocking_headline.specs.Words.{got, accepted}  -- what an owner read and wrote, since the last loan
use Rattle.blocking_headline.specs.Words.{last_job}  -- the acts of the job that was lent the handle last
use Rattle.blocking_headline.specs.Words.{gave, taken}  -- what the handle gave, and took, by these
use Rattle.blocking_headline.specs.Words.{handle_answers, last_is_end}  -- its answers; the newest ends it
use Rattle.blocking_headline.specs.Words.{all_got, all_accepted, all_taken}  -- the same, in all sessions
use Rattle.blocking_headline.specs.Words.{outcome, HasReplied}  -- what became of the newest ask

abbrev pub by : Party → Event → Bool  -- this owner or task did something
by (Owner h) e = is_owner h e.party && not (is_nothing e.act)
by (Task k) e = is_task k e.party && not (is_nothing e.act)
by _ e = false

-- 1. the line of jobs (a sweep names none of those that it enters: each is dropped)
abbrev pub entered : Act → List ℕ
entered (Accepted s) = s ∷ []
entered (JobWoken s Entered) = s ∷ []
entered (JobCancelled s Entered) = s ∷ []
entered (Ended s Queued) = s ∷ []
entered _ = []

abbrev pub line : List Moment → List ℕ  -- those that entered and were not taken since, in order
line [] = []
line (now ∷ past) =
    filter (λ s. not (is_in s (taken_by now.event.act))) (line past) ++ entered now.event.act

abbrev pub is_limit : Act → Bool
is_limit (ClientLimitSet (Some n)) = true
is_limit _ = false

abbrev pub in_one_line : List Moment → ℕ → ℕ → Bool  -- of one client, or none was ever limited
in_one_line past s t =
    length (filter (λ now. is_limit now.event.act) past) == 0 || client past t == client past s

-- 2. the end of a turn
abbrev pub ends : Act → ℕ → Bool
ends (Ended t how) s = t == s
ends _ s = false

-- 4. whether the handle came back in this call
abbrev pub came_back : List Act → Bool
came_back [] = false
came_back (Back ∷ acts) = true
came_back (Asked c ∷ acts) = false
came_back (_ ∷ acts) = came_back acts

abbrev pub IsWhole : List Act → List Act → Type 0  -- by the acts of an owner, and those of its job
IsWhole own job = (got own ≡ gave job) × (last_is_end (handle_answers job) ≡ true)

abbrev pub IsFlushed : List Act → List Act → Type 0
IsFlushed own job = (session own ≡ None) × (came_back own ≡ true → (accepted own ≡ [] → ⊥)
    → (taken job ≡ accepted own) × (older : List HandleAnswer) × (handle_answers job ≡ Fine ∷ older))

abbrev pub IsAll : List Act → List Act → Option HandleCall → Act → Type 0  -- at this reply
IsAll own job (Some (Read (suc n))) (Replied (Count zero)) = IsWhole own job
IsAll own job (Some Next) (Replied NoMore) = IsWhole own job
IsAll own job (Some Flush) (Replied Okay) = IsFlushed own job
IsAll own job (Some Close) (Replied Okay) = IsFlushed own job
IsAll own job _ _ = Unit {0}

-- 5. the jobs of calls: the one at place k is that of task k
abbrev pub called : Party → Act → List ℕ
called Pool (Accepted s) = s ∷ []
called _ _ = []

abbrev pub calls : List Moment → List ℕ
calls [] = []
calls (now ∷ past) = calls past ++ called now.event.party now.event.act

abbrev pub rests : ℕ → List Moment → Bool  -- its turn ended, it neither entered nor was taken since
rests s [] = false
rests s (now ∷ past) = not (is_in s (entered now.event.act ++ taken_by now.event.act))
    && (ends now.event.act s || rests s past)

abbrev pub is_wake : Act → Bool
is_wake HolderWoken = true
is_wake _ = false

abbrev pub was_woken : Party → ℕ → List Moment → Bool  -- by this job, since its own last act
was_woken p s [] = false
was_woken p s (now ∷ past) = not (by p now.event)
    && (is_this s now.event.job && is_wake now.event.act || was_woken p s past)

abbrev pub IsNotLost : Party → ℕ → List Act → List Moment → Type 0
IsNotLost p s own past = is_waiting own ≡ true → rests s past ≡ true → was_woken p s past ≡ true

abbrev pub polls : ℕ → ℕ → List Moment → List Act  -- what these two owners did
polls a b past = map (λ e. e.act)
    (filter (λ e. not (is_nothing e.act) && (is_owner a e.party || is_owner b e.party)) (events past))

pub record AtThis (setting : ℕ) (past : List Moment) (now : Moment) : Type 0 where
  -- 1. A job that is run is the one of its client that has waited longest; of all, if none is limited.
  pub in_order : (s : ℕ) → now.event.act ≡ Took s
      → IsBeginning (s ∷ []) (filter (in_one_line past s) (line past))
  -- 2. A take finds the hand empty and the job in no hand. Whatever is done in a run, or ends a turn, is
  -- done by who has the job in hand.
  pub take : (w s : ℕ) → now.event.party ≡ Worker w → taken_by now.event.act ≡ s ∷ []
      → (hand past w ≡ None) × ((v : ℕ) → hand past v ≡ Some s → ⊥)
  pub held : (s : ℕ) → taken_by now.event.act ≡ [] → now.event.job ≡ Some s
      → hand_of past now.event.party ≡ Some s
  pub turn : (s : ℕ) → ends now.event.act s ≡ true → hand_of past now.event.party ≡ Some s
  -- 3. No start of a worker passes the limit that held.
  pub within : 0 < now.event.started → workers past + now.event.started ≤ limit setting past
  -- 4. What was got is a beginning of what the handle gave, and what it took one of what was accepted. It
  -- is all where a reply tells the end, or that all is flushed.
  pub reads : (h : ℕ) → IsBeginning (got (acts_of_owner h (events (now ∷ past))))
      (gave (last_job (cut h (events (now ∷ past)))))
  pub writes : (h : ℕ) → IsBeginning (taken (last_job (cut h (events (now ∷ past)))))
      (accepted (acts_of_owner h (events (now ∷ past))))
  pub all : (h : ℕ) → now.event.party ≡ Owner h → IsAll (acts_of_owner h (events past))
      (last_job (cut h (events past))) (call (acts_of_owner h (events past))) now.event.act
  -- 5. Who waits for a job that is parked or over was woken by it since.
  pub owners : (h s : ℕ) → IsSessionOf (session (acts_of_owner h (events (now ∷ past)))) s
      → IsNotLost (Owner h) s (acts_of_owner h (events (now ∷ past))) (now ∷ past)
  pub tasks : (k s : ℕ) → get_or (calls (now ∷ past)) k 0 ≡ s
      → IsNotLost (Task k) s (acts_of_task k (events (now ∷ past))) (now ∷ past)
  -- A copier that tells a number: since it was linked its writer accepted all that its reader got, and the
  -- writer's handle took that last. The number counts it, and a flush was asked last and went well.
  pub copies : (later before : List Moment) (link : Moment) (a b m k n : ℕ)
      → past ≡ later ++ link ∷ before → link.step ≡ Link a b m → link.event.act ≡ Linked k
      → now.step ≡ Copy k → now.event.act ≡ Copied n
      → (all_accepted (acts_of_owner b (events later)) ≡ all_got (acts_of_owner a (events later)))
      × IsEnding (all_got (acts_of_owner a (events later))) (all_taken (cut b (events past)))
      × (n ≡ min (length (all_got (acts_of_owner a (events later)))) greatest)
      × (call (polls a b later) ≡ Some Flush) × (outcome (polls a b later) ≡ HasReplied Okay)

abbrev pub Headline : ℕ → List Moment → Type 0
Headline setting seen = (later past : List Moment) (now : Moment) → seen ≡ later ++ now ∷ past
    → AtThis setting past now
