-- THE HEADLINE WITH NOTHING IMPORTED but a job's client, which is the one that its call names or that its
-- owner was made for. It is the same as the page: `Headline` and `Alone` follow from each other.
use Rattle.std.specs.List.{list_any}
use Rattle.std.specs.Prelude.{◌≡◌, ℕ, zero, suc, ◌+◌, ◌-◌, ◌<◌, ◌≤◌, min, max, ◌==◌, ◌&&◌, ◌||◌, not}
use Rattle.std.specs.Prelude.{if◌then◌else◌, Bool, true, false, List, [], ◌∷◌, ◌++◌, length, take, get_or}
use Rattle.std.specs.Prelude.{map, filter, Option, Some, None}
use Rattle.blocking_headline.specs.Words.{client, Moment, Event, Act, Party, Owner, Task, Worker, Pool}
use Rattle.blocking_headline.specs.Words.{Asked, Accepted, Took, TookDropped, Ended, HandedOut, Got}
use Rattle.blocking_headline.specs.Words.{GotItem, Filled, JobWoken, JobCancelled, Entered, Queued}
use Rattle.blocking_headline.specs.Words.{ClientLimitSet, LimitSet, Stopped, Back, Waits, Replied}
use Rattle.blocking_headline.specs.Words.{Answered, Peeked, HolderWoken, Linked, Copied, NoAction, Okay}
use Rattle.blocking_headline.specs.Words.{Count, NoMore, HandleAnswer, Gave, Item, NoItem, Number, Fine}
use Rattle.blocking_headline.specs.Words.{HandleCall, Read, Write, Next, Flush, Close, Link, Copy}
use Rattle.blocking_headline.specs.Words.{Reply}

-- ---- lists

abbrev pub is_in : ℕ → List ℕ → Bool
is_in n ns = list_any (λ m. n == m) ns

abbrev pub IsBeginning : List ℕ → List ℕ → Type 0
IsBeginning xs ys = (rest : List ℕ) × (ys ≡ xs ++ rest)

abbrev pub IsEnding : List ℕ → List ℕ → Type 0
IsEnding xs ys = (front : List ℕ) × (ys ≡ front ++ xs)

-- ---- who did what

abbrev pub is_this : ℕ → Option ℕ → Bool
is_this n None = false
is_this n (Some m) = m == n

abbrev pub is_owner : ℕ → Party → Bool
is_owner h (Owner g) = g == h
is_owner h _ = false

abbrev pub is_task : ℕ → Party → Bool
is_task k (Task j) = j == k
is_task k _ = false

abbrev pub is_worker : ℕ → Party → Bool
is_worker w (Worker v) = v == w
is_worker w _ = false

abbrev pub is_some_worker : Party → Bool
is_some_worker (Worker v) = true
is_some_worker _ = false

abbrev pub is_nothing : Act → Bool
is_nothing NoAction = true
is_nothing _ = false

abbrev pub is_of_pool : Act → Bool  -- takes, and the ends of turns
is_of_pool (Took s) = true
is_of_pool (TookDropped s) = true
is_of_pool (Ended s how) = true
is_of_pool (HandedOut s) = true
is_of_pool _ = false

abbrev pub by : Party → Event → Bool  -- this owner or task did something
by (Owner h) e = is_owner h e.party && not (is_nothing e.act)
by (Task k) e = is_task k e.party && not (is_nothing e.act)
by _ e = false

abbrev pub events : List Moment → List Event
events past = map (λ now. now.event) past

abbrev pub cut : ℕ → List Event → List Event  -- what was seen of an owner and of its jobs
cut h seen = filter (λ e. not (is_of_pool e.act) && not (is_nothing e.act)
    && (is_owner h e.party || is_some_worker e.party && is_this h e.owner)) seen

abbrev pub own : List Event → List Act  -- what the owner itself did, the newest first
own seen = map (λ e. e.act) (filter (λ e. not (is_some_worker e.party)) seen)

abbrev pub acts_of_task : ℕ → List Event → List Act
acts_of_task k seen =
    map (λ e. e.act) (filter (λ e. not (is_nothing e.act) && is_task k e.party) seen)

abbrev pub acts_of : ℕ → List Event → List Act  -- of a job
acts_of s seen = map (λ e. e.act) (filter (λ e. not (is_of_pool e.act) && not (is_nothing e.act)
    && is_some_worker e.party && is_this s e.job) seen)

-- ---- 1. the line of jobs (a sweep names none of those that it enters: each is dropped)

abbrev pub entered : Act → List ℕ
entered (Accepted s) = s ∷ []
entered (JobWoken s Entered) = s ∷ []
entered (JobCancelled s Entered) = s ∷ []
entered (Ended s Queued) = s ∷ []
entered _ = []

abbrev pub taken_by : Act → List ℕ
taken_by (Took s) = s ∷ []
taken_by (TookDropped s) = s ∷ []
taken_by _ = []

abbrev pub line : List Moment → List ℕ  -- those that entered and were not taken since, in order
line [] = []
line (now ∷ past) =
    filter (λ s. not (is_in s (taken_by now.event.act))) (line past) ++ entered now.event.act

abbrev pub is_limit : Act → Bool
is_limit (ClientLimitSet (Some n)) = true
is_limit _ = false

abbrev pub in_one_line : List Moment → ℕ → ℕ → Bool  -- of one client, or none was ever limited
in_one_line past s t =
    length (filter (λ now. is_limit now.event.act) past) == 0 || client past t == client past s

-- ---- 2. turns

abbrev pub ends : Act → ℕ → Bool
ends (Ended t how) s = t == s
ends _ s = false

abbrev pub hand_by : Act → Bool → Option ℕ → Option ℕ
hand_by (Took s) is_own before = if is_own then Some s else before
hand_by (TookDropped s) is_own before = if is_own then Some s else before
hand_by (Ended s how) is_own before = if is_own then None else before
hand_by _ is_own before = before

abbrev pub hand : List Moment → ℕ → Option ℕ  -- the job that a worker took, until it ends its turn
hand [] w = None
hand (now ∷ past) w = hand_by now.event.act (is_worker w now.event.party) (hand past w)

abbrev pub hand_of : List Moment → Party → Option ℕ
hand_of past (Worker w) = hand past w
hand_of past _ = None

-- ---- 3. workers

abbrev pub added : ℕ → ℕ → ℕ  -- the sum
added n zero = n
added n (suc m) = n + suc m

abbrev pub starts : List Moment → ℕ
starts [] = 0
starts (now ∷ past) = added (starts past) now.event.started

abbrev pub is_stop : Act → Bool
is_stop (Stopped w end) = true
is_stop _ = false

abbrev pub workers : List Moment → ℕ
workers past = starts past - length (filter (λ now. is_stop now.event.act) past)

abbrev pub set_by : Act → ℕ → ℕ
set_by (LimitSet n) before = n
set_by _ before = before

abbrev pub lowered : ℕ → ℕ → Bool → ℕ  -- a refused start lowers it to the workers then
lowered before now false = before
lowered before now true = max 1 now

abbrev pub limit : ℕ → List Moment → ℕ
limit setting [] = setting
limit setting (now ∷ past) = lowered (set_by now.event.act (limit setting past))
    (workers past + now.event.started) now.event.start_refused

-- ---- 4. By the acts of an owner: what it was asked last, the jobs of its open session and of its last one.
-- Then what it read and wrote there, and in all, and whether the handle came back in this call.

abbrev pub call : List Act → Option HandleCall
call [] = None
call (Asked c ∷ acts) = Some c
call (_ ∷ acts) = call acts

abbrev pub lent : List Act → Option ℕ
lent [] = None
lent (Back ∷ acts) = None
lent (Accepted s ∷ acts) = Some s
lent (_ ∷ acts) = lent acts

abbrev pub last : List Act → Option ℕ
last [] = None
last (Accepted s ∷ acts) = Some s
last (_ ∷ acts) = last acts

abbrev pub jobs_of : List Act → List ℕ
jobs_of [] = []
jobs_of (Accepted s ∷ acts) = s ∷ jobs_of acts
jobs_of (_ ∷ acts) = jobs_of acts

abbrev pub got : List Act → List ℕ
got [] = []
got (Accepted s ∷ acts) = []
got (Got bytes told ∷ acts) = got acts ++ bytes
got (GotItem x told ∷ acts) = got acts ++ x ∷ []
got (_ ∷ acts) = got acts

abbrev pub all_got : List Act → List ℕ
all_got [] = []
all_got (Got bytes told ∷ acts) = all_got acts ++ bytes
all_got (_ ∷ acts) = all_got acts

abbrev pub data_of : Option HandleCall → List ℕ
data_of (Some (Write bytes)) = bytes
data_of _ = []

abbrev pub accepted : List Act → List ℕ
accepted [] = []
accepted (Accepted s ∷ acts) = []
accepted (Filled n told ∷ acts) = accepted acts ++ take n (data_of (call acts))
accepted (_ ∷ acts) = accepted acts

abbrev pub all_accepted : List Act → List ℕ
all_accepted [] = []
all_accepted (Filled n told ∷ acts) = all_accepted acts ++ take n (data_of (call acts))
all_accepted (_ ∷ acts) = all_accepted acts

abbrev pub replied : List Act → Option Reply  -- to the newest ask
replied [] = None
replied (Asked c ∷ acts) = None
replied (Waits ∷ acts) = None
replied (Replied reply ∷ acts) = Some reply
replied (_ ∷ acts) = replied acts

abbrev pub came_back : List Act → Bool
came_back [] = false
came_back (Back ∷ acts) = true
came_back (Asked c ∷ acts) = false
came_back (_ ∷ acts) = came_back acts

-- By the acts of a job: what its handle gave, and took of the pieces that it was offered, and its answers.

abbrev pub carried : HandleAnswer → List ℕ
carried (Gave bytes) = bytes
carried (Item x) = x ∷ []
carried _ = []

abbrev pub gave : List Act → List ℕ
gave [] = []
gave (Answered answer ∷ acts) = gave acts ++ carried answer
gave (_ ∷ acts) = gave acts

abbrev pub peeked : List Act → List ℕ
peeked [] = []
peeked (Peeked bytes ∷ acts) = bytes
peeked (_ ∷ acts) = peeked acts

abbrev pub counted : HandleAnswer → List ℕ → List ℕ
counted (Number k) piece = take k piece
counted _ piece = []

abbrev pub taken : List Act → List ℕ
taken [] = []
taken (Answered answer ∷ acts) = taken acts ++ counted answer (peeked acts)
taken (_ ∷ acts) = taken acts

abbrev pub taken_by_jobs : List ℕ → List Event → List ℕ
taken_by_jobs [] seen = []
taken_by_jobs (s ∷ older) seen = taken_by_jobs older seen ++ taken (acts_of s seen)

abbrev pub all_taken : List Event → List ℕ
all_taken seen = taken_by_jobs (jobs_of (own seen)) seen

abbrev pub answers : List Act → List HandleAnswer
answers [] = []
answers (Answered answer ∷ acts) = answer ∷ answers acts
answers (_ ∷ acts) = answers acts

abbrev pub is_end : HandleAnswer → Bool
is_end (Gave []) = true
is_end NoItem = true
is_end _ = false

abbrev pub last_is_end : List HandleAnswer → Bool
last_is_end [] = false
last_is_end (answer ∷ more) = is_end answer

abbrev pub is_serial : Option ℕ → Option ℕ → Bool
is_serial None job = false
is_serial (Some s) job = is_this s job

abbrev pub last_job : List Event → List Act  -- the acts of the last session's job
last_job seen = map (λ e. e.act) (filter (λ e. not (is_of_pool e.act) && not (is_nothing e.act)
    && is_some_worker e.party && is_serial (last (own seen)) e.job) seen)

abbrev pub IsWhole : List Act → List Act → Type 0
IsWhole mine job = (got mine ≡ gave job) × (last_is_end (answers job) ≡ true)

abbrev pub IsFlushed : List Act → List Act → Type 0
IsFlushed mine job = (lent mine ≡ None) × (came_back mine ≡ true → (accepted mine ≡ [] → ⊥)
    → (taken job ≡ accepted mine) × (older : List HandleAnswer) × (answers job ≡ Fine ∷ older))

abbrev pub IsAll : List Act → List Act → Option HandleCall → Act → Type 0  -- at this reply
IsAll mine job (Some (Read (suc n))) (Replied (Count zero)) = IsWhole mine job
IsAll mine job (Some Next) (Replied NoMore) = IsWhole mine job
IsAll mine job (Some Flush) (Replied Okay) = IsFlushed mine job
IsAll mine job (Some Close) (Replied Okay) = IsFlushed mine job
IsAll mine job _ _ = Unit {0}

-- ---- 5. waits

abbrev pub is_waiting : List Act → Bool
is_waiting (Waits ∷ acts) = true
is_waiting _ = false

abbrev pub called : Party → Act → List ℕ
called Pool (Accepted s) = s ∷ []
called _ _ = []

abbrev pub calls : List Moment → List ℕ  -- the jobs of calls: the one at place k is that of task k
calls [] = []
calls (now ∷ past) = calls past ++ called now.event.party now.event.act

abbrev pub rests : ℕ → List Moment → Bool  -- its turn ended, it neither entered nor was taken since
rests s [] = false
rests s (now ∷ past) = not (is_in s (entered now.event.act ++ taken_by now.event.act))
    && (ends now.event.act s || rests s past)

abbrev pub is_wake : Act → Bool
is_wake HolderWoken = true
is_wake _ = false

abbrev pub was_woken : Party → ℕ → List Moment → Bool  -- by this job, since its own last act
was_woken p s [] = false
was_woken p s (now ∷ past) = not (by p now.event)
    && (is_this s now.event.job && is_wake now.event.act || was_woken p s past)

abbrev pub IsNotLost : Party → ℕ → List Act → List Moment → Type 0
IsNotLost p s mine past = is_waiting mine ≡ true → rests s past ≡ true → was_woken p s past ≡ true

abbrev pub polls : ℕ → ℕ → List Moment → List Act  -- what these two owners did
polls a b past = map (λ e. e.act)
    (filter (λ e. not (is_nothing e.act) && (is_owner a e.party || is_owner b e.party)) (events past))

-- ---- all of it

pub record AtMoment (setting : ℕ) (past : List Moment) (now : Moment) : Type 0 where
  pub in_order : (s : ℕ) → now.event.act ≡ Took s
      → IsBeginning (s ∷ []) (filter (in_one_line past s) (line past))
  pub take : (w s : ℕ) → now.event.party ≡ Worker w → taken_by now.event.act ≡ s ∷ []
      → (hand past w ≡ None) × ((v : ℕ) → hand past v ≡ Some s → ⊥)
  pub held : (s : ℕ) → taken_by now.event.act ≡ [] → now.event.job ≡ Some s
      → hand_of past now.event.party ≡ Some s
  pub turn : (s : ℕ) → ends now.event.act s ≡ true → hand_of past now.event.party ≡ Some s
  pub within : 0 < now.event.started → workers past + now.event.started ≤ limit setting past
  pub reads : (h : ℕ) → IsBeginning (got (own (cut h (events (now ∷ past)))))
      (gave (last_job (cut h (events (now ∷ past)))))
  pub writes : (h : ℕ) → IsBeginning (taken (last_job (cut h (events (now ∷ past)))))
      (accepted (own (cut h (events (now ∷ past)))))
  pub all : (h : ℕ) → now.event.party ≡ Owner h → IsAll (own (cut h (events past)))
      (last_job (cut h (events past))) (call (own (cut h (events past)))) now.event.act
  pub owners : (h s : ℕ) → lent (own (cut h (events (now ∷ past)))) ≡ Some s
      → IsNotLost (Owner h) s (own (cut h (events (now ∷ past)))) (now ∷ past)
  pub tasks : (k s : ℕ) → get_or (calls (now ∷ past)) k 0 ≡ s
      → IsNotLost (Task k) s (acts_of_task k (events (now ∷ past))) (now ∷ past)
  pub copies : (later before : List Moment) (link : Moment) (a b m k n : ℕ)
      → past ≡ later ++ link ∷ before → link.step ≡ Link a b m → link.event.act ≡ Linked k
      → now.step ≡ Copy k → now.event.act ≡ Copied n
      → (all_accepted (own (cut b (events later))) ≡ all_got (own (cut a (events later))))
      × IsEnding (all_got (own (cut a (events later)))) (all_taken (cut b (events past)))
      × (n ≡ min (length (all_got (own (cut a (events later))))) 18446744073709551615)
      × (call (polls a b later) ≡ Some Flush) × (replied (polls a b later) ≡ Some Okay)

abbrev pub Alone : ℕ → List Moment → Type 0
Alone setting seen = (later past : List Moment) (now : Moment) → seen ≡ later ++ now ∷ past
    → AtMoment setting past now
