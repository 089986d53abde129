-- Of each client the order of entry is its takes and then its part of the queue; what is queued and
-- what runs stands so, each job once.
use Rattle.std.proofs.Common.{◌≡◌, refl, ℕ, ◌+◌, ◌-◌, ◌<◌, ◌==◌, ◌&&◌, ◌||◌, if◌then◌else◌, Bool}
use Rattle.std.proofs.Common.{true, false, cond, List, [], ◌∷◌, ◌++◌, length, Option, Some, None}
use Rattle.std.proofs.Common.{ap, ◌∙◌, arith, add-zero, length-append}
use Rattle.std.specs.Prelude.{filter, is_some, IfSome}
use Rattle.std.proofs.lemmas.Bool.{eqb-true, eq-eqb}
use Rattle.std.proofs.lemmas.Bool.Decides.{nat_tests}
use Rattle.std.proofs.lemmas.List.{append_assoc}
use Rattle.std.proofs.lemmas.List.Elements.{filter-append}
use mathlib.Core.Path.{subst, sym}
use Rattle.blocking_pool.specs.Jobs.{one_if}
use Rattle.blocking_pool.specs.Lists.{is_in, without, first_of}
use Rattle.blocking_pool.specs.Wakes.{wake_of, cancel_of}
use Rattle.blocking_pool.proofs.Lists.{turned, filter_same}
use Rattle.blocking_pool.specs.declared.pool.answer.Woke.TheVariants.{Entered}
use Rattle.blocking_pool.specs.declared.pool.standing.Standing.{Standing}
use Rattle.blocking_pool.specs.declared.pool.standing.Standing.TheVariants.{Queued, Running, Parked}
use Rattle.blocking_pool.specs.declared.pool.standing.Standing.TheVariants.{Done, Dropped}
use Rattle.blocking_world_laws.specs.Core.{is_below}
use Rattle.blocking_world_laws.specs.Seen.{EachMayFollow, without_all, joined, is_worker}
use Rattle.blocking_world_laws.specs.Jobs.{accepts, accepted_by, accepted_jobs, client_of_step}
use Rattle.blocking_world_laws.specs.Jobs.{client, standing, stands_by, sweeps, is_queued}
use Rattle.blocking_world_laws.specs.Jobs.{is_running, is_parked, is_marked, is_to_drop, is_woken}
use Rattle.blocking_world_laws.specs.Queue.{to_sweep, entered_by, taken_by, ended_by, entries}
use Rattle.blocking_world_laws.specs.Queue.{takes, queue, running, client_limit_by, client_limit}
use Rattle.blocking_world_laws.specs.Queue.{NeverLimited, of_client, has_room, ready, times}
use Rattle.blocking_world_laws.specs.Queue.{InOrder}
use Rattle.blocking_world_laws.specs.Turns.{Turn, GoesOn, IsWaiting, MustGiveUp, HasGivenUp, turn}
use Rattle.blocking_world_laws.specs.Turns.{hand, hand_by, hand_of, HoldsOne}
use Rattle.blocking_world_laws.specs.Answers.{PoolAnswers, AnswerLaw, take_answer, take_from}
use Rattle.blocking_world_laws.specs.Answers.{end_of}
use Rattle.blocking_world_laws.specs.Steps.{job_taken, is_take}
use Rattle.blocking_world_laws.specs.Legal.{PoolLaw}
use Rattle.blocking_world_laws.specs.declared.event.Act.{Act}
use Rattle.blocking_world_laws.specs.declared.event.Act.TheVariants.{Accepted, JobWoken}
use Rattle.blocking_world_laws.specs.declared.event.Act.TheVariants.{JobCancelled, Swept, Took}
use Rattle.blocking_world_laws.specs.declared.event.Act.TheVariants.{TookDropped, TookNone, Stays}
use Rattle.blocking_world_laws.specs.declared.event.Act.TheVariants.{Stopped, Ended}
use Rattle.blocking_world_laws.specs.declared.event.Event.{Event}
use Rattle.blocking_world_laws.specs.declared.event.Moment.{Moment}
use Rattle.blocking_world_laws.specs.declared.event.Party.{Party}
use Rattle.blocking_world_laws.specs.declared.event.Party.TheVariants.{Worker}
use Rattle.blocking_world_laws.specs.declared.event.WaitEnd.TheVariants.{Woken, TimedOut}
use Rattle.blocking_world_laws.proofs.Beginnings.{AcceptsNext, accepts_next}
use Rattle.blocking_world_laws.proofs.Clients.{part, part_joined, part_same, times_part}
use Rattle.blocking_world_laws.proofs.Clients.{first_leaves, without_head, all_kept}
pub use Rattle.blocking_world_laws.proofs.Times.{same_self, times_both, times_one}
use Rattle.blocking_world_laws.proofs.Times.{times_joined, times_kept, times_after, counts_in}
use Rattle.blocking_world_laws.proofs.Times.{first_counts, length_left, length_joined}

-- ---- a job before and after an act

abbrev stands_after : Act → ℕ → Option Standing → Bool → Option Standing
stands_after act s st mark =
    if sweeps act && is_parked st && mark then Some Queued else stands_by act s st

-- how a job stands that an act names
abbrev Meets : Act → ℕ → Option Standing → Type 0
Meets (Accepted t) s st = (t == s) ≡ true → st ≡ None
Meets (JobWoken t Entered) s st = (t == s) ≡ true → st ≡ Some Parked
Meets (JobCancelled t Entered) s st = (t == s) ≡ true → st ≡ Some Parked
Meets (Took t) s st = (t == s) ≡ true → st ≡ Some Queued
Meets (TookDropped t) s st = (t == s) ≡ true → st ≡ Some Queued
Meets (Ended t how) s st = ((t == s) ≡ true → st ≡ Some Running) × (is_running (Some how) ≡ false)
Meets _ s st = Unit {0}

abbrev Test : Type 0
Test = Option Standing → Bool

-- a job that newly stands as the test says comes into the list
comes : (test : Test) (b : Bool) (st new : Option Standing) (n : ℕ) → (b ≡ true → test st ≡ false)
    → test new ≡ true → n ≡ one_if (test st)
    → n + one_if b ≡ one_if (test (if b then new else st))
comes test true st new n was is e =
    ap (λ (k : ℕ). k + 1) (e ∙ ap one_if (was refl)) ∙ sym (ap one_if is)
comes test false st new n was is e = add-zero n ∙ e

-- a job that stands no otherwise to the test stays where it is
keeps : (test : Test) (b : Bool) (st new : Option Standing) (n : ℕ)
    → (b ≡ true → test st ≡ test new) → n ≡ one_if (test st)
    → n + 0 ≡ one_if (test (if b then new else st))
keeps test true st new n same e = add-zero n ∙ e ∙ ap one_if (same refl)
keeps test false st new n same e = add-zero n ∙ e

leaves_by : (test : Test) (b : Bool) (st new : Option Standing) (n : ℕ) → test new ≡ false
    → n ≡ one_if (test st)
    → (if b || false then 0 else n) + 0 ≡ one_if (test (if b then new else st))
leaves_by test true st new n is e = sym (ap one_if is)
leaves_by test false st new n is e = add-zero n ∙ e

-- a job that no longer stands as the test says leaves the list
leaves : (test : Test) (t s : ℕ) (st new : Option Standing) (n : ℕ) → test new ≡ false
    → n ≡ one_if (test st)
    → (if is_in s (t ∷ []) then 0 else n) + 0 ≡ one_if (test (if t == s then new else st))
leaves test t s st new n is e = ap (λ (b : Bool). (if b || false then 0 else n) + 0) (turned s t)
    ∙ leaves_by test (t == s) st new n is e

parked_is : (st : Option Standing) (mark : Bool) → (is_parked st && mark) ≡ true → st ≡ Some Parked
parked_is (Some Parked) mark e = refl
parked_is _ mark e = absurd cc

swept_if : (c : Bool) (st : Option Standing) (mark : Bool) → (is_parked st && mark) ≡ c
    → (if c then one_if (is_some st) else 0) ≡ one_if c
swept_if true st mark e = ap (λ (o : Option Standing). one_if (is_some o)) (parked_is st mark e)
swept_if false st mark e = refl

-- a sweep puts a job back once, where it is parked and marked
swept : (past : List Moment) (s : ℕ)
    → times s (accepted_jobs past) ≡ one_if (is_some (standing past s))
    → times s (to_sweep past) ≡ one_if (is_parked (standing past s) && is_marked past s)
swept past s e =
    times_kept (λ t. is_parked (standing past t) && is_marked past t) s (accepted_jobs past)
    ∙ ap (λ (k : ℕ). if is_parked (standing past s) && is_marked past s then k else 0) e
    ∙ swept_if (is_parked (standing past s) && is_marked past s) (standing past s)
    (is_marked past s) refl

-- ---- what is queued

ended_queue : (past : List Moment) (s t : ℕ) (how : Standing) (st : Option Standing) (n : ℕ)
    → ((t == s) ≡ true → st ≡ Some Running) → n ≡ one_if (is_queued st)
    → n + times s (entered_by past (Ended t how))
    ≡ one_if (is_queued (if t == s then Some how else st))
ended_queue past s t Queued st n meets e = ap (λ (k : ℕ). n + k) (times_one s t)
    ∙ comes is_queued (t == s) st (Some Queued) n (λ b. ap is_queued (meets b)) refl e
ended_queue past s t Running st n meets e =
    keeps is_queued (t == s) st (Some Running) n (λ b. ap is_queued (meets b)) e
ended_queue past s t Parked st n meets e =
    keeps is_queued (t == s) st (Some Parked) n (λ b. ap is_queued (meets b)) e
ended_queue past s t Done st n meets e =
    keeps is_queued (t == s) st (Some Done) n (λ b. ap is_queued (meets b)) e
ended_queue past s t Dropped st n meets e =
    keeps is_queued (t == s) st (Some Dropped) n (λ b. ap is_queued (meets b)) e

swept_queue : (past : List Moment) (s : ℕ) (st : Option Standing) (mark : Bool) (n : ℕ)
    → times s (to_sweep past) ≡ one_if (is_parked st && mark) → n ≡ one_if (is_queued st)
    → n + times s (to_sweep past)
    ≡ one_if (is_queued (if is_parked st && mark then Some Queued else st))
swept_queue past s st mark n sweep e =
    ap (λ (k : ℕ). n + k) sweep ∙ comes is_queued (is_parked st && mark) st (Some Queued) n
    (λ c. ap is_queued (parked_is st mark c)) refl e

queued_after : (past : List Moment) (act : Act) (s : ℕ) (st : Option Standing) (mark : Bool) (n : ℕ)
    → times s (to_sweep past) ≡ one_if (is_parked st && mark)
    → Meets act s st → n ≡ one_if (is_queued st)
    → (if is_in s (taken_by act) then 0 else n) + times s (entered_by past act)
    ≡ one_if (is_queued (stands_after act s st mark))
queued_after past (Accepted t) s st mark n sweep meets e =
    ap (λ (k : ℕ). n + k) (times_one s t)
    ∙ comes is_queued (t == s) st (Some Queued) n (λ b. ap is_queued (meets b)) refl e
queued_after past (JobWoken t Entered) s st mark n sweep meets e =
    ap (λ (k : ℕ). n + k) (times_one s t)
    ∙ comes is_queued (t == s) st (Some Queued) n (λ b. ap is_queued (meets b)) refl e
queued_after past (JobCancelled t Entered) s st mark n sweep meets e =
    ap (λ (k : ℕ). n + k) (times_one s t)
    ∙ comes is_queued (t == s) st (Some Queued) n (λ b. ap is_queued (meets b)) refl e
queued_after past (Took t) s st mark n sweep meets e =
    leaves is_queued t s st (Some Running) n refl e
queued_after past (TookDropped t) s st mark n sweep meets e =
    leaves is_queued t s st (Some Running) n refl e
queued_after past (Ended t how) s st mark n sweep meets e = ended_queue past s t how st n meets.0 e
queued_after past (Swept k) s st mark n sweep meets e = swept_queue past s st mark n sweep e
queued_after past (Stays w TimedOut) s st mark n sweep meets e =
    swept_queue past s st mark n sweep e
queued_after past (Stopped w TimedOut) s st mark n sweep meets e =
    swept_queue past s st mark n sweep e
queued_after past (Stays w Woken) s st mark n sweep meets e = add-zero n ∙ e
queued_after past (Stopped w Woken) s st mark n sweep meets e = add-zero n ∙ e
queued_after past _ s st mark n sweep meets e = add-zero n ∙ e

-- ---- what runs

running_after : (act : Act) (s : ℕ) (st : Option Standing) (mark : Bool) (n : ℕ) → Meets act s st
    → n ≡ one_if (is_running st)
    → (if is_in s (ended_by act) then 0 else n) + times s (taken_by act)
    ≡ one_if (is_running (stands_after act s st mark))
running_after (Accepted t) s st mark n meets e =
    keeps is_running (t == s) st (Some Queued) n (λ b. ap is_running (meets b)) e
running_after (JobWoken t Entered) s st mark n meets e =
    keeps is_running (t == s) st (Some Queued) n (λ b. ap is_running (meets b)) e
running_after (JobCancelled t Entered) s st mark n meets e =
    keeps is_running (t == s) st (Some Queued) n (λ b. ap is_running (meets b)) e
running_after (Took t) s st mark n meets e =
    ap (λ (k : ℕ). n + k) (times_one s t)
    ∙ comes is_running (t == s) st (Some Running) n (λ b. ap is_running (meets b)) refl e
running_after (TookDropped t) s st mark n meets e =
    ap (λ (k : ℕ). n + k) (times_one s t)
    ∙ comes is_running (t == s) st (Some Running) n (λ b. ap is_running (meets b)) refl e
running_after (Ended t how) s st mark n meets e = leaves is_running t s st (Some how) n meets.1 e
running_after (Swept k) s st mark n meets e = keeps is_running (is_parked st && mark) st
    (Some Queued) n (λ c. ap is_running (parked_is st mark c)) e
running_after (Stays w TimedOut) s st mark n meets e = keeps is_running (is_parked st && mark) st
    (Some Queued) n (λ c. ap is_running (parked_is st mark c)) e
running_after (Stopped w TimedOut) s st mark n meets e = keeps is_running (is_parked st && mark) st
    (Some Queued) n (λ c. ap is_running (parked_is st mark c)) e
running_after (Stays w Woken) s st mark n meets e = add-zero n ∙ e
running_after (Stopped w Woken) s st mark n meets e = add-zero n ∙ e
running_after _ s st mark n meets e = add-zero n ∙ e

-- ---- what was accepted

abbrev pub is_known : Option Standing → Bool
is_known st = is_some st

accepted_after : (act : Act) (s : ℕ) (st : Option Standing) (mark : Bool) (n : ℕ) → Meets act s st
    → n ≡ one_if (is_known st)
    → n + times s (accepted_by act) ≡ one_if (is_known (stands_after act s st mark))
accepted_after (Accepted t) s st mark n meets e =
    ap (λ (k : ℕ). n + k) (times_one s t)
    ∙ comes is_known (t == s) st (Some Queued) n (λ b. ap is_known (meets b)) refl e
accepted_after (JobWoken t Entered) s st mark n meets e =
    keeps is_known (t == s) st (Some Queued) n (λ b. ap is_known (meets b)) e
accepted_after (JobCancelled t Entered) s st mark n meets e =
    keeps is_known (t == s) st (Some Queued) n (λ b. ap is_known (meets b)) e
accepted_after (Took t) s st mark n meets e =
    keeps is_known (t == s) st (Some Running) n (λ b. ap is_known (meets b)) e
accepted_after (TookDropped t) s st mark n meets e =
    keeps is_known (t == s) st (Some Running) n (λ b. ap is_known (meets b)) e
accepted_after (Ended t how) s st mark n meets e =
    keeps is_known (t == s) st (Some how) n (λ b. ap is_known (meets.0 b)) e
accepted_after (Swept k) s st mark n meets e = keeps is_known (is_parked st && mark) st
    (Some Queued) n (λ c. ap is_known (parked_is st mark c)) e
accepted_after (Stays w TimedOut) s st mark n meets e = keeps is_known (is_parked st && mark) st
    (Some Queued) n (λ c. ap is_known (parked_is st mark c)) e
accepted_after (Stopped w TimedOut) s st mark n meets e = keeps is_known (is_parked st && mark) st
    (Some Queued) n (λ c. ap is_known (parked_is st mark c)) e
accepted_after (Stays w Woken) s st mark n meets e = add-zero n ∙ e
accepted_after (Stopped w Woken) s st mark n meets e = add-zero n ∙ e
accepted_after _ s st mark n meets e = add-zero n ∙ e

-- no serial beyond the number of these jobs stands in the other list
abbrev pub NoneBeyondOf : List ℕ → List ℕ → Type 0
NoneBeyondOf jobs others = (s : ℕ) → length jobs < s → times s others ≡ 0

-- no serial beyond the number of jobs was accepted
abbrev pub NoneBeyond : List ℕ → Type 0
NoneBeyond jobs = NoneBeyondOf jobs jobs

beyond_by : (b : Bool) (t s : ℕ) (jobs : List ℕ) → (t == s) ≡ b → t ≡ 1 + length jobs
    → 1 + length jobs < s → times s jobs ≡ 0 → times s jobs + one_if b ≡ 0
beyond_by true t s jobs e next over none = let is = eqb-true t s e in
    absurd (omega (arith, is, next, over))
beyond_by false t s jobs e next over none = add-zero (times s jobs) ∙ none

beyond_more : (b : Bool) (t s : ℕ) (jobs : List ℕ) → (t == s) ≡ b → t ≡ 1 + length jobs
    → NoneBeyond jobs → length (jobs ++ t ∷ []) < s → times s jobs + one_if b ≡ 0
beyond_more b t s jobs e next none over =
    let long : length (jobs ++ t ∷ []) ≡ length jobs + 1 = length-append jobs (t ∷ []) in
    beyond_by b t s jobs e next (omega (arith, long, over)) (none s (omega (arith, long, over)))

beyond_after : (setting : ℕ) (past : List Moment) (now : Moment) (act : Act)
    → PoolAnswers setting past now act → NoneBeyond (accepted_jobs past)
    → NoneBeyond (joined (accepted_jobs past) (accepted_by act))
beyond_after setting past now (Accepted t) answers none = λ s over.
    times_both s (accepted_jobs past) (t ∷ [])
    ∙ ap (λ (k : ℕ). times s (accepted_jobs past) + k) (times_one s t)
    ∙ beyond_more (t == s) t s (accepted_jobs past) refl answers.0 none over
beyond_after setting past now _ answers none = none

-- ---- whose turn it is

-- what is known of the hands: what they hold runs, and no two hold one job
pub record Hands (past : List Moment) : Type 0 where
  pub held : (w s : ℕ) → hand past w ≡ Some s → standing past s ≡ Some Running
  pub alone : (v w s : ℕ) → hand past v ≡ Some s → hand past w ≡ Some s → v ≡ w

-- a job that runs isn't one that the act meets elsewhere
runs_on : (b : Bool) (st met new : Option Standing) → (b ≡ true → st ≡ met) → is_running met ≡ false
    → st ≡ Some Running → (if b then new else st) ≡ Some Running
runs_on true st met new meets other runs = let bad : true ≡ false =
    sym (ap is_running runs) ∙ ap is_running (meets refl) ∙ other in absurd cc
runs_on false st met new meets other runs = runs

run_again : (b : Bool) (st : Option Standing) → st ≡ Some Running
    → (if b then Some Running else st) ≡ Some Running
run_again true st runs = refl
run_again false st runs = runs

held_one : (is_own : Bool) (t s : ℕ) (held : Option ℕ) (st : Option Standing)
    → (held ≡ Some s → st ≡ Some Running) → (if is_own then Some t else held) ≡ Some s
    → (if t == s then Some Running else st) ≡ Some Running
held_one true t s held st runs e =
    let is : t ≡ s = cc e in
    subst (λ (u : ℕ). (if t == u then Some Running else st) ≡ Some Running) is
    (ap (λ (b : Bool). if b then Some Running else st) (eq-eqb t t refl))
held_one false t s held st runs e = run_again (t == s) st (runs e)

-- a hand that the end of another's turn leaves: it holds another job
ends_other : (past : List Moment) (hands : Hands past) (party : Party) (w t s : ℕ) (how : Standing)
    → hand_of past party ≡ Some t → is_worker w party ≡ false → hand past w ≡ Some s
    → (b : Bool) → (t == s) ≡ b → (if b then Some how else standing past s) ≡ Some Running
ends_other past hands (Worker v) w t s how holds other e true same =
    let there : hand past v ≡ Some s =
    subst (λ (u : ℕ). hand past v ≡ Some u) (eqb-true t s same) holds in
    let one : v ≡ w = hands.alone v w s there e in
    let bad : true ≡ false = sym (eq-eqb w w refl) ∙ ap (λ (u : ℕ). u == w) (sym one) ∙ other in
    absurd cc
ends_other past hands (Worker v) w t s how holds other e false same = hands.held w s e
ends_other past hands _ w t s how holds other e b same = absurd cc

ended_hand : (past : List Moment) (hands : Hands past) (party : Party) (is_own : Bool) (w t s : ℕ)
    (how : Standing) → hand_of past party ≡ Some t → is_worker w party ≡ is_own
    → (if is_own then None else hand past w) ≡ Some s
    → (if t == s then Some how else standing past s) ≡ Some Running
ended_hand past hands party true w t s how holds own e = absurd cc
ended_hand past hands party false w t s how holds own e =
    ends_other past hands party w t s how holds own e (t == s) refl

held_after : (past : List Moment) (event : Event) (act : Act) (w s : ℕ) → Hands past
    → Meets act s (standing past s) → HoldsOne past event act
    → hand_by act (is_worker w event.party) (hand past w) ≡ Some s
    → stands_after act s (standing past s) (is_marked past s) ≡ Some Running
held_after past event (Accepted t) w s hands meets one e =
    runs_on (t == s) (standing past s) None (Some Queued) meets refl (hands.held w s e)
held_after past event (JobWoken t Entered) w s hands meets one e =
    runs_on (t == s) (standing past s) (Some Parked) (Some Queued) meets refl (hands.held w s e)
held_after past event (JobCancelled t Entered) w s hands meets one e =
    runs_on (t == s) (standing past s) (Some Parked) (Some Queued) meets refl (hands.held w s e)
held_after past event (Took t) w s hands meets one e =
    held_one (is_worker w event.party) t s (hand past w) (standing past s) (hands.held w s) e
held_after past event (TookDropped t) w s hands meets one e =
    held_one (is_worker w event.party) t s (hand past w) (standing past s) (hands.held w s) e
held_after past event (Ended t how) w s hands meets one e =
    ended_hand past hands event.party (is_worker w event.party) w t s how one refl e
held_after past event (Swept n) w s hands meets one e =
    runs_on (is_parked (standing past s) && is_marked past s) (standing past s) (Some Parked)
    (Some Queued) (parked_is (standing past s) (is_marked past s)) refl (hands.held w s e)
held_after past event (Stays v TimedOut) w s hands meets one e =
    runs_on (is_parked (standing past s) && is_marked past s) (standing past s) (Some Parked)
    (Some Queued) (parked_is (standing past s) (is_marked past s)) refl (hands.held w s e)
held_after past event (Stopped v TimedOut) w s hands meets one e =
    runs_on (is_parked (standing past s) && is_marked past s) (standing past s) (Some Parked)
    (Some Queued) (parked_is (standing past s) (is_marked past s)) refl (hands.held w s e)
held_after past event (Stays v Woken) w s hands meets one e = hands.held w s e
held_after past event (Stopped v Woken) w s hands meets one e = hands.held w s e
held_after past event _ w s hands meets one e = hands.held w s e

same_worker : (party : Party) (v w : ℕ) → is_worker v party ≡ true → is_worker w party ≡ true
    → v ≡ w
same_worker (Worker u) v w one two = sym (eqb-true u v one) ∙ eqb-true u w two
same_worker _ v w one two = absurd cc

-- the job that a hand takes is in no other hand
not_held : (past : List Moment) (hands : Hands past) (w t s : ℕ) → t ≡ s
    → ((t == s) ≡ true → standing past s ≡ Some Queued) → hand past w ≡ Some s → ⊥
not_held past hands w t s is meets e =
    let self : (t == s) ≡ true = subst (λ (u : ℕ). (t == u) ≡ true) is (eq-eqb t t refl) in
    let bad : true ≡ false = sym (ap is_running (hands.held w s e)) ∙ ap is_running (meets self) in
    cc

took_alone : (past : List Moment) (hands : Hands past) (party : Party) (b c : Bool) (v w t s : ℕ)
    → ((t == s) ≡ true → standing past s ≡ Some Queued)
    → is_worker v party ≡ b → is_worker w party ≡ c → (if b then Some t else hand past v) ≡ Some s
    → (if c then Some t else hand past w) ≡ Some s → v ≡ w
took_alone past hands party true true v w t s meets one two e f = same_worker party v w one two
took_alone past hands party true false v w t s meets one two e f =
    absurd (not_held past hands w t s (cc e) meets f)
took_alone past hands party false true v w t s meets one two e f =
    absurd (not_held past hands v t s (cc f) meets e)
took_alone past hands party false false v w t s meets one two e f = hands.alone v w s e f

ended_alone : (past : List Moment) (hands : Hands past) (b c : Bool) (v w s : ℕ)
    → (if b then None else hand past v) ≡ Some s → (if c then None else hand past w) ≡ Some s
    → v ≡ w
ended_alone past hands true c v w s e f = absurd cc
ended_alone past hands false true v w s e f = absurd cc
ended_alone past hands false false v w s e f = hands.alone v w s e f

alone_after : (past : List Moment) (event : Event) (act : Act) (v w s : ℕ) → Hands past
    → Meets act s (standing past s)
    → hand_by act (is_worker v event.party) (hand past v) ≡ Some s
    → hand_by act (is_worker w event.party) (hand past w) ≡ Some s → v ≡ w
alone_after past event (Took t) v w s hands meets e f = took_alone past hands event.party
    (is_worker v event.party) (is_worker w event.party) v w t s meets refl refl e f
alone_after past event (TookDropped t) v w s hands meets e f = took_alone past hands event.party
    (is_worker v event.party) (is_worker w event.party) v w t s meets refl refl e f
alone_after past event (Ended t how) v w s hands meets e f =
    ended_alone past hands (is_worker v event.party) (is_worker w event.party) v w s e f
alone_after past event _ v w s hands meets e f = hands.alone v w s e f

-- ---- what the laws say of the job that an act names

-- What is known of a past that keeps the pool's law: which jobs were accepted, are queued and run,
-- each once; what the hands hold; that no other job ever entered; and of each client, that its
-- entries are its takes and then its part of the queue.
pub record Sound (past : List Moment) : Type 0 where
  pub accepted : (s : ℕ) → times s (accepted_jobs past) ≡ one_if (is_known (standing past s))
  pub beyond : NoneBeyond (accepted_jobs past)
  pub queued : (s : ℕ) → times s (queue past) ≡ one_if (is_queued (standing past s))
  pub runs : (s : ℕ) → times s (running past) ≡ one_if (is_running (standing past s))
  pub hands : Hands past
  pub within : NoneBeyondOf (accepted_jobs past) (entries past)
  pub counted : length (entries past) ≡ length (takes past) + length (queue past)
  pub entered : (c : ℕ) → of_client past c (entries past)
      ≡ of_client past c (takes past) ++ of_client past c (queue past)

unknown_is : (st : Option Standing) → one_if (is_known st) ≡ 0 → st ≡ None
unknown_is None e = refl
unknown_is (Some how) e = absurd (omega (arith, e))

queued_is : (st : Option Standing) (n : ℕ) → 1 + n ≡ one_if (is_queued st) → st ≡ Some Queued
queued_is (Some Queued) n e = refl
queued_is _ n e = absurd (omega (arith, e))

woken_is : (st : Option Standing) → Entered ≡ wake_of st → st ≡ Some Parked
woken_is (Some Parked) e = refl
woken_is _ e = absurd cc

cancelled_is : (st : Option Standing) → Entered ≡ cancel_of st → st ≡ Some Parked
cancelled_is (Some Parked) e = refl
cancelled_is _ e = absurd cc

taken_if : (b : Bool) (n : ℕ) → job_taken (if b then TookDropped n else Took n) ≡ Some n
taken_if true n = refl
taken_if false n = refl

first_taken : (past : List Moment) (s : ℕ) (ns : List ℕ) → Some s ≡ job_taken (take_from past ns)
    → first_of ns ≡ Some s
first_taken past s [] e = absurd cc
first_taken past s (n ∷ ns) e = sym (e ∙ taken_if (is_to_drop past n) n)

-- the job that a take gives is the first that is ready, it is queued, and it stands once in the
-- queue
pub record IsTaken (past : List Moment) (s : ℕ) : Type 0 where
  pub first : first_of (ready past) ≡ Some s
  pub stands : standing past s ≡ Some Queued
  pub once : times s (queue past) ≡ 1

-- what stands in the queue is queued
queued_once : (st : Option Standing) (n : ℕ) → 0 < n → n ≡ one_if (is_queued st)
    → (st ≡ Some Queued) × (n ≡ 1)
queued_once (Some Queued) n some e = (refl, e)
queued_once _ n some e = absurd (omega (arith, some, e))

some_kept : (b : Bool) (n : ℕ) → 0 < (if b then n else 0) → 0 < n
some_kept true n some = some
some_kept false n some = absurd (omega (arith, some))

taken_is : (past : List Moment) (s : ℕ) → Sound past → first_of (ready past) ≡ Some s
    → IsTaken past s
taken_is past s sound first =
    let there : 0 < times s (ready past) = first_counts s (ready past) first in
    let kept : 0 < (if has_room past (client past s) then times s (queue past) else 0) =
    subst (λ (n : ℕ). 0 < n) (times_kept (λ t. has_room past (client past t)) s (queue past))
    there in
    let both = queued_once (standing past s) (times s (queue past))
    (some_kept (has_room past (client past s)) (times s (queue past)) kept) (sound.queued s) in
    record { first = first; stands = both.0; once = both.1 }

taken_so : (past : List Moment) (s : ℕ) → Sound past → Some s ≡ job_taken (take_answer past)
    → IsTaken past s
taken_so past s sound e = taken_is past s sound (first_taken past s (ready past) e)

stands_at : (past : List Moment) (st : Option Standing) (t s : ℕ) → (t == s) ≡ true
    → standing past t ≡ st → standing past s ≡ st
stands_at past st t s same e = subst (λ (u : ℕ). standing past u ≡ st) (eqb-true t s same) e

new_is : (past : List Moment) (t s : ℕ) → Sound past → t ≡ 1 + length (accepted_jobs past)
    → (t == s) ≡ true → standing past s ≡ None
new_is past t s sound next same =
    let is = eqb-true t s same in
    unknown_is (standing past s) (sym (sound.accepted s) ∙ sound.beyond s (omega (arith, is, next)))

in_hand : (past : List Moment) (party : Party) (t : ℕ) → Sound past → hand_of past party ≡ Some t
    → standing past t ≡ Some Running
in_hand past (Worker w) t sound e = sound.hands.held w t e
in_hand past _ t sound e = absurd cc

-- how an act ends a turn
abbrev ended_how : Act → Option Standing
ended_how (Ended s how) = Some how
ended_how _ = None

never_running : (at : Turn) (drop woken : Bool) (s : ℕ)
    → is_running (ended_how (end_of at drop woken s)) ≡ false
never_running IsWaiting true woken s = refl
never_running IsWaiting false true s = refl
never_running IsWaiting false false s = refl
never_running HasGivenUp drop woken s = refl
never_running MustGiveUp drop woken s = refl
never_running GoesOn drop woken s = refl

meets : (setting : ℕ) (past : List Moment) (now : Moment) (act : Act) (s : ℕ) → Sound past
    → PoolAnswers setting past now act → HoldsOne past now.event act → Meets act s (standing past s)
meets setting past now (Accepted t) s sound answers one = new_is past t s sound answers.0
meets setting past now (JobWoken t Entered) s sound answers one =
    λ same. stands_at past (Some Parked) t s same (woken_is (standing past t) answers)
meets setting past now (JobCancelled t Entered) s sound answers one =
    λ same. stands_at past (Some Parked) t s same (cancelled_is (standing past t) answers)
meets setting past now (Took t) s sound answers one = λ same.
    stands_at past (Some Queued) t s same (taken_so past t sound (ap job_taken answers)).stands
meets setting past now (TookDropped t) s sound answers one = λ same.
    stands_at past (Some Queued) t s same (taken_so past t sound (ap job_taken answers)).stands
meets setting past now (Ended t how) s sound answers one = (
  λ same. stands_at past (Some Running) t s same (in_hand past now.event.party t sound one),
  ap (λ (a : Act). is_running (ended_how a)) answers
      ∙ never_running (turn past t) (is_to_drop past t) (is_woken past t) t,
)
meets setting past now _ s sound answers one = tt

-- ---- what entered and wasn't taken

-- how many entered, where one is taken
took_one : (past : List Moment) (t : ℕ) → IsTaken past t
    → length (entries past) ≡ length (takes past) + length (queue past)
    → length (entries past) ≡ length (takes past ++ t ∷ []) + length (without t (queue past))
took_one past t taken count =
    let left = length_left t (queue past) in
    let long = length-append (takes past) (t ∷ []) in
    let once = taken.once in
    omega (arith, count, left, long, once)

entered_more : (before taken line new : List ℕ) → length before ≡ length taken + length line
    → length (joined before new) ≡ length taken + length (joined line new)
entered_more before taken line new count =
    let one = length_joined before new in
    let two = length_joined line new in
    omega (arith, count, one, two)

counted_after : (setting : ℕ) (past : List Moment) (now : Moment) (act : Act) → Sound past
    → PoolAnswers setting past now act
    → length (joined (entries past) (entered_by past act))
    ≡ length (joined (takes past) (taken_by act))
    + length (joined (without_all (taken_by act) (queue past)) (entered_by past act))
counted_after setting past now (Took t) sound answers =
    took_one past t (taken_so past t sound (ap job_taken answers)) sound.counted
counted_after setting past now (TookDropped t) sound answers =
    took_one past t (taken_so past t sound (ap job_taken answers)) sound.counted
counted_after setting past now act sound answers =
    entered_more (entries past) (takes past) (queue past) (entered_by past act) sound.counted

-- a job that stands nowhere isn't among what enters
within_after : (line before new : List ℕ) (s : ℕ) (st : Option Standing) → times s before ≡ 0
    → st ≡ None → times s (joined line new) ≡ one_if (is_queued st)
    → times s (joined before new) ≡ 0
within_after line before new s st none unknown queued =
    let here = times_joined s line new in
    let there = times_joined s before new in
    let nowhere : one_if (is_queued st) ≡ 0 =
    ap (λ (o : Option Standing). one_if (is_queued o)) unknown in
    omega (arith, here, there, none, queued, nowhere)

fewer_before : (jobs new : List ℕ) (s : ℕ) → length (joined jobs new) < s → length jobs < s
fewer_before jobs new s over = let long = length_joined jobs new in omega (arith, long, over)

-- the clients after an act, which may bring a job of a new one
abbrev pub client_by : Act → ℕ → (ℕ → ℕ) → ℕ → ℕ
client_by act new client s = if accepts s act then new else client s

-- a job that was accepted keeps its client
keeps_client : (past : List Moment) (act : Act) (new : ℕ) (jobs : List ℕ)
    → AcceptsNext (accepted_jobs past) act → NoneBeyondOf (accepted_jobs past) jobs
    → (s : ℕ) → is_in s jobs ≡ true → client_by act new (client past) s ≡ client past s
keeps_client past (Accepted t) new jobs next within s found = by (t == s) refl
  where
    by : (b : Bool) → (t == s) ≡ b → (if b then new else client past s) ≡ client past s
    by true same = let is : t ≡ s = eqb-true t s same in
        absurd (counts_in s jobs found (within s (omega (arith, is, next))))
    by false same = refl
keeps_client past _ new jobs next within s found = refl

-- each job entered as often as it was taken and is queued
parts_count : (past : List Moment) → Sound past → (s : ℕ)
    → times s (entries past) ≡ times s (takes past) + times s (queue past)
parts_count past sound s =
    let all = times_part (client past) s (entries past) in
    let taken = times_part (client past) s (takes past) in
    let line = times_part (client past) s (queue past) in
    let both = ap (times s) (sound.entered (client past s))
    ∙ times_both s (of_client past (client past s) (takes past))
    (of_client past (client past s) (queue past)) in
    omega (arith, all, taken, line, both)

takes_within : (past : List Moment) → Sound past → NoneBeyondOf (accepted_jobs past) (takes past)
takes_within past sound s over = let count = parts_count past sound s in
    let none = sound.within s over in omega (arith, count, none)

queue_within : (past : List Moment) → Sound past → NoneBeyondOf (accepted_jobs past) (queue past)
queue_within past sound s over = let count = parts_count past sound s in
    let none = sound.within s over in omega (arith, count, none)

-- the parts of a client are the same after an act
same_parts : (setting : ℕ) (past : List Moment) (now : Moment) (act : Act) (new c : ℕ) → Sound past
    → PoolAnswers setting past now act
    → part (client_by act new (client past)) c (entries past)
    ≡ part (client_by act new (client past)) c (takes past)
    ++ part (client_by act new (client past)) c (queue past)
same_parts setting past now act new c sound answers =
    let after = client_by act new (client past) in
    let next = accepts_next setting past now act answers in
    part_same after (client past) c (entries past)
    (keeps_client past act new (entries past) next sound.within)
    ∙ sound.entered c
    ∙ ap (λ (ns : List ℕ). ns ++ of_client past c (queue past))
    (sym (part_same after (client past) c (takes past)
    (keeps_client past act new (takes past) next (takes_within past sound))))
    ∙ ap (λ (ns : List ℕ). part after c (takes past) ++ ns)
    (sym (part_same after (client past) c (queue past)
    (keeps_client past act new (queue past) next (queue_within past sound))))

took_part : (past : List Moment) (t c : ℕ) → Sound past → IsTaken past t
    → of_client past c (entries past)
    ≡ of_client past c (takes past ++ t ∷ []) ++ of_client past c (without t (queue past))
took_part past t c sound taken =
    sound.entered c
    ∙ ap (λ (ns : List ℕ). of_client past c (takes past) ++ ns)
    (first_leaves (has_room past) (client past) c t (queue past) taken.first taken.once)
    ∙ sym (append_assoc (of_client past c (takes past)) (of_client past c (t ∷ []))
    (of_client past c (without t (queue past))))
    ∙ ap (λ (ns : List ℕ). ns ++ of_client past c (without t (queue past)))
    (sym (filter-append (λ s. client past s == c) (takes past) (t ∷ [])))

enters_last : (client : ℕ → ℕ) (c : ℕ) (before taken line new : List ℕ)
    → part client c before ≡ part client c taken ++ part client c line
    → part client c (joined before new) ≡ part client c taken ++ part client c (joined line new)
enters_last client c before taken line new e =
    part_joined client c before new ∙ ap (λ (ns : List ℕ). ns ++ part client c new) e
    ∙ append_assoc (part client c taken) (part client c line) (part client c new)
    ∙ ap (λ (ns : List ℕ). part client c taken ++ ns) (sym (part_joined client c line new))

entered_after : (setting : ℕ) (past : List Moment) (now : Moment) (act : Act) (new c : ℕ)
    → Sound past → PoolAnswers setting past now act
    → part (client_by act new (client past)) c (joined (entries past) (entered_by past act))
    ≡ part (client_by act new (client past)) c (joined (takes past) (taken_by act))
    ++ part (client_by act new (client past)) c
    (joined (without_all (taken_by act) (queue past)) (entered_by past act))
entered_after setting past now (Took t) new c sound answers =
    took_part past t c sound (taken_so past t sound (ap job_taken answers))
entered_after setting past now (TookDropped t) new c sound answers =
    took_part past t c sound (taken_so past t sound (ap job_taken answers))
entered_after setting past now act new c sound answers =
    enters_last (client_by act new (client past)) c (entries past) (takes past) (queue past)
    (entered_by past act) (same_parts setting past now act new c sound answers)

-- ---- each moment

-- An event that is answered rightly, and finds the hands so, keeps what is known; whatever it
-- starts.
pub sound_after : (setting : ℕ) (past : List Moment) (now : Moment) → Sound past
    → AnswerLaw setting past now → HoldsOne past now.event now.event.act → Sound (now ∷ past)
sound_after setting past now sound answers one =
    let act = now.event.act in
    let named : (s : ℕ) → Meets act s (standing past s) =
    λ s. meets setting past now act s sound answers one in
    let knows : (s : ℕ)
    → times s (accepted_jobs (now ∷ past)) ≡ one_if (is_known (standing (now ∷ past) s)) =
    λ s. times_joined s (accepted_jobs past) (accepted_by act)
    ∙ accepted_after act s (standing past s) (is_marked past s) (times s (accepted_jobs past))
    (named s) (sound.accepted s) in
    let none : NoneBeyond (accepted_jobs (now ∷ past)) =
    beyond_after setting past now act answers sound.beyond in
    let lines : (s : ℕ)
    → times s (queue (now ∷ past)) ≡ one_if (is_queued (standing (now ∷ past) s)) =
    λ s. times_after s (taken_by act) (entered_by past act) (queue past)
    ∙ queued_after past act s (standing past s) (is_marked past s) (times s (queue past))
    (swept past s (sound.accepted s)) (named s) (sound.queued s) in
    record {
      accepted = knows;
      beyond = none;
      queued = lines;
      runs = λ s. times_after s (ended_by act) (taken_by act) (running past)
          ∙ running_after act s (standing past s) (is_marked past s) (times s (running past))
          (named s) (sound.runs s);
      hands = record {
        held = λ w s e. held_after past now.event act w s sound.hands (named s) one e;
        alone = λ v w s e f. alone_after past now.event act v w s sound.hands (named s) e f;
      };
      within = λ s over. within_after (without_all (taken_by act) (queue past)) (entries past)
          (entered_by past act) s (standing (now ∷ past) s)
          (sound.within s (fewer_before (accepted_jobs past) (accepted_by act) s over))
          (unknown_is (standing (now ∷ past) s) (sym (knows s) ∙ none s over)) (lines s);
      counted = counted_after setting past now act sound answers;
      entered =
          λ c. entered_after setting past now act (client_of_step past now.step) c sound answers;
    }

no_hand : (s : ℕ) → None ≡ Some s → ⊥
no_hand s e = cc

pub sound_of : (setting : ℕ) (plan : List Bool) (past : List Moment)
    → EachMayFollow (PoolLaw setting plan) past → Sound past
sound_of setting plan [] laws = record {
  accepted = λ s. refl;
  beyond = λ s over. refl;
  queued = λ s. refl;
  runs = λ s. refl;
  hands =
      record { held = λ w s e. absurd (no_hand s e); alone = λ v w s e f. absurd (no_hand s e) };
  within = λ s over. refl;
  counted = refl;
  entered = λ c. refl;
}
sound_of setting plan (now ∷ past) laws =
    sound_after setting past now (sound_of setting plan past laws.1) laws.0.answers laws.0.turns.one

-- what of a client entered was taken, or is queued
pub entered_so : (setting : ℕ) (plan : List Bool) (past : List Moment)
    → EachMayFollow (PoolLaw setting plan) past
    → (c : ℕ) → of_client past c (entries past)
    ≡ of_client past c (takes past) ++ of_client past c (queue past)
entered_so setting plan past laws = (sound_of setting plan past laws).entered

pub count_so : (setting : ℕ) (plan : List Bool) (past : List Moment)
    → EachMayFollow (PoolLaw setting plan) past
    → length (queue past) ≡ length (entries past) - length (takes past)
count_so setting plan past laws = let all = (sound_of setting plan past laws).counted in
    omega (arith, all)

-- a job of a serial that wasn't given stands nowhere
pub stands_nowhere : (past : List Moment) → Sound past → (s : ℕ) → length (accepted_jobs past) < s
    → standing past s ≡ None
stands_nowhere past sound s over =
    unknown_is (standing past s) (sym (sound.accepted s) ∙ sound.beyond s over)

-- each job entered as often as it was taken and is queued
pub times_so : (setting : ℕ) (plan : List Bool) (past : List Moment)
    → EachMayFollow (PoolLaw setting plan) past → (s : ℕ)
    → times s (entries past) ≡ times s (takes past) + times s (queue past)
times_so setting plan past laws = parts_count past (sound_of setting plan past laws)

-- what is first of the ready jobs is queued, and stands once in the queue
pub first_so : (setting : ℕ) (plan : List Bool) (past : List Moment)
    → EachMayFollow (PoolLaw setting plan) past → (s : ℕ) → first_of (ready past) ≡ Some s
    → IsTaken past s
first_so setting plan past laws s first = taken_is past s (sound_of setting plan past laws) first

pub queued_so : (setting : ℕ) (plan : List Bool) (past : List Moment)
    → EachMayFollow (PoolLaw setting plan) past → (s : ℕ)
    → times s (queue past) ≡ one_if (is_queued (standing past s))
queued_so setting plan past laws = (sound_of setting plan past laws).queued

pub runs_so : (setting : ℕ) (plan : List Bool) (past : List Moment)
    → EachMayFollow (PoolLaw setting plan) past → (s : ℕ)
    → times s (running past) ≡ one_if (is_running (standing past s))
runs_so setting plan past laws = (sound_of setting plan past laws).runs

-- what is in a hand runs
pub held_so : (setting : ℕ) (plan : List Bool) (past : List Moment)
    → EachMayFollow (PoolLaw setting plan) past → (w s : ℕ) → hand past w ≡ Some s
    → standing past s ≡ Some Running
held_so setting plan past laws = (sound_of setting plan past laws).hands.held

-- what stands somewhere was accepted, once
pub known_so : (setting : ℕ) (plan : List Bool) (past : List Moment)
    → EachMayFollow (PoolLaw setting plan) past → (s : ℕ)
    → times s (accepted_jobs past) ≡ (if is_some (standing past s) then 1 else 0)
known_so setting plan past laws = (sound_of setting plan past laws).accepted

-- where the answers are right, each client's order of entry is kept
pub order_after : (setting : ℕ) (plan : List Bool) (past : List Moment) (now : Moment)
    → EachMayFollow (PoolLaw setting plan) past → AnswerLaw setting past now → InOrder (now ∷ past)
order_after setting plan past now laws answers c = (
  of_client (now ∷ past) c (queue (now ∷ past)),
  entered_after setting past now now.event.act (client_of_step past now.step) c
      (sound_of setting plan past laws) answers,
)

-- ---- what a take gives

-- a take gives the first ready job
pub take_first : (setting : ℕ) (past : List Moment) (now : Moment) (act : Act) (s : ℕ)
    → PoolAnswers setting past now act → job_taken act ≡ Some s → first_of (ready past) ≡ Some s
take_first setting past now (Took t) s answers e =
    first_taken past s (ready past) (sym e ∙ ap job_taken answers)
take_first setting past now (TookDropped t) s answers e =
    first_taken past s (ready past) (sym e ∙ ap job_taken answers)
take_first setting past now _ s answers e = absurd cc

none_from : (past : List Moment) (ns : List ℕ) → TookNone ≡ take_from past ns → ns ≡ []
none_from past [] e = refl
none_from past (n ∷ ns) e = let bad : None ≡ Some n =
    ap job_taken e ∙ taken_if (is_to_drop past n) n in absurd cc

-- a take finds none only where none is ready
pub idle_none : (setting : ℕ) (past : List Moment) (now : Moment) (act : Act)
    → PoolAnswers setting past now act → act ≡ TookNone → ready past ≡ []
idle_none setting past now act answers e =
    none_from past (ready past) (subst (λ (a : Act). PoolAnswers setting past now a) e answers)

-- where none is ready a take finds none
pub none_idle : (setting : ℕ) (past : List Moment) (now : Moment) (act : Act) → is_take act ≡ true
    → PoolAnswers setting past now act → ready past ≡ [] → act ≡ TookNone
none_idle setting past now (Took t) take answers none = answers ∙ ap (take_from past) none
none_idle setting past now (TookDropped t) take answers none = answers ∙ ap (take_from past) none
none_idle setting past now TookNone take answers none = refl
none_idle setting past now _ take answers none = absurd cc

-- what a take answers, where this is the first ready job
pub answer_of_first : (past : List Moment) (s : ℕ) (ns : List ℕ) → first_of ns ≡ Some s
    → take_from past ns ≡ (if is_to_drop past s then TookDropped s else Took s)
answer_of_first past s [] e = absurd cc
answer_of_first past s (n ∷ ns) e = let same : n ≡ s = cc in
    ap (λ (m : ℕ). if is_to_drop past m then TookDropped m else Took m) same

-- ---- where all that is queued is ready

-- where no client limit is set
pub all_ready : (past : List Moment) → client_limit past ≡ None → ready past ≡ queue past
all_ready past none =
    all_kept (λ s. has_room past (client past s)) (queue past) (λ s. ap (λ (l : Option ℕ).
    is_below l (length (of_client past (client past s) (running past)))) none)

room_for_one : (limit : Option ℕ) → IfSome limit (λ n. 0 < n) → is_below limit 0 ≡ true
room_for_one None some = refl
room_for_one (Some n) some = grind (arith, nat_tests)

-- where no job runs each client has room, whatever the limit
pub room_beside_none : (past : List Moment) → running past ≡ []
    → IfSome (client_limit past) (λ n. 0 < n) → (c : ℕ) → has_room past c ≡ true
room_beside_none past none some c =
    ap (λ (ns : List ℕ). is_below (client_limit past) (length (of_client past c ns))) none
    ∙ room_for_one (client_limit past) some

-- so there each queued job is ready
pub ready_beside_none : (past : List Moment) → running past ≡ []
    → IfSome (client_limit past) (λ n. 0 < n) → ready past ≡ queue past
ready_beside_none past none some = all_kept (λ s. has_room past (client past s)) (queue past)
    (λ s. room_beside_none past none some (client past s))

-- ---- where no client limit was ever set, all jobs are taken in the order of entry

pub unlimited_now : (past : List Moment) → NeverLimited past → client_limit past ≡ None
unlimited_now [] free = free
unlimited_now (now ∷ past) free = free.0

took_front : (past : List Moment) (t : ℕ) → IsTaken past t → client_limit past ≡ None
    → entries past ≡ takes past ++ queue past
    → entries past ≡ (takes past ++ t ∷ []) ++ without t (queue past)
took_front past t taken none e =
    e
    ∙ ap (λ (ns : List ℕ). takes past ++ ns) (without_head t (queue past)
    (ap first_of (sym (all_ready past none)) ∙ taken.first) taken.once)
    ∙ sym (append_assoc (takes past) (t ∷ []) (without t (queue past)))

enters_behind : (before taken line new : List ℕ) → before ≡ taken ++ line
    → joined before new ≡ taken ++ joined line new
enters_behind before taken line [] e = e
enters_behind before taken line (n ∷ new) e =
    ap (λ (ns : List ℕ). ns ++ n ∷ new) e ∙ append_assoc taken line (n ∷ new)

unlimited_after : (setting : ℕ) (past : List Moment) (now : Moment) (act : Act)
    → Sound past → PoolAnswers setting past now act → client_limit past ≡ None
    → entries past ≡ takes past ++ queue past
    → joined (entries past) (entered_by past act) ≡ joined (takes past) (taken_by act)
    ++ joined (without_all (taken_by act) (queue past)) (entered_by past act)
unlimited_after setting past now (Took t) sound answers none e =
    took_front past t (taken_so past t sound (ap job_taken answers)) none e
unlimited_after setting past now (TookDropped t) sound answers none e =
    took_front past t (taken_so past t sound (ap job_taken answers)) none e
unlimited_after setting past now act sound answers none e =
    enters_behind (entries past) (takes past) (queue past) (entered_by past act) e

pub unlimited_so : (setting : ℕ) (plan : List Bool) (past : List Moment)
    → EachMayFollow (PoolLaw setting plan) past → NeverLimited past
    → entries past ≡ takes past ++ queue past
unlimited_so setting plan [] laws free = refl
unlimited_so setting plan (now ∷ past) laws free =
    unlimited_after setting past now now.event.act (sound_of setting plan past laws.1)
    laws.0.answers (unlimited_now past free.1) (unlimited_so setting plan past laws.1 free.1)

-- ---- what is ready with a new job

-- the ready jobs after an act, which may bring a job of a new client
abbrev pub ready_by : List Moment → Act → ℕ → List ℕ
ready_by past act new =
    filter
    (λ s. is_below (client_limit_by act (client_limit past))
    (length (part (client_by act new (client past)) (client_by act new (client past) s)
    (joined (without_all (ended_by act) (running past)) (taken_by act)))))
    (joined (without_all (taken_by act) (queue past)) (entered_by past act))

runs_within : (past : List Moment) → Sound past → NoneBeyondOf (accepted_jobs past) (running past)
runs_within past sound s over =
    sound.runs s ∙ ap (λ (st : Option Standing). one_if (is_running st))
    (unknown_is (standing past s) (sym (sound.accepted s) ∙ sound.beyond s over))

one_kept : (b : Bool) (test : ℕ → Bool) (s : ℕ) → test s ≡ b
    → filter test (s ∷ []) ≡ (if b then s ∷ [] else [])
one_kept b test s e = ap (λ (c : Bool). cond c (s ∷ []) []) e

-- A new job changes nothing for those that were there, and it is ready itself where its client has
-- room.
ready_beside : (past : List Moment) (line : List ℕ) (s c : ℕ) (clients : ℕ → ℕ) → clients s ≡ c
    → ((t : ℕ) → is_in t line ≡ true → clients t ≡ client past t)
    → ((t : ℕ) → is_in t (running past) ≡ true → clients t ≡ client past t)
    → filter (λ t. is_below (client_limit past) (length (part clients (clients t) (running past))))
    (line ++ s ∷ [])
    ≡ filter (λ t. has_room past (client past t)) line ++ (if has_room past c then s ∷ [] else [])
ready_beside past line s c clients new queued runs =
    filter-append test line (s ∷ [])
    ∙ ap (λ (ns : List ℕ). ns ++ filter test (s ∷ []))
    (filter_same test (λ t. has_room past (client past t)) line
    (λ t found. room (clients t) ∙ ap (has_room past) (queued t found)))
    ∙ ap (λ (ns : List ℕ). filter (λ t. has_room past (client past t)) line ++ ns)
    (one_kept (has_room past c) test s (room (clients s) ∙ ap (has_room past) new))
  where
    test : ℕ → Bool
    test t = is_below (client_limit past) (length (part clients (clients t) (running past)))

    room : (d : ℕ)
        → is_below (client_limit past) (length (part clients d (running past))) ≡ has_room past d
    room d = ap (λ (ns : List ℕ). is_below (client_limit past) (length ns))
        (part_same clients (client past) d (running past) runs)

-- the ready jobs after a new one, which is ready itself where its client has room
pub ready_new : (setting : ℕ) (plan : List Bool) (past : List Moment)
    → EachMayFollow (PoolLaw setting plan) past → (s new : ℕ) → s ≡ 1 + length (accepted_jobs past)
    → ready_by past (Accepted s) new ≡ ready past ++ (if has_room past new then s ∷ [] else [])
ready_new setting plan past laws s new next =
    let sound = sound_of setting plan past laws in
    ready_beside past (queue past) s new (client_by (Accepted s) new (client past))
    (ap (λ (b : Bool). if b then new else client past s) (same_self s))
    (keeps_client past (Accepted s) new (queue past) next (queue_within past sound))
    (keeps_client past (Accepted s) new (running past) next (runs_within past sound))
