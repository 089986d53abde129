-- How many jobs of a client run after what is seen next.
use Rattle.std.proofs.Common.{◌≡◌, refl, ℕ, ◌+◌, ◌<◌, ◌≤◌, ◌==◌, if◌then◌else◌, Bool, true, false}
use Rattle.std.proofs.Common.{cond, not, List, [], ◌∷◌, ◌++◌, filter, length, Option, Some, None}
use Rattle.std.proofs.Common.{ap, ◌∙◌, arith, length-append}
use Rattle.std.proofs.lemmas.Bool.{eqb-true, ltb-true, ltb-false}
use Rattle.std.proofs.lemmas.Bool.Decides.{nat_tests}
use mathlib.Core.Path.{subst, sym}
use Rattle.blocking_pool.specs.Lists.{is_in, without, first_of}
use Rattle.blocking_world_laws.specs.Core.{is_below}
use Rattle.blocking_world_laws.specs.Seen.{AtEveryBeginning, EachMayFollow, without_all, joined}
use Rattle.blocking_world_laws.specs.Jobs.{client_of_step, client, is_running}
use Rattle.blocking_world_laws.specs.Queue.{times, taken_by, ended_by, running, client_limit}
use Rattle.blocking_world_laws.specs.Queue.{of_client, has_room, ready, queue}
use Rattle.blocking_world_laws.specs.Answers.{PoolAnswers}
use Rattle.blocking_world_laws.specs.Steps.{job_taken}
use Rattle.blocking_world_laws.specs.Legal.{PoolLaw}
use Rattle.blocking_world_laws.specs.declared.event.Act.{Act}
use Rattle.blocking_world_laws.specs.declared.event.Act.TheVariants.{Accepted, Took, TookDropped}
use Rattle.blocking_world_laws.specs.declared.event.Moment.{Moment}
use Rattle.blocking_world_laws.proofs.Clients.{part, part_joined, part_same, first_passes}
use Rattle.blocking_world_laws.proofs.Queues.{Sound, sound_of, stands_nowhere, client_by}
use Rattle.blocking_world_laws.proofs.Queues.{take_first}
use Rattle.blocking_world_laws.proofs.Times.{counts_in}

-- ---- lists

-- of a list without a number no more is kept
kept_without : (keep : ℕ → Bool) (g : ℕ) (ns : List ℕ)
    → length (filter keep (without g ns)) ≤ length (filter keep ns)
kept_without keep g [] = omega arith
kept_without keep g (n ∷ ns) = by (g == n) (keep n) refl (kept_without keep g ns)
  where
    by : (b k : Bool) → keep n ≡ k → length (filter keep (without g ns)) ≤ length (filter keep ns)
        → length (filter keep (cond (not b) (n ∷ without g ns) (without g ns)))
        ≤ length (cond (keep n) (n ∷ filter keep ns) (filter keep ns))
    by true true is fewer = rw is (omega (arith, fewer))
    by true false is fewer = rw is fewer
    by false true is fewer = rw is (omega (arith, fewer))
    by false false is fewer = rw is fewer

kept_without_all : (keep : ℕ → Bool) (gone ns : List ℕ)
    → length (filter keep (without_all gone ns)) ≤ length (filter keep ns)
kept_without_all keep [] ns = omega arith
kept_without_all keep (g ∷ gone) ns =
    let one = kept_without keep g ns in
    let more = kept_without_all keep gone (without g ns) in
    omega (arith, one, more)

-- what ends leaves, and what is taken joins
part_after : (client : ℕ → ℕ) (c : ℕ) (gone new ns : List ℕ)
    → length (part client c (joined (without_all gone ns) new))
    ≤ length (part client c ns) + length (part client c new)
part_after client c gone new ns =
    let long = ap length (part_joined client c (without_all gone ns) new)
    ∙ length-append (part client c (without_all gone ns)) (part client c new) in
    let fewer = kept_without_all (λ s. client s == c) gone ns in
    omega (arith, long, fewer)

-- ---- clients

-- a job that runs keeps its client
same_client : (setting : ℕ) (past : List Moment) (now : Moment) (act : Act) (new : ℕ) → Sound past
    → PoolAnswers setting past now act → (s : ℕ) → is_in s (running past) ≡ true
    → client_by act new (client past) s ≡ client past s
same_client setting past now (Accepted t) new sound answers s found = by (t == s) refl
  where
    by : (b : Bool) → (t == s) ≡ b → (if b then new else client past s) ≡ client past s
    by true same =
        let is : t ≡ s = eqb-true t s same in
        let next = answers.0 in
        let none : times s (running past) ≡ 0 =
        sound.runs s ∙ ap (λ st. if is_running st then 1 else 0)
        (stands_nowhere past sound s (omega (arith, is, next))) in
        absurd (counts_in s (running past) found none)
    by false same = refl
same_client setting past now _ new sound answers s found = refl

-- of a client no more run after an act than before, and the job that it takes
runs_after : (setting : ℕ) (past : List Moment) (now : Moment) (act : Act) (new c : ℕ) → Sound past
    → PoolAnswers setting past now act
    → length (part (client_by act new (client past)) c
    (joined (without_all (ended_by act) (running past)) (taken_by act)))
    ≤ length (of_client past c (running past))
    + length (part (client_by act new (client past)) c (taken_by act))
runs_after setting past now act new c sound answers =
    let after = part_after (client_by act new (client past)) c (ended_by act) (taken_by act)
    (running past) in
    let same = ap length (part_same (client_by act new (client past)) (client past) c (running past)
    (same_client setting past now act new sound answers)) in
    omega (arith, after, same)

-- ---- takes

one_at_most : (client : ℕ → ℕ) (c t : ℕ) → length (part client c (t ∷ [])) ≤ 1
one_at_most client c t = by (client t == c)
  where
    by : (b : Bool) → length (cond b (t ∷ []) []) ≤ 1
    by true = omega arith
    by false = omega arith

-- the client of the first ready job has room
has_room_first : (past : List Moment) (s most : ℕ) → first_of (ready past) ≡ Some s
    → client_limit past ≡ Some most → length (of_client past (client past s) (running past)) < most
has_room_first past s most first limit =
    ltb-true (length (of_client past (client past s) (running past))) most
    (ap (λ l. is_below l (length (of_client past (client past s) (running past)))) (sym limit)
    ∙ first_passes (λ t. has_room past (client past t)) s (queue past) first)

-- a number that isn't below the limit
limit_within : (limit : Option ℕ) (most : ℕ) → is_below limit most ≡ false
    → (n : ℕ) × (limit ≡ Some n) × (n ≤ most)
limit_within None most over = let bad : true ≡ false = over in absurd cc
limit_within (Some n) most over = (n, refl, ltb-false most n over)

not_below : (limit : Option ℕ) (most : ℕ) → limit ≡ Some most → is_below limit most ≡ false
not_below limit most is = ap (λ l. is_below l most) is ∙ grind (arith, nat_tests)

-- a take brings no job
brings_none : (act : Act) (s t new : ℕ) (client : ℕ → ℕ) → job_taken act ≡ Some s
    → client_by act new client t ≡ client t
brings_none (Took u) s t new client e = refl
brings_none (TookDropped u) s t new client e = refl
brings_none _ s t new client e = absurd cc

-- it takes one
takes_one : (act : Act) (s : ℕ) → job_taken act ≡ Some s → taken_by act ≡ s ∷ []
takes_one (Took t) s e = let same : t ≡ s = cc in ap (λ (u : ℕ). u ∷ []) same
takes_one (TookDropped t) s e = let same : t ≡ s = cc in ap (λ (u : ℕ). u ∷ []) same
takes_one _ s e = absurd cc

takes_none : (act : Act) → job_taken act ≡ None → taken_by act ≡ []
takes_none (Took t) e = absurd cc
takes_none (TookDropped t) e = absurd cc
takes_none _ e = refl

-- ---- what runs

module _ (setting : ℕ) (plan : List Bool) (past : List Moment) (now : Moment)
    (laws : EachMayFollow (PoolLaw setting plan) (now ∷ past)) where
  sound : Sound past
  sound = sound_of setting plan past laws.1

  after : (c : ℕ) → length (of_client (now ∷ past) c (running (now ∷ past))) ≤ length
      (of_client past c (running past)) + length (of_client (now ∷ past) c (taken_by now.event.act))
  after c = runs_after setting past now now.event.act (client_of_step past now.step) c sound
      laws.0.answers

  own : (s : ℕ) → job_taken now.event.act ≡ Some s → client (now ∷ past) s ≡ client past s
  own s taken = brings_none now.event.act s s (client_of_step past now.step) (client past) taken

  pub take_within : (s most : ℕ) → job_taken now.event.act ≡ Some s → client_limit past ≡ Some most
      → length (of_client (now ∷ past) (client (now ∷ past) s) (running (now ∷ past))) ≤ most
  take_within s most taken limit =
      let more = after (client (now ∷ past) s) in
      let new = ap (λ ns. length (of_client (now ∷ past) (client (now ∷ past) s) ns))
      (takes_one now.event.act s taken) in
      let one = one_at_most (client (now ∷ past)) (client (now ∷ past) s) s in
      let same = ap (λ c. length (of_client past c (running past))) (own s taken) in
      let room = has_room_first past s most
      (take_first setting past now now.event.act s laws.0.answers taken) limit in
      omega (arith, more, new, one, same, room)

  pub none_more : (c : ℕ) → job_taken now.event.act ≡ None → length
      (of_client (now ∷ past) c (running (now ∷ past))) ≤ length (of_client past c (running past))
  none_more c taken =
      let more = after c in
      let new = ap (λ ns. length (of_client (now ∷ past) c ns)) (takes_none now.event.act taken) in
      omega (arith, more, new)

  pub keeps_within : (c most : ℕ)
      → is_below (client_limit past) most ≡ false → length (of_client past c (running past)) ≤ most
      → length (of_client (now ∷ past) c (running (now ∷ past))) ≤ most
  keeps_within c most limit within = by (job_taken now.event.act) refl
    where
      own_within : (s : ℕ) → job_taken now.event.act ≡ Some s
          → length (of_client (now ∷ past) (client (now ∷ past) s) (running (now ∷ past))) ≤ most
      own_within s taken =
          let stands = limit_within (client_limit past) most limit in
          let less = take_within s stands.0 taken stands.1 in
          let bound = stands.2 in
          omega (arith, less, bound)

      its : (s : ℕ) → job_taken now.event.act ≡ Some s → (b : Bool) → (client (now ∷ past) s == c)
          ≡ b → length (of_client (now ∷ past) c (running (now ∷ past))) ≤ most
      its s taken true is =
          subst (λ d. length (of_client (now ∷ past) d (running (now ∷ past))) ≤ most)
          (eqb-true (client (now ∷ past) s) c is) (own_within s taken)
      its s taken false is =
          let more = after c in
          let new =
          ap (λ ns. length (of_client (now ∷ past) c ns)) (takes_one now.event.act s taken) in
          let none : length (of_client (now ∷ past) c (s ∷ [])) ≡ 0 =
          ap (λ (b : Bool). length (cond b (s ∷ []) [])) is in
          omega (arith, more, new, none, within)

      by : (o : Option ℕ) → job_taken now.event.act ≡ o
          → length (of_client (now ∷ past) c (running (now ∷ past))) ≤ most
      by None taken = let fewer = none_more c taken in omega (arith, fewer, within)
      by (Some s) taken = its s taken (client (now ∷ past) s == c) refl

-- ---- as long as the limit stands

at_this : {X : Type 0} (Holds : List X → Type 0) (xs : List X) → AtEveryBeginning Holds xs
    → Holds xs
at_this Holds [] all = all
at_this Holds (x ∷ xs) all = all.0

each_beginning : {X : Type 0} (Holds Other : List X → Type 0) (xs : List X)
    → ((ys : List X) → Holds ys → Other ys) → AtEveryBeginning Holds xs → AtEveryBeginning Other xs
each_beginning Holds Other [] so all = so [] all
each_beginning Holds Other (x ∷ xs) so all =
    (so (x ∷ xs) all.0, each_beginning Holds Other xs so all.1)

pub stays_within : (setting : ℕ) (plan : List Bool) (past later : List Moment) (c most : ℕ)
    → EachMayFollow (PoolLaw setting plan) (later ++ past)
    → AtEveryBeginning (λ before. is_below (client_limit (before ++ past)) most ≡ false) later
    → length (of_client past c (running past)) ≤ most
    → length (of_client (later ++ past) c (running (later ++ past))) ≤ most
stays_within setting plan past [] c most laws stands within = within
stays_within setting plan past (now ∷ later) c most laws stands within =
    keeps_within setting plan (later ++ past) now laws c most
    (at_this (λ before. is_below (client_limit (before ++ past)) most ≡ false) later stands.1)
    (stays_within setting plan past later c most laws.1 stands.1 within)

pub within_from_rest : (setting : ℕ) (plan : List Bool) (past later : List Moment) (c most : ℕ)
    → EachMayFollow (PoolLaw setting plan) (later ++ past)
    → AtEveryBeginning (λ before. client_limit (before ++ past) ≡ Some most) later
    → running past ≡ []
    → length (of_client (later ++ past) c (running (later ++ past))) ≤ most
within_from_rest setting plan past later c most laws stands rest =
    stays_within setting plan past later c most laws
    (each_beginning (λ before. client_limit (before ++ past) ≡ Some most)
    (λ before. is_below (client_limit (before ++ past)) most ≡ false) later
    (λ before is. not_below (client_limit (before ++ past)) most is) stands)
    (let none = ap (λ ns. length (of_client past c ns)) rest in omega (arith, none))
