-- How many jobs of a client run, counted over the serials; and so which queued jobs are ready.
use Rattle.std.proofs.Common.{◌≡◌, ℕ, zero, suc, ◌+◌, ◌<◌, ◌≤◌, ◌==◌, Bool, true, false, not, cond}
use Rattle.std.proofs.Common.{eqb, ◌&&◌, List, [], ◌∷◌, filter, length, Option, refl, sym, ap, ◌∙◌}
use Rattle.std.proofs.Common.{subst, inl, inr, arith}
use Rattle.std.proofs.lemmas.Bool.{cases_eq, eq-eqb, ne_eqb}
use Rattle.blocking_pool.specs.Jobs.{one_if, count_below}
use Rattle.blocking_pool.specs.Lists.{is_in, without}
use Rattle.blocking_pool.proofs.Lists.{by_eq, filter_same}
use Rattle.blocking_world_laws.specs.Core.{is_below}
use Rattle.blocking_world_laws.specs.Jobs.{accepted_jobs, client, standing, is_running}
use Rattle.blocking_world_laws.specs.Queue.{AreThose, times, queue, running, client_limit}
use Rattle.blocking_world_laws.specs.Queue.{of_client, has_room, ready}
use Rattle.blocking_world_laws.specs.declared.event.Moment.{Moment}
use Rattle.blocking_world_laws.proofs.Queues.{Sound, stands_nowhere}

by_flag : (b : Bool) (P : Bool → Type 0) → (b ≡ true → P true) → (b ≡ false → P false) → P b
by_flag true P t f = t refl
by_flag false P t f = f refl

-- what a list has of one number, and of all others
split : (keep : ℕ → Bool) (n : ℕ) (xs : List ℕ)
    → length (filter keep xs) ≡ length (filter keep (without n xs)) + cond (keep n) (times n xs) 0
split keep n [] =
    by_flag (keep n) (λ b. ◌≡◌ {A = ℕ} 0 (0 + cond b 0 0)) (λ k. omega arith) (λ k. omega arith)
split keep n (x ∷ xs) =
    let more = split keep n xs in
    elim (cases_eq x n) [
      | inl e ↦ (let here : eqb n x ≡ true = eq-eqb n x (sym e) in
          let there : eqb x n ≡ true = eq-eqb x n e in
          rw (here, there, e)
          (by_flag (keep n) (λ b. length (filter keep xs) ≡ length (filter keep (without n xs))
          + cond b (times n xs) 0 → length (cond b (n ∷ filter keep xs) (filter keep xs))
          ≡ length (filter keep (without n xs)) + cond b (suc (times n xs)) 0)
          (λ k m. omega (arith, m)) (λ k m. m) more))
      | inr d ↦ (let here : eqb n x ≡ false = ne_eqb n x (λ e. d (sym e)) in
          let there : eqb x n ≡ false = ne_eqb x n d in
          rw (here, there)
          (by_flag (keep x) (λ b. length (cond b (x ∷ filter keep xs) (filter keep xs))
          ≡ length (cond b (x ∷ filter keep (without n xs)) (filter keep (without n xs)))
          + cond (keep n) (times n xs) 0)
          (λ k. omega (arith, more)) (λ k. more)))
    ]

times_without : (s n : ℕ) (xs : List ℕ) → times s (without n xs) ≡ cond (eqb s n) 0 (times s xs)
times_without s n [] = by_eq s n (λ b. ◌≡◌ {A = ℕ} 0 (cond b 0 0)) (λ e. refl) (λ d. refl)
times_without s n (x ∷ xs) = let more = times_without s n xs in grind (arith, more)

pub count_same : (passes others : ℕ → Bool) (n : ℕ) → ((s : ℕ) → s < n → passes s ≡ others s)
    → count_below passes n ≡ count_below others n
count_same passes others zero same = refl
count_same passes others (suc n) same =
    let here = ap one_if (same n (omega arith)) in
    let more = count_same passes others n (λ s below. same s (omega (arith, below))) in
    omega (arith, here, more)

none_stand : (xs : List ℕ) → ((s : ℕ) → times s xs ≡ 0) → xs ≡ []
none_stand [] none = refl
none_stand (x ∷ xs) none = absurd (let here : length
    (cond (eqb x x) (x ∷ filter (λ m. eqb m x) xs) (filter (λ m. eqb m x) xs)) ≡ 0 = none x in
    let bad : suc (times x xs) ≡ 0 =
    subst (λ b. length (cond b (x ∷ filter (λ m. eqb m x) xs) (filter (λ m. eqb m x) xs)) ≡ 0)
    (eq-eqb x x refl) here in omega (arith, bad))

-- A list that has the serials which pass, each once, has as many of a kind as are counted below a
-- bound of them.
pub counted_of : (passes keep : ℕ → Bool) (n : ℕ) (xs : List ℕ)
    → AreThose passes xs → ((s : ℕ) → n ≤ s → passes s ≡ false)
    → length (filter keep xs) ≡ count_below (λ s. passes s && keep s) n
counted_of passes keep zero xs those none = ap (λ ps. length (filter keep ps))
    (none_stand xs (λ s. those s ∙ ap one_if (none s (omega arith))))
counted_of passes keep (suc n) xs those none =
    let fewer : ℕ → Bool = λ s. passes s && not (eqb s n) in
    let rest = counted_of fewer keep n (without n xs) (λ s. times_without s n xs
    ∙ by_eq s n (λ b. cond b 0 (times s xs) ≡ one_if (passes s && not b))
    (λ e. sym (and_false (passes s))) (λ d. those s ∙ ap one_if (sym (and_true (passes s)))))
    (λ s above. elim (cases_eq s n) [
      | inl e ↦ ap (λ b. passes s && not b) (eq-eqb s n e) ∙ and_none (passes s)
      | inr d ↦ ap (λ b. b && not (eqb s n)) (none s (omega (arith, above, d)))
    ]) in
    let same = count_same (λ s. fewer s && keep s)
    (λ s. passes s && keep s) n (λ s below. ap (λ b. b && keep s) (ap (λ b. passes s && not b)
    (ne_eqb s n (λ e. absurd (omega (arith, e, below)))) ∙ and_true (passes s))) in
    let last : cond (keep n) (times n xs) 0 ≡ one_if (passes n && keep n) =
    ap (λ m. cond (keep n) m 0) (those n) ∙ both (keep n) (passes n) in
    let all = split keep n xs in
    omega (arith, rest, same, last, all)
  where
    and_true : (b : Bool) → (b && true) ≡ b
    and_true true = refl
    and_true false = refl

    and_none : (b : Bool) → (b && false) ≡ false
    and_none true = refl
    and_none false = refl

    and_false : (b : Bool) → one_if (b && false) ≡ 0
    and_false true = refl
    and_false false = refl

    both : (k p : Bool) → cond k (one_if p) 0 ≡ one_if (p && k)
    both true true = refl
    both true false = refl
    both false true = refl
    both false false = refl

-- whether a job runs and is of this client
abbrev pub runs_for : List Moment → ℕ → ℕ → Bool
runs_for past c s = is_running (standing past s) && client past s == c

-- How many jobs of a client run, counted over the serials that were given.
pub running_of_so : (past : List Moment) → Sound past → (c n : ℕ) → length (accepted_jobs past) < n
    → length (of_client past c (running past)) ≡ count_below (runs_for past c) n
running_of_so past sound c n over =
    counted_of (λ s. is_running (standing past s)) (λ s. client past s == c) n (running past)
    sound.runs
    (λ s above. ap is_running (stands_nowhere past sound s (omega (arith, over, above))))

-- Whoever has the same client limit, the same queue, the same client of each queued job, and counts
-- as many running jobs of each client, finds the same jobs ready.
pub ready_so : (past : List Moment) (limit : Option ℕ) (line : List ℕ) (clients counts : ℕ → ℕ)
    → limit ≡ client_limit past → line ≡ queue past
    → ((s : ℕ) → is_in s (queue past) ≡ true → clients s ≡ client past s)
    → ((c : ℕ) → counts c ≡ length (of_client past c (running past)))
    → filter (λ s. is_below limit (counts (clients s))) line ≡ ready past
ready_so past limit line clients counts same_limit same_line same_clients same_counts =
    ap (filter (λ s. is_below limit (counts (clients s)))) same_line
    ∙ filter_same (λ s. is_below limit (counts (clients s))) (λ s. has_room past (client past s))
    (queue past)
    (λ s found. ap (λ (l : Option ℕ). is_below l (counts (clients s))) same_limit
    ∙ ap (is_below (client_limit past)) (same_counts (clients s))
    ∙ ap (has_room past) (same_clients s found))
