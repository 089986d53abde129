-- What an entry, a take, and a client that opens do to queue, lines and heads.
use Rattle.std.proofs.Common.{◌≡◌, ◌≢◌, ◌⊎◌, ℕ, ◌+◌, ◌<◌, ◌≤◌, Bool, true, false, not, cond, eqb}
use Rattle.std.proofs.Common.{◌&&◌, ◌||◌, List, [], ◌∷◌, ◌++◌, filter, length, get_or, Some, refl}
use Rattle.std.proofs.Common.{sym, ap, ◌∙◌, subst, inl, inr, arith, IsPermutation}
use Rattle.std.proofs.lemmas.Bool.{cases_eq, eq-eqb, ne_eqb, or_right, false≢true}
use Rattle.std.proofs.lemmas.List.Elements.{filter-append, All-cons, All-tail, All-nil}
use Rattle.std.proofs.lemmas.List.Sorted.{IsPermutation-refl, All-permutation, sum_by-IsPermutation}
use Rattle.std.proofs.lemmas.List.Sorted.{sum_by_pushed, sum_by_popped}
use Rattle.std.proofs.lemmas.List.{length_push}
use Rattle.std.specs.List.{All}
use Rattle.blocking_pool.specs.Lists.{is_in, IsOnce, first_of, without}
use Rattle.blocking_pool.proofs.Lists.{by_eq, is_in-first, is_in-push, without-fresh, without-first}
use Rattle.blocking_pool.proofs.Lists.{IsOnce-push, IsOnce-without}
use Rattle.blocking_pool.proofs.Lists.{filter_same}
use Rattle.blocking_pool.specs.Heads.{Head, times}
use Rattle.blocking_pool.specs.Hangs.{line_of, ready_of, Rises}
use Rattle.blocking_pool.specs.Hangs.{one_if, is_some_line, Leads, Hangs}
use Rattle.blocking_pool.proofs.OpenLemmas.{by_flag, is_in-filter, is_in-head, least_is_first}
use Rattle.blocking_pool.proofs.OpenLemmas.{none_ready, opened}

pub not_true : (b : Bool) → (b ≡ true → ⊥) → b ≡ false
not_true true bad = absurd (bad refl)
not_true false bad = refl

eq_from : (x y : ℕ) → eqb x y ≡ true → x ≡ y
eq_from x y is = elim (cases_eq x y) [
  | inl e ↦ e
  | inr n ↦ absurd (false≢true (sym (ne_eqb x y n) ∙ is))
]

-- ---- filters

-- what a filter kept passes its test
kept : (keep : ℕ → Bool) (x : ℕ) (xs : List ℕ) → is_in x (filter keep xs) ≡ true → keep x ≡ true
kept keep x [] found = absurd (false≢true found)
kept keep x (y ∷ xs) found =
    by_flag (keep y) (λ b. keep y ≡ b
    → is_in x (cond b (y ∷ filter keep xs) (filter keep xs)) ≡ true → keep x ≡ true)
    (λ k e f. by_eq x y (λ b. (b || is_in x (filter keep xs)) ≡ true
    → keep x ≡ true) (λ same g. ap keep same ∙ k) (λ differs g. kept keep x xs g) f)
    (λ k e f. kept keep x xs f) refl found

filters_swap : (f g : ℕ → Bool) (xs : List ℕ) → filter f (filter g xs) ≡ filter g (filter f xs)
filters_swap f g [] = refl
filters_swap f g (x ∷ xs) =
    let more = filters_swap f g xs in
    by_flag (f x) (λ b. f x ≡ b
    → filter f (filter g (x ∷ xs)) ≡ filter g (cond b (x ∷ filter f xs) (filter f xs)))
    (λ e is. by_flag (g x) (λ b. filter f (cond b (x ∷ filter g xs) (filter g xs))
    ≡ cond b (x ∷ filter g (filter f xs)) (filter g (filter f xs)))
    (λ k. ap (λ b. cond b (x ∷ filter f (filter g xs)) (filter f (filter g xs))) is
    ∙ ap (λ ps. x ∷ ps) more) (λ k. more))
    (λ e is. by_flag (g x)
    (λ b. filter f (cond b (x ∷ filter g xs) (filter g xs)) ≡ filter g (filter f xs))
    (λ k. ap (λ b. cond b (x ∷ filter f (filter g xs)) (filter f (filter g xs))) is ∙ more)
    (λ k. more))
    refl

once_filter : (keep : ℕ → Bool) (xs : List ℕ) → IsOnce xs → IsOnce (filter keep xs)
once_filter keep [] once = tt
once_filter keep (x ∷ xs) once =
    by_flag (keep x) (λ b. IsOnce (cond b (x ∷ filter keep xs) (filter keep xs)))
    (λ k. (
      not_true _ (λ f. false≢true (sym once.0 ∙ is_in-filter keep x xs f)),
      once_filter keep xs once.1,
    )) (λ k. once_filter keep xs once.1)

rises_filter : (number : ℕ → ℕ) (keep : ℕ → Bool) (xs : List ℕ) → Rises number xs
    → Rises number (filter keep xs)
rises_filter number keep [] rises = tt
rises_filter number keep (x ∷ xs) rises =
    by_flag (keep x) (λ b. Rises number (cond b (x ∷ filter keep xs) (filter keep xs)))
    (λ k. (λ q f. rises.0 q (is_in-filter keep q xs f), rises_filter number keep xs rises.1))
    (λ k. rises_filter number keep xs rises.1)

-- ---- heads

pub times_cons : (d : ℕ) (o : Head) (heads : List Head)
    → times d (o ∷ heads) ≡ one_if (eqb o.1 d) + times d heads
times_cons d o heads = sum_by_pushed (λ (x : Head). one_if (eqb x.1 d)) o heads (o ∷ heads)
    (IsPermutation-refl (o ∷ heads))

all_by : (P Q : Head → Type 0) (heads : List Head) → ((o : Head) → P o → Q o) → All P heads
    → All Q heads
all_by P Q heads step all k o b = step (get_or heads k o) (all k o b)

pub found : (d : ℕ) (P : Head → Type 0) (heads : List Head) → All P heads → 0 < times d heads
    → (o : Head) × (o.1 ≡ d) × P o
found d P [] all some = absurd (omega (arith, some))
found d P (o ∷ heads) all some =
    elim (cases_eq o.1 d) [
      | inl e ↦ (o, e, all 0 o (omega arith))
      | inr n ↦ found d P heads (All-tail P o heads all) (let z = ap one_if (ne_eqb o.1 d n) in
          omega (arith, z, some, times_cons d o heads))
    ]

none_of : (d : ℕ) (P : Head → Type 0) (heads : List Head) → All P heads → times d heads ≡ 0
    → All (λ o. (o.1 ≢ d) × P o) heads
none_of d P [] all none = All-nil _
none_of d P (o ∷ heads) all none =
    let apart : o.1 ≢ d =
    λ e. absurd (omega (arith, none, times_cons d o heads, ap one_if (eq-eqb o.1 d e))) in
    All-cons (λ (x : Head). (x.1 ≢ d) × P x) o heads (apart, all 0 o (omega arith))
    (none_of d P heads (All-tail P o heads all) (omega (arith, none, times_cons d o heads)))

-- ---- a take

module _ (client number : ℕ → ℕ) (is_open : ℕ → Bool) (queue : List ℕ) (line : ℕ → List ℕ)
    (heads : List Head) (next ready : ℕ)
    (h : Hangs client number is_open queue line heads next ready) where
  -- where there is no head, no place is ready
  pub none_taken : heads ≡ [] → ready_of is_open client queue ≡ []
  none_taken none = none_ready is_open client number queue (λ d o. sym (h.line_is d) ∙ empty d o)
    where
      empty : (d : ℕ) → is_open d ≡ true → line d ≡ []
      empty d o = from (line d) (sym (h.one_each d) ∙ ap (times d) none)
        where
          from : (ps : List ℕ) → one_if (is_open d && is_some_line ps) ≡ 0 → ps ≡ []
          from [] none = refl
          from (p ∷ ps) bad = absurd (let b : one_if (true && true)
              ≡ 0 = subst (λ f. one_if (f && true) ≡ 0) o bad in omega (arith, b))

  -- The first place of the least head is the first that is ready.
  module _ (n c place : ℕ) (rest : List ℕ) (left : List Head)
      (popped : IsPermutation heads ((n, c) ∷ left)) (least : All (λ o. n ≤ o.0) heads)
      (begins : line c ≡ place ∷ rest) where
    led : All (λ o. Leads number (line o.1) o.0) ((n, c) ∷ left)
    led = All-permutation (λ (o : Head). Leads number (line o.1) o.0) heads ((n, c) ∷ left) popped
        h.led

    number_is : number place ≡ n
    number_is = subst (λ ps. Leads number ps n) begins (led 0 (n, c) (omega arith))

    times_are : (d : ℕ) → times d left + one_if (eqb c d) ≡ times d heads
    times_are d = sum_by_popped (λ (o : Head). one_if (eqb o.1 d)) (n, c) heads left popped

    here : times c left + 1 ≡ times c heads
    here = ap (λ b. times c left + one_if b) (sym (eq-eqb c c refl)) ∙ times_are c

    pub is_ready : is_open c ≡ true
    is_ready = by_flag (is_open c) (λ b. is_open c ≡ b → is_open c ≡ true) (λ e is. is)
        (λ e is. absurd (let none : times c heads ≡ 0 = h.one_each c ∙ ap
        (λ b. one_if (b && is_some_line (line c))) is in omega (arith, here, none))) refl

    pub none_left : times c left ≡ 0
    none_left = let one : times c heads ≡ 1 =
        h.one_each c ∙ ap (λ b. one_if (b && is_some_line (line c))) is_ready
        ∙ ap (λ ps. one_if (is_some_line ps)) begins in omega (arith, here, one)

    head_least : (d g : ℕ) → is_open d ≡ true → first_of (line_of client d queue) ≡ Some g
        → number place ≤ number g
    head_least d g o first = from (line d) refl (ap first_of (h.line_is d) ∙ first)
      where
        from : (ps : List ℕ) → line d ≡ ps → first_of ps ≡ Some g → number place ≤ number g
        from [] is none = absurd (cc)
        from (p ∷ ps) is some =
            let one : times d heads ≡ 1 =
            h.one_each d ∙ ap (λ b. one_if (b && is_some_line (line d))) o
            ∙ ap (λ qs. one_if (is_some_line qs)) is in
            let o' = found d (λ x. Leads number (line x.1) x.0 × (n ≤ x.0)) heads
            (λ k x b. (h.led k x b, least k x b)) (omega (arith, one)) in
            let leads : number p ≡ o'.0.0 = subst (λ qs. Leads number qs o'.0.0) is
            (subst (λ e. Leads number (line e) o'.0.0) o'.1 o'.2.0) in
            let same : p ≡ g = cc in
            omega (arith, number_is, leads, o'.2.1, ap number same)

    pub first_is : first_of (ready_of is_open client queue) ≡ Some place
    first_is = least_is_first is_open client number queue c place h.rises is_ready
        (ap first_of (sym (h.line_is c) ∙ begins)) head_least

    pub its_client : client place ≡ c
    its_client = eq_from (client place) c (kept (λ p. eqb (client p) c) place queue
        (subst (λ ps. is_in place ps ≡ true) (sym begins ∙ h.line_is c) (is_in-first place rest)))

    -- the take leaves its client closed, so that nothing of it is ready
    pub taken : (shut : ℕ → Bool) (lines : ℕ → List ℕ) (fewer : ℕ)
        → shut c ≡ false → ((d : ℕ) → d ≢ c → shut d ≡ is_open d) → lines c ≡ rest
        → ((d : ℕ) → d ≢ c → lines d ≡ line d)
        → fewer + length (line c) ≡ ready
        → Hangs client number shut (without place queue) lines left next fewer
    taken shut lines fewer closed open_else line_here line_else less =
        record {
          once = IsOnce-without place queue h.once;
          line_is = λ d. elim (cases_eq d c) [
            | inl e ↦ ap lines e ∙ line_here ∙ sym (without-first place rest unseen)
                ∙ ap (without place) (sym begins ∙ h.line_is c)
                ∙ filters_swap (λ x. not (eqb place x)) (λ x. eqb (client x) c) queue
                ∙ ap (λ k. line_of client k (without place queue)) (sym e)
            | inr m ↦ line_else d m
                ∙ h.line_is d ∙ sym (without-fresh place (line_of client d queue) (elsewhere d m))
                ∙ filters_swap (λ x. not (eqb place x)) (λ x. eqb (client x) d) queue
          ];
          rises = rises_filter number (λ x. not (eqb place x)) queue h.rises;
          below = λ p there. h.below p (is_in-filter (λ x. not (eqb place x)) p queue there);
          one_each = λ d. elim (cases_eq d c) [
            | inl e ↦ ap (λ k. times k left) e ∙ none_left
                ∙ ap (λ b. one_if (b && is_some_line (lines d))) (sym (ap shut e ∙ closed))
            | inr m ↦ (let same : times d left ≡ times d heads = (let t = times_are d in
                let z = ap one_if (ne_eqb c d (λ e. m (sym e))) in omega (arith, t, z)) in same)
                ∙ h.one_each d ∙ ap (λ b. one_if (b && is_some_line (line d))) (sym (open_else d m))
                ∙ ap (λ ps. one_if (shut d && is_some_line ps)) (sym (line_else d m))
          ];
          led = all_by (λ o. (o.1 ≢ c) × Leads number (line o.1) o.0)
              (λ o. Leads number (lines o.1) o.0) left
              (λ o both. subst (λ ps. Leads number ps o.0) (sym (line_else o.1 both.0)) both.1)
              (none_of c (λ o. Leads number (line o.1) o.0) left (All-tail
              (λ (o : Head). Leads number (line o.1) o.0) (n, c) left led) none_left);
          counted =
              (let grown : ready ≡ length (ready_of shut client queue) + length (line c) = h.counted
              ∙ opened client shut is_open c queue closed is_ready (λ d m. sym (open_else d m))
              ∙ ap (λ ps. length (ready_of shut client queue) + length ps) (sym (h.line_is c)) in
              let fewer_are : fewer ≡ length (ready_of shut client queue) =
              omega (arith, less, grown) in fewer_are)
              ∙ ap length (sym (without-fresh place (ready_of shut client queue) gone)
              ∙ filters_swap (λ x. not (eqb place x)) (λ x. shut (client x)) queue);
        }
      where
        unseen : is_in place rest ≡ false
        unseen = (subst IsOnce (sym (h.line_is c) ∙ begins)
            (once_filter (λ p. eqb (client p) c) queue h.once)).0

        elsewhere : (d : ℕ) → d ≢ c → is_in place (line_of client d queue) ≡ false
        elsewhere d m = not_true
            _ (λ f. m (sym (eq_from (client place) d (kept (λ p. eqb (client p) d) place queue f))
            ∙ its_client))

        gone : is_in place (ready_of shut client queue) ≡ false
        gone = not_true _ (λ f. false≢true
            (sym (ap shut its_client ∙ closed) ∙ kept (λ p. shut (client p)) place queue f))

  -- ---- a client opens

  pub opens : (c : ℕ) (wide : ℕ → Bool) (more : List Head) (grown : ℕ) → is_open c ≡ false
      → wide c ≡ true → ((d : ℕ) → d ≢ c → wide d ≡ is_open d) → grown ≡ ready + length (line c)
      → ((line c ≡ []) × (more ≡ heads)) ⊎ ((place : ℕ) × (rest : List ℕ) × (line c ≡ place ∷ rest)
      × IsPermutation ((number place, c) ∷ heads) more)
      → Hangs client number wide queue line more next grown
  opens c wide more grown shut free same count cases =
      record {
        once = h.once;
        line_is = h.line_is;
        rises = h.rises;
        below = h.below;
        one_each = λ d. elim cases [
          | inl none ↦ ap (times d) none.1 ∙ h.one_each d ∙ elim (cases_eq d c) [
            | inl e ↦ (let empty : line d ≡ [] = ap line e ∙ none.0 in
                ap (λ ps. one_if (is_open d && is_some_line ps)) empty ∙ both_none (is_open d)
                (wide d) ∙ ap (λ ps. one_if (wide d && is_some_line ps)) (sym empty))
            | inr m ↦ ap (λ b. one_if (b && is_some_line (line d))) (sym (same d m))
          ]
          | inr some ↦ sum_by_pushed (λ (o : Head). one_if (eqb o.1 d)) (number some.0, c) heads
              more some.3 ∙ elim (cases_eq d c) [
                | inl e ↦ (let zero_before : times d heads ≡ 0 = h.one_each d
                    ∙ ap (λ b. one_if (b && is_some_line (line d))) (ap is_open e ∙ shut) in
                    let one : one_if (eqb c d) ≡ 1 = ap one_if (eq-eqb c d (sym e)) in
                    let after : one_if (wide d && is_some_line (line d)) ≡ 1 =
                    ap (λ b. one_if (b && is_some_line (line d))) (ap wide e ∙ free)
                    ∙ ap (λ ps. one_if (is_some_line ps)) (ap line e ∙ some.2) in
                    omega (arith, zero_before, one, after))
                | inr m ↦ (let z : one_if (eqb c d) ≡ 0 = ap one_if (ne_eqb c d (λ e. m (sym e))) in
                    let before = h.one_each d in
                    let after : one_if (is_open d && is_some_line (line d))
                    ≡ one_if (wide d && is_some_line (line d)) =
                    ap (λ b. one_if (b && is_some_line (line d))) (sym (same d m)) in
                    omega (arith, z, before, after))
              ]
        ];
        led = elim cases [
          | inl none ↦
              subst (λ hs. All (λ (o : Head). Leads number (line o.1) o.0) hs) (sym none.1) h.led
          | inr some ↦ All-permutation
              (λ (o : Head). Leads number (line o.1) o.0) ((number some.0, c) ∷ heads) more
              some.3 (All-cons (λ (o : Head). Leads number (line o.1) o.0) (number some.0, c) heads
              (subst (λ ps. Leads number ps (number some.0)) (sym some.2) refl) h.led)
        ];
        counted = count ∙ (let grows = opened client is_open wide c queue shut free same in
            let long = ap length (h.line_is c) in
            let is : ready + length (line c) ≡ length (ready_of wide client queue) =
            omega (arith, grows, long, h.counted) in is);
      }
    where
      both_none : (a b : Bool) → one_if (a && false) ≡ one_if (b && false)
      both_none a b = none a ∙ sym (none b)
        where
          none : (x : Bool) → one_if (x && false) ≡ 0
          none true = refl
          none false = refl

-- ---- an entry

pub in_push : (p place : ℕ) (xs : List ℕ) → is_in p (xs ++ place ∷ []) ≡ true
    → (p ≡ place) ⊎ (is_in p xs ≡ true)
in_push p place xs there =
    elim (cases_eq p place) [
      | inl e ↦ inl e
      | inr n ↦ inr (sym (is_in-push p place xs n) ∙ there)
    ]

rises_push : (f : ℕ → ℕ) (p : ℕ) (xs : List ℕ) → Rises f xs
    → ((q : ℕ) → is_in q xs ≡ true → f q < f p) → Rises f (xs ++ p ∷ [])
rises_push f p [] rises less = (λ q there. absurd (false≢true there), tt)
rises_push f p (x ∷ xs) rises less = (
  λ q there. elim (in_push q p xs there) [
    | inl e ↦ subst (λ y. f x < f y) (sym e) (less x (is_in-first x xs))
    | inr was ↦ rises.0 q was
  ],
  rises_push f p xs rises.1 (λ q there. less q (or_right (eqb q x) _ there)),
)

rises_same : (f g : ℕ → ℕ) (xs : List ℕ) → ((q : ℕ) → is_in q xs ≡ true → g q ≡ f q) → Rises f xs
    → Rises g xs
rises_same f g [] same rises = tt
rises_same f g (x ∷ xs) same rises =
    let here = same x (is_in-first x xs) in (
      λ q there. (let later = same q (or_right (eqb q x) _ there) in let was = rises.0 q there in
          omega (arith, here, later, was)),
      rises_same f g xs (λ q there. same q (or_right (eqb q x) _ there)) rises.1,
    )

lead_same : (f g : ℕ → ℕ) (ps more : List ℕ) (n : ℕ) → ((q : ℕ) → is_in q ps ≡ true → g q ≡ f q)
    → Leads f ps n → Leads g (ps ++ more) n
lead_same f g [] more n same bad = absurd bad
lead_same f g (p ∷ ps) more n same is = same p (is_in-first p ps) ∙ is

module _ (client number : ℕ → ℕ) (is_open : ℕ → Bool) (queue : List ℕ) (line : ℕ → List ℕ)
    (heads : List Head) (next ready : ℕ)
    (h : Hangs client number is_open queue line heads next ready)
    (c place : ℕ) (fresh : is_in place queue ≡ false)
    (owner entry : ℕ → ℕ) (owner_here : owner place ≡ c)
    (owner_else : (q : ℕ) → q ≢ place → owner q ≡ client q)
    (entry_here : entry place ≡ next) (entry_else : (q : ℕ) → q ≢ place → entry q ≡ number q) where
  apart : (q : ℕ) → is_in q queue ≡ true → q ≢ place
  apart q there e = false≢true (sym fresh ∙ subst (λ x. is_in x queue ≡ true) e there)

  entry_same : (q : ℕ) → is_in q queue ≡ true → entry q ≡ number q
  entry_same q there = entry_else q (apart q there)

  line_was : (d : ℕ) → line_of owner d queue ≡ line d
  line_was d = filter_same (λ p. eqb (owner p) d) (λ p. eqb (client p) d) queue
      (λ q there. ap (λ x. eqb x d) (owner_else q (apart q there))) ∙ sym (h.line_is d)

  line_more : (d : ℕ)
      → line_of owner d (queue ++ place ∷ []) ≡ line d ++ cond (eqb c d) (place ∷ []) []
  line_more d = filter-append (λ p. eqb (owner p) d) queue (place ∷ [])
      ∙ ap (λ ps. ps ++ cond (eqb (owner place) d) (place ∷ []) []) (line_was d)
      ∙ ap (λ x. line d ++ cond (eqb x d) (place ∷ []) []) owner_here

  in_queue : (d q : ℕ) → is_in q (line d) ≡ true → is_in q queue ≡ true
  in_queue d q there = is_in-filter (λ p. eqb (client p) d) q queue
      (subst (λ ps. is_in q ps ≡ true) (h.line_is d) there)

  pub entered : (lines : ℕ → List ℕ) (more : List Head) (grown : ℕ) → lines c ≡ line c ++ place ∷ []
      → ((d : ℕ) → d ≢ c → lines d ≡ line d) → grown ≡ ready + one_if (is_open c)
      → (((is_open c ≡ false) ⊎ (is_some_line (line c) ≡ true)) × (more ≡ heads))
      ⊎ ((is_open c ≡ true) × (line c ≡ []) × IsPermutation ((next, c) ∷ heads) more)
      → Hangs owner entry is_open (queue ++ place ∷ []) lines more (next + 1) grown
  entered lines more grown line_here line_else count cases =
      record {
        once = IsOnce-push queue place h.once fresh;
        line_is = λ d. elim (cases_eq d c) [
          | inl e ↦ ap lines e
              ∙ line_here ∙ ap (λ b. line c ++ cond b (place ∷ []) []) (sym (eq-eqb c c refl))
              ∙ sym (line_more c) ∙ ap (λ k. line_of owner k (queue ++ place ∷ [])) (sym e)
          | inr m ↦ line_else d m ∙ sym (append-nil (line d))
              ∙ ap (λ b. line d ++ cond b (place ∷ []) []) (sym (ne_eqb c d (λ e. m (sym e))))
              ∙ sym (line_more d)
        ];
        rises = rises_push entry place queue (rises_same number entry queue entry_same h.rises)
            (λ q there. (let was = h.below q there in let same = entry_same q there in
            omega (arith, was, same, entry_here)));
        below = λ q there. elim (in_push q place queue there) [
          | inl e ↦ (let is = ap entry e in omega (arith, is, entry_here))
          | inr was ↦
              (let b = h.below q was in let same = entry_same q was in omega (arith, b, same))
        ];
        one_each = λ d. elim cases [
          | inl none ↦ ap (times d) none.1 ∙ h.one_each d ∙ elim (cases_eq d c) [
            | inl e ↦ elim none.0 [
              | inl shut ↦ ap (λ b. one_if (b && is_some_line (line d))) (ap is_open e ∙ shut)
                  ∙ ap (λ b. one_if (b && is_some_line (lines d))) (sym (ap is_open e ∙ shut))
              | inr some ↦
                  ap (λ b. one_if (is_open d && b)) (ap (λ k. is_some_line (line k)) e ∙ some
                  ∙ sym (still_some (line c)) ∙ ap is_some_line (sym (ap lines e ∙ line_here)))
            ]
            | inr m ↦ ap (λ ps. one_if (is_open d && is_some_line ps)) (sym (line_else d m))
          ]
          | inr some ↦ sum_by_pushed (λ (o : Head). one_if (eqb o.1 d)) (next, c) heads more some.2
              ∙ elim (cases_eq d c) [
                | inl e ↦ (let before : times d heads ≡ 0 = h.one_each d
                    ∙ ap (λ ps. one_if (is_open d && is_some_line ps)) (ap line e ∙ some.1)
                    ∙ ap (λ b. one_if (b && false)) (ap is_open e ∙ some.0) in
                    let one : one_if (eqb c d) ≡ 1 = ap one_if (eq-eqb c d (sym e)) in
                    let after : one_if (is_open d && is_some_line (lines d)) ≡ 1 =
                    ap (λ b. one_if (b && is_some_line (lines d))) (ap is_open e ∙ some.0)
                    ∙ ap one_if (ap is_some_line (ap lines e ∙ line_here) ∙ still_some (line c)) in
                    omega (arith, before, one, after))
                | inr m ↦ (let z : one_if (eqb c d) ≡ 0 = ap one_if (ne_eqb c d (λ e. m (sym e))) in
                    let before = h.one_each d in
                    let after : one_if (is_open d && is_some_line (line d))
                    ≡ one_if (is_open d && is_some_line (lines d)) =
                    ap (λ ps. one_if (is_open d && is_some_line ps)) (sym (line_else d m)) in
                    omega (arith, z, before, after))
              ]
        ];
        led = elim cases [
          | inl none ↦
              subst (λ hs. All (λ (o : Head). Leads entry (lines o.1) o.0) hs) (sym none.1) led_old
          | inr some ↦ All-permutation (λ (o : Head). Leads entry (lines o.1) o.0)
              ((next, c) ∷ heads) more some.2
              (All-cons (λ (o : Head). Leads entry (lines o.1) o.0)
              (next, c) heads (subst (λ ps. Leads entry ps next)
              (sym (line_here ∙ ap (λ ps. ps ++ place ∷ []) some.1)) entry_here) led_old)
        ];
        counted = count ∙ (let long : length (ready_of is_open owner (queue ++ place ∷ []))
            ≡ length (ready_of is_open client queue) + one_if (is_open c) =
            ap length (filter-append (λ p. is_open (owner p)) queue (place ∷ []) ∙ ap
            (λ ps. ps ++ cond (is_open (owner place)) (place ∷ []) []) same_ready ∙ ap (λ x.
            ready_of is_open client queue ++ cond (is_open x) (place ∷ []) []) owner_here)
            ∙ longer (is_open c) (ready_of is_open client queue) in
            let is : ready + one_if (is_open c)
            ≡ length (ready_of is_open owner (queue ++ place ∷ [])) =
            omega (arith, long, h.counted) in is);
      }
    where
      append-nil : (ps : List ℕ) → ps ++ [] ≡ ps
      append-nil [] = refl
      append-nil (p ∷ ps) = ap (λ qs. p ∷ qs) (append-nil ps)

      still_some : (ps : List ℕ) → is_some_line (ps ++ place ∷ []) ≡ true
      still_some [] = refl
      still_some (p ∷ ps) = refl

      longer : (b : Bool) (ps : List ℕ)
          → length (ps ++ cond b (place ∷ []) []) ≡ length ps + one_if b
      longer true ps = length_push ps place
      longer false ps = ap length (append-nil ps) ∙ omega arith

      same_ready : ready_of is_open owner queue ≡ ready_of is_open client queue
      same_ready = filter_same (λ p. is_open (owner p)) (λ p. is_open (client p)) queue
          (λ q there. ap is_open (owner_else q (apart q there)))

      led_old : All (λ (o : Head). Leads entry (lines o.1) o.0) heads
      led_old = all_by (λ o. Leads number (line o.1) o.0) (λ o. Leads entry (lines o.1) o.0) heads
          (λ o is. elim (cases_eq o.1 c) [
            | inl e ↦
                subst (λ ps. Leads entry ps o.0) (sym (ap lines e ∙ line_here)) (lead_same number
                entry (line c) (place ∷ []) o.0 (λ q there. entry_same q (in_queue c q there))
                (subst (λ k. Leads number (line k) o.0) e is))
            | inr m ↦ subst (λ ps. Leads entry ps o.0)
                (append-nil (line o.1) ∙ sym (line_else o.1 m)) (lead_same number entry (line o.1)
                [] o.0 (λ q there. entry_same q (in_queue o.1 q there)) is)
          ]) h.led

-- where every client is closed there are no heads
pub all_shut : (client number : ℕ → ℕ) (is_open shut : ℕ → Bool) (queue : List ℕ)
    (line : ℕ → List ℕ) (heads : List Head) (next ready : ℕ)
    → Hangs client number is_open queue line heads next ready → ((c : ℕ) → shut c ≡ false)
    → Hangs client number shut queue line [] next 0
all_shut client number is_open shut queue line heads next ready h closed =
    record {
      once = h.once;
      line_is = h.line_is;
      rises = h.rises;
      below = h.below;
      one_each = λ d. ap (λ b. one_if (b && is_some_line (line d))) (sym (closed d));
      led = All-nil _;
      counted = ap length (sym (none_ready shut client number queue
          (λ d o. absurd (false≢true (sym (closed d) ∙ o)))));
    }

-- ---- a client whose last job is gone is closed

pub given_up : (client number : ℕ → ℕ) (is_open shut : ℕ → Bool)
    (queue : List ℕ) (line : ℕ → List ℕ) (heads : List Head) (next ready c : ℕ)
    → Hangs client number is_open queue line heads next ready
    → line c ≡ [] → shut c ≡ false → ((d : ℕ) → d ≢ c → shut d ≡ is_open d)
    → Hangs client number shut queue line heads next ready
given_up client number is_open shut queue line heads next ready c h empty closed same =
    record {
      once = h.once;
      line_is = h.line_is;
      rises = h.rises;
      below = h.below;
      one_each = λ d. h.one_each d ∙ elim (cases_eq d c) [
        | inl e ↦ ap (λ ps. one_if (is_open d && is_some_line ps)) (ap line e ∙ empty)
            ∙ and_none (is_open d) (shut d)
            ∙ ap (λ ps. one_if (shut d && is_some_line ps)) (sym (ap line e ∙ empty))
        | inr m ↦ ap (λ b. one_if (b && is_some_line (line d))) (sym (same d m))
      ];
      led = h.led;
      counted =
          by_flag (is_open c) (λ b. is_open c ≡ b → ready ≡ length (ready_of shut client queue))
          (λ e is.
          (let grown = opened client shut is_open c queue closed is (λ d m. sym (same d m)) in
          let none : length (line_of client c queue) ≡ 0 = ap length (sym (h.line_is c) ∙ empty) in
          let all = h.counted in omega (arith, grown, none, all)))
          (λ e is. h.counted ∙ ap length (filter_same (λ p. is_open (client p))
          (λ p. shut (client p)) queue (λ p there. elim (cases_eq (client p) c) [
            | inl f ↦ ap is_open f ∙ is ∙ sym (ap shut f ∙ closed)
            | inr m ↦ sym (same (client p) m)
          ])))
          refl;
    }
  where
    and_none : (a b : Bool) → one_if (a && false) ≡ one_if (b && false)
    and_none true true = refl
    and_none true false = refl
    and_none false true = refl
    and_none false false = refl

-- ---- the order of each client: the first that is ready is the first of its client

pub first_of_client : (is_open : ℕ → Bool) (client : ℕ → ℕ) (queue : List ℕ) (x : ℕ)
    → first_of (ready_of is_open client queue) ≡ Some x
    → first_of (line_of client (client x) queue) ≡ Some x
first_of_client is_open client [] x first = absurd (cc)
first_of_client is_open client (q ∷ qs) x first =
    by_flag (is_open (client q)) (λ b. is_open (client q) ≡ b
    → first_of (cond b (q ∷ ready_of is_open client qs) (ready_of is_open client qs)) ≡ Some x
    → first_of (line_of client (client x) (q ∷ qs)) ≡ Some x)
    (λ e is f. (let same : q ≡ x = cc in
    ap (λ b. first_of (cond b (q ∷ line_of client (client x) qs) (line_of client (client x) qs)))
    (eq-eqb (client q) (client x) (ap client same)) ∙ ap Some same))
    (λ e is f. (let free : is_open (client x) ≡ true =
    kept (λ p. is_open (client p)) x qs (is_in-head x (ready_of is_open client qs) f) in
    ap (λ b. first_of (cond b (q ∷ line_of client (client x) qs) (line_of client (client x) qs)))
    (ne_eqb (client q) (client x) (λ same. false≢true (sym is ∙ ap is_open same ∙ free)))
    ∙ first_of_client is_open client qs x f))
    refl first

-- ---- the same said otherwise

has_line : (p : ℕ) (ps : List ℕ) → is_in p ps ≡ true → is_some_line ps ≡ true
has_line p [] bad = absurd (false≢true bad)
has_line p (q ∷ ps) there = refl

leads_in : (f g : ℕ → ℕ) (ps : List ℕ) (n : ℕ) → ((q : ℕ) → is_in q ps ≡ true → g q ≡ f q)
    → Leads f ps n → Leads g ps n
leads_in f g [] n same bad = bad
leads_in f g (p ∷ ps) n same is = same p (is_in-first p ps) ∙ is

module _ (client number : ℕ → ℕ) (is_open : ℕ → Bool) (queue : List ℕ) (line : ℕ → List ℕ)
    (heads : List Head) (next ready : ℕ)
    (h : Hangs client number is_open queue line heads next ready) where
  in_line : (p : ℕ) → is_in p queue ≡ true → is_some_line (line (client p)) ≡ true
  in_line p there = has_line
      p (line (client p)) (subst (λ ps. is_in p ps ≡ true) (sym (h.line_is (client p))) (in_filter
      (λ q. eqb (client q) (client p)) p queue (eq-eqb (client p) (client p) refl) there))
    where
      in_filter : (keep : ℕ → Bool) (x : ℕ) (xs : List ℕ) → keep x ≡ true → is_in x xs ≡ true
          → is_in x (filter keep xs) ≡ true
      in_filter keep x [] k bad = bad
      in_filter keep x (y ∷ xs) k there =
          by_eq x y (λ b. (b || is_in x xs) ≡ true
          → is_in x (cond (keep y) (y ∷ filter keep xs) (filter keep xs)) ≡ true)
          (λ same f. ap (λ b. is_in x (cond b (y ∷ filter keep xs) (filter keep xs)))
          (sym (ap keep same) ∙ k) ∙ subst (λ z. is_in z (y ∷ filter keep xs) ≡ true)
          (sym same) (is_in-first y (filter keep xs)))
          (λ differs f. by_flag (keep y)
          (λ b. is_in x (cond b (y ∷ filter keep xs) (filter keep xs)) ≡ true)
          (λ e. or_right (eqb x y) _ (in_filter keep x xs k f)) (λ e. in_filter keep x xs k f))
          there

  pub in_queue_of : (c p : ℕ) → is_in p (line c) ≡ true → is_in p queue ≡ true
  in_queue_of c p there = is_in-filter (λ q. eqb (client q) c) p queue
      (subst (λ ps. is_in p ps ≡ true) (h.line_is c) there)

  -- clients and numbers of the queued places, lines, and the flags of clients that have a line may
  -- be said otherwise, and heads stand in another order
  pub said : (owner entry : ℕ → ℕ) (wide : ℕ → Bool) (lines : ℕ → List ℕ) (more : List Head)
      → ((p : ℕ) → is_in p queue ≡ true → owner p ≡ client p)
      → ((p : ℕ) → is_in p queue ≡ true → entry p ≡ number p)
      → ((c : ℕ) → is_some_line (line c) ≡ true → wide c ≡ is_open c) → ((c : ℕ) → lines c ≡ line c)
      → IsPermutation heads more
      → Hangs owner entry wide queue lines more next ready
  said owner entry wide lines more own ent flags same order =
      record {
        once = h.once;
        line_is = λ c. same c ∙ h.line_is c ∙ sym (filter_same (λ p. eqb (owner p) c)
            (λ p. eqb (client p) c) queue (λ p there. ap (λ x. eqb x c) (own p there)));
        rises = rises_same number entry queue ent h.rises;
        below = λ p there. (let b = h.below p there in let e = ent p there in omega (arith, b, e));
        one_each = λ c. sum_by-IsPermutation (λ (o : Head). one_if (eqb o.1 c)) heads more order
            ∙ h.one_each c
            ∙ by_flag (is_some_line (line c)) (λ b. is_some_line (line c) ≡ b
            → one_if (is_open c && b) ≡ one_if (wide c && b))
            (λ e is. ap (λ b. one_if (b && true)) (sym (flags c is)))
            (λ e is. both_none (is_open c) (wide c)) refl
            ∙ ap (λ ps. one_if (wide c && is_some_line ps)) (sym (same c));
        led = All-permutation (λ (o : Head). Leads entry (lines o.1) o.0) heads more order
            (all_by (λ o. Leads number (line o.1) o.0) (λ o. Leads entry (lines o.1) o.0) heads
            (λ o is. subst (λ ps. Leads entry ps o.0) (sym (same o.1)) (leads_in number entry
            (line o.1) o.0 (λ q there. ent q (in_queue_of o.1 q there)) is)) h.led);
        counted =
            h.counted ∙ ap length (filter_same (λ p. is_open (client p)) (λ p. wide (owner p)) queue
            (λ p there. sym (ap wide (own p there) ∙ flags (client p) (in_line p there))));
      }
    where
      none : (x : Bool) → one_if (x && false) ≡ 0
      none true = refl
      none false = refl

      both_none : (a b : Bool) → one_if (a && false) ≡ one_if (b && false)
      both_none a b = none a ∙ sym (none b)

  -- where no client is open, there are no heads, and places may be numbered anew
  pub numbered : (entry : ℕ → ℕ) (later : ℕ)
      → Rises entry queue → ((p : ℕ) → is_in p queue ≡ true → entry p < later)
      → Hangs client entry (λ _. false) queue line [] later 0
  numbered entry later rises below =
      record {
        once = h.once;
        line_is = h.line_is;
        rises = rises;
        below = below;
        one_each = λ _. refl;
        led = All-nil _;
        counted = ap length
            (sym (none_ready (λ _. false) client number queue (λ d o. absurd (false≢true o))));
      }

  pub same_ready : (wide : ℕ → Bool) → ((c : ℕ) → wide c ≡ is_open c)
      → Hangs client number wide queue line heads next ready
  same_ready wide same = said client number wide line heads (λ p _. refl) (λ p _. refl)
      (λ c _. same c) (λ c. refl) (IsPermutation-refl heads)
