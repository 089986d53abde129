-- The least head among the open clients is the first that is ready; and what opening and closing a
-- client does to the count.
use Rattle.std.proofs.Common.{◌≡◌, ◌≢◌, ℕ, ◌+◌, ◌≤◌, Bool, true, false, cond, eqb, ◌||◌, List, []}
use Rattle.std.proofs.Common.{◌∷◌, filter, length, Some, refl, sym, ap, ◌∙◌, subst, arith}
use Rattle.std.proofs.lemmas.Bool.{eq-eqb, ne_eqb, or_right, false≢true}
use Rattle.blocking_pool.specs.Lists.{is_in, first_of}
use Rattle.blocking_pool.proofs.Lists.{by_eq, is_in-first}
use Rattle.blocking_pool.specs.Hangs.{line_of, ready_of, Rises}

-- what is said of a flag that is one or the other
pub by_flag : (b : Bool) (P : Bool → Type 0) → (b ≡ true → P true) → (b ≡ false → P false) → P b
by_flag true P t f = t refl
by_flag false P t f = f refl

-- what stands in a filtered list stands in the list
pub is_in-filter : (keep : ℕ → Bool) (x : ℕ) (xs : List ℕ) → is_in x (filter keep xs) ≡ true
    → is_in x xs ≡ true
is_in-filter keep x [] found = found
is_in-filter keep x (y ∷ xs) found =
    by_flag (keep y) (λ b. is_in x (cond b (y ∷ filter keep xs) (filter keep xs)) ≡ true
    → (eqb x y || is_in x xs) ≡ true)
    (λ k f. by_eq x y (λ b. (b || is_in x (filter keep xs)) ≡ true
    → (b || is_in x xs) ≡ true) (λ same g. refl) (λ differs g. is_in-filter keep x xs g) f)
    (λ k f. or_right (eqb x y) (is_in x xs) (is_in-filter keep x xs f)) found

pub is_in-head : (h : ℕ) (xs : List ℕ) → first_of xs ≡ Some h → is_in h xs ≡ true
is_in-head h [] is = absurd (cc)
is_in-head h (x ∷ xs) is = let same : x ≡ h = cc in
    subst (λ y. is_in h (y ∷ xs) ≡ true) (sym same) (is_in-first h xs)

module _ (is_open : ℕ → Bool) (client entry : ℕ → ℕ) where
  -- the first of a line, where another client's place stands before it
  line_past : (c q : ℕ) (qs : List ℕ) → client q ≢ c
      → line_of client c (q ∷ qs) ≡ line_of client c qs
  line_past c q qs differs =
      ap (λ b. cond b (q ∷ line_of client c qs) (line_of client c qs)) (ne_eqb (client q) c differs)

  line_here : (c q : ℕ) (qs : List ℕ) → client q ≡ c
      → line_of client c (q ∷ qs) ≡ q ∷ line_of client c qs
  line_here c q qs same =
      ap (λ b. cond b (q ∷ line_of client c qs) (line_of client c qs)) (eq-eqb (client q) c same)

  ready_past : (q : ℕ) (qs : List ℕ) → is_open (client q) ≡ false
      → ready_of is_open client (q ∷ qs) ≡ ready_of is_open client qs
  ready_past q qs shut =
      ap (λ b. cond b (q ∷ ready_of is_open client qs) (ready_of is_open client qs)) shut

  ready_here : (q : ℕ) (qs : List ℕ) → is_open (client q) ≡ true
      → ready_of is_open client (q ∷ qs) ≡ q ∷ ready_of is_open client qs
  ready_here q qs free =
      ap (λ b. cond b (q ∷ ready_of is_open client qs) (ready_of is_open client qs)) free

  -- no open client's head entered before this one
  abbrev pub IsLeast : List ℕ → ℕ → Type 0
  IsLeast queue h = (d g : ℕ) → is_open d ≡ true → first_of (line_of client d queue) ≡ Some g
      → entry h ≤ entry g

  pub least_is_first : (queue : List ℕ) (c h : ℕ) → Rises entry queue → is_open c ≡ true
      → first_of (line_of client c queue) ≡ Some h → IsLeast queue h
      → first_of (ready_of is_open client queue) ≡ Some h
  least_is_first [] c h rises free head least = head
  least_is_first (q ∷ qs) c h rises free head least =
      by_flag (is_open (client q)) (λ b. is_open (client q) ≡ b
      → first_of (ready_of is_open client (q ∷ qs)) ≡ Some h)
      (λ e is. ap first_of (ready_here q qs is) ∙ ap Some (here is))
      (λ e is. ap first_of (ready_past q qs is) ∙ least_is_first qs c h rises.1 free
      (sym (ap first_of (line_past c q qs (apart is c free))) ∙ head)
      (λ d g o f. least d g o (ap first_of (line_past d q qs (apart is d o)) ∙ f)))
      refl
    where
      apart : is_open (client q) ≡ false → (d : ℕ) → is_open d ≡ true → client q ≢ d
      apart shut d o same = false≢true (sym shut ∙ ap is_open same ∙ o)

      here : is_open (client q) ≡ true → q ≡ h
      here is =
          by_eq (client q) c (λ b. first_of (cond b (q ∷ line_of client c qs) (line_of client c qs))
          ≡ Some h → q ≡ h)
          (λ same f. cc)
          (λ differs f. absurd (let before = rises.0 h (is_in-filter (λ p. eqb (client p) c) h qs
          (is_in-head h (line_of client c qs) f)) in
          let after = least (client q) q is (ap first_of (line_here (client q) q qs refl)) in
          omega (arith, before, after)))
          head

  -- where no open client has a place, none is ready
  pub none_ready : (queue : List ℕ) → ((d : ℕ) → is_open d ≡ true → line_of client d queue ≡ [])
      → ready_of is_open client queue ≡ []
  none_ready [] none = refl
  none_ready (q ∷ qs) none =
      by_flag (is_open (client q)) (λ b. is_open (client q) ≡ b
      → ready_of is_open client (q ∷ qs) ≡ [])
      (λ e is. absurd (let bad : q ∷ line_of client (client q) qs
      ≡ [] = sym (line_here (client q) q qs refl) ∙ none (client q) is in cc))
      (λ e is. ready_past q qs is ∙ none_ready qs (λ d o. sym
      (line_past d q qs (λ same. false≢true (sym is ∙ ap is_open same ∙ o))) ∙ none d o))
      refl

-- Where a client opens, what is ready grows by its line, and all else is as before.
pub opened : (client : ℕ → ℕ) (before after : ℕ → Bool) (c : ℕ) (queue : List ℕ) → before c ≡ false
    → after c ≡ true → ((d : ℕ) → d ≢ c → after d ≡ before d)
    → length (ready_of after client queue)
    ≡ length (ready_of before client queue) + length (line_of client c queue)
opened client before after c [] shut free same = refl
opened client before after c (q ∷ qs) shut free same =
    let more = opened client before after c qs shut free same in
    by_eq (client q) c
    (λ b. length (ready_of after client (q ∷ qs)) ≡ length (ready_of before client (q ∷ qs))
    + length (cond b (q ∷ line_of client c qs) (line_of client c qs)))
    (λ is. rw (ap after is ∙ free, ap before is ∙ shut) (omega (arith, more)))
    (λ differs. rw (same (client q) differs) (by_flag (before (client q))
    (λ b. length (cond b (q ∷ ready_of after client qs) (ready_of after client qs))
    ≡ length (cond b (q ∷ ready_of before client qs) (ready_of before client qs))
    + length (line_of client c qs))
    (λ b. omega (arith, more)) (λ b. omega (arith, more))))

-- where every client is open, all are ready
pub all_ready : (is_open : ℕ → Bool) (client : ℕ → ℕ) (queue : List ℕ)
    → ((c : ℕ) → is_open c ≡ true) → ready_of is_open client queue ≡ queue
all_ready is_open client [] free = refl
all_ready is_open client (q ∷ qs) free = ready_here is_open client (λ p. p) q qs (free (client q))
    ∙ ap (λ ps. q ∷ ps) (all_ready is_open client qs free)
