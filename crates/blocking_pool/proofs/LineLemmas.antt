-- How a place that is added at the end of a line, or taken out at its front, changes the lines.
use Rattle.std.proofs.Common.{◌≡◌, ◌≢◌, ℕ, zero, suc, ◌+◌, ◌-◌, ◌<◌, ◌≤◌, true, false, cond, eqb}
use Rattle.std.proofs.Common.{List, [], ◌∷◌, ◌++◌, length, refl, sym, ap, ◌∙◌, subst, inl, inr}
use Rattle.std.proofs.Common.{arith}
use Rattle.std.proofs.Math.Dec.{eqb-suc-zero}
use Rattle.std.proofs.lemmas.Bool.{cases_eq, or_right, false≢true}
use Rattle.blocking_pool.specs.Lists.{is_in, IsOnce}
use Rattle.blocking_pool.specs.Lines.{rest_of, last_of, walk_line, places_of, AreLined}
use Rattle.blocking_pool.specs.QueueForm.{longer}
use Rattle.blocking_pool.specs.declared.pool.clients.Line.{Line}
use Rattle.blocking_pool.proofs.HangLemmas.{in_push}
use Rattle.blocking_pool.proofs.Lists.{is_in-first, IsOnce-push, length-le_below}

last_in : (x : ℕ) (xs : List ℕ) → is_in (last_of x xs) (x ∷ xs) ≡ true
last_in x [] = is_in-first x []
last_in x (y ∷ ys) = or_right (eqb (last_of y ys) x) _ (last_in y ys)

last_of-push : (x : ℕ) (xs : List ℕ) (place : ℕ) → last_of x (xs ++ place ∷ []) ≡ place
last_of-push x [] place = refl
last_of-push x (y ∷ ys) place = last_of-push y ys place

pub walk_length : (f : ℕ → ℕ) (n a : ℕ) → length (walk_line f n a) ≡ n
walk_length f zero a = refl
walk_length f (suc n) a = ap suc (walk_length f n (f a))

-- a walk is the same where its links are
pub walk_same : (f g : ℕ → ℕ) (n a : ℕ) → ((p : ℕ) → is_in p (walk_line f n a) ≡ true → g p ≡ f p)
    → walk_line g n a ≡ walk_line f n a
walk_same f g zero a same = refl
walk_same f g (suc n) a same =
    subst (λ b. a ∷ walk_line g n b ≡ a ∷ walk_line f n (f a))
    (sym (same a (is_in-first a (walk_line f n (f a)))))
    (ap (λ ps. a ∷ ps) (walk_same f g n (f a) (λ p found. same p (or_right (eqb p a) _ found))))

-- a walk goes on where its last place has a link
walk_push : (f g : ℕ → ℕ) (n a last place : ℕ)
    → last ≡ last_of a (walk_line f n (f a)) → IsOnce (walk_line f (suc n) a)
    → ((q : ℕ) → is_in q (walk_line f (suc n) a) ≡ true → q ≢ last → g q ≡ f q) → g last ≡ place
    → walk_line g (suc (suc n)) a ≡ walk_line f (suc n) a ++ place ∷ []
walk_push f g zero a last place is once else_same to = ap (λ p. a ∷ p ∷ []) (ap g (sym is) ∙ to)
walk_push f g (suc n) a last place is once else_same to =
    let differs : a ≢ last =
    λ e. false≢true (sym once.0 ∙ subst (λ x. is_in x (walk_line f (suc n) (f a)) ≡ true)
    (sym (e ∙ is)) (last_in (f a) (walk_line f n (f (f a))))) in
    subst (λ b. a ∷ walk_line g (suc (suc n)) b ≡ a ∷ (walk_line f (suc n) (f a) ++ place ∷ []))
    (sym (else_same a (is_in-first a (walk_line f (suc n) (f a))) differs))
    (ap (λ ps. a ∷ ps) (walk_push f g n (f a) last place is once.1
    (λ q there. else_same q (or_right (eqb q a) _ there)) to))

-- a line that isn't empty begins with its first place
pub line_begins : (after : ℕ → ℕ) (line : Line) → 0 < line.len
    → places_of after line ≡ line.first ∷ walk_line after (line.len - 1) (after line.first)
line_begins after line some = from line.len some
  where
    from : (n : ℕ) → 0 < n
        → walk_line after n line.first ≡ line.first ∷ walk_line after (n - 1) (after line.first)
    from zero bad = absurd (omega (arith, bad))
    from (suc n) more = ap (λ m. line.first ∷ walk_line after m (after line.first))
        (let lower : n ≡ suc n - 1 = omega arith in lower)

-- a line is empty where it counts none
pub line_none : (after : ℕ → ℕ) (line : Line) → line.len ≡ 0 → places_of after line ≡ []
line_none after line none = ap (λ n. walk_line after n line.first) none

pub line_long : (after : ℕ → ℕ) (line : Line) → length (places_of after line) ≡ line.len
line_long after line = walk_length after line.len line.first

module _ (after : ℕ → ℕ) (bound : ℕ) (lines : ℕ → Line) (lined : AreLined after bound lines) where
  -- how many places a line may have
  pub line_short : (c : ℕ) → (lines c).len ≤ bound
  line_short c = subst (λ n. n ≤ bound) (line_long after (lines c))
      (length-le_below (places_of after (lines c)) bound (lined.once c) (lined.within c))

  -- the first place of a line is below the bound
  pub first_in : (c : ℕ) → 0 < (lines c).len
      → is_in (lines c).first (places_of after (lines c)) ≡ true
  first_in c some = subst (λ ps. is_in (lines c).first ps ≡ true)
      (sym (line_begins after (lines c) some)) (is_in-first (lines c).first _)

  pub first_below : (c : ℕ) → 0 < (lines c).len → (lines c).first < bound
  first_below c some = lined.within c (lines c).first (first_in c some)

  -- the last place of a line is in it
  pub last_there : (c : ℕ) → 0 < (lines c).len
      → is_in (lines c).last (places_of after (lines c)) ≡ true
  last_there c some =
      let begins = line_begins after (lines c) some in
      subst (λ p. is_in p (places_of after (lines c)) ≡ true)
      (sym (lined.last c some ∙ ap (last_of 0) begins))
      (subst (λ ps. is_in (last_of 0 ((lines c).first ∷ walk_line after ((lines c).len - 1)
      (after (lines c).first))) ps ≡ true) (sym begins)
      (last_in (lines c).first (walk_line after ((lines c).len - 1) (after (lines c).first))))

  pub last_below : (c : ℕ) → 0 < (lines c).len → (lines c).last < bound
  last_below c some = lined.within c (lines c).last (last_there c some)

  -- the lines may be said otherwise
  pub lined_as : (links : ℕ → ℕ) (wider : ℕ) (others : ℕ → Line)
      → ((c : ℕ) → places_of links (others c) ≡ places_of after (lines c))
      → ((c : ℕ) → 0 < (others c).len → (others c).last ≡ (lines c).last) → bound ≤ wider
      → AreLined links wider others
  lined_as links wider others same ends more =
      record {
        last = λ c some. ends c some ∙ lined.last c (still c some) ∙ ap (last_of 0) (sym (same c));
        within = λ c p there. (let b = lined.within c p
            (subst (λ ps. is_in p ps ≡ true) (same c) there) in omega (arith, b, more));
        once = λ c. subst IsOnce (sym (same c)) (lined.once c);
        apart = λ c d p in_c in_d. lined.apart c d p (subst (λ ps. is_in p ps ≡ true) (same c) in_c)
            (subst (λ ps. is_in p ps ≡ true) (same d) in_d);
      }
    where
      still : (c : ℕ) → 0 < (others c).len → 0 < (lines c).len
      still c some = let a = line_long links (others c) in let b = line_long after (lines c) in
          let e = ap length (same c) in omega (arith, some, a, b, e)

  -- the first place of a line is taken out
  module _ (c : ℕ) (some : 0 < (lines c).len) (others : ℕ → Line) (here : others c
      ≡ record { first = after (lines c).first; last = (lines c).last; len = (lines c).len - 1 })
      (else_same : (d : ℕ) → d ≢ c → others d ≡ lines d) where
    pub popped_row : places_of after (others c) ≡ rest_of (places_of after (lines c))
    popped_row = ap (places_of after) here ∙ ap rest_of (sym (line_begins after (lines c) some))

    rows_else : (d : ℕ) → d ≢ c → places_of after (others d) ≡ places_of after (lines d)
    rows_else d n = ap (places_of after) (else_same d n)

    in_old : (d p : ℕ) → is_in p (places_of after (others d)) ≡ true
        → is_in p (places_of after (lines d)) ≡ true
    in_old d p found = elim (cases_eq d c) [
      | inl e ↦ subst (λ k. is_in p (places_of after (lines k)) ≡ true)
          (sym e) (in_rest p (places_of after (lines c)) (subst (λ ps. is_in p ps ≡ true)
          (ap (λ k. places_of after (others k)) e ∙ popped_row) found))
      | inr n ↦ subst (λ ps. is_in p ps ≡ true) (rows_else d n) found
    ]
      where
        in_rest : (p : ℕ) (xs : List ℕ) → is_in p (rest_of xs) ≡ true → is_in p xs ≡ true
        in_rest p [] there = there
        in_rest p (x ∷ xs) there = or_right (eqb p x) _ there

    pub popped : AreLined after bound others
    popped =
        record {
          last = λ d many. elim (cases_eq d c) [
            | inl e ↦ subst (λ k. (others k).last ≡ last_of 0 (places_of after (others k))) (sym e)
                (ap (λ (x : Line). x.last) here
                ∙ lined.last c some ∙ last_rest (places_of after (lines c))
                (rest_long (subst (λ k. 0 < (others k).len) e many))
                ∙ ap (last_of 0) (sym popped_row))
            | inr n ↦ ap (λ (x : Line). x.last) (else_same d n)
                ∙ lined.last d (subst (λ (x : Line). 0 < x.len) (else_same d n) many)
                ∙ ap (last_of 0) (sym (rows_else d n))
          ];
          within = λ d p found. lined.within d p (in_old d p found);
          once = λ d. elim (cases_eq d c) [
            | inl e ↦ subst IsOnce (sym (ap (λ k. places_of after (others k)) e ∙ popped_row))
                (once_rest (places_of after (lines c)) (lined.once c))
            | inr n ↦ subst IsOnce (sym (rows_else d n)) (lined.once d)
          ];
          apart = λ d e p in_d in_e. lined.apart d e p (in_old d p in_d) (in_old e p in_e);
        }
      where
        once_rest : (xs : List ℕ) → IsOnce xs → IsOnce (rest_of xs)
        once_rest [] once = tt
        once_rest (x ∷ xs) once = once.1

        rest_long : 0 < (others c).len → 0 < length (rest_of (places_of after (lines c)))
        rest_long many = let long = line_long after (others c) in let row = ap length popped_row in
            omega (arith, many, long, row)

        last_rest : (xs : List ℕ) → 0 < length (rest_of xs) → last_of 0 xs ≡ last_of 0 (rest_of xs)
        last_rest [] bad = refl
        last_rest (x ∷ []) bad = absurd (omega (arith, bad))
        last_rest (x ∷ y ∷ ys) more_than = refl

  -- a place that stood in no line is put at the end of one
  module _ (c place : ℕ) (below : place < bound) (fresh : (d : ℕ)
      → is_in place (places_of after (lines d)) ≡ false) (links : ℕ → ℕ) (others : ℕ → Line)
      (here : others c ≡ longer (lines c) place) (else_same : (d : ℕ) → d ≢ c → others d ≡ lines d)
      (linked : 0 < (lines c).len → links (lines c).last ≡ place) (kept : (q : ℕ) → q ≢ place
      → (0 < (lines c).len → q ≢ (lines c).last) → links q ≡ after q) where
    not_it : (d q : ℕ) → is_in q (places_of after (lines d)) ≡ true → q ≢ place
    not_it d q there e =
        false≢true (sym (fresh d) ∙ subst (λ x. is_in x (places_of after (lines d)) ≡ true) e there)

    pub pushed_else : (d : ℕ) → d ≢ c → places_of links (others d) ≡ places_of after (lines d)
    pushed_else d n =
        ap (places_of links) (else_same d n)
        ∙ walk_same after links (lines d).len (lines d).first (λ q there. kept q (not_it d q there)
        (λ some e. n (lined.apart d c q there (subst
        (λ x. is_in x (places_of after (lines c)) ≡ true) (sym e) (last_there c some)))))

    pub pushed_row : places_of links (others c) ≡ places_of after (lines c) ++ place ∷ []
    pushed_row = ap (places_of links) here ∙ from (lines c).len refl
      where
        from : (n : ℕ) → (lines c).len ≡ n
            → places_of links (longer (lines c) place) ≡ places_of after (lines c) ++ place ∷ []
        from zero none =
            ap (λ n. walk_line links (n + 1) (cond (eqb n 0) place (lines c).first)) none
            ∙ ap (λ ps. ps ++ place ∷ []) (sym (line_none after (lines c) none))
        from (suc n) many =
            let some : 0 < (lines c).len = omega (arith, many) in
            ap (λ k. walk_line links (k + 1) (cond (eqb k 0) place (lines c).first)) many
            ∙ ap (λ b. walk_line links (suc n + 1) (cond b place (lines c).first)) (eqb-suc-zero n)
            ∙ ap (λ k. walk_line links k (lines c).first)
            (let two : suc n + 1 ≡ suc (suc n) = omega arith in two)
            ∙ walk_push after links n (lines c).first (lines c).last place
            (lined.last c some ∙ ap (λ k. last_of 0 (walk_line after k (lines c).first)) many)
            (subst (λ k. IsOnce (walk_line after k (lines c).first)) many (lined.once c))
            (λ q there differs. kept q (not_it c q (subst
            (λ k. is_in q (walk_line after k (lines c).first) ≡ true) (sym many) there))
            (λ _. differs))
            (linked some)
            ∙ ap (λ k. walk_line after k (lines c).first ++ place ∷ []) (sym many)

    pub pushed : AreLined links bound others
    pushed =
        record {
          last = λ d some. elim (cases_eq d c) [
            | inl e ↦ subst (λ k. (others k).last ≡ last_of 0 (places_of links (others k)))
                (sym e) (ap (λ (x : Line). x.last) here ∙ sym
                (ap (last_of 0) pushed_row ∙ last_of-push 0 (places_of after (lines c)) place))
            | inr n ↦ ap (λ (x : Line). x.last) (else_same d n)
                ∙ lined.last d (subst (λ (x : Line). 0 < x.len) (else_same d n) some)
                ∙ ap (last_of 0) (sym (pushed_else d n))
          ];
          within = λ d p found. elim (cases_eq d c) [
            | inl e ↦
                elim (in_push p place (places_of after (lines c)) (subst (λ ps. is_in p ps ≡ true)
                (ap (λ k. places_of links (others k)) e ∙ pushed_row) found)) [
                  | inl same ↦ subst (λ x. x < bound) (sym same) below
                  | inr was ↦ lined.within c p was
                ]
            | inr n ↦ lined.within d p (subst (λ ps. is_in p ps ≡ true) (pushed_else d n) found)
          ];
          once = λ d. elim (cases_eq d c) [
            | inl e ↦ subst IsOnce (sym (ap (λ k. places_of links (others k)) e ∙ pushed_row))
                (IsOnce-push (places_of after (lines c)) place (lined.once c) (fresh c))
            | inr n ↦ subst IsOnce (sym (pushed_else d n)) (lined.once d)
          ];
          apart = λ d j p in_d in_j. elim (cases_eq d c) [
            | inl e ↦ elim (cases_eq j c) [
              | inl f ↦ e ∙ sym f
              | inr m ↦ e ∙ mixed p (subst (λ ps. is_in p ps ≡ true)
                  (ap (λ k. places_of links (others k)) e ∙ pushed_row) in_d) j
                  (subst (λ ps. is_in p ps ≡ true) (pushed_else j m) in_j)
            ]
            | inr n ↦ elim (cases_eq j c) [
              | inl f ↦ sym (f ∙ mixed p (subst (λ ps. is_in p ps ≡ true)
                  (ap (λ k. places_of links (others k)) f ∙ pushed_row) in_j) d
                  (subst (λ ps. is_in p ps ≡ true) (pushed_else d n) in_d))
              | inr m ↦ lined.apart d j p (subst (λ ps. is_in p ps ≡ true) (pushed_else d n) in_d)
                  (subst (λ ps. is_in p ps ≡ true) (pushed_else j m) in_j)
            ]
          ];
        }
      where
        mixed : (p : ℕ) → is_in p (places_of after (lines c) ++ place ∷ []) ≡ true → (j : ℕ)
            → is_in p (places_of after (lines j)) ≡ true → c ≡ j
        mixed p found j there =
            elim (in_push p place (places_of after (lines c)) found) [
              | inl same ↦ absurd (false≢true (sym (fresh j)
                  ∙ subst (λ x. is_in x (places_of after (lines j)) ≡ true) same there))
              | inr was ↦ lined.apart c j p was there
            ]
