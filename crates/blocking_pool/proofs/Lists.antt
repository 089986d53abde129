-- Numbers that may be equal, and lists of numbers.
use Rattle.std.proofs.Common.{◌≡◌, ◌≢◌, ℕ, suc, ◌<◌, ◌≤◌, Bool, true, false, cond, eqb, ◌||◌, List}
use Rattle.std.proofs.Common.{[], ◌∷◌, ◌++◌, length, filter, map, Some, option_map, refl, sym, ap}
use Rattle.std.proofs.Common.{◌∙◌, subst, inl, inr, not, arith, nat_cmp}
use Rattle.std.proofs.lemmas.Bool.{eqb-false, eq-eqb, ne_eqb, cases_eq, or_left, or_right, or_parts}
use Rattle.std.proofs.lemmas.Bool.{or_from, false≢true}
use Rattle.std.proofs.Math.Bool.{or-false}
use Rattle.std.proofs.lemmas.Map.Steps.{length-le_from_distinct_below}
use Rattle.std.specs.List.{IsDistinct, AllByRecursion}
use Rattle.std.specs.Ordering.{eq_by_cmp}
use Rattle.blocking_pool.specs.Lists.{is_in, IsOnce, without, first_of}

-- what is said of two numbers that may be equal
pub by_eq : (x y : ℕ) (P : Bool → Type 0) → (x ≡ y → P true) → (x ≢ y → P false) → P (eqb x y)
by_eq x y P same differs =
    elim (cases_eq x y) [
      | inl e ↦ subst P (sym (eq-eqb x y e)) (same e)
      | inr n ↦ subst P (sym (ne_eqb x y n)) (differs n)
    ]

-- which of two numbers stands first doesn't matter
pub turned : (x y : ℕ) → eqb x y ≡ eqb y x
turned x y = by_eq x y (λ b. b ≡ eqb y x) (λ same. sym (eq-eqb y x (sym same)))
    (λ differs. sym (ne_eqb y x (λ same. differs (sym same))))

-- the order of numbers ties just where they are equal
pub eq_by_nat_cmp : (x y : ℕ) → eq_by_cmp nat_cmp x y ≡ eqb x y
eq_by_nat_cmp x y = grind (arith)

pub is_in-append : (x : ℕ) (xs ys : List ℕ) → is_in x (xs ++ ys) ≡ (is_in x xs || is_in x ys)
is_in-append x [] ys = refl
is_in-append x (y ∷ xs) ys = by_head (eqb x y) (is_in-append x xs ys)
  where
    by_head : (b : Bool) → is_in x (xs ++ ys) ≡ (is_in x xs || is_in x ys)
        → (b || is_in x (xs ++ ys)) ≡ ((b || is_in x xs) || is_in x ys)
    by_head true e = refl
    by_head false e = e

-- the first of a list is in it
pub is_in-first : (x : ℕ) (xs : List ℕ) → is_in x (x ∷ xs) ≡ true
is_in-first x xs = or_left (eqb x x) (is_in x xs) (eq-eqb x x refl)

-- and so is the last
pub is_in-last : (x y : ℕ) (xs : List ℕ) → x ≡ y → is_in x (xs ++ y ∷ []) ≡ true
is_in-last x y xs same = is_in-append x xs (y ∷ [])
    ∙ or_right (is_in x xs) (eqb x y || false) (or_left (eqb x y) false (eq-eqb x y same))

-- any other number is in the list where it was in it before
pub is_in-push : (x y : ℕ) (xs : List ℕ) → x ≢ y → is_in x (xs ++ y ∷ []) ≡ is_in x xs
is_in-push x y xs differs = is_in-append x xs (y ∷ [])
    ∙ ap (λ b. is_in x xs || (b || false)) (ne_eqb x y differs) ∙ or-false (is_in x xs)

-- one more at the end of two lists that are the same
pub same_ends : {xs ys : List ℕ} {x y : ℕ} → xs ≡ ys → x ≡ y → xs ++ x ∷ [] ≡ ys ++ y ∷ []
same_ends e f = cc

pub without-fresh : (x : ℕ) (xs : List ℕ) → is_in x xs ≡ false → without x xs ≡ xs
without-fresh x [] fresh = refl
without-fresh x (y ∷ xs) fresh =
    let parts = or_parts _ _ fresh in
    subst (λ b. cond (not b) (y ∷ without x xs) (without x xs) ≡ y ∷ xs) (sym parts.0)
    (ap (λ zs. y ∷ zs) (without-fresh x xs parts.1))

-- the first of a list in which it stands once
pub without-first : (x : ℕ) (xs : List ℕ) → is_in x xs ≡ false → without x (x ∷ xs) ≡ xs
without-first x xs fresh =
    subst (λ b. cond (not b) (x ∷ without x xs) (without x xs) ≡ xs) (sym (eq-eqb x x refl))
    (without-fresh x xs fresh)

pub is_in-without : (x y : ℕ) (xs : List ℕ) → x ≢ y → is_in x (without y xs) ≡ is_in x xs
is_in-without x y [] differs = refl
is_in-without x y (z ∷ xs) differs =
    by_eq y z
    (λ b. is_in x (cond (not b) (z ∷ without y xs) (without y xs)) ≡ (eqb x z || is_in x xs))
    (λ same. is_in-without x y xs differs
    ∙ sym (ap (λ b. b || is_in x xs) (ne_eqb x z (λ e. differs (e ∙ sym same)))))
    (λ apart. ap (λ b. eqb x z || b) (is_in-without x y xs differs))

pub is_in-without_itself : (x : ℕ) (xs : List ℕ) → is_in x (without x xs) ≡ false
is_in-without_itself x [] = refl
is_in-without_itself x (y ∷ xs) =
    by_eq x y (λ b. is_in x (cond (not b) (y ∷ without x xs) (without x xs)) ≡ false)
    (λ same. is_in-without_itself x xs)
    (λ apart. or_from _ _ (ne_eqb x y apart) (is_in-without_itself x xs))

pub IsOnce-without : (x : ℕ) (xs : List ℕ) → IsOnce xs → IsOnce (without x xs)
IsOnce-without x [] once = tt
IsOnce-without x (y ∷ xs) once =
    by_eq x y (λ b. IsOnce (cond (not b) (y ∷ without x xs) (without x xs)))
    (λ same. IsOnce-without x xs once.1)
    (λ apart. (is_in-without y x xs (λ e. apart (sym e)) ∙ once.0, IsOnce-without x xs once.1))

pub IsOnce-push : (xs : List ℕ) (x : ℕ) → IsOnce xs → is_in x xs ≡ false → IsOnce (xs ++ x ∷ [])
IsOnce-push [] x once fresh = (refl, tt)
IsOnce-push (y ∷ xs) x once fresh =
    let parts = or_parts _ _ fresh in (
      is_in-append y xs (x ∷ [])
          ∙ or_from _ _ once.0 (or_from _ _ (ne_eqb y x (λ e. eqb-false x y parts.0 (sym e))) refl),
      IsOnce-push xs x once.1 parts.1,
    )

pub length-without : (x : ℕ) (xs : List ℕ) → is_in x xs ≡ true → IsOnce xs
    → length xs ≡ suc (length (without x xs))
length-without x [] found once = absurd (false≢true found)
length-without x (y ∷ xs) found once =
    by_eq x y (λ b. (b || is_in x xs) ≡ true
    → suc (length xs) ≡ suc (length (cond (not b) (y ∷ without x xs) (without x xs))))
    (λ same f. ap (λ zs. suc (length zs))
    (sym (without-fresh x xs (subst (λ z. is_in z xs ≡ false) (sym same) once.0))))
    (λ apart f. ap suc (length-without x xs f once.1)) found

fresh_each : (x : ℕ) (xs : List ℕ) → is_in x xs ≡ false → AllByRecursion (λ y. eqb x y ≡ false) xs
fresh_each x [] fresh = tt
fresh_each x (y ∷ xs) fresh = let parts = or_parts _ _ fresh in (parts.0, fresh_each x xs parts.1)

pub IsDistinct-once : (xs : List ℕ) → IsOnce xs → IsDistinct eqb xs
unfolding IsDistinct
IsDistinct-once [] once = tt
IsDistinct-once (x ∷ xs) once = (fresh_each x xs once.0, IsDistinct-once xs once.1)

-- numbers below a bound, none of them twice, are no more than the bound
pub length-le_below : (xs : List ℕ) (n : ℕ) → IsOnce xs → ((x : ℕ) → is_in x xs ≡ true → x < n)
    → length xs ≤ n
length-le_below xs n once below = length-le_from_distinct_below xs n (IsDistinct-once xs once) below

-- the first of a list is in it
pub first_in : (x : ℕ) (xs : List ℕ) → first_of xs ≡ Some x → is_in x xs ≡ true
first_in x [] first = absurd (cc)
first_in x (y ∷ xs) first =
    or_left (eqb x y) (is_in x xs) (eq-eqb x y (let e : y ≡ x = cc in sym e))

-- where a test of what a list is mapped to agrees with a test of the list, the same is kept
pub filter-map : (p : ℕ → Bool) (q : ℕ → Bool) (f : ℕ → ℕ) (xs : List ℕ)
    → ((x : ℕ) → is_in x xs ≡ true → p (f x) ≡ q x) → filter p (map f xs) ≡ map f (filter q xs)
filter-map p q f [] same = refl
filter-map p q f (x ∷ xs) same =
    ap (λ b. cond b (f x ∷ filter p (map f xs)) (filter p (map f xs))) (same x (is_in-first x xs))
    ∙ by_test (q x)
    (filter-map p q f xs (λ y found. same y (or_right (eqb y x) (is_in y xs) found)))
  where
    by_test : (b : Bool) → filter p (map f xs) ≡ map f (filter q xs)
        → cond b (f x ∷ filter p (map f xs)) (filter p (map f xs))
        ≡ map f (cond b (x ∷ filter q xs) (filter q xs))
    by_test true rest = ap (λ ys. f x ∷ ys) rest
    by_test false rest = rest

pub first_of-map : (f : ℕ → ℕ) (xs : List ℕ) → first_of (map f xs) ≡ option_map f (first_of xs)
first_of-map f [] = refl
first_of-map f (x ∷ xs) = refl

-- tests that agree on a list keep the same of it
pub filter_same : (p q : ℕ → Bool) (xs : List ℕ) → ((x : ℕ) → is_in x xs ≡ true → p x ≡ q x)
    → filter p xs ≡ filter q xs
filter_same p q [] same = refl
filter_same p q (x ∷ xs) same =
    let rest = filter_same p q xs (λ y found. same y (or_right (eqb y x) (is_in y xs) found)) in
    let here = same x (is_in-first x xs) in
    ap (λ b. cond b (x ∷ filter p xs) (filter p xs)) here ∙ ap (λ ys. cond (q x) (x ∷ ys) ys) rest

-- what is kept of a list stood in it, and passes the test
pub kept_in : (p : ℕ → Bool) (s : ℕ) (xs : List ℕ) → is_in s (filter p xs) ≡ true
    → (is_in s xs ≡ true) × (p s ≡ true)
kept_in p s [] found = absurd (false≢true found)
kept_in p s (x ∷ xs) found = by_test (p x) refl found (λ f. kept_in p s xs f)
  where
    by_test : (b : Bool) → p x ≡ b → is_in s (cond b (x ∷ filter p xs) (filter p xs)) ≡ true
        → (is_in s (filter p xs) ≡ true → (is_in s xs ≡ true) × (p s ≡ true))
        → (is_in s (x ∷ xs) ≡ true) × (p s ≡ true)
    by_test true is f rest =
        by_eq s x (λ b. (b || is_in s (filter p xs)) ≡ true
        → ((b || is_in s xs) ≡ true) × (p s ≡ true))
        (λ same g. (refl, ap p same ∙ is)) (λ far g. rest g) f
    by_test false is f rest = (or_right (eqb s x) (is_in s xs) (rest f).0, (rest f).1)

-- what stands in a list and passes the test is kept
pub in_kept : (p : ℕ → Bool) (s : ℕ) (xs : List ℕ) → is_in s xs ≡ true → p s ≡ true
    → is_in s (filter p xs) ≡ true
in_kept p s [] found is = absurd (false≢true found)
in_kept p s (x ∷ xs) found is = by_test (p x) refl found (λ f. in_kept p s xs f is)
  where
    by_test : (b : Bool)
        → p x ≡ b → is_in s (x ∷ xs) ≡ true → (is_in s xs ≡ true → is_in s (filter p xs) ≡ true)
        → is_in s (cond b (x ∷ filter p xs) (filter p xs)) ≡ true
    by_test true here f rest =
        by_eq s x (λ b. (b || is_in s xs) ≡ true
        → (b || is_in s (filter p xs)) ≡ true) (λ same g. refl) (λ far g. rest g) f
    by_test false here f rest =
        by_eq s x (λ b. (b || is_in s xs) ≡ true → is_in s (filter p xs) ≡ true)
        (λ same g. absurd (false≢true (sym here ∙ ap p (sym same) ∙ is))) (λ far g. rest g) f
