-- The places of the queue are numbered from 0 on, one after the other.
use Rattle.std.proofs.Common.{◌≡◌, ℕ, suc, ◌+◌, ◌<◌, ◌≤◌, true, false, List, [], ◌∷◌, ◌++◌, ◌||◌}
use Rattle.std.proofs.Common.{length, get_or, set, Option, Some, None, refl, sym, ap, ◌∙◌, subst}
use Rattle.std.proofs.Common.{arith, append_assoc, length-append}
use Rattle.std.proofs.lemmas.Bool.{false≢true, or_right}
use Rattle.std.proofs.lemmas.List.{append-nil, length-set, get_or-set_same, get_or-set_other}
use Rattle.std.proofs.Math.ListN.{get_or-map}
use Rattle.std.proofs.Math.Seq.{map-set_same}
use Rattle.blocking_pool.specs.Lists.{is_in, IsOnce, first_of, rest_after}
use Rattle.blocking_pool.specs.Hangs.{Rises}
use Rattle.blocking_pool.specs.QueueForm.{nowhere, client_by, number_by, after_by, AreNumbered}
use Rattle.blocking_pool.specs.QueueForm.{Renumbers}
use Rattle.blocking_pool.specs.declared.pool.queue.Spot.{Spot}
use Rattle.blocking_pool.proofs.Lists.{by_eq, is_in-first, length-le_below}
use Rattle.blocking_pool.proofs.SweepLemmas.{from_on, from_first, from_next, in_middle, not_before}

numbered_same : (f g : ℕ → ℕ) (n : ℕ) (ps : List ℕ) → ((p : ℕ) → is_in p ps ≡ true → g p ≡ f p)
    → AreNumbered f n ps → AreNumbered g n ps
numbered_same f g n [] same are = tt
numbered_same f g n (p ∷ ps) same are = (
  same p (is_in-first p ps) ∙ are.0,
  numbered_same f g (n + 1) ps (λ q there. same q (or_right _ _ there)) are.1,
)

numbered_push : (f : ℕ → ℕ) (n : ℕ) (ps : List ℕ) (p : ℕ) → AreNumbered f n ps → f p ≡ n + length ps
    → AreNumbered f n (ps ++ p ∷ [])
numbered_push f n [] p are is = ((let e : f p ≡ n = omega (arith, is) in e), tt)
numbered_push f n (q ∷ ps) p are is =
    (are.0, numbered_push f (n + 1) ps p are.1 (omega (arith, is)))

-- numbers that go up by one are at least the first, and below what comes after the last
pub numbers_between : (f : ℕ → ℕ) (n : ℕ) (ps : List ℕ) → AreNumbered f n ps → (p : ℕ)
    → is_in p ps ≡ true → (n ≤ f p) × (f p < n + length ps)
numbers_between f n [] are p there = absurd (false≢true there)
numbers_between f n (q ∷ ps) are p there =
    by_eq p q (λ b. (b || is_in p ps) ≡ true → (n ≤ f p) × (f p < n + suc (length ps)))
    (λ same _. (let e : f p ≡ n = ap f same ∙ are.0 in (omega (arith, e), omega (arith, e))))
    (λ differs t. (let r = numbers_between f (n + 1) ps are.1 p t in
    (omega (arith, r.0), omega (arith, r.1)))) there

-- so they rise
pub numbers_rise : (f : ℕ → ℕ) (n : ℕ) (ps : List ℕ) → AreNumbered f n ps → Rises f ps
numbers_rise f n [] are = tt
numbers_rise f n (p ∷ ps) are = (
  λ q there. (let b = (numbers_between f (n + 1) ps are.1 q there).0 in let e = are.0 in
      omega (arith, b, e)),
  numbers_rise f (n + 1) ps are.1,
)

-- So many places are numbered; the next one and those after it aren't yet.
pub record IsNumbering (old now : List Spot) (places : List ℕ) (next : Option ℕ) (number : ℕ) :
    Type 0 where
  pub once : IsOnce places
  pub done : List ℕ
  pub split : done ++ from_on next places ≡ places
  pub numbers : AreNumbered (number_by now) 0 done
  pub number_is : number ≡ length done
  pub count : length now ≡ length old
  pub clients : (p : ℕ) → client_by now p ≡ client_by old p
  pub links : (p : ℕ) → after_by now p ≡ after_by old p

pub numbering_begins : (old : List Spot) (places : List ℕ) (next : Option ℕ) → IsOnce places
    → next ≡ first_of places → IsNumbering old old places next 0
numbering_begins old places next once first =
    record {
      once = once;
      done = [];
      split = ap (λ n. from_on n places) first ∙ from_first places;
      numbers = tt;
      number_is = refl;
      count = refl;
      clients = λ p. refl;
      links = λ p. refl;
    }

module _ (old now : List Spot) (places : List ℕ) (next : Option ℕ) (number place : ℕ)
    (at_it : next ≡ Some place) (so_far : IsNumbering old now places next number) where
  cut : so_far.done ++ place ∷ rest_after place places ≡ places
  cut = ap (λ n. so_far.done ++ from_on n places) (sym at_it) ∙ so_far.split

  pub next_in : is_in place places ≡ true
  next_in = subst (λ ps. is_in place ps ≡ true) cut
      (in_middle place so_far.done (rest_after place places))

  -- the number is below that of the places
  pub number_less : number < length places
  number_less = (let long = ap length cut in
      let parts = length-append so_far.done (place ∷ rest_after place places) in
      let is = so_far.number_is in omega (arith, long, parts, is))

  abbrev numbered : Spot
  numbered = record { client = client_by now place; number = number; after = after_by now place }

  pub numbering_on : (after : Option ℕ)
      → place < length now → after ≡ first_of (rest_after place places)
      → IsNumbering old (set now place numbered) places after (number + 1)
  numbering_on after below comes =
      record {
        once = so_far.once;
        done = so_far.done ++ place ∷ [];
        split = ap (λ n. (so_far.done ++ place ∷ []) ++ from_on n places) comes
            ∙ ap (λ ps. (so_far.done ++ place ∷ []) ++ ps)
            (from_next place places (rest_after place places) so_far.once refl)
            ∙ append_assoc so_far.done (place ∷ []) (rest_after place places) ∙ cut;
        numbers = numbered_push (number_by (set now place numbered)) 0 so_far.done place
            (numbered_same (number_by now) (number_by (set now place numbered)) 0 so_far.done
            (λ p there. ap (λ (s : Spot). s.number)
            (get_or-set_other now place p numbered nowhere (λ e. false≢true (sym fresh
            ∙ subst (λ q. is_in q so_far.done ≡ true) e there)))) so_far.numbers)
            (let here : number_by (set now place numbered) place ≡ number =
            ap (λ (s : Spot). s.number) (get_or-set_same now place numbered nowhere below) in
            let is = so_far.number_is in omega (arith, here, is));
        number_is = (let long = length-append so_far.done (place ∷ []) in
            let is = so_far.number_is in omega (arith, long, is));
        count = length-set now place numbered ∙ so_far.count;
        clients = λ p. same (λ s. s.client) refl p ∙ so_far.clients p;
        links = λ p. same (λ s. s.after) refl p ∙ so_far.links p;
      }
    where
      fresh : is_in place so_far.done ≡ false
      fresh = not_before place so_far.done (rest_after place places)
          (subst IsOnce (sym cut) so_far.once)

      same : (f : Spot → ℕ) → f numbered ≡ f (get_or now place nowhere) → (p : ℕ)
          → f (get_or (set now place numbered) p nowhere) ≡ f (get_or now p nowhere)
      same f is p = sym (get_or-map f (set now place numbered) p nowhere)
          ∙ ap (λ xs. get_or xs p (f nowhere)) (map-set_same f now place numbered nowhere is)
          ∙ get_or-map f now p nowhere

  pub numbering_shorter : (after : Option ℕ) → after ≡ first_of (rest_after place places)
      → length (from_on after places) < length (from_on next places)
  numbering_shorter after comes =
      let left = ap length (ap (λ n. from_on n places) comes
      ∙ from_next place places (rest_after place places) so_far.once refl) in
      let was = ap (λ n. length (from_on n places)) at_it in
      omega (arith, left, was)

pub numbering_ends : (old now : List Spot) (places : List ℕ) (next : Option ℕ) (number : ℕ)
    → next ≡ None → IsNumbering old now places next number → Renumbers old now places number
numbering_ends old now places next number at_end so_far =
    let all : so_far.done ≡ places = sym (append-nil so_far.done)
    ∙ ap (λ n. so_far.done ++ from_on n places) (sym at_end) ∙ so_far.split in
    record {
      count = so_far.count;
      clients = so_far.clients;
      links = so_far.links;
      numbers = subst (AreNumbered (number_by now) 0) all so_far.numbers;
      next_is = so_far.number_is ∙ ap length all;
    }

-- the numbers are small
pub numbers_small : (places : List ℕ) (bound number : ℕ) → IsOnce places
    → ((p : ℕ) → is_in p places ≡ true → p < bound) → number < length places → number < bound
numbers_small places bound number once within less =
    (let most = length-le_below places bound once within in omega (arith, most, less))
