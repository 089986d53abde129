-- The queue by clients where a client limit comes, and where it goes: the lines are made, and
-- emptied.
use Rattle.std.proofs.Common.{◌≡◌, ℕ, zero, suc, ◌+◌, ◌<◌, ◌≤◌, ◌||◌, true, false, cond, eqb, List}
use Rattle.std.proofs.Common.{[], ◌∷◌, ◌++◌, map, length, Option, Some, None, refl, sym, ap, ◌∙◌}
use Rattle.std.proofs.Common.{subst, inl, inr, arith, append_assoc, length-append}
use Rattle.std.proofs.lemmas.Bool.{cases_eq, eqb-true, eq-eqb, ne_eqb, false≢true}
use Rattle.std.proofs.lemmas.Grind.{same_number_lists}
use Rattle.std.proofs.lemmas.List.{append-nil, length-map}
use Rattle.std.proofs.lemmas.List.Sorted.{IsPermutation-refl}
use Rattle.std.specs.FinMap.{insert, len}
use Rattle.blocking_pool.specs.Growth.{greatest}
use Rattle.blocking_pool.specs.Lists.{is_in, IsOnce, first_of, rest_after}
use Rattle.blocking_pool.specs.Chain.{Chain}
use Rattle.blocking_pool.specs.Heads.{Heads}
use Rattle.blocking_pool.specs.ClientTable.{Known, client_at, no_line}
use Rattle.blocking_pool.specs.Queue.{Queue, Holds}
use Rattle.blocking_pool.specs.QueueForm.{tally_of, client_by, after_by, line_at, line_by, longer}
use Rattle.blocking_pool.specs.QueueForm.{Appends, IsLined, HaveNoLines, HaveLinesOf, AreHeld}
use Rattle.blocking_pool.specs.QueueForm.{SameCounts, LinesUp}
use Rattle.blocking_pool.specs.declared.pool.clients.Client.{Client}
use Rattle.blocking_pool.specs.declared.pool.queue.Spot.{Spot}
use Rattle.blocking_pool.proofs.Lists.{by_eq, is_in-first, kept_in, length-le_below}
use Rattle.blocking_pool.proofs.ClientLemmas.{client_set, tally_is}
use Rattle.blocking_pool.proofs.SweepLemmas.{from_on, from_first, from_next, in_middle, not_before}
use Rattle.blocking_pool.proofs.LineLemmas.{line_none}
use Rattle.blocking_pool.proofs.AdmitLemmas.{IsBase}
use Rattle.blocking_pool.proofs.QueueLemmas.{seen_as, owner_seen, len_again, known_by}
use Rattle.blocking_pool.proofs.StepLemmas.{base_of, first_queued, line_begins_with}
use Rattle.blocking_pool.proofs.EnterLemmas.{came_queue}
use Rattle.blocking_pool.proofs.KeptLemmas.{counts_set}

-- ---- a client is set, with the counts that it had

module _ (first known more : Known) (c : ℕ)
    (state client : Client) (got : state ≡ client_at known c) (is : more ≡ insert known c client)
    (same : tally_of client ≡ tally_of state) (so_far : SameCounts first known) where
  pub counts_still : 0 < (client_at known c).jobs → SameCounts first more
  counts_still some =
      record {
        counts = λ q. counts_set known c state client more got is same q ∙ so_far.counts q;
        len_is = ap len is ∙ len_again known c client (known_by known c (λ k. k.jobs) refl some)
            ∙ so_far.len_is;
      }

-- jobs of whose client there are some, by the counts before
pub held_still : (spots : List Spot) (first known : Known) (places : List ℕ)
    → AreHeld spots first places → SameCounts first known → AreHeld spots known places
held_still spots first known places held same p there =
    subst (λ n. 0 < n) (sym (ap (λ t. t.jobs) (same.counts (client_by spots p)))) (held p there)

-- the same by spots whose clients are as before
pub held_now : (old now : List Spot) (first known : Known) (places : List ℕ)
    → AreHeld old first places → ((p : ℕ) → client_by now p ≡ client_by old p)
    → SameCounts first known → AreHeld now known places
held_now old now first known places held owners same p there =
    subst (λ c. 0 < (client_at known c).jobs) (sym (owners p))
    (held_still old first known places held same p there)

-- ---- the lines are emptied, along the queue

-- The lines that aren't empty yet are those of clients with a place further on.
pub record IsClearing (spots : List Spot) (first known : Known) (places : List ℕ)
    (next : Option ℕ) : Type 0 where
  pub once : IsOnce places
  pub done : List ℕ
  pub split : done ++ from_on next places ≡ places
  pub left : HaveLinesOf spots known (from_on next places)
  pub same : SameCounts first known

pub clearing_begins : (spots : List Spot) (known : Known) (places : List ℕ) (next : Option ℕ)
    → IsOnce places → next ≡ first_of places → HaveLinesOf spots known places
    → IsClearing spots known known places next
clearing_begins spots known places next once first owned =
    let all : from_on next places ≡ places = ap (λ n. from_on n places) first ∙ from_first places in
    record {
      once = once;
      done = [];
      split = all;
      left = subst (HaveLinesOf spots known) (sym all)
          owned;
      same = record { counts = λ q. refl; len_is = refl };
    }

module _ (spots : List Spot) (first known : Known) (places : List ℕ) (next : Option ℕ) (place : ℕ)
    (at_it : next ≡ Some place) (so_far : IsClearing spots first known places next) where
  cut : so_far.done ++ place ∷ rest_after place places ≡ places
  cut = ap (λ n. so_far.done ++ from_on n places) (sym at_it) ∙ so_far.split

  pub clearing_in : is_in place places ≡ true
  clearing_in = subst (λ ps. is_in place ps ≡ true) cut
      (in_middle place so_far.done (rest_after place places))

  pub clearing_on : (after : Option ℕ) → after ≡ first_of (rest_after place places)
      → (c : ℕ) (state client : Client) (more : Known) → client_by spots place ≡ c
      → state ≡ client_at known c
      → more ≡ insert known c client → client.line ≡ no_line → tally_of client ≡ tally_of state
      → 0 < (client_at known c).jobs → IsClearing spots first more places after
  clearing_on after comes c state client more own got is line same some =
      let later : from_on after places ≡ rest_after place places = ap (λ n. from_on n places) comes
      ∙ from_next place places (rest_after place places) so_far.once refl in
      record {
        once = so_far.once;
        done = so_far.done ++ place ∷ [];
        split = ap (λ ps. (so_far.done ++ place ∷ []) ++ ps) later
            ∙ append_assoc so_far.done (place ∷ []) (rest_after place places) ∙ cut;
        left = subst (HaveLinesOf spots more) (sym later) left;
        same = counts_still first known more c state client got is same so_far.same some;
      }
    where
      at : (q : ℕ) → client_at more q ≡ cond (eqb q c) client (client_at known q)
      at q = ap (λ k. client_at k q) is ∙ client_set known c client q

      left : HaveLinesOf spots more (rest_after place places)
      left q few =
          elim (cases_eq q c) [
            | inl e ↦ absurd (let none : (line_at more q).len ≡ 0 = ap (λ (k : Client). k.line.len)
                (at q ∙ ap (λ b. cond b client (client_at known q)) (eq-eqb q c e))
                ∙ ap (λ l. l.len) line in omega (arith, none, few))
            | inr n ↦ (let found = so_far.left q (subst (λ (k : Client). 0 < k.line.len)
                (at q ∙ ap (λ b. cond b client (client_at known q)) (ne_eqb q c n)) few) in (
                  found.0,
                  by_eq found.0 place (λ b. (b || is_in found.0 (rest_after place places)) ≡ true
                      → is_in found.0 (rest_after place places) ≡ true)
                      (λ e _. absurd (n (sym found.2 ∙ ap (client_by spots) e ∙ own)))
                      (λ differs t. t)
                      (subst (λ ps. is_in found.0 ps ≡ true) (ap (λ n. from_on n places) at_it)
                      found.1),
                  found.2,
                ))
          ]

  pub clearing_shorter : (after : Option ℕ) → after ≡ first_of (rest_after place places)
      → length (from_on after places) < length (from_on next places)
  clearing_shorter after comes =
      let left = ap length (ap (λ n. from_on n places) comes
      ∙ from_next place places (rest_after place places) so_far.once refl) in
      let was = ap (λ n. length (from_on n places)) at_it in
      omega (arith, left, was)

pub clearing_ends : (spots : List Spot) (first known : Known) (places : List ℕ) (next : Option ℕ)
    → next ≡ None → IsClearing spots first known places next → HaveNoLines known
clearing_ends spots first known places next at_end so_far c = from (line_at known c).len refl
  where
    from : (n : ℕ) → (line_at known c).len ≡ n → n ≡ 0
    from zero is = refl
    from (suc n) is =
        absurd (let found = so_far.left c (omega (arith, is)) in false≢true
        (subst (λ ps. is_in found.0 ps ≡ true) (ap (λ n. from_on n places) at_end) found.1))

-- the lines of a queue are those of clients with places in it
pub lined_owned : (places : Chain) (spots : List Spot) (known : Known) (heads : Heads)
    (limit : Option ℕ) (ready next : ℕ) → IsLined places spots known heads limit ready next
    → HaveLinesOf spots known places.places
lined_owned places spots known heads limit ready next queue c some =
    let begins = line_begins_with places spots known heads limit ready next queue c
    (client_at known c) refl some in (
      (line_at known c).first,
      first_queued places spots known heads limit ready next queue c (client_at known c) refl some,
      eqb-true (client_by spots (line_at known c).first) c
          (kept_in (λ p. eqb (client_by spots p) c) (line_at known c).first places.places
          (subst (λ ps. is_in (line_at known c).first ps ≡ true)
          (sym begins ∙ queue.hangs.line_is c) (is_in-first (line_at known c).first _))).1,
    )

-- ---- the places are put into the lines, along the queue

-- The places so far stand in the lines of their clients.
pub record IsLiningUp (old now : List Spot) (first known : Known) (places : List ℕ)
    (next : Option ℕ) (number : ℕ) : Type 0 where
  pub once : IsOnce places
  pub done : List ℕ
  pub split : done ++ from_on next places ≡ places
  pub lined : IsLined (record { places = done; room = length old }) now known
      (record { heads = []; room = len first }) None 0 number
  pub number_is : number ≡ length done
  pub count : length now ≡ length old
  pub owners : (p : ℕ) → client_by now p ≡ client_by old p
  pub same : SameCounts first known

-- lines that are empty are those of no place
pub lining_begins : (spots : List Spot) (known : Known) (places : List ℕ) (next : Option ℕ)
    → IsOnce places → next ≡ first_of places → HaveNoLines known
    → IsLiningUp spots spots known known places next 0
lining_begins spots known places next once first empty =
    record {
      once = once;
      done = [];
      split = ap (λ n. from_on n places) first ∙ from_first places;
      lined = record {
        hangs = record {
          once = tt;
          line_is = λ c. bare c;
          rises = tt;
          below = λ p there. absurd (false≢true there);
          one_each = λ c. refl;
          led = λ n h there. absurd (omega (arith, there));
          counted = refl;
        };
        lined = record {
          last = λ c some. absurd (let none = empty c in omega (arith, none, some));
          within =
              λ c p there. absurd (false≢true (subst (λ ps. is_in p ps ≡ true) (bare c) there));
          once = λ c. subst IsOnce (sym (bare c)) tt;
          apart =
              λ c d p there _. absurd (false≢true (subst (λ ps. is_in p ps ≡ true) (bare c) there));
        };
        chain_room = omega arith;
        seats = λ some. omega arith;
        within = λ p there. absurd (false≢true there);
        left = omega arith;
      };
      number_is = refl;
      count = refl;
      owners = λ p. refl;
      same = record { counts = λ q. refl; len_is = refl };
    }
  where
    bare : (c : ℕ) → line_by spots known c ≡ []
    bare c = line_none (after_by spots) (line_at known c) (empty c)

module _ (old now : List Spot) (first known : Known)
    (places : List ℕ) (next : Option ℕ) (number place : ℕ) (at_it : next ≡ Some place)
    (so_far : IsLiningUp old now first known places next number) where
  lining_cut : so_far.done ++ place ∷ rest_after place places ≡ places
  lining_cut = ap (λ n. so_far.done ++ from_on n places) (sym at_it) ∙ so_far.split

  pub lining_in : is_in place places ≡ true
  lining_in = subst (λ ps. is_in place ps ≡ true) lining_cut
      (in_middle place so_far.done (rest_after place places))

  -- the number is below that of the places
  pub lining_less : ((p : ℕ) → is_in p places ≡ true → p < length old) → number < length old
  lining_less within =
      (let long = ap length lining_cut in let parts = length-append so_far.done
      (place ∷ rest_after place places) in let is = so_far.number_is in
      let most = length-le_below places (length old) so_far.once within in
      omega (arith, long, parts, is, most))

  lining_fresh : is_in place so_far.done ≡ false
  lining_fresh = not_before place so_far.done (rest_after place places)
      (subst IsOnce (sym lining_cut) so_far.once)

  pub lining_on : (after : Option ℕ) → after ≡ first_of (rest_after place places)
      → ((p : ℕ) → is_in p places ≡ true → p < length old) → length old < greatest
      → (c : ℕ) (state client : Client) (spots : List Spot) (more : Known) → client_by now place ≡ c
      → state ≡ client_at known c
      → Appends now spots state.line place (record { client = c; number = number; after = place })
      → more ≡ insert known c client → client.line ≡ longer state.line place
      → tally_of client ≡ tally_of state → 0 < (client_at known c).jobs
      → IsLiningUp old spots first more places after (number + 1)
  lining_on after comes within short c state client spots more own got appended is line same some =
      record {
        once = so_far.once;
        done = so_far.done ++ place ∷ [];
        split = ap (λ n. (so_far.done ++ place ∷ []) ++ from_on n places) comes
            ∙ ap (λ ps. (so_far.done ++ place ∷ []) ++ ps)
            (from_next place places (rest_after place places) so_far.once refl)
            ∙ append_assoc so_far.done (place ∷ []) (rest_after place places) ∙ lining_cut;
        lined = came_queue (record { places = so_far.done; room = length old }) now known
            (record { heads = []; room = len first }) None 0 number so_far.lined place c state got
            (let below = within place lining_in in let long = so_far.count in
            omega (arith, below, long)) lining_fresh spots appended more client is line
            (ap (λ t. t.running) same)
            (λ most. (let now_is = (counts_still first known more c state client got is same
            so_far.same some).len_is in omega (arith, now_is)))
            (record { places = so_far.done ++ place ∷ []; room = length old })
            (record { heads = []; room = len first }) 0 refl (IsPermutation-refl [])
            (omega arith) refl
            (let less = lining_less within in omega (arith, less, short));
        number_is = (let long = length-append so_far.done (place ∷ []) in
            let is = so_far.number_is in omega (arith, long, is));
        count = appended.count ∙ so_far.count;
        owners = λ p. appended.clients p
            ∙ by_eq p place (λ b. cond b c (client_by now p) ≡ client_by now p)
            (λ e. sym own ∙ ap (client_by now) (sym e)) (λ n. refl) ∙ so_far.owners p;
        same = counts_still first known more c state client got is same so_far.same some;
      }

  pub lining_shorter : (after : Option ℕ) → after ≡ first_of (rest_after place places)
      → length (from_on after places) < length (from_on next places)
  lining_shorter after comes =
      let left = ap length (ap (λ n. from_on n places) comes
      ∙ from_next place places (rest_after place places) so_far.once refl) in
      let was = ap (λ n. length (from_on n places)) at_it in
      omega (arith, left, was)

pub lining_ends : (old now : List Spot) (first known : Known) (places : List ℕ) (next : Option ℕ)
    (number : ℕ) → next ≡ None → IsLiningUp old now first known places next number
    → LinesUp old now first known places number
lining_ends old now first known places next number at_end so_far =
    let all : so_far.done ≡ places = sym (append-nil so_far.done)
    ∙ ap (λ n. so_far.done ++ from_on n places) (sym at_end) ∙ so_far.split in
    record {
      lined = subst (λ ps. IsLined (record { places = ps; room = length old }) now known
          (record { heads = []; room = len first }) None 0 number) all so_far.lined;
      count = so_far.count;
      owners = so_far.owners;
      same = so_far.same;
    }

-- ---- the queue, once its lines are made

module _ (old now : List Spot) (first known : Known) (places : List ℕ) (next : ℕ)
    (up : LinesUp old now first known places next) where
  pub base_up : (room : ℕ) → (0 < length old → len first ≤ room) → IsBase places now known room next
  base_up room seats =
      let base = base_of (record { places = places; room = length old }) now known
      (record { heads = []; room = len first }) None 0 next up.lined in
      record {
        base = base.base;
        lined = base.lined;
        seats = λ some. (let long = up.count in let same = up.same.len_is in
            let most = seats (omega (arith, some, long)) in omega (arith, most, same));
        within = base.within;
      }

  pub held_up : AreHeld old first places → AreHeld now known places
  held_up held = held_now old now first known places held up.owners up.same

  pub owners_up : map (λ (s : Spot). s.client) now ≡ map (λ (s : Spot). s.client) old
  owners_up =
      same_number_lists (map (λ (s : Spot). s.client) now) (map (λ (s : Spot). s.client) old)
      (length-map now (λ (s : Spot). s.client) ∙ up.count
      ∙ sym (length-map old (λ (s : Spot). s.client)))
      (λ p _. owner_seen now p ∙ up.owners p ∙ sym (owner_seen old p))

-- what is seen holds the same places and owners, and the clients have the same counts
pub holds_counts : (old : Queue) (places : List ℕ) (spots now : List Spot) (known more : Known)
    (limit : Option ℕ) (spare room : ℕ) → seen_as places spots known limit spare ≡ old
    → map (λ (s : Spot). s.client) now ≡ map (λ (s : Spot). s.client) spots → SameCounts known more
    → Holds old (seen_as places now more old.limit room) old.places old.owners
holds_counts old places spots now known more limit spare room seen owners same =
    subst (λ (q : Queue). Holds q (seen_as places now more q.limit room) q.places q.owners) seen
    (record {
      places_are = refl;
      owners_are = owners;
      tallies = λ q. tally_is more q ∙ same.counts q ∙ sym (tally_is known q);
      limit = refl;
    })
