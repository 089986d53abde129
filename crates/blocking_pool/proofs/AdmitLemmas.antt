-- Clients are admitted: their heads stand in the heap, and their places are ready.
use Rattle.std.proofs.Common.{◌≡◌, ◌≢◌, ℕ, zero, suc, ◌+◌, ◌<◌, ◌≤◌, Bool, true, false, cond, eqb}
use Rattle.std.proofs.Common.{◌||◌, ◌&&◌, List, [], ◌∷◌, ◌++◌, map, filter, length, Option, Some}
use Rattle.std.proofs.Common.{None, is_some, refl, sym, ap, ◌∙◌, subst, inl, inr, arith}
use Rattle.std.proofs.Common.{IsPermutation}
use Rattle.std.proofs.lemmas.Bool.{cases_eq, eq-eqb, ne_eqb, false≢true, lt-ltb}
use Rattle.std.proofs.lemmas.List.{length-map}
use Rattle.std.proofs.lemmas.List.Elements.{All-nil, All-cons}
use Rattle.std.proofs.lemmas.List.Sorted.{IsPermutation-refl}
use Rattle.std.specs.Prelude.{nat_lt}
use Rattle.std.specs.List.{All}
use Rattle.std.specs.Map.{keys_of, lookup}
use Rattle.std.specs.Option.{unwrap_or}
use Rattle.std.specs.Cmp.{nat_cmp_total}
use Rattle.std.specs.FinMap.{get, len, get-from_entries}
use Rattle.blocking_pool.specs.Growth.{greatest}
use Rattle.blocking_pool.specs.Lists.{is_in, IsOnce}
use Rattle.blocking_pool.specs.Heads.{Head, times}
use Rattle.blocking_pool.specs.ClientTable.{Known, no_client, AreAll}
use Rattle.blocking_pool.specs.Lines.{places_of, AreLined}
use Rattle.blocking_pool.specs.Hangs.{one_if, is_some_line, Leads, Hangs}
use Rattle.blocking_pool.specs.QueueForm.{client_by, number_by, after_by, admits, is_open_at}
use Rattle.blocking_pool.specs.QueueForm.{line_at, line_by, head_of, heads_of, ready_at}
use Rattle.blocking_pool.specs.QueueForm.{ready_among, Fits}
use Rattle.blocking_pool.specs.declared.pool.clients.Client.{Client}
use Rattle.blocking_pool.specs.declared.pool.queue.Spot.{Spot}
use Rattle.blocking_pool.proofs.Lists.{is_in-first, length-le_below}
use Rattle.blocking_pool.proofs.ClientLemmas.{find_lookup, not_among, few_known}
use Rattle.blocking_pool.proofs.HangLemmas.{not_true, times_cons, found, opens, said}
use Rattle.blocking_pool.proofs.LineLemmas.{line_begins, line_none, line_long, first_below}

-- ---- one client

module _ (client number : ℕ → ℕ)
    (is_open : ℕ → Bool) (queue : List ℕ) (line : ℕ → List ℕ) (heads : List Head) (next ready : ℕ)
    (h : Hangs client number is_open queue line heads next ready)
    (after : ℕ → ℕ) (limit : Option ℕ) (c : ℕ) (state : Client) (wide : ℕ → Bool)
    (shut : is_open c ≡ false) (row : line c ≡ places_of after state.line)
    (flag : wide c ≡ admits limit state.running)
    (others : (d : ℕ) → d ≢ c → wide d ≡ is_open d) where
  long : length (line c) ≡ state.line.len
  long = ap length row ∙ line_long after state.line

  -- where it has room, it opens
  admitted_so : admits limit state.running ≡ true
      → (n : ℕ) → state.line.len ≡ n → Hangs client number wide queue line
      (cond (true && nat_lt 0 n) ((number state.line.first, c) ∷ []) [] ++ heads) next (n + ready)
  admitted_so free zero none =
      let empty : line c ≡ [] = row ∙ line_none after state.line none in
      opens client number is_open queue line heads next ready h c wide heads (zero + ready) shut
      (flag ∙ free) others (let z = long in omega (arith, z, none)) (inl (empty, refl))
  admitted_so free (suc n) many =
      let begins = row ∙ line_begins after state.line (omega (arith, many)) in
      subst (λ b. Hangs client number wide queue line
      (cond (true && b) ((number state.line.first, c) ∷ []) [] ++ heads) next (suc n + ready))
      (sym (lt-ltb 0 (suc n) (omega arith)))
      (opens client number is_open queue line heads next ready h
      c wide ((number state.line.first, c) ∷ heads) (suc n + ready) shut (flag ∙ free) others
      (let z = long in omega (arith, z, many))
      (inr (
        state.line.first,
        _,
        begins,
        IsPermutation-refl ((number state.line.first, c) ∷ heads),
      )))

  admitted_flag : (b : Bool) → admits limit state.running ≡ b
      → Hangs client number wide queue line (cond (b && nat_lt 0 state.line.len)
      ((number state.line.first, c) ∷ []) [] ++ heads) next (cond b state.line.len 0 + ready)
  admitted_flag true free = admitted_so free state.line.len refl
  admitted_flag false closed =
      subst (λ n. Hangs client number wide queue line heads next n)
      (let same : ready ≡ 0 + ready = omega arith in same)
      (said client number is_open queue line heads next ready h client number wide line heads
      (λ p _. refl) (λ p _. refl)
      (λ d _. elim (cases_eq d c) [
        | inl e ↦ ap wide e ∙ flag ∙ closed ∙ sym (ap is_open e ∙ shut)
        | inr n ↦ others d n
      ]) (λ d. refl) (IsPermutation-refl heads))

  pub admitted : Hangs client number wide queue line (head_of number limit c state ++ heads) next
      (ready_at limit state + ready)
  admitted = admitted_flag (admits limit state.running) refl

-- ---- many clients

abbrev pub open_in : Option ℕ → Option Client → Bool
open_in limit None = false
open_in limit (Some state) = admits limit state.running

-- whether a client is among these and open
abbrev pub open_among : Option ℕ → List (ℕ × Client) → ℕ → Bool
open_among limit es c = open_in limit (lookup (eqb c) es)

-- what is said of the rest of the clients
rest_said : (P : ℕ → Client → Type 0) (e : ℕ × Client) (es : List (ℕ × Client))
    → is_in e.0 (keys_of es) ≡ false
    → ((c : ℕ) (k : Client) → lookup (eqb c) (e ∷ es) ≡ Some k → P c k)
    → (c : ℕ) (k : Client) → lookup (eqb c) es ≡ Some k → P c k
rest_said P e es fresh said c k there =
    elim (cases_eq c e.0) [
      | inl same ↦ absurd (let none : lookup (eqb c) es ≡ None =
          not_among c es (subst (λ x. is_in x (keys_of es) ≡ false) (sym same) fresh) in cc)
      | inr n ↦ said c k (ap (λ b. cond b (Some e.1) (lookup (eqb c) es)) (ne_eqb c e.0 n) ∙ there)
    ]

first_said : (P : ℕ → Client → Type 0) (e : ℕ × Client) (es : List (ℕ × Client))
    → ((c : ℕ) (k : Client) → lookup (eqb c) (e ∷ es) ≡ Some k → P c k) → P e.0 e.1
first_said P e es said =
    said e.0 e.1 (ap (λ b. cond b (Some e.1) (lookup (eqb e.0) es)) (eq-eqb e.0 e.0 refl))

-- what holds of each client that is found holds of each
pub each_client : (P : ℕ → Client → Type 0) (es : List (ℕ × Client)) → IsOnce (keys_of es)
    → ((c : ℕ) (k : Client) → lookup (eqb c) es ≡ Some k → P c k) → All (λ e. P e.0 e.1) es
each_client P [] once said = All-nil (λ e. P e.0 e.1)
each_client P (e ∷ es) once said = All-cons (λ (x : ℕ × Client). P x.0 x.1) e es
    (first_said P e es said) (each_client P es once.1 (rest_said P e es once.0 said))

module _ (client number : ℕ → ℕ) (queue : List ℕ) (line : ℕ → List ℕ) (next : ℕ) (base : Hangs
    client number (λ _. false) queue line [] next 0) (after : ℕ → ℕ) (limit : Option ℕ) where
  pub all_admitted : (es : List (ℕ × Client)) → IsOnce (keys_of es)
      → ((c : ℕ) (k : Client) → lookup (eqb c) es ≡ Some k → line c ≡ places_of after k.line)
      → Hangs client number (open_among limit es) queue line (heads_of number limit es) next
      (ready_among limit es)
  all_admitted [] once rows = base
  all_admitted (e ∷ es) once rows =
      admitted client number (open_among limit es) queue line (heads_of number limit es) next
      (ready_among limit es)
      (all_admitted es once.1 (rest_said (λ c k. line c ≡ places_of after k.line) e es once.0 rows))
      after limit e.0 e.1 (open_among limit (e ∷ es))
      (ap (open_in limit) (not_among e.0 es once.0))
      (first_said (λ c k. line c ≡ places_of after k.line) e es rows)
      (ap (λ b. open_in limit (cond b (Some e.1) (lookup (eqb e.0) es))) (eq-eqb e.0 e.0 refl))
      (λ d n. ap (λ b. open_in limit (cond b (Some e.1) (lookup (eqb d) es))) (ne_eqb d e.0 n))

-- ---- there are at most as many heads as clients that are known

in_times : (d : ℕ) (heads : List Head) → is_in d (map (λ (o : Head). o.1) heads) ≡ true
    → 0 < times d heads
in_times d [] there = absurd (false≢true there)
in_times d (o ∷ heads) there =
    let more = times_cons d o heads in
    elim (cases_eq o.1 d) [
      | inl e ↦ (let one = ap one_if (eq-eqb o.1 d e) in omega (arith, one, more))
      | inr n ↦
          (let rest = in_times d heads (subst (λ b. (b || is_in d (map (λ (x : Head). x.1) heads))
          ≡ true) (ne_eqb d o.1 (λ e. n (sym e))) there) in omega (arith, rest, more))
    ]

once_keys : (heads : List Head) → ((d : ℕ) → times d heads ≤ 1)
    → IsOnce (map (λ (o : Head). o.1) heads)
once_keys [] most = tt
once_keys (o ∷ heads) most = (
  not_true _ (λ there. absurd (let more = times_cons o.1 o heads in
      let one = ap one_if (eq-eqb o.1 o.1 refl) in let rest = in_times o.1 heads there in
      let at_most = most o.1 in omega (arith, more, one, rest, at_most))),
  once_keys heads (λ d.
      (let more = times_cons d o heads in let at_most = most d in omega (arith, more, at_most))),
)

-- the heads lead lines of known clients, and each line has one
pub few_heads : (number : ℕ → ℕ) (is_open : ℕ → Bool) (spots : List Spot) (known : Known)
    (line : ℕ → List ℕ) (heads : List Head) → ((c : ℕ) → line c ≡ line_by spots known c)
    → ((d : ℕ) → times d heads ≡ one_if (is_open d && is_some_line (line d)))
    → All (λ (o : Head). Leads number (line o.1) o.0) heads → length heads ≤ len known
few_heads number is_open spots known line heads rows one_each led =
    let most : (d : ℕ) → times d heads ≤ 1 = λ d. (let is = one_each d in
    let b = one_most (is_open d && is_some_line (line d)) in omega (arith, is, b)) in
    let few = few_known (map (λ (o : Head). o.1) heads) known (once_keys heads most) known_so in
    let same = length-map heads (λ (o : Head). o.1) in
    omega (arith, few, same)
  where
    one_most : (b : Bool) → one_if b ≤ 1
    one_most true = omega arith
    one_most false = omega arith

    leads_known : (d n : ℕ) → Leads number (line d) n → is_some (get known d) ≡ true
    leads_known d n leads = from (get known d) refl
      where
        from : (o : Option Client) → get known d ≡ o → is_some (get known d) ≡ true
        from None is = absurd (subst (λ ps. Leads number ps n) (rows d ∙ ap (λ (o : Option Client).
            places_of (after_by spots) (unwrap_or o no_client).line) is) leads)
        from (Some k) is = ap is_some is

    known_so : (d : ℕ) → is_in d (map (λ (o : Head). o.1) heads) ≡ true
        → is_some (get known d) ≡ true
    known_so d there =
        let o = found d (λ (x : Head). Leads number (line x.1) x.0) heads led
        (in_times d heads there) in
        leads_known d o.0.0 (subst (λ k. Leads number (line k) o.0.0) o.1 o.2)

-- ---- the lines of a queue in which nobody is admitted

pub record IsBase (places : List ℕ) (spots : List Spot) (known : Known) (room next : ℕ) :
    Type 0 where
  pub base : Hangs (client_by spots) (number_by spots) (λ _. false) places (line_by spots known) []
      next 0
  pub lined : AreLined (after_by spots) (length spots) (line_at known)
  pub seats : 0 < length spots → len known ≤ room
  pub within : (place : ℕ) → is_in place places ≡ true → place < length spots

module _ (places : List ℕ) (spots : List Spot) (known : Known) (room next : ℕ)
    (queue : IsBase places spots known room next) where
  -- heads that lead lines have room
  pub heads_fit : (is_open : ℕ → Bool) (heads : List Head) (ready : ℕ) → Hangs (client_by spots)
      (number_by spots) is_open places (line_by spots known) heads next ready → length heads ≤ room
  heads_fit is_open [] ready h = omega arith
  heads_fit is_open (o ∷ heads) ready h =
      let few = few_heads (number_by spots) is_open spots known (line_by spots known) (o ∷ heads)
      (λ c. refl) h.one_each h.led in
      let most = queue.seats (some_spot (line_by spots known o.1) refl (h.led 0 o (omega arith))) in
      omega (arith, few, most)
    where
      some_spot : (ps : List ℕ) → line_by spots known o.1 ≡ ps → Leads (number_by spots) ps o.0
          → 0 < length spots
      some_spot [] is bad = absurd bad
      some_spot (p ∷ ps) is leads = (let b = queue.lined.within o.1 p
          (subst (λ qs. is_in p qs ≡ true) (sym is) (is_in-first p ps)) in omega (arith, b))

  pub ready_short : (is_open : ℕ → Bool) (heads : List Head) (ready : ℕ) → Hangs (client_by spots)
      (number_by spots) is_open places (line_by spots known) heads next ready → ready ≤ length spots
  ready_short is_open heads ready h =
      let some = filter_short (λ p. is_open (client_by spots p)) places in
      let all = length-le_below places (length spots) h.once queue.within in
      let is = h.counted in omega (arith, some, all, is)
    where
      filter_short : (keep : ℕ → Bool) (xs : List ℕ) → length (filter keep xs) ≤ length xs
      filter_short keep [] = omega arith
      filter_short keep (x ∷ xs) = let more = filter_short keep xs in by (keep x) more
        where
          by : (b : Bool) → length (filter keep xs) ≤ length xs
              → length (cond b (x ∷ filter keep xs) (filter keep xs)) ≤ suc (length xs)
          by true m = omega (arith, m)
          by false m = omega (arith, m)

  module _ (limit : Option ℕ) (es : List (ℕ × Client)) (all : AreAll known es) where
    got : (c : ℕ) → get known c ≡ lookup (eqb c) es
    got c = ap (λ k. get k c) all.known_are ∙ get-from_entries nat_cmp_total es c ∙ find_lookup c es

    rows : (c : ℕ) (k : Client) → lookup (eqb c) es ≡ Some k
        → line_by spots known c ≡ places_of (after_by spots) k.line
    rows c k there = ap (λ (o : Option Client).
        places_of (after_by spots) (unwrap_or o no_client).line) (got c ∙ there)

    made : Hangs (client_by spots) (number_by spots) (open_among limit es) places
        (line_by spots known) (heads_of (number_by spots) limit es) next (ready_among limit es)
    made = all_admitted (client_by spots) (number_by spots) places (line_by spots known) next
        queue.base (after_by spots) limit es all.once rows

    pub fits_anew : length spots ≤ greatest → Fits spots limit room es
    fits_anew small =
        record {
          firsts = each_client (λ c k. 0 < k.line.len → k.line.first < length spots) es all.once
              (λ c k there. subst (λ (x : Client). 0 < x.line.len → x.line.first < length spots)
              (ap (λ (o : Option Client). unwrap_or o no_client) (got c ∙ there))
              (first_below (after_by spots) (length spots) (line_at known) queue.lined c));
          seats = heads_fit (open_among limit es) (heads_of (number_by spots) limit es)
              (ready_among limit es) made;
          count =
              (let short = ready_short (open_among limit es) (heads_of (number_by spots) limit es)
              (ready_among limit es) made in omega (arith, short, small));
        }

    pub hangs_anew : (heads : List Head) (ready : ℕ)
        → IsPermutation (heads_of (number_by spots) limit es) heads → ready ≡ ready_among limit es
        → Hangs (client_by spots) (number_by spots) (is_open_at limit known) places
        (line_by spots known) heads next ready
    hangs_anew heads ready order is =
        subst (λ n. Hangs (client_by spots) (number_by spots) (is_open_at limit known) places
        (line_by spots known) heads next n) (sym is)
        (said (client_by spots) (number_by spots) (open_among limit es) places (line_by spots known)
        (heads_of (number_by spots) limit es) next (ready_among limit es) made
        (client_by spots) (number_by spots) (is_open_at limit known) (line_by spots known) heads
        (λ p _. refl) (λ p _. refl)
        (λ c some. flag c some (get known c) refl) (λ c. refl) order)
      where
        flag : (c : ℕ) → is_some_line (line_by spots known c) ≡ true → (o : Option Client)
            → get known c ≡ o → is_open_at limit known c ≡ open_among limit es c
        flag c some None none = absurd (false≢true (ap (λ (o : Option Client). is_some_line
            (places_of (after_by spots) (unwrap_or o no_client).line)) (sym none) ∙ some))
        flag c some (Some k) is =
            ap (λ (o : Option Client). admits limit (unwrap_or o no_client).running) is
            ∙ ap (open_in limit) (sym is ∙ got c)
