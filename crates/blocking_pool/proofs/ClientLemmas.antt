-- What is known of each client, by the entries of a hash map and by a map of numbers.
use Rattle.std.proofs.Common.{◌≡◌, ◌≢◌, ℕ, zero, suc, ◌+◌, ◌<◌, ◌≤◌, Bool, true, false, cond, eqb}
use Rattle.std.proofs.Common.{◌||◌, ◌-◌, List, [], ◌∷◌, map, length, Option, Some, None, is_some}
use Rattle.std.proofs.Common.{refl, sym, ap, ◌∙◌, subst, arith, nat_cmp}
use Rattle.std.proofs.lemmas.Bool.{eq-eqb, ne_eqb, or_from, or_right, false≢true}
use Rattle.std.specs.Prelude.{nat_lt}
use borrow.Author.Tests.{ltb-true}
use Rattle.std.specs.Option.{unwrap_or, option_map}
use Rattle.std.specs.Cmp.{nat_cmp_total}
use Rattle.std.specs.List.{IsDistinct, AllByRecursion}
use Rattle.std.specs.Ordering.{eq_by_cmp}
use Rattle.std.proofs.lemmas.Map.Keys.{IsDistinct-head, IsDistinct-tail}
use Rattle.std.specs.Map.{keys_of, lookup}
use Rattle.std.specs.FinMap.{FinMap, find, get, insert, remove, entries, from_entries, len}
use Rattle.std.specs.FinMap.{get-entries, get-from_entries, get-insert, get-remove, get-empty}
use Rattle.std.specs.FinMap.{len-insert, len-remove, len-empty, empty_of_len, same_map}
use Rattle.std.specs.FinMap.{nat_cmp-IsAntisymmetric}
use Rattle.blocking_pool.specs.Lists.{is_in, IsOnce}
use Rattle.blocking_pool.specs.Clients.{tally_at, no_jobs}
use Rattle.blocking_pool.specs.ClientTable.{Known, client_at, no_client, Clients, Forgets, as_known}
use Rattle.blocking_pool.specs.ClientTable.{HasNames}
use Rattle.blocking_pool.specs.QueueForm.{tally_of, tallies_of}
use Rattle.blocking_pool.specs.declared.pool.clients.Client.{Client}
use Rattle.blocking_pool.proofs.Lists.{by_eq, turned, eq_by_nat_cmp, is_in-first}

-- what a map of numbers finds in a list of entries is what a look-up finds
pub find_lookup : {X : Type 0} (q : ℕ) (es : List (ℕ × X)) → find nat_cmp q es ≡ lookup (eqb q) es
find_lookup q [] = refl
find_lookup q (e ∷ es) = ap (λ b. cond b (Some e.1) (find nat_cmp q es)) (eq_by_nat_cmp q e.0)
    ∙ ap (cond (eqb q e.0) (Some e.1)) (find_lookup q es)

-- the clients: client 0, and those that are named
abbrev pub known_of : List (ℕ × Client) → Client → Known
known_of es unnamed = insert (from_entries es) 0 unnamed

pub get_known : (es : List (ℕ × Client)) (unnamed : Client) (q : ℕ)
    → get (known_of es unnamed) q ≡ cond (eqb q 0) (Some unnamed) (lookup (eqb q) es)
get_known es unnamed q = get-insert nat_cmp_total (from_entries es) 0 unnamed q
    ∙ ap (λ b. cond b (Some unnamed) (get {R = nat_cmp} (from_entries es) q)) (eq_by_nat_cmp q 0)
    ∙ ap (cond (eqb q 0) (Some unnamed)) (get-from_entries nat_cmp_total es q ∙ find_lookup q es)

-- what is known of a client once that is set
pub get_set : {X : Type 0} (m : FinMap nat_cmp X) (k : ℕ) (v : X) (q : ℕ)
    → get (insert m k v) q ≡ cond (eqb q k) (Some v) (get m q)
get_set m k v q =
    get-insert nat_cmp_total m k v q ∙ ap (λ b. cond b (Some v) (get m q)) (eq_by_nat_cmp q k)

pub get_gone : {X : Type 0} (m : FinMap nat_cmp X) (k q : ℕ)
    → get (remove m k) q ≡ cond (eqb q k) None (get m q)
get_gone m k q =
    get-remove nat_cmp_total m k q ∙ ap (λ b. cond b None (get m q)) (eq_by_nat_cmp q k)

pub client_set : (known : Known) (c : ℕ) (client : Client) (q : ℕ)
    → client_at (insert known c client) q ≡ cond (eqb q c) client (client_at known q)
client_set known c client q =
    ap (λ o. unwrap_or o no_client) (get_set known c client q) ∙ by (eqb q c)
  where
    by : (b : Bool) → unwrap_or (cond b (Some client) (get known q)) no_client
        ≡ cond b client (client_at known q)
    by true = refl
    by false = refl

-- maps that find the same are the same
pub same_known : (old new : Known) → ((q : ℕ) → get old q ≡ get new q) → old ≡ new
same_known old new same = same_map nat_cmp_total nat_cmp-IsAntisymmetric old new same

-- ---- how many are known

pub not_among : {X : Type 0} (k : ℕ) (es : List (ℕ × X)) → is_in k (keys_of es) ≡ false
    → lookup (eqb k) es ≡ None
not_among k [] fresh = refl
not_among k (e ∷ es) fresh =
    by_eq k e.0 (λ b. (b || is_in k (keys_of es)) ≡ false
    → cond b (Some e.1) (lookup (eqb k) es) ≡ None)
    (λ same bad. absurd (false≢true (sym bad))) (λ differs f. not_among k es f) fresh

pub among : {X : Type 0} (k : ℕ) (es : List (ℕ × X)) → lookup (eqb k) es ≡ None
    → is_in k (keys_of es) ≡ false
among k [] none = refl
among k (e ∷ es) none =
    by_eq k e.0 (λ b. cond b (Some e.1) (lookup (eqb k) es) ≡ None
    → (b || is_in k (keys_of es)) ≡ false)
    (λ same bad. absurd (cc)) (λ differs n. among k es n) none

fresh_from : (k : ℕ) (ks : List ℕ) → AllByRecursion (λ y. eqb k y ≡ false) ks → is_in k ks ≡ false
fresh_from k [] all = refl
fresh_from k (x ∷ ks) all = or_from _ _ all.0 (fresh_from k ks all.1)

-- keys that a map tells apart stand once
pub once_from : (ks : List ℕ) → IsDistinct eqb ks → IsOnce ks
once_from [] apart = tt
once_from (k ∷ ks) apart = (
  fresh_from k ks (IsDistinct-head eqb k ks apart),
  once_from ks (IsDistinct-tail eqb k ks apart),
)

len_set : {X : Type 0} (m : FinMap nat_cmp X) (k : ℕ) (v : X) → get m k ≡ None
    → len (insert m k v) ≡ len m + 1
len_set m k v none =
    len-insert nat_cmp_total m k v ∙ ap (λ o. cond (is_some o) (len m) (len m + 1)) none

len_made : {X : Type 0} (es : List (ℕ × X)) → IsOnce (keys_of es)
    → len (from_entries {R = nat_cmp} es) ≡ length es
len_made {X} [] once = len-empty nat_cmp X
len_made (e ∷ es) once =
    let more = len_made es once.1 in
    let one = len_set (from_entries es) e.0 e.1
    (get-from_entries nat_cmp_total es e.0 ∙ find_lookup e.0 es ∙ not_among e.0 es once.0) in
    omega (arith, more, one)

-- what the map has of one of its clients is another
module _ (es : List (ℕ × Client)) (name : ℕ)
    (state unnamed : Client) (none : lookup (eqb 0) es ≡ None) (apart : IsDistinct eqb (keys_of es))
    (there : name ≢ 0 → is_some (lookup (eqb name) es) ≡ true) where
  abbrev made : Known
  made = from_entries es

  in_made : (q : ℕ) → get made q ≡ lookup (eqb q) es
  in_made q = get-from_entries nat_cmp_total es q ∙ find_lookup q es

  pub len_known : len (known_of ((name, state) ∷ es) unnamed) ≡ length es + 1
  len_known =
      let more = len_made es (once_from (keys_of es) apart) in
      let one = len-insert nat_cmp_total made name state in
      let two = len-insert nat_cmp_total (insert made name state) 0 unnamed in
      by_eq name 0 (λ _. len (known_of ((name, state) ∷ es) unnamed) ≡ length es + 1)
      (λ same.
      let fresh : is_some (get made name) ≡ false =
      ap is_some (in_made name ∙ ap (λ q. lookup (eqb q) es) same ∙ none) in
      let held : is_some (get (insert made name state) 0) ≡ true =
      ap is_some (get_set made name state 0
      ∙ ap (λ b. cond b (Some state) (get made 0)) (eq-eqb 0 name (sym same))) in
      let grown = one ∙ ap (λ b. cond b (len made) (len made + 1)) fresh in
      let kept = two ∙ ap
      (λ b. cond b (len (insert made name state)) (len (insert made name state) + 1)) held in
      omega (arith, more, grown, kept))
      (λ differs.
      let held : is_some (get made name) ≡ true = ap is_some (in_made name) ∙ there differs in
      let fresh : is_some (get (insert made name state) 0) ≡ false =
      ap is_some (get_set made name state 0 ∙ ap (λ b. cond b (Some state) (get made 0))
      (ne_eqb 0 name (λ e. differs (sym e))) ∙ in_made 0 ∙ none) in
      let kept = one ∙ ap (λ b. cond b (len made) (len made + 1)) held in
      let grown = two ∙ ap
      (λ b. cond b (len (insert made name state)) (len (insert made name state) + 1)) fresh in
      omega (arith, more, kept, grown))

some_known : {X : Type 0} (m : FinMap nat_cmp X) (x : ℕ) → is_some (get m x) ≡ true → 0 < len m
some_known m x there = by (len m) refl
  where
    by : (n : ℕ) → len m ≡ n → 0 < n
    by zero none = absurd (false≢true (sym
        (ap is_some (ap (λ k. get k x) (empty_of_len m none) ∙ get-empty nat_cmp x)) ∙ there))
    by (suc n) is = omega arith

-- clients that are known, none of them twice, are no more than are known
pub few_known : {X : Type 0} (xs : List ℕ) (m : FinMap nat_cmp X) → IsOnce xs
    → ((x : ℕ) → is_in x xs ≡ true → is_some (get m x) ≡ true) → length xs ≤ len m
few_known [] m once known = omega arith
few_known (x ∷ xs) m once known =
    let here = known x (is_in-first x xs) in
    let more = few_known xs (remove m x) once.1
    (λ y there. ap is_some (get_gone m x y)
    ∙ by_eq y x (λ b. is_some (cond b None (get m y)) ≡ true)
    (λ same. absurd (false≢true (sym once.0 ∙ subst (λ z. is_in z xs ≡ true) same there)))
    (λ differs. known y (or_right (eqb y x) _ there))) in
    let fewer = len-remove nat_cmp_total m x ∙ ap (λ b. cond b (len m - 1) (len m)) here in
    let some = some_known m x here in
    omega (arith, more, fewer, some)

-- ---- what the methods leave

lookup_known : (known : Known) (es : List (ℕ × Client)) (q : ℕ) → lookup (eqb q) (as_known known es)
    ≡ cond (is_some (lookup (eqb q) es)) (Some (client_at known q)) None
lookup_known known [] q = refl
lookup_known known (e ∷ es) q =
    by_eq q e.0 (λ b. cond b (Some (client_at known e.0)) (lookup (eqb q) (as_known known es))
    ≡ cond (is_some (cond b (Some e.1) (lookup (eqb q) es))) (Some (client_at known q)) None)
    (λ same. ap (λ name. Some (client_at known name)) (sym same))
    (λ differs. lookup_known known es q)

keys_known : (known : Known) (es : List (ℕ × Client)) → keys_of (as_known known es) ≡ keys_of es
keys_known known [] = refl
keys_known known (e ∷ es) = ap (λ names. e.0 ∷ names) (keys_known known es)

by_itself : (o : Option Client) (b : Bool) → is_some o ≡ b
    → o ≡ cond b (Some (unwrap_or o no_client)) None
by_itself None b is = ap (λ b. cond b (Some no_client) None) is
by_itself (Some client) b is = ap (λ b. cond b (Some client) None) is

-- the names in the map are those of the clients that are known
module _ (known : Known) (es : List (ℕ × Client))
    (name : ℕ) (state unnamed : Client) (is : known_of ((name, state) ∷ es) unnamed ≡ known)
    (there : name ≢ 0 → is_some (lookup (eqb name) es) ≡ true) where
  at : (q : ℕ) → get known q
      ≡ cond (eqb q 0) (Some unnamed) (cond (eqb q name) (Some state) (lookup (eqb q) es))
  at q = ap (λ k. get k q) (sym is) ∙ get_known ((name, state) ∷ es) unnamed q

  at_zero : (q : ℕ) → q ≡ 0 → get known q ≡ Some (client_at known 0)
  at_zero q zero_is =
      let here : get known q ≡ Some unnamed = at q
      ∙ ap (λ b. cond b (Some unnamed) (cond (eqb q name) (Some state) (lookup (eqb q) es)))
      (eq-eqb q 0 zero_is) in
      here ∙ sym (ap (λ o. Some (unwrap_or o no_client)) (ap (get known) (sym zero_is) ∙ here))

  at_named : (q : ℕ) → q ≢ 0 → is_some (get known q) ≡ is_some (lookup (eqb q) es)
  at_named q named =
      ap is_some (at q ∙ ap (λ b. cond b (Some unnamed)
      (cond (eqb q name) (Some state) (lookup (eqb q) es))) (ne_eqb q 0 named))
      ∙ by_eq q name
      (λ b. is_some (cond b (Some state) (lookup (eqb q) es)) ≡ is_some (lookup (eqb q) es))
      (λ same. sym (ap (λ q. is_some (lookup (eqb q) es)) same
      ∙ there (λ zero_is. named (same ∙ zero_is)))) (λ differs. refl)

  pub names_are : lookup (eqb 0) es ≡ None → IsDistinct eqb (keys_of es) → HasNames known es
  names_are none apart =
      record {
        known_are = same_known known (known_of (as_known known es) (client_at known 0)) (λ q.
            by_eq q 0 (λ b. get known q ≡ cond b (Some (client_at known 0))
            (lookup (eqb q) (as_known known es))) (at_zero q)
            (λ named. by_itself (get known q) (is_some (lookup (eqb q) es)) (at_named q named)
            ∙ sym (lookup_known known es q))
            ∙ sym (get_known (as_known known es) (client_at known 0) q));
        once = subst (λ names. IsOnce (0 ∷ names)) (sym (keys_known known es))
            (among 0 es none, once_from (keys_of es) apart);
      }

-- a client that is named is set, and the one that was set last is written back
module _ (es fs : List (ℕ × Client)) (unnamed state older : Client) (c last : ℕ)
    (named : c ≢ 0) where
  pub set_recent : ((q : ℕ)
      → q ≢ 0 → q ≢ c → lookup (eqb q) fs ≡ cond (eqb q last) (Some older) (lookup (eqb q) es))
      → known_of ((c, state) ∷ fs) unnamed ≡ insert (known_of ((last, older) ∷ es) unnamed) c state
  set_recent others =
      same_known _ _ (λ q. get_known ((c, state) ∷ fs) unnamed q ∙ at q
      ∙ sym (get_set (known_of ((last, older) ∷ es) unnamed) c state q
      ∙ ap (cond (eqb q c) (Some state)) (get_known ((last, older) ∷ es) unnamed q)))
    where
      at : (q : ℕ) → cond (eqb q 0) (Some unnamed) (cond (eqb q c) (Some state) (lookup (eqb q) fs))
          ≡ cond (eqb q c) (Some state)
          (cond (eqb q 0) (Some unnamed) (cond (eqb q last) (Some older) (lookup (eqb q) es)))
      at q =
          by_eq q 0 (λ b. cond b (Some unnamed) (cond (eqb q c) (Some state) (lookup (eqb q) fs))
          ≡ cond (eqb q c) (Some state)
          (cond b (Some unnamed) (cond (eqb q last) (Some older) (lookup (eqb q) es))))
          (λ zero_is. sym (ap (λ b. cond b (Some state) (Some unnamed))
          (ne_eqb q c (λ e. named (sym e ∙ zero_is)))))
          (λ other. by_eq q c (λ b. cond b (Some state) (lookup (eqb q) fs)
          ≡ cond b (Some state) (cond (eqb q last) (Some older) (lookup (eqb q) es)))
          (λ same. refl) (others q other))

  -- that one is set again
  pub set_last : c ≡ last → fs ≡ es → known_of ((last, state) ∷ es) unnamed
      ≡ insert (known_of ((last, older) ∷ es) unnamed) c state
  set_last same is =
      ap (λ name. known_of ((name, state) ∷ es) unnamed) (sym same)
      ∙ ap (λ more. known_of ((c, state) ∷ more) unnamed) (sym is)
      ∙ set_recent (λ q other differs. ap (lookup (eqb q)) is
      ∙ sym (ap (λ b. cond b (Some older) (lookup (eqb q) es))
      (ne_eqb q last (λ e. differs (e ∙ sym same)))))

  module _ (set : List (ℕ × Client)) (sets : (q : ℕ)
      → lookup (eqb q) set ≡ cond (eqb c q) (Some state) (lookup (eqb q) es)) where
    as_before : (q : ℕ) → q ≢ c → lookup (eqb q) set ≡ lookup (eqb q) es
    as_before q differs = sets q
        ∙ ap (λ b. cond b (Some state) (lookup (eqb q) es)) (ne_eqb c q (λ e. differs (sym e)))

    pub set_first : last ≡ 0 → fs ≡ set → known_of ((c, state) ∷ fs) unnamed
        ≡ insert (known_of ((last, older) ∷ es) unnamed) c state
    set_first zero_is is =
        set_recent (λ q other differs. ap (lookup (eqb q)) is
        ∙ as_before q differs ∙ sym (ap (λ b. cond b (Some older) (lookup (eqb q) es))
        (ne_eqb q last (λ e. other (e ∙ zero_is)))))

    pub set_next : ((q : ℕ)
        → lookup (eqb q) fs ≡ cond (eqb last q) (Some older) (lookup (eqb q) set)) → known_of
        ((c, state) ∷ fs) unnamed ≡ insert (known_of ((last, older) ∷ es) unnamed) c state
    set_next writes =
        set_recent (λ q other differs. writes q ∙ ap (λ b. cond b (Some older) (lookup (eqb q) set))
        (turned last q) ∙ ap (cond (eqb q last) (Some older)) (as_before q differs))

-- client 0 is set
pub set_unnamed : (es : List (ℕ × Client)) (unnamed client : Client)
    → known_of es client ≡ insert (known_of es unnamed) 0 client
set_unnamed es unnamed client =
    same_known _ _ (λ q. get_known es client q
    ∙ by_eq q 0 (λ b. cond b (Some client) (lookup (eqb q) es) ≡ cond b (Some client)
    (cond b (Some unnamed) (lookup (eqb q) es))) (λ same. refl) (λ differs. refl)
    ∙ sym (get_set (known_of es unnamed) 0 client q
    ∙ ap (cond (eqb q 0) (Some client)) (get_known es unnamed q)))

-- the same is found, so it is the same
pub same_named : (es fs : List (ℕ × Client)) (unnamed : Client)
    → ((q : ℕ) → lookup (eqb q) fs ≡ lookup (eqb q) es) → known_of fs unnamed ≡ known_of es unnamed
same_named es fs unnamed is = same_known _ _ (λ q. get_known fs unnamed q
    ∙ ap (cond (eqb q 0) (Some unnamed)) (is q) ∙ sym (get_known es unnamed q))

-- ---- tallies

find_tally : (q : ℕ) (es : List (ℕ × Client))
    → find nat_cmp q (map (λ e. (e.0, tally_of e.1)) es) ≡ option_map tally_of (find nat_cmp q es)
find_tally q [] = refl
find_tally q (e ∷ es) = by (eq_by_cmp nat_cmp q e.0) (find_tally q es)
  where
    by : (b : Bool) → find nat_cmp q (map (λ (e : ℕ × Client). (e.0, tally_of e.1)) es)
        ≡ option_map tally_of (find nat_cmp q es)
        → cond b (Some (tally_of e.1))
        (find nat_cmp q (map (λ (e : ℕ × Client). (e.0, tally_of e.1)) es))
        ≡ option_map tally_of (cond b (Some e.1) (find nat_cmp q es))
    by true more = refl
    by false more = more

pub get_tally : (known : Known) (c : ℕ)
    → get (tallies_of known) c ≡ option_map tally_of (get known c)
get_tally known c =
    get-from_entries nat_cmp_total (map (λ e. (e.0, tally_of e.1)) (entries known)) c
    ∙ find_tally c (entries known) ∙ ap (option_map tally_of) (sym (get-entries known c))

-- the tally of a client is that of what is known of it
pub tally_is : (known : Known) (c : ℕ)
    → tally_at (tallies_of known) c ≡ tally_of (client_at known c)
tally_is known c = ap (λ o. unwrap_or o no_jobs) (get_tally known c) ∙ by (get known c)
  where
    by : (o : Option Client)
        → unwrap_or (option_map tally_of o) no_jobs ≡ tally_of (unwrap_or o no_client)
    by None = refl
    by (Some client) = refl

pub seat_is : (known : Known) (c : ℕ) → is_some (get (tallies_of known) c) ≡ is_some (get known c)
seat_is known c = ap is_some (get_tally known c) ∙ by (get known c)
  where
    by : (o : Option Client) → is_some (option_map tally_of o) ≡ is_some o
    by None = refl
    by (Some client) = refl

-- ---- what is known, by the entries

module _ (known : Known) (es : List (ℕ × Client)) (unnamed : Client)
    (is : known_of es unnamed ≡ known) (c : ℕ) where
  got : get known c ≡ cond (eqb c 0) (Some unnamed) (lookup (eqb c) es)
  got = ap (λ k. get k c) (sym is) ∙ get_known es unnamed c

  pub got_zero : c ≡ 0 → get known c ≡ Some unnamed
  got_zero zero_is = got ∙ ap (λ b. cond b (Some unnamed) (lookup (eqb c) es)) (eq-eqb c 0 zero_is)

  got_named : c ≢ 0 → get known c ≡ lookup (eqb c) es
  got_named named = got ∙ ap (λ b. cond b (Some unnamed) (lookup (eqb c) es)) (ne_eqb c 0 named)

-- the one that was set last is known
pub last_known :
    (seen : Clients) (es : List (ℕ × Client)) (name : ℕ) (state unnamed : Client) (spare c : ℕ)
    → ◌≡◌ {A = Clients} (record { known = known_of ((name, state) ∷ es) unnamed; spare = spare })
    seen → c ≡ name → is_some (get seen.known c) ≡ true
last_known seen es name state unnamed spare c is same =
    ap is_some (ap (λ (v : Clients). get v.known c) (sym is)
    ∙ get_known ((name, state) ∷ es) unnamed c ∙ ap (λ b. cond (eqb c 0) (Some unnamed)
    (cond b (Some state) (lookup (eqb c) es))) (eq-eqb c name same))
    ∙ by_eq c 0 (λ b. is_some (cond b (Some unnamed) (Some state)) ≡ true) (λ _. refl) (λ _. refl)

-- the one that was set last, and another
module _ (seen : Clients) (es : List (ℕ × Client)) (name : ℕ) (state unnamed : Client)
    (spare : ℕ) (is : ◌≡◌ {A = Clients} (record {
      known = known_of ((name, state) ∷ es) unnamed;
      spare = spare;
    }) seen) (c : ℕ) (named : c ≢ 0) where
  got_by_name : get seen.known c ≡ cond (eqb c name) (Some state) (lookup (eqb c) es)
  got_by_name =
      got_named seen.known ((name, state) ∷ es) unnamed (ap (λ (v : Clients). v.known) is) c named

  pub got_last : c ≡ name → get seen.known c ≡ Some state
  got_last same =
      got_by_name ∙ ap (λ b. cond b (Some state) (lookup (eqb c) es)) (eq-eqb c name same)

  pub got_other : c ≢ name → get seen.known c ≡ lookup (eqb c) es
  got_other differs =
      got_by_name ∙ ap (λ b. cond b (Some state) (lookup (eqb c) es)) (ne_eqb c name differs)

  -- where there is room for it, it can be set in the map
  pub got_room : (name ≢ 0 → is_some (lookup (eqb name) es) ≡ true) → lookup (eqb c) es ≡ None
      → (is_some (get seen.known c) || nat_lt 0 seen.spare) ≡ true → (0 < spare → ⊥) → ⊥
  got_room there absent room full =
      by_eq c name (λ b. get seen.known c ≡ cond b (Some state) (lookup (eqb c) es) → ⊥)
      (λ same here. false≢true (sym (ap is_some (ap (λ q. lookup (eqb q) es) (sym same) ∙ absent))
      ∙ there (λ zero_is. named (same ∙ zero_is))))
      (λ differs here. full (ltb-true 0 spare (ap (λ (v : Clients). nat_lt 0 v.spare) is
      ∙ sym (ap (λ b. b || nat_lt 0 seen.spare) (ap is_some (here ∙ absent))) ∙ room)))
      got_by_name

-- what is known of client 0 changes
module _ (seen : Clients) (es : List (ℕ × Client)) (unnamed : Client) (spare c : ℕ)
    (is : ◌≡◌ {A = Clients} (record { known = known_of es unnamed; spare = spare }) seen)
    (zero_is : c ≡ 0) where
  pub unnamed_is : client_at seen.known c ≡ unnamed
  unnamed_is = ap (λ o. unwrap_or o no_client)
      (got_zero seen.known es unnamed (ap (λ (v : Clients). v.known) is) c zero_is)

  pub unnamed_set : (client : Client) (change : Client → Client) → client ≡ change unnamed
      → known_of es client ≡ insert seen.known c (change (client_at seen.known c))
  unnamed_set client change same =
      set_unnamed es unnamed client ∙ ap (λ (v : Clients). insert v.known 0 client) is
      ∙ ap (λ k. insert seen.known k client) (sym zero_is)
      ∙ ap (insert seen.known c) (same ∙ ap change (sym unnamed_is))

-- a client that is named is no longer known
module _ (seen : Clients) (es fs : List (ℕ × Client))
    (name : ℕ) (state unnamed : Client) (spare c gone : ℕ) (is : ◌≡◌ {A = Clients} (record {
      known = known_of ((name, state) ∷ es) unnamed;
      spare = spare;
    }) seen) (named : c ≢ 0)
    (none : lookup (eqb 0) es ≡ None) (apart : IsDistinct eqb (keys_of es))
    (there : name ≢ 0 → is_some (lookup (eqb name) es) ≡ true)
    (apart_still : IsDistinct eqb (keys_of fs)) (left : (q : ℕ) → lookup (eqb q) fs
    ≡ cond (eqb c q) None (lookup (eqb q) es)) (count : length fs + gone ≡ length es) where
  none_still : lookup (eqb 0) fs ≡ None
  none_still = left 0 ∙ ap (λ b. cond b None (lookup (eqb 0) es)) (ne_eqb c 0 named) ∙ none

  without : (q : ℕ) → lookup (eqb q) fs ≡ cond (eqb q c) None (lookup (eqb q) es)
  without q = left q ∙ ap (λ b. cond b None (lookup (eqb q) es)) (turned c q)

  out_of : (b : Bool) (o : Option Client)
      → unwrap_or (cond b None o) no_client ≡ cond b no_client (unwrap_or o no_client)
  out_of true o = refl
  out_of false o = refl

  module _ (last : ℕ) (known_last : Client) (more : ℕ) (there_still : last ≢ 0
      → is_some (lookup (eqb last) fs) ≡ true)
      (others : (q : ℕ) → q ≢ 0 → cond (eqb q last) (Some known_last) (lookup (eqb q) fs)
      ≡ cond (eqb q c) None (cond (eqb q name) (Some state) (lookup (eqb q) es))) where
    forgets :
        Forgets seen (record { known = known_of ((last, known_last) ∷ fs) unnamed; spare = more }) c
    forgets =
        let same : known_of ((name, state) ∷ es) unnamed ≡ seen.known =
        ap (λ (v : Clients). v.known) is in
        record {
          states = λ q.
              ap (λ o. unwrap_or o no_client) (get_known ((last, known_last) ∷ fs) unnamed q) ∙ at q
              ∙ ap (λ o. cond (eqb q c) no_client (unwrap_or o no_client))
              (sym (get_known ((name, state) ∷ es) unnamed q))
              ∙ ap (λ k. cond (eqb q c) no_client (client_at k q)) same;
          fewer =
              (let new = len_known fs last known_last unnamed none_still apart_still there_still in
              let old = len_known es name state unnamed none apart there in
              let as_seen = ap len same in omega (arith, new, old, as_seen, count));
        }
      where
        at : (q : ℕ) → unwrap_or (cond (eqb q 0) (Some unnamed)
            (cond (eqb q last) (Some known_last) (lookup (eqb q) fs))) no_client
            ≡ cond (eqb q c) no_client (unwrap_or (cond (eqb q 0) (Some unnamed)
            (cond (eqb q name) (Some state) (lookup (eqb q) es))) no_client)
        at q =
            by_eq q 0 (λ b. unwrap_or (cond b (Some unnamed)
            (cond (eqb q last) (Some known_last) (lookup (eqb q) fs))) no_client
            ≡ cond (eqb q c) no_client (unwrap_or (cond b (Some unnamed)
            (cond (eqb q name) (Some state) (lookup (eqb q) es))) no_client))
            (λ zero_is. sym
            (ap (λ b. cond b no_client unnamed) (ne_eqb q c (λ e. named (sym e ∙ zero_is)))))
            (λ other. ap (λ o. unwrap_or o no_client) (others q other)
            ∙ out_of (eqb q c) (cond (eqb q name) (Some state) (lookup (eqb q) es)))

  -- the one that was set last
  pub forgets_last : c ≡ name → (more : ℕ) (nobody : Client)
      → Forgets seen (record { known = known_of ((0, nobody) ∷ fs) unnamed; spare = more }) c
  forgets_last last_is more nobody =
      forgets 0 nobody more (λ bad. absurd (bad refl))
      (λ q other. ap (λ b. cond b (Some nobody) (lookup (eqb q) fs)) (ne_eqb q 0 other) ∙ without q
      ∙ by_eq q c (λ b. cond b None (lookup (eqb q) es)
      ≡ cond b None (cond (eqb q name) (Some state) (lookup (eqb q) es)))
      (λ same. refl) (λ differs. sym (ap (λ b. cond b (Some state) (lookup (eqb q) es))
      (ne_eqb q name (λ e. differs (e ∙ sym last_is))))))

  module _ (differs_from : c ≢ name) where
    last_there : name ≢ 0 → is_some (lookup (eqb name) fs) ≡ true
    last_there real = ap is_some (left name
        ∙ ap (λ b. cond b None (lookup (eqb name) es)) (ne_eqb c name differs_from)) ∙ there real

    -- another one
    pub forgets_other : (more : ℕ)
        → Forgets seen (record { known = known_of ((name, state) ∷ fs) unnamed; spare = more }) c
    forgets_other more =
        forgets name state more last_there
        (λ q other. by_eq q name (λ b. cond b (Some state) (lookup (eqb q) fs)
        ≡ cond (eqb q c) None (cond b (Some state) (lookup (eqb q) es)))
        (λ same. sym (ap (λ b. cond b None (Some state))
        (ne_eqb q c (λ e. differs_from (sym e ∙ same))))) (λ differs. without q))
