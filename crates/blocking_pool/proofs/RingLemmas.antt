-- How joining two nodes changes a ring.
use Rattle.std.proofs.Common.{◌≡◌, ◌≢◌, ℕ, zero, suc, ◌+◌, ◌-◌, ◌<◌, ◌≤◌, Bool, true, false, cond}
use Rattle.std.proofs.Common.{eqb, ◌||◌, List, [], ◌∷◌, ◌++◌, length, refl, sym, ap, ◌∙◌, subst}
use Rattle.std.proofs.Common.{arith, add-one, not, Option, Some, None, get_or, replicate}
use Rattle.std.proofs.lemmas.Bool.{eqb-false, eq-eqb, ne_eqb, or_parts, false≢true}
use Rattle.std.proofs.lemmas.List.{length_push, get_or_read}
use Rattle.blocking_pool.specs.Chain.{Chain}
use Rattle.blocking_pool.specs.Lists.{is_in, IsOnce, without, first_of, rest_after}
use Rattle.blocking_pool.specs.Rings.{loose, node_after, node_before, walk, LeadsOn, LeadsBack}
use Rattle.blocking_pool.specs.Rings.{AreWithin, IsRing, Joins, IsInserted}
use Rattle.blocking_pool.specs.declared.pool.chain.Link.{Link}
use Rattle.blocking_pool.proofs.Lists.{by_eq, without-fresh, IsOnce-without, IsOnce-push}
use Rattle.blocking_pool.proofs.Lists.{length-without, length-le_below}

-- the places are those that the links lead through
pub walk_is : (links : List Link) (node : ℕ) (places : List ℕ)
    → LeadsOn (node_after links) node places → walk links (length places) node ≡ places
walk_is links node [] on = refl
walk_is links node (place ∷ places) on =
    let lower : suc place - 1 ≡ place = omega arith in
    subst (λ next. (next - 1) ∷ walk links (length places) next ≡ place ∷ places) (sym on.0)
    (rw lower (ap (λ ps. place ∷ ps) (walk_is links (suc place) places on.1)))

-- the node is none of these places'
abbrev pub IsApart : ℕ → List ℕ → Type 0
IsApart node [] = Unit {0}
IsApart node (place ∷ places) = (node ≢ suc place) × IsApart node places

pub IsApart-fresh : (place : ℕ) (places : List ℕ) → is_in place places ≡ false
    → IsApart (suc place) places
IsApart-fresh place [] fresh = tt
IsApart-fresh place (other ∷ places) fresh =
    let parts = or_parts _ _ fresh in
    (λ e. eqb-false place other parts.0 (omega arith), IsApart-fresh place places parts.1)

pub IsApart-zero : (places : List ℕ) → IsApart 0 places
IsApart-zero [] = tt
IsApart-zero (place ∷ places) = (λ e. omega arith, IsApart-zero places)

-- the last node of a row that begins at this node
abbrev pub last_node : ℕ → List ℕ → ℕ
last_node node [] = node
last_node node (place ∷ places) = last_node (suc place) places

last_node_apart : (node place : ℕ) (places : List ℕ) → IsApart node (place ∷ places)
    → node ≢ last_node (suc place) places
last_node_apart node place [] apart = apart.0
last_node_apart node place (next ∷ places) apart = last_node_apart node next places apart.1

pub last_node_back : (before : ℕ → ℕ) (node : ℕ) (places : List ℕ) → LeadsBack before node places
    → before 0 ≡ last_node node places
last_node_back before node [] back = back
last_node_back before node (place ∷ places) back = last_node_back before (suc place) places back.1

last_node_within : (count node : ℕ) (places : List ℕ) → node < count → AreWithin count places
    → last_node node places < count
last_node_within count node [] below within = below
last_node_within count node (place ∷ places) below within =
    last_node_within count (suc place) places within.0 within.1

-- a row goes on as it did where its nodes do
on_same : (f g : ℕ → ℕ) (node : ℕ) (places : List ℕ)
    → g node ≡ f node → ((other : ℕ) → is_in other places ≡ true → g (suc other) ≡ f (suc other))
    → LeadsOn f node places → LeadsOn g node places
on_same f g node [] here same on = here ∙ on
on_same f g node (place ∷ places) here same on = (
  here ∙ on.0,
  on_same f g (suc place) places
      (same place (ap (λ b. b || is_in place places) (eq-eqb place place refl)))
      (λ other found. same other (subst (λ b. (eqb other place || b) ≡ true) (sym found)
      (or_true (eqb other place)))) on.1,
)
  where
    or_true : (b : Bool) → (b || true) ≡ true
    or_true true = refl
    or_true false = refl

-- what changes at one node that is apart leaves a row as it was
on_apart : (f g : ℕ → ℕ) (changed node : ℕ) (places : List ℕ)
    → ((other : ℕ) → other ≢ changed → g other ≡ f other) → changed ≢ node → IsApart changed places
    → LeadsOn f node places → LeadsOn g node places
on_apart f g changed node [] same differs apart on = same node (λ e. differs (sym e)) ∙ on
on_apart f g changed node (place ∷ places) same differs apart on = (
  same node (λ e. differs (sym e)) ∙ on.0,
  on_apart f g changed (suc place) places same apart.0 apart.1 on.1,
)

back_apart : (f g : ℕ → ℕ) (changed node : ℕ) (places : List ℕ)
    → ((other : ℕ) → other ≢ changed → g other ≡ f other) → changed ≢ 0 → IsApart changed places
    → LeadsBack f node places → LeadsBack g node places
back_apart f g changed node [] same differs apart back = same 0 (λ e. differs (sym e)) ∙ back
back_apart f g changed node (place ∷ places) same differs apart back = (
  same (suc place) (λ e. apart.0 (sym e)) ∙ back.0,
  back_apart f g changed (suc place) places same differs apart.1 back.1,
)

-- a place at the end
push_on : (f g : ℕ → ℕ) (new node : ℕ) (places : List ℕ) → g (last_node node places) ≡ suc new
    → g (suc new) ≡ 0
    → ((other : ℕ) → other ≢ last_node node places → other ≢ suc new → g other ≡ f other)
    → node ≢ suc new → IsApart (suc new) places → IsApart node places → IsOnce places
    → LeadsOn f node places → LeadsOn g node (places ++ new ∷ [])
push_on f g new node [] here end same differs fresh apart once on = (here, end)
push_on f g new node (place ∷ places) here end same differs fresh apart once on = (
  same node (last_node_apart node place places apart) differs ∙ on.0,
  push_on f g new (suc place) places here end same (λ e. fresh.0 (sym e)) fresh.1
      (IsApart-fresh place places once.0) once.1 on.1,
)

push_back : (f g : ℕ → ℕ) (new node : ℕ) (places : List ℕ) → g 0 ≡ suc new
    → g (suc new) ≡ last_node node places
    → ((other : ℕ) → other ≢ 0 → other ≢ suc new → g other ≡ f other) → IsApart (suc new) places
    → LeadsBack f node places → LeadsBack g node (places ++ new ∷ [])
push_back f g new node [] end here same fresh back = (here, end)
push_back f g new node (place ∷ places) end here same fresh back = (
  same (suc place) (λ e. omega arith) (λ e. fresh.0 (sym e)) ∙ back.0,
  push_back f g new (suc place) places end here same fresh.1 back.1,
)

within_push : (count new : ℕ) (places : List ℕ) → suc new < count → AreWithin count places
    → AreWithin count (places ++ new ∷ [])
within_push count new [] below within = (below, tt)
within_push count new (place ∷ places) below within =
    (within.0, within_push count new places below within.1)

within_without : (count place : ℕ) (places : List ℕ) → AreWithin count places
    → AreWithin count (without place places)
within_without count place [] within = tt
within_without count place (other ∷ places) within =
    by_eq place other
    (λ b. AreWithin count (cond (not b) (other ∷ without place places) (without place places)))
    (λ same. within_without count place places within.1)
    (λ apart. (within.0, within_without count place places within.1))

pub within_in : (count place : ℕ) (places : List ℕ) → AreWithin count places
    → is_in place places ≡ true → suc place < count
within_in count place [] within found = absurd (false≢true found)
within_in count place (other ∷ places) within found =
    by_eq place other (λ b. (b || is_in place places) ≡ true → suc place < count)
    (λ same f. subst (λ p. suc p < count) (sym same) within.0)
    (λ apart f. within_in count place places within.1 f) found

-- the node before a place, and the node after it
abbrev pub prior : ℕ → ℕ → List ℕ → ℕ
prior x node [] = node
prior x node (place ∷ places) = cond (eqb x place) node (prior x (suc place) places)

abbrev pub head_node : List ℕ → ℕ
head_node [] = 0
head_node (place ∷ places) = suc place

abbrev pub next : ℕ → List ℕ → ℕ
next x [] = 0
next x (place ∷ places) = cond (eqb x place) (head_node places) (next x places)

on_head : (f : ℕ → ℕ) (node : ℕ) (places : List ℕ) → LeadsOn f node places
    → f node ≡ head_node places
on_head f node [] on = on
on_head f node (place ∷ places) on = on.0

pub prior_is : (g : ℕ → ℕ) (x node : ℕ) (places : List ℕ) → is_in x places ≡ true
    → LeadsBack g node places → g (suc x) ≡ prior x node places
prior_is g x node [] found back = absurd (false≢true found)
prior_is g x node (place ∷ places) found back =
    by_eq x place (λ b. (b || is_in x places) ≡ true
    → g (suc x) ≡ cond b node (prior x (suc place) places))
    (λ same f. ap (λ p. g (suc p)) same ∙ back.0)
    (λ apart f. prior_is g x (suc place) places f back.1) found

pub next_is : (f : ℕ → ℕ) (x node : ℕ) (places : List ℕ) → is_in x places ≡ true
    → LeadsOn f node places → f (suc x) ≡ next x places
next_is f x node [] found on = absurd (false≢true found)
next_is f x node (place ∷ places) found on =
    by_eq x place (λ b. (b || is_in x places) ≡ true
    → f (suc x) ≡ cond b (head_node places) (next x places))
    (λ same found. ap (λ p. f (suc p)) same ∙ on_head f (suc place) places on.1)
    (λ apart found. next_is f x (suc place) places found on.1) found

prior_apart : (x node place : ℕ) (places : List ℕ) → IsApart node (place ∷ places)
    → node ≢ prior x (suc place) places
prior_apart x node place [] apart = apart.0
prior_apart x node place (other ∷ places) apart =
    by_eq x other (λ b. node ≢ cond b (suc place) (prior x (suc other) places))
    (λ same. apart.0) (λ differs. prior_apart x node other places apart.1)

next_apart : (x node : ℕ) (places : List ℕ) → node ≢ 0 → IsApart node places → node ≢ next x places
next_apart x node [] nonzero apart = nonzero
next_apart x node (place ∷ places) nonzero apart =
    by_eq x place (λ b. node ≢ cond b (head_node places) (next x places))
    (λ same. head places apart.1) (λ differs. next_apart x node places nonzero apart.1)
  where
    head : (rest : List ℕ) → IsApart node rest → node ≢ head_node rest
    head [] a = nonzero
    head (other ∷ rest) a = a.0

-- a place less
unlink_on : (f g : ℕ → ℕ) (x node : ℕ) (places : List ℕ) → is_in x places ≡ true
    → g (prior x node places) ≡ f (suc x)
    → ((other : ℕ) → other ≢ prior x node places → g other ≡ f other) → IsApart node places
    → IsOnce places
    → LeadsOn f node places → LeadsOn g node (without x places)
unlink_on f g x node [] found here same apart once on = absurd (false≢true found)
unlink_on f g x node (place ∷ places) found here same apart once on =
    by_eq x place (λ b. (b || is_in x places) ≡ true
    → g (cond b node (prior x (suc place) places)) ≡ f (suc x)
    → ((other : ℕ) → other ≢ cond b node (prior x (suc place) places) → g other ≡ f other)
    → LeadsOn g node (cond (not b) (place ∷ without x places) (without x places)))
    (λ is found here same. subst (LeadsOn g node)
    (sym (without-fresh x places (subst (λ p. is_in p places ≡ false) (sym is) once.0)))
    (over places (here ∙ ap (λ p. f (suc p)) is) same apart.1 once.1
    (IsApart-fresh place places once.0) on.1))
    (λ differs found here same. (
      same node (prior_apart x node place places apart) ∙ on.0,
      unlink_on f g x (suc place) places found here same (IsApart-fresh place places once.0) once.1
          on.1,
    )) found here same
  where
    over : (rest : List ℕ) → g node ≡ f (suc place)
        → ((other : ℕ) → other ≢ node → g other ≡ f other) → IsApart node rest → IsOnce rest
        → IsApart (suc place) rest → LeadsOn f (suc place) rest → LeadsOn g node rest
    over [] here same apart once fresh on = here ∙ on
    over (first ∷ rest) here same apart once fresh on =
        (here ∙ on.0, on_apart f g node (suc first) rest same apart.0 apart.1 on.1)

unlink_back : (f g : ℕ → ℕ) (x node : ℕ) (places : List ℕ) → is_in x places ≡ true
    → g (next x places) ≡ prior x node places
    → ((other : ℕ) → other ≢ next x places → g other ≡ f other) → IsOnce places
    → LeadsBack f node places → LeadsBack g node (without x places)
unlink_back f g x node [] found here same once back = absurd (false≢true found)
unlink_back f g x node (place ∷ places) found here same once back =
    by_eq x place (λ b. (b || is_in x places) ≡ true
    → g (cond b (head_node places) (next x places)) ≡ cond b node (prior x (suc place) places)
    → ((other : ℕ) → other ≢ cond b (head_node places) (next x places) → g other ≡ f other)
    → LeadsBack g node (cond (not b) (place ∷ without x places) (without x places)))
    (λ is found here same. subst (LeadsBack g node)
    (sym (without-fresh x places (subst (λ p. is_in p places ≡ false) (sym is) once.0)))
    (over places here same once.1 back.1))
    (λ differs found here same. (
      same (suc place)
          (next_apart x (suc place) places (λ e. omega arith) (IsApart-fresh place places once.0))
          ∙ back.0,
      unlink_back f g x (suc place) places found here same once.1 back.1,
    )) found here same
  where
    over : (rest : List ℕ) → g (head_node rest) ≡ node
        → ((other : ℕ) → other ≢ head_node rest → g other ≡ f other) → IsOnce rest
        → LeadsBack f (suc place) rest → LeadsBack g node rest
    over [] here same once back = here
    over (first ∷ rest) here same once back = (
      here,
      back_apart f g (suc first) (suc first) rest same (λ e. omega arith)
          (IsApart-fresh first rest once.0) back.1,
    )

-- the ring's own places are those that are walked through
pub ring_walk : (links : List Link) (count : ℕ) (ring : IsRing links count)
    → walk links count 0 ≡ ring.places
ring_walk links count ring =
    subst (λ n. walk links n 0 ≡ ring.places) ring.counted (walk_is links 0 ring.places ring.on)

pub length-walk : (links : List Link) (count node : ℕ) → length (walk links count node) ≡ count
length-walk links zero node = refl
length-walk links (suc count) node = ap suc (length-walk links count (node_after links node))

-- the node before the end is one of the ring's
pub last_within : (links : List Link) (count : ℕ) → 0 < length links → IsRing links count
    → node_before links 0 < length links
last_within links count some ring =
    subst (λ n. n < length links) (sym (last_node_back (node_before links) 0 ring.places ring.back))
    (last_node_within (length links) 0 ring.places some ring.within)

below_within : (count : ℕ) (places : List ℕ) → AreWithin (suc count) places → (x : ℕ)
    → is_in x places ≡ true → x < count
below_within count places within x found =
    omega (arith, within_in (suc count) x places within found)

-- a ring has no more places than its links have room for
pub count_within : (links : List Link) (count room : ℕ) → length links ≡ suc room
    → IsRing links count → count ≤ room
count_within links count room long ring =
    subst (λ n. n ≤ room) ring.counted
    (length-le_below ring.places room ring.once
    (below_within room ring.places (subst (λ n. AreWithin n ring.places) long ring.within)))

joined_here : (f g : ℕ → ℕ) (at to : ℕ) → ((node : ℕ) → g node ≡ cond (eqb node at) to (f node))
    → g at ≡ to
joined_here f g at to is = is at ∙ ap (λ b. cond b to (f at)) (eq-eqb at at refl)

joined_else : (f g : ℕ → ℕ) (at to : ℕ) → ((node : ℕ) → g node ≡ cond (eqb node at) to (f node))
    → (node : ℕ) → node ≢ at → g node ≡ f node
joined_else f g at to is node differs =
    is node ∙ ap (λ b. cond b to (f node)) (ne_eqb node at differs)

-- what `push_back` leaves
pub record IsPushed (links : List Link) (count : ℕ) (old : List ℕ) (place : ℕ) : Type 0 where
  pub ring : IsRing links (count + 1)
  pub places : walk links (count + 1) 0 ≡ old ++ place ∷ []

pub pushed : (old new : List Link) (count place node : ℕ) → node ≡ suc place → node < length old
    → IsRing old count → is_in place (walk old count 0) ≡ false
    → IsInserted old new node → IsPushed new count (walk old count 0) place
pushed old new count place node is below ring fresh inserted =
    record {
      ring = ring_new;
      places = ring_walk new (count + 1) ring_new
          ∙ ap (λ ps. ps ++ place ∷ []) (sym (ring_walk old count ring));
    }
  where
    mid : List Link
    mid = inserted.between

    first : Joins old mid (node_before old 0) node
    first = inserted.last

    second : Joins mid new node 0
    second = inserted.end

    unknown : is_in place ring.places ≡ false
    unknown = subst (λ ps. is_in place ps ≡ false) (ring_walk old count ring) fresh

    apart : IsApart (suc place) ring.places
    apart = IsApart-fresh place ring.places unknown

    last : node_before old 0 ≡ last_node 0 ring.places
    last = last_node_back (node_before old) 0 ring.places ring.back

    last_differs : (n : ℕ) (ps : List ℕ) → n ≢ suc place → IsApart (suc place) ps
        → last_node n ps ≢ suc place
    last_differs n [] differs a = differs
    last_differs n (p ∷ ps) differs a = last_differs (suc p) ps (λ e. a.0 (sym e)) a.1

    no_zero : 0 ≢ suc place
    no_zero e = omega arith

    far : last_node 0 ring.places ≢ suc place
    far = last_differs 0 ring.places no_zero apart

    ring_new : IsRing new (count + 1)
    ring_new =
        let end = joined_here (node_after mid) (node_after new) node 0 second.on in
        let start = joined_here (node_before mid) (node_before new) 0 node second.back in
        record {
          places = ring.places ++ place ∷ [];
          on = push_on (node_after old) (node_after new) place 0 ring.places
              (joined_else (node_after mid) (node_after new) node 0 second.on (last_node 0
              ring.places) (subst (λ n. last_node 0 ring.places ≢ n) (sym is) far)
              ∙ (subst (λ n. node_after mid n ≡ node) last (joined_here (node_after old)
              (node_after mid) (node_before old 0) node first.on) ∙ is))
              (subst (λ n. node_after new n ≡ 0) is end)
              (λ other a b. joined_else (node_after mid) (node_after new) node 0 second.on other
              (subst (λ n. other ≢ n) (sym is) b)
              ∙ joined_else (node_after old) (node_after mid) (node_before old 0) node first.on
              other (subst (λ n. other ≢ n) (sym last) a))
              no_zero apart (IsApart-zero ring.places) ring.once ring.on;
          back = push_back (node_before old) (node_before new) place 0 ring.places
              (start ∙ is)
              (joined_else (node_before mid) (node_before new) 0 node second.back (suc place)
              (λ e. no_zero (sym e))
              ∙ (subst (λ n. node_before mid n ≡ node_before old 0) is (joined_here
              (node_before old) (node_before mid) node (node_before old 0) first.back)
              ∙ last))
              (λ other a b.
              joined_else (node_before mid) (node_before new) 0 node second.back other a
              ∙ joined_else (node_before old) (node_before mid) node (node_before old 0) first.back
              other (subst (λ n. other ≢ n) (sym is) b))
              apart ring.back;
          once = IsOnce-push ring.places place ring.once unknown;
          within = subst (λ n. AreWithin n (ring.places ++ place ∷ []))
              (sym (second.count ∙ first.count))
              (within_push (length old) place ring.places (subst (λ n. n < length old) is below)
              ring.within);
          counted = length_push ring.places place ∙ ap (λ n. n + 1) ring.counted;
        }

-- what `unlink` leaves
pub record IsUnlinked (links : List Link) (count : ℕ) (old : List ℕ) (place : ℕ) : Type 0 where
  pub ring : IsRing links (count - 1)
  pub places : walk links (count - 1) 0 ≡ without place old

pub unlinked : (old new : List Link) (count place node : ℕ) → node ≡ suc place → IsRing old count
    → is_in place (walk old count 0) ≡ true
    → Joins old new (node_before old node) (node_after old node)
    → IsUnlinked new count (walk old count 0) place
unlinked old new count place node is ring found join =
    record {
      ring = ring_new;
      places = ring_walk new (count - 1) ring_new
          ∙ ap (without place) (sym (ring_walk old count ring));
    }
  where
    known : is_in place ring.places ≡ true
    known = subst (λ ps. is_in place ps ≡ true) (ring_walk old count ring) found

    before : node_before old node ≡ prior place 0 ring.places
    before =
        ap (node_before old) is ∙ prior_is (node_before old) place 0 ring.places known ring.back

    after : node_after old node ≡ next place ring.places
    after = ap (node_after old) is ∙ next_is (node_after old) place 0 ring.places known ring.on

    less : length ring.places ≡ suc (length (without place ring.places))
    less = length-without place ring.places known ring.once

    ring_new : IsRing new (count - 1)
    ring_new =
        record {
          places = without place ring.places;
          on = unlink_on (node_after old) (node_after new) place 0 ring.places known
              (subst (λ n. node_after new n ≡ node_after old node)
              before (joined_here (node_after old) (node_after new) (node_before old node)
              (node_after old node) join.on) ∙ ap (node_after old) is)
              (λ other differs. joined_else (node_after old)
              (node_after new) (node_before old node) (node_after old node) join.on other
              (subst (λ n. other ≢ n) (sym before) differs))
              (IsApart-zero ring.places) ring.once ring.on;
          back = unlink_back (node_before old) (node_before new) place 0 ring.places known
              (subst (λ n. node_before new n ≡ node_before old node)
              after (joined_here (node_before old) (node_before new) (node_after old node)
              (node_before old node) join.back) ∙ before)
              (λ other differs. joined_else (node_before old)
              (node_before new) (node_after old node) (node_before old node) join.back other
              (subst (λ n. other ≢ n) (sym after) differs))
              ring.once ring.back;
          once = IsOnce-without place ring.places ring.once;
          within = subst (λ n. AreWithin n (without place ring.places)) (sym join.count)
              (within_without (length old) place ring.places ring.within);
          counted = omega (arith, less, ring.counted);
        }

-- both neighbours of a place in the ring are nodes of the ring
pub neighbours_within : (links : List Link) (count place node : ℕ) → node ≡ suc place
    → IsRing links count → is_in place (walk links count 0) ≡ true
    → (node < length links) × (node_before links node < length links)
    × (node_after links node < length links)
neighbours_within links count place node is ring found =
    let known : is_in place ring.places ≡ true =
    subst (λ ps. is_in place ps ≡ true) (ring_walk links count ring) found in
    let here = within_in (length links) place ring.places ring.within known in (
      subst (λ n. n < length links) (sym is) here,
      subst (λ n. n < length links) (sym (ap (node_before links) is
          ∙ prior_is (node_before links) place 0 ring.places known ring.back))
          (prior_within ring.places 0 (omega (arith, here)) ring.within),
      subst (λ n. n < length links) (sym (ap (node_after links) is
          ∙ next_is (node_after links) place 0 ring.places known ring.on))
          (next_within ring.places (omega (arith, here)) ring.within),
    )
  where
    prior_within : (places : List ℕ) (at : ℕ) → at < length links → AreWithin (length links) places
        → prior place at places < length links
    prior_within [] at below within = below
    prior_within (p ∷ places) at below within =
        by_eq place p (λ b. cond b at (prior place (suc p) places) < length links) (λ same. below)
        (λ differs. prior_within places (suc p) within.0 within.1)

    next_within : (places : List ℕ) → 0 < length links → AreWithin (length links) places
        → next place places < length links
    next_within [] some within = some
    next_within (p ∷ places) some within =
        by_eq place p (λ b. cond b (head_node places) (next place places) < length links)
        (λ same. head_within places within.1) (λ differs. next_within places some within.1)
      where
        head_within : (rest : List ℕ) → AreWithin (length links) rest
            → head_node rest < length links
        head_within [] w = some
        head_within (q ∷ rest) w = w.0

-- the first place of a ring that has one
pub ring_some : (links : List Link) (count : ℕ) → count ≢ 0 → IsRing links count → 0 < length links
ring_some links count some ring = from_places ring.places ring.counted ring.within
  where
    from_places : (places : List ℕ) → length places ≡ count → AreWithin (length links) places
        → 0 < length links
    from_places [] counted within = absurd (some (sym counted))
    from_places (place ∷ places) counted within = omega (arith, within.0)

pub ring_first : (links : List Link) (count : ℕ) → count ≢ 0 → IsRing links count
    → (1 ≤ node_after links 0) × (Some (node_after links 0 - 1) ≡ first_of (walk links count 0))
ring_first links zero some ring = absurd (some refl)
ring_first links (suc count) some ring = (from_places ring.places ring.counted ring.on, refl)
  where
    from_places : (places : List ℕ) → length places ≡ suc count
        → LeadsOn (node_after links) 0 places → 1 ≤ node_after links 0
    from_places [] counted on = absurd (omega (arith, counted))
    from_places (place ∷ places) counted on = omega (arith, on.0)

-- more links, each of them loose, change no ring
pub ring_longer : (old new : List Link) (count : ℕ) → length old ≤ length new
    → ((node : ℕ) → get_or new node loose ≡ get_or old node loose) → IsRing old count
    → IsRing new count
ring_longer old new count longer same ring =
    record {
      places = ring.places;
      on = on_same (node_after old) (node_after new) 0 ring.places (ap (λ l. l.after) (same 0))
          (λ other found. ap (λ l. l.after) (same (suc other))) ring.on;
      back = back_same 0 ring.places ring.back;
      once = ring.once;
      within = within_longer ring.places ring.within;
      counted = ring.counted;
    }
  where
    back_same : (node : ℕ) (places : List ℕ) → LeadsBack (node_before old) node places
        → LeadsBack (node_before new) node places
    back_same node [] back = ap (λ l. l.before) (same 0) ∙ back
    back_same node (place ∷ places) back =
        (ap (λ l. l.before) (same (suc place)) ∙ back.0, back_same (suc place) places back.1)

    within_longer : (places : List ℕ) → AreWithin (length old) places
        → AreWithin (length new) places
    within_longer [] within = tt
    within_longer (place ∷ places) within = (omega (arith, within.0), within_longer places within.1)

pub walk_longer : (old new : List Link) (count node : ℕ)
    → ((other : ℕ) → get_or new other loose ≡ get_or old other loose)
    → walk new count node ≡ walk old count node
walk_longer old new zero node same = refl
walk_longer old new (suc count) node same =
    ap (λ n. (n - 1) ∷ walk new count n) (ap (λ l. l.after) (same node))
    ∙ ap (λ ps. (node_after old node - 1) ∷ ps)
    (walk_longer old new count (node_after old node) same)

-- links that were added at the end are loose
pub added_loose : (old : List Link) (more node : ℕ)
    → get_or (old ++ replicate more loose) node loose ≡ get_or old node loose
added_loose [] zero node = refl
added_loose [] (suc more) zero = refl
added_loose [] (suc more) (suc node) = added_loose [] more node
added_loose (link ∷ old) more zero = refl
added_loose (link ∷ old) more (suc node) = added_loose old more node

-- two chains are one where they have the same places and the same room
pub same_chain : (places others : List ℕ) (room space : ℕ) → places ≡ others → room ≡ space → ◌≡◌
    {A = Chain} (record { places = places; room = room }) (record { places = others; room = space })
same_chain places others room space same as_wide = cc

-- the place of a node; the end is none
abbrev pub place_of : ℕ → Option ℕ
place_of zero = None
place_of (suc place) = Some place

head_place : (places : List ℕ) → place_of (head_node places) ≡ first_of places
head_place [] = refl
head_place (place ∷ places) = refl

-- the place that comes after one, by the nodes
next_place : (x : ℕ) (places : List ℕ) → place_of (next x places) ≡ first_of (rest_after x places)
next_place x [] = refl
next_place x (place ∷ places) =
    by_eq x place (λ b. place_of (cond b (head_node places) (next x places))
    ≡ first_of (cond b places (rest_after x places)))
    (λ same. head_place places) (λ differs. next_place x places)

pub ring_after : (links : List Link) (count place : ℕ) (ring : IsRing links count)
    → is_in place (walk links count 0) ≡ true
    → place_of (node_after links (suc place)) ≡ first_of (rest_after place (walk links count 0))
ring_after links count place ring found =
    subst (λ places. is_in place places ≡ true → place_of (node_after links (suc place))
    ≡ first_of (rest_after place places)) (sym (ring_walk links count ring))
    (λ f. ap place_of (next_is (node_after links) place 0 ring.places f ring.on)
    ∙ next_place place ring.places) found

pub node_place : (node : ℕ) → node ≢ 0 → Some (node - 1) ≡ place_of node
node_place zero differs = absurd (differs refl)
node_place (suc place) differs = ap Some (omega arith)

-- the link of a place, as it is read, tells the place that comes after
pub read_after : (links : List Link) (count place : ℕ) (link : Link) (row : Chain)
    → IsRing links count → walk links count 0 ≡ row.places → is_in place row.places ≡ true
    → link ≡ get_or links (place + 1) link
    → place_of link.after ≡ first_of (rest_after place row.places)
read_after links count place link row ring seen found is =
    ap place_of (ap (λ l. l.after) (get_or_read links (place + 1) link within is loose)
    ∙ ap (node_after links) (add-one place))
    ∙ ring_after links count place ring here
    ∙ ap (λ places. first_of (rest_after place places)) seen
  where
    here : is_in place (walk links count 0) ≡ true
    here = ap (is_in place) seen ∙ found

    within : place + 1 < length links
    within = (neighbours_within links count place (place + 1) (add-one place) ring here).0
