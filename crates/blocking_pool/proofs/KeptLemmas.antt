-- What every queue by clients keeps, with a client limit and without.
use Rattle.std.proofs.Common.{◌≡◌, ◌≢◌, ℕ, ◌-◌, ◌<◌, ◌≤◌, Bool, true, false, cond, eqb, ◌||◌, not}
use Rattle.std.proofs.Common.{◌&&◌, List, [], ◌∷◌, ◌++◌, map, length, set, get_or, Option, Some}
use Rattle.std.proofs.Common.{None, is_some, IsSome, refl, sym, ap, ◌∙◌, subst, inl, inr, arith}
use Rattle.std.proofs.lemmas.Bool.{cases_eq, eqb-true, eq-eqb, ne_eqb, false≢true}
use Rattle.std.proofs.lemmas.List.{get_or-set_other, get_or-set_same}
use Rattle.std.specs.FinMap.{insert, len}
use Rattle.blocking_pool.specs.Lists.{is_in, IsOnce, without}
use Rattle.blocking_pool.specs.Chain.{Chain}
use Rattle.blocking_pool.specs.Heads.{Heads}
use Rattle.blocking_pool.specs.Clients.{Tally, tally_at}
use Rattle.blocking_pool.specs.ClientTable.{Known, client_at, no_client}
use Rattle.blocking_pool.specs.Hangs.{line_of}
use Rattle.blocking_pool.specs.Queue.{Queue, line_in, Holds}
use Rattle.blocking_pool.specs.QueueForm.{tally_of, nowhere, client_by, admits, IsLined}
use Rattle.blocking_pool.specs.QueueForm.{HaveNoLines, AreHeld, AreLines, IsQueue}
use Rattle.blocking_pool.specs.declared.pool.clients.Client.{Client}
use Rattle.blocking_pool.specs.declared.pool.queue.Spot.{Spot}
use Rattle.blocking_pool.proofs.Lists.{by_eq, IsOnce-push, IsOnce-without}
use Rattle.blocking_pool.proofs.ClientLemmas.{client_set}
use Rattle.blocking_pool.proofs.HangLemmas.{in_push}
use Rattle.blocking_pool.proofs.OpenLemmas.{is_in-filter}
use Rattle.blocking_pool.proofs.QueueLemmas.{seen_as, line_seen, tally_seen, changed_set, given_up}
use Rattle.blocking_pool.proofs.QueueLemmas.{widened}

-- ---- with a limit, and without

module _ (places : Chain) (spots : List Spot) (known : Known) (heads : Heads) (ready next : ℕ) where
  pub lined_in : (limit : Option ℕ)
      → IsSome limit → AreLines limit places spots known heads ready next
      → IsLined places spots known heads limit ready next
  lined_in None bad lines = absurd (false≢true bad)
  lined_in (Some most) is lines = lines

  pub lines_in : (limit : Option ℕ)
      → IsSome limit → IsLined places spots known heads limit ready next
      → AreLines limit places spots known heads ready next
  lines_in None bad lined = absurd (false≢true bad)
  lines_in (Some most) is lined = lined

  pub no_lines_in : (limit : Option ℕ) → limit ≡ None
      → AreLines limit places spots known heads ready next → HaveNoLines known × (heads.heads ≡ [])
  no_lines_in None is lines = lines
  no_lines_in (Some most) bad lines = absurd (cc)

  pub none_lined : (limit : Option ℕ) → limit ≡ None → HaveNoLines known → heads.heads ≡ []
      → AreLines limit places spots known heads ready next
  none_lined None is empty none = (empty, none)
  none_lined (Some most) bad empty none = absurd (cc)

  -- what a queue keeps under a limit
  pub limited : (limit : Option ℕ) → IsSome limit
      → IsLined places spots known heads limit ready next → AreHeld spots known places.places
      → IsQueue places spots known heads limit ready next
  limited limit some lined held =
      record {
        lines = lines_in limit some lined;
        once = lined.hangs.once;
        within = lined.within;
        chain_room = lined.chain_room;
        seats = lined.seats;
        held = held;
      }

-- whether a limit is set
pub some_of : (limit : Option ℕ) → is_some limit ≡ true → IsSome limit
some_of None bad = absurd (false≢true bad)
some_of (Some most) is = refl

-- no client is open where no limit is set
pub none_open : (limit : Option ℕ) (n m : ℕ) → limit ≡ None → admits limit n ≡ admits limit m
none_open None n m is = refl
none_open (Some most) n m bad = absurd (cc)

-- whether a limit is set, by what is seen
pub limit_seen : (old : Queue) (places : List ℕ) (spots : List Spot) (known : Known)
    (limit : Option ℕ) (spare : ℕ) → seen_as places spots known limit spare ≡ old → IsSome old.limit
    → IsSome limit
limit_seen old places spots known limit spare seen some =
    subst IsSome (sym (ap (λ (q : Queue). q.limit) seen)) some

pub unlimited_seen : (old : Queue) (places : List ℕ) (spots : List Spot) (known : Known)
    (limit : Option ℕ) (spare : ℕ) → seen_as places spots known limit spare ≡ old → old.limit ≡ None
    → limit ≡ None
unlimited_seen old places spots known limit spare seen none =
    ap (λ (q : Queue). q.limit) seen ∙ none

-- ---- whose the places are

-- a client is set, of which jobs are left where it has places
pub held_set : (spots : List Spot) (known : Known) (places : List ℕ) (more : Known) (c : ℕ)
    (client : Client) → AreHeld spots known places
    → ((q : ℕ) → client_at more q ≡ cond (eqb q c) client (client_at known q))
    → ((p : ℕ) → is_in p places ≡ true → client_by spots p ≡ c → 0 < client.jobs)
    → AreHeld spots more places
held_set spots known places more c client held states some p there =
    subst (λ (k : Client). 0 < k.jobs) (sym (states (client_by spots p)))
    (elim (cases_eq (client_by spots p) c) [
      | inl e ↦ subst (λ b. 0 < (cond b client (client_at known (client_by spots p))).jobs)
          (sym (eq-eqb (client_by spots p) c e)) (some p there e)
      | inr n ↦ subst (λ b. 0 < (cond b client (client_at known (client_by spots p))).jobs)
          (sym (ne_eqb (client_by spots p) c n)) (held p there)
    ])

-- the same, where it has as many jobs as before
pub held_same : (spots : List Spot) (known : Known) (places : List ℕ) (more : Known) (c : ℕ)
    (client : Client) → AreHeld spots known places
    → ((q : ℕ) → client_at more q ≡ cond (eqb q c) client (client_at known q))
    → client.jobs ≡ (client_at known c).jobs → AreHeld spots more places
held_same spots known places more c client held states same =
    held_set spots known places more c client held states (λ p there e. subst (λ n. 0 < n)
    (sym same) (subst (λ q. 0 < (client_at known q).jobs) e (held p there)))

-- the client of a place that is queued
pub held_by : (spots : List Spot) (known : Known) (places : List ℕ) → AreHeld spots known places
    → (p : ℕ) → is_in p places ≡ true → {c : ℕ} → client_by spots p ≡ c
    → 0 < (client_at known c).jobs
held_by spots known places held p there own =
    subst (λ c. 0 < (client_at known c).jobs) own (held p there)

-- each client has as many jobs and as many that run, once one is set with as many
pub counts_set : (known : Known) (c : ℕ) (state client : Client) (more : Known)
    → state ≡ client_at known c → more ≡ insert known c client → tally_of client ≡ tally_of state
    → (q : ℕ) → tally_of (client_at more q) ≡ tally_of (client_at known q)
counts_set known c state client more got is same q =
    ap tally_of (ap (λ k. client_at k q) is ∙ client_set known c client q)
    ∙ by_eq q c (λ b. tally_of (cond b client (client_at known q)) ≡ tally_of (client_at known q))
    (λ e. same ∙ ap tally_of (got ∙ ap (client_at known) (sym e))) (λ n. refl)

-- fewer places
pub held_fewer : (spots : List Spot) (known : Known) (place : ℕ) (places : List ℕ)
    → AreHeld spots known places → AreHeld spots known (without place places)
held_fewer spots known place places held p there = held p (is_in-filter _ p places there)

-- a place is entered, of a client that has jobs
pub held_more : (spots now : List Spot) (known more : Known) (places : List ℕ) (place c : ℕ)
    → AreHeld spots known places
    → ((q : ℕ) → tally_of (client_at more q) ≡ tally_of (client_at known q)) → is_in place places
    ≡ false → ((p : ℕ) → client_by now p ≡ cond (eqb p place) c (client_by spots p))
    → 0 < (client_at known c).jobs → AreHeld now more (places ++ place ∷ [])
held_more spots now known more places place c held counts fresh clients some p there =
    let of : (q : ℕ) → 0 < (client_at known q).jobs → 0 < (client_at more q).jobs =
    λ q few. subst (λ n. 0 < n) (sym (ap (λ t. t.jobs) (counts q))) few in
    of (client_by now p) (elim (in_push p place places there) [
      | inl e ↦ subst (λ q. 0 < (client_at known q).jobs)
          (sym (clients p ∙ ap (λ b. cond b c (client_by spots p)) (eq-eqb p place e))) some
      | inr was ↦ elim (cases_eq p place) [
        | inl e ↦ absurd (false≢true (sym fresh ∙ subst (λ q. is_in q places ≡ true) e was))
        | inr n ↦ subst (λ q. 0 < (client_at known q).jobs) (sym
            (clients p ∙ ap (λ b. cond b c (client_by spots p)) (ne_eqb p place n))) (held p was)
      ]
    ])

-- who has no place in the queue
pub in_no_place : (client : ℕ → ℕ) (c : ℕ) (places : List ℕ) → line_of client c places ≡ []
    → (p : ℕ) → is_in p places ≡ true → client p ≢ c
in_no_place client c [] none p there is = false≢true there
in_no_place client c (q ∷ qs) none p there is =
    elim (cases_eq (client q) c) [
      | inl e ↦ (let bad : q ∷ line_of client c qs ≡ [] = sym (ap
          (λ b. cond b (q ∷ line_of client c qs) (line_of client c qs)) (eq-eqb (client q) c e))
          ∙ none in cc)
      | inr n ↦
          by_eq p q (λ b. (b || is_in p qs) ≡ true → ⊥) (λ same _. n (ap client (sym same) ∙ is))
          (λ differs t. in_no_place client c qs (sym (ap (λ b. cond b (q ∷ line_of client c qs)
          (line_of client c qs)) (ne_eqb (client q) c n)) ∙ none) p t is) there
    ]

-- ---- what changes keep

module _ (places : Chain) (spots : List Spot) (known : Known) (heads : Heads) (ready next : ℕ) where
  -- a client is set, its line and whether it is open as before
  pub lines_changed : (limit : Option ℕ) → AreLines limit places spots known heads ready next
      → (more : Known) (c : ℕ) (client : Client) → more ≡ insert known c client
      → client.line ≡ (client_at known c).line → admits limit client.running
      ≡ admits limit (client_at known c).running → (0 < length spots → len more ≤ heads.room)
      → AreLines limit places spots more heads ready next
  lines_changed None lines more c client is line flag seats = (
    λ q. ap (λ (k : Client). k.line.len) (ap (λ k. client_at k q) is ∙ client_set known c client q)
        ∙ by_eq q c (λ b. (cond b client (client_at known q)).line.len ≡ 0)
        (λ e. ap (λ l. l.len) line ∙ lines.0 c) (λ n. lines.0 q),
    lines.1,
  )
  lines_changed (Some most) lines more c client is line flag seats = changed_set places spots known
      heads (Some most) ready next lines more c (client_at known c) client refl is line flag seats

  module _ (limit : Option ℕ) (queue : IsQueue places spots known heads limit ready next) where
    -- the same of the queue
    pub kept_set : (more : Known) (c : ℕ) (client : Client) → more ≡ insert known c client
        → client.line ≡ (client_at known c).line
        → admits limit client.running ≡ admits limit (client_at known c).running
        → (0 < length spots → len more ≤ heads.room)
        → ((p : ℕ) → is_in p places.places ≡ true → client_by spots p ≡ c → 0 < client.jobs)
        → IsQueue places spots more heads limit ready next
    kept_set more c client is line flag seats some =
        record {
          lines = lines_changed limit queue.lines more c client is line flag seats;
          once = queue.once;
          within = queue.within;
          chain_room = queue.chain_room;
          seats = seats;
          held = held_set spots known places.places more c client queue.held
              (λ q. ap (λ k. client_at k q) is ∙ client_set known c client q) some;
        }

    -- it has as many jobs as before
    pub kept_jobs : (more : Known) (c : ℕ) (client : Client) → more ≡ insert known c client
        → client.line ≡ (client_at known c).line
        → admits limit client.running ≡ admits limit (client_at known c).running
        → (0 < length spots → len more ≤ heads.room)
        → client.jobs ≡ (client_at known c).jobs → IsQueue places spots more heads limit ready next
    kept_jobs more c client is line flag seats same =
        kept_set more c client is line flag seats (λ p there e. subst (λ n. 0 < n) (sym same)
        (subst (λ q. 0 < (client_at known q).jobs) e (queue.held p there)))

    -- the lines that are kept, where a limit is set
    pub lined_of : IsSome limit → IsLined places spots known heads limit ready next
    lined_of some = lined_in places spots known heads ready next limit some queue.lines

-- the last job of a client is over
pub kept_given_up : (places : Chain) (spots : List Spot) (known : Known) (heads : Heads)
    (ready next : ℕ) (limit : Option ℕ) → IsQueue places spots known heads limit ready next
    → (old : Queue) (spare c : ℕ) → seen_as places.places spots known limit spare ≡ old
    → (client_at known c).jobs ≡ 1
    → ((tally_at old.tallies c).jobs ≡ 1 → (tally_at old.tallies c).running ≡ 0)
    → ((tally_at old.tallies c).jobs ≡ 1 → line_in old c ≡ []) → (more : Known)
    → ((q : ℕ) → client_at more q ≡ cond (eqb q c) no_client (client_at known q))
    → len more ≤ len known → IsQueue places spots more heads limit ready next
kept_given_up places spots known heads ready next limit queue old spare c seen last idle none_queued
    more states fewer =
    record {
      lines = lines limit queue.lines seen;
      once = queue.once;
      within = queue.within;
      chain_room = queue.chain_room;
      seats = λ some. (let most = queue.seats some in omega (arith, most, fewer));
      held = held_set spots known places.places more c no_client queue.held states
          (λ p there is. absurd (in_no_place (client_by spots) c places.places (sym (line_seen old
          places.places spots known limit spare c seen) ∙ none_queued one) p there is));
    }
  where
    one : (tally_at old.tallies c).jobs ≡ 1
    one = ap (λ (t : Tally). t.jobs)
        (tally_seen old places.places spots known limit spare c (client_at known c) seen refl)
        ∙ last

    lines : (l : Option ℕ) → AreLines l places spots known heads ready next
        → seen_as places.places spots known l spare ≡ old
        → AreLines l places spots more heads ready next
    lines None are _ = (
      λ q. ap (λ (k : Client). k.line.len) (states q) ∙ by_eq
          q c (λ b. (cond b no_client (client_at known q)).line.len ≡ 0) (λ e. refl) (λ n. are.0 q),
      are.1,
    )
    lines (Some most) are seen =
        given_up places spots known (Some most) old spare c (client_at known c) seen refl last idle
        none_queued more states heads ready next are fewer

-- a client whose job is over has jobs left where it has places in the queue
pub jobs_left : (places : List ℕ) (spots : List Spot) (known : Known)
    (limit : Option ℕ) (old : Queue) (spare c : ℕ) → seen_as places spots known limit spare ≡ old
    → 0 < (client_at known c).jobs
    → ((tally_at old.tallies c).jobs ≡ 1 → line_in old c ≡ []) → (p : ℕ) → is_in p places ≡ true
    → client_by spots p ≡ c → 0 < (client_at known c).jobs - 1
jobs_left places spots known limit old spare c seen some none_queued p there is =
    elim (cases_eq (client_at known c).jobs 1) [
      | inl e ↦ absurd (in_no_place (client_by spots) c places
          (sym (line_seen old places spots known limit spare c seen)
          ∙ none_queued (ap (λ (t : Tally). t.jobs) (tally_seen old places spots known limit spare c
          (client_at known c) seen refl) ∙ e)) p there is)
      | inr n ↦ (let more : (client_at known c).jobs ≢ 1 = n in omega (arith, some, more))
    ]

-- a client that goes with its next job
pub last_named : (c jobs : ℕ) → (not (eqb c 0) && eqb jobs 1) ≡ true → c ≢ 0
last_named c jobs is zero_is =
    false≢true (sym (ap (λ b. not b && eqb jobs 1) (eq-eqb c 0 zero_is)) ∙ is)

pub last_one : (c jobs : ℕ) → (not (eqb c 0) && eqb jobs 1) ≡ true → jobs ≡ 1
last_one c jobs is = from (eqb c 0) is
  where
    from : (b : Bool) → (not b && eqb jobs 1) ≡ true → jobs ≡ 1
    from true bad = absurd (false≢true bad)
    from false one = eqb-true jobs 1 one

-- ---- where no limit is set

module _ (places : Chain) (spots : List Spot) (known : Known) (heads : Heads)
    (ready next : ℕ) (limit : Option ℕ) (queue : IsQueue places spots known heads limit ready next)
    (none : limit ≡ None) where
  -- a place is entered
  pub kept_entered : (place c : ℕ) → place < length spots → is_in place places.places ≡ false
      → 0 < (client_at known c).jobs → (now : List Spot) → length now ≡ length spots
      → ((p : ℕ) → client_by now p ≡ cond (eqb p place) c (client_by spots p))
      → (chain : Chain) → chain ≡ record places { places = places.places ++ place ∷ [] }
      → IsQueue chain now known heads limit ready next
  kept_entered place c room fresh some now long clients chain is =
      let bare = no_lines_in places spots known heads ready next limit none queue.lines in
      subst (λ (q : Chain). IsQueue q now known heads limit ready next) (sym is)
      (record {
        lines = none_lined (record places { places = places.places ++ place ∷ [] }) now known heads
            ready next limit none bare.0 bare.1;
        once = IsOnce-push places.places place queue.once fresh;
        within = λ p there. elim (in_push p place places.places there) [
          | inl e ↦ omega (arith, e, room, long)
          | inr was ↦ (let b = queue.within p was in omega (arith, b, long))
        ];
        chain_room = (let r = queue.chain_room in omega (arith, r, long));
        seats = λ many. queue.seats (omega (arith, many, long));
        held = held_more spots now known known places.places place c queue.held (λ q. refl) fresh
            clients some;
      })

  -- the first place is taken, and one job more of its client runs
  pub kept_taken : (place c : ℕ) (client : Client) (more : Known) → more ≡ insert known c client
      → client.line ≡ (client_at known c).line → client.jobs ≡ (client_at known c).jobs
      → (len known ≤ heads.room → len more ≤ heads.room)
      → (chain : Chain) → chain ≡ record places { places = without place places.places }
      → IsQueue chain spots more heads limit ready next
  kept_taken place c client more is line jobs seats chain gone =
      let bare = no_lines_in places spots known heads ready next limit none queue.lines in
      let states = λ (q : ℕ). ap (λ k. client_at k q) is ∙ client_set known c client q in
      subst (λ (q : Chain). IsQueue q spots more heads limit ready next) (sym gone)
      (record {
        lines = none_lined (record places { places = without place places.places }) spots more heads
            ready next limit none
            (λ q. ap (λ (k : Client). k.line.len) (states q)
            ∙ by_eq q c (λ b. (cond b client (client_at known q)).line.len ≡ 0)
            (λ e. ap (λ l. l.len) line ∙ bare.0 c) (λ n. bare.0 q)) bare.1;
        once = IsOnce-without place places.places queue.once;
        within = λ p there. queue.within p (is_in-filter _ p places.places there);
        chain_room = queue.chain_room;
        seats = λ many. seats (queue.seats many);
        held = held_fewer spots more place places.places
            (held_same spots known places.places more c client queue.held states jobs);
      })

-- there is more room
pub kept_widened : (places : Chain) (spots : List Spot) (known : Known) (heads : Heads)
    (ready next : ℕ) (limit : Option ℕ) → IsQueue places spots known heads limit ready next
    → (places_now : Chain) (spots_now : List Spot) (heads_now : Heads)
    → places_now.places ≡ places.places → heads_now.heads ≡ heads.heads
    → ((p : ℕ) → get_or spots_now p nowhere ≡ get_or spots p nowhere)
    → length spots ≤ length spots_now → length spots_now ≤ places_now.room
    → len known ≤ heads_now.room
    → IsQueue places_now spots_now known heads_now limit ready next
kept_widened places spots known heads ready next limit queue places_now spots_now heads_now
    same_places same_heads same longer room seats =
    record {
      lines = lines limit queue.lines;
      once = subst IsOnce (sym same_places) queue.once;
      within =
          λ p there. (let b = queue.within p (subst (λ ps. is_in p ps ≡ true) same_places there) in
          omega (arith, b, longer));
      chain_room = room;
      seats = λ _. seats;
      held = λ p there. subst (λ (s : Spot). 0 < (client_at known s.client).jobs) (sym (same p))
          (queue.held p (subst (λ ps. is_in p ps ≡ true) same_places there));
    }
  where
    lines : (l : Option ℕ) → AreLines l places spots known heads ready next
        → AreLines l places_now spots_now known heads_now ready next
    lines None are = (are.0, same_heads ∙ are.1)
    lines (Some most) are = widened places spots known heads (Some most) ready next are places_now
        spots_now heads_now same_places same_heads same longer room seats

-- the client of a spot is set
pub client_put : (spots : List Spot) (place c : ℕ) (spot : Spot)
    → place < length spots → spot.client ≡ c → (p : ℕ)
    → client_by (set spots place spot) p ≡ cond (eqb p place) c (client_by spots p)
client_put spots place c spot room is p =
    elim (cases_eq p place) [
      | inl e ↦ ap (λ q. client_by (set spots place spot) q) e
          ∙ ap (λ (s : Spot). s.client) (get_or-set_same spots place spot nowhere room) ∙ is
          ∙ ap (λ b. cond b c (client_by spots p)) (sym (eq-eqb p place e))
      | inr n ↦ ap (λ (s : Spot). s.client) (get_or-set_other spots place p spot nowhere n)
          ∙ ap (λ b. cond b c (client_by spots p)) (sym (ne_eqb p place n))
    ]

-- a place was entered where no limit is set, as it is seen
pub holds_owner : (old : Queue) (places left : List ℕ) (spots now : List Spot) (known : Known)
    (limit : Option ℕ) (spare room place c : ℕ) → seen_as places spots known limit spare ≡ old
    → left ≡ places ++ place ∷ []
    → map (λ (s : Spot). s.client) now ≡ set (map (λ (s : Spot). s.client) spots) place c → Holds
    old (seen_as left now known limit room) (old.places ++ place ∷ []) (set old.owners place c)
holds_owner old places left spots now known limit spare room place c seen came owners =
    subst (λ (q : Queue). Holds q (seen_as left now known limit room) (q.places ++ place ∷ [])
    (set q.owners place c)) seen
    (record { places_are = came; owners_are = owners; tallies = λ q. refl; limit = refl })
