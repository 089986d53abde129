-- The queue by clients: what its methods need of its parts, and leave.
use Rattle.std.proofs.Common.{◌≡◌, ℕ, zero, suc, ◌+◌, ◌-◌, ◌<◌, ◌≤◌, Bool, true, false, cond, eqb}
use Rattle.std.proofs.Common.{◌||◌, List, [], ◌∷◌, ◌++◌, map, filter, length, get_or, replicate}
use Rattle.std.proofs.Common.{min, Option, Some, None, is_some, refl, sym, ap, ◌∙◌, subst, inl, inr}
use Rattle.std.proofs.Common.{arith}
use Rattle.std.proofs.lemmas.Bool.{cases_eq, eq-eqb, ne_eqb}
use Rattle.std.proofs.lemmas.List.Elements.{filter_agree}
use Rattle.std.proofs.lemmas.List.Sorted.{IsPermutation-refl}
use Rattle.std.proofs.Math.ListN.{get_or-map}
use Rattle.std.specs.Prelude.{nat_lt}
use Rattle.std.specs.Cmp.{nat_cmp_total}
use Rattle.std.specs.FinMap.{get, insert, len, len-insert}
use Rattle.std.proofs.lemmas.Bool.{ltb-true, lt-ltb}
use Rattle.std.specs.Option.{unwrap_or}
use Rattle.blocking_pool.specs.Lists.{is_in}
use Rattle.blocking_pool.specs.Chain.{Chain}
use Rattle.blocking_pool.specs.Heads.{Heads}
use Rattle.blocking_pool.specs.Clients.{Tally, tally_at, is_below, has_room_at, discharged}
use Rattle.blocking_pool.specs.ClientTable.{Known, client_at, no_client}
use Rattle.blocking_pool.specs.Lines.{places_of}
use Rattle.blocking_pool.specs.Hangs.{line_of, ready_of, Hangs}
use Rattle.blocking_pool.specs.Queue.{Queue, ready_in, line_in, has_seat, Tallied}
use Rattle.blocking_pool.specs.QueueForm.{tally_of, tallies_of, nowhere, client_by, number_by}
use Rattle.blocking_pool.specs.QueueForm.{after_by, admits, is_open_at, line_at, line_by, IsLined}
use Rattle.blocking_pool.specs.declared.pool.clients.Line.{Line}
use Rattle.blocking_pool.specs.declared.pool.clients.Client.{Client}
use Rattle.blocking_pool.specs.declared.pool.queue.Spot.{Spot}
use Rattle.blocking_pool.proofs.Lists.{by_eq}
use Rattle.blocking_pool.proofs.ClientLemmas.{tally_is, seat_is, client_set}
use Rattle.blocking_pool.proofs.HangLemmas.{said}
use Rattle.blocking_pool.proofs.LineLemmas.{walk_same, lined_as}

-- a queue as it is seen
abbrev pub seen_as : List ℕ → List Spot → Known → Option ℕ → ℕ → Queue
seen_as places spots known limit spare =
    record {
      places = places;
      owners = map (λ spot. spot.client) spots;
      tallies = tallies_of known;
      limit = limit;
      spare = spare;
    }

pub owner_seen : (spots : List Spot) (p : ℕ)
    → get_or (map (λ (spot : Spot). spot.client) spots) p 0 ≡ client_by spots p
owner_seen spots p = get_or-map (λ (spot : Spot). spot.client) spots p nowhere

-- whether a client has room, by what is known of it
pub room_seen : (limit : Option ℕ) (known : Known) (c : ℕ)
    → has_room_at limit (tallies_of known) c ≡ is_below limit (client_at known c).running
room_seen limit known c = ap (λ (t : Tally). is_below limit t.running) (tally_is known c)

-- what is ready, as it is seen and by the spots
pub ready_seen : (places : List ℕ) (spots : List Spot) (known : Known) (limit : Option ℕ)
    (spare most : ℕ) → limit ≡ Some most
    → ready_in (seen_as places spots known limit spare)
    ≡ ready_of (is_open_at limit known) (client_by spots) places
ready_seen places spots known None spare most bad = absurd (cc)
ready_seen places spots known (Some limit) spare most is =
    filter_agree _ _ (λ p. ap (λ c. has_room_at (Some limit) (tallies_of known) c)
    (owner_seen spots p) ∙ room_seen (Some limit) known (client_by spots p)) places

-- where no limit is set, all is ready
pub all_seen : (places : List ℕ) (spots : List Spot) (known : Known) (limit : Option ℕ) (spare : ℕ)
    → limit ≡ None → ready_in (seen_as places spots known limit spare) ≡ places
all_seen places spots known (Some limit) spare bad = absurd (cc)
all_seen places spots known None spare is = all places
  where
    all : (xs : List ℕ) → filter (λ _. true) xs ≡ xs
    all [] = refl
    all (x ∷ xs) = ap (λ ys. x ∷ ys) (all xs)

-- one client's tally has changed
pub tallied_by : (places : List ℕ) (spots : List Spot) (known more : Known) (limit : Option ℕ)
    (spare left c : ℕ) (client : Client) (change : Tally → Tally)
    → ((q : ℕ) → client_at more q ≡ cond (eqb q c) client (client_at known q))
    → tally_of client ≡ change (tally_of (client_at known c))
    → Tallied (seen_as places spots known limit spare) (seen_as places spots more limit left) c
    change
tallied_by places spots known more limit spare left c client change states is =
    record {
      places = refl;
      owners = refl;
      tallies = λ q. tally_is more q ∙ ap tally_of (states q)
          ∙ by_eq q c (λ b. tally_of (cond b client (client_at known q))
          ≡ cond b (change (tally_at (tallies_of known) c)) (tally_at (tallies_of known) q))
          (λ same. is ∙ ap change (sym (tally_is known c))) (λ differs. sym (tally_is known q));
      limit = refl;
    }

-- ---- who is known

-- a client of which something is counted is known
pub known_by : (known : Known) (c : ℕ) (count : Client → ℕ) → count no_client ≡ 0
    → 0 < count (client_at known c) → is_some (get known c) ≡ true
known_by known c count none some = from (get known c) refl
  where
    from : (o : Option Client) → get known c ≡ o → is_some (get known c) ≡ true
    from None is = absurd (let z : count (client_at known c)
        ≡ 0 = ap (λ (o : Option Client). count (unwrap_or o no_client)) is ∙ none in
        omega (arith, z, some))
    from (Some client) is = ap is_some is

-- to set it again takes no room
pub len_again : (known : Known) (c : ℕ) (client : Client) → is_some (get known c) ≡ true
    → len (insert known c client) ≡ len known
len_again known c client there =
    len-insert nat_cmp_total known c client ∙ ap (λ b. cond b (len known) (len known + 1)) there

-- where there is a seat, there is room for the client
pub seat_room : (known : Known) (c spare room : ℕ)
    → (is_some (get (tallies_of known) c) || nat_lt 0 (min spare (room - len known))) ≡ true
    → (is_some (get known c) || nat_lt 0 spare) ≡ true
seat_room known c spare room seat = from (is_some (get known c))
    (sym (ap (λ b. b || nat_lt 0 (min spare (room - len known))) (seat_is known c)) ∙ seat)
  where
    from : (b : Bool) → (b || nat_lt 0 (min spare (room - len known))) ≡ true
        → (b || nat_lt 0 spare) ≡ true
    from true is = refl
    from false is = (let some = ltb-true 0 _ is in lt-ltb 0 spare (omega (arith, some)))

pub seats_set : (known : Known) (c spare room : ℕ) (client : Client)
    → (is_some (get (tallies_of known) c) || nat_lt 0 (min spare (room - len known))) ≡ true
    → len known ≤ room → len (insert known c client) ≤ room
seats_set known c spare room client seat most = from (is_some (get known c)) refl
    (sym (ap (λ b. b || nat_lt 0 (min spare (room - len known))) (seat_is known c)) ∙ seat)
  where
    from : (b : Bool) → is_some (get known c) ≡ b
        → (b || nat_lt 0 (min spare (room - len known))) ≡ true → len (insert known c client) ≤ room
    from true is _ = let same = len_again known c client is in omega (arith, same, most)
    from false is seat =
        let one : len (insert known c client) ≡ len known + 1 =
        len-insert nat_cmp_total known c client
        ∙ ap (λ b. cond b (len known) (len known + 1)) is in
        let some = ltb-true 0 _ seat in omega (arith, one, some)

-- ---- what every queue has

module _ (places : Chain) (spots : List Spot) (known : Known) (heads : Heads) (limit : Option ℕ)
    (ready next : ℕ) (queue : IsLined places spots known heads limit ready next) where
  -- what is ready is counted, where a limit is set
  pub ready_counted : (spare most : ℕ) → limit ≡ Some most
      → ready ≡ length (ready_in (seen_as places.places spots known limit spare))
  ready_counted spare most is = queue.hangs.counted
      ∙ ap length (sym (ready_seen places.places spots known limit spare most is))

  -- something of a client changes, but neither its line nor whether it is open
  pub changed : (more : Known) (c : ℕ) (client : Client)
      → ((q : ℕ) → client_at more q ≡ cond (eqb q c) client (client_at known q))
      → places_of (after_by spots) client.line ≡ line_by spots known c
      → (0 < client.line.len → client.line.last ≡ (line_at known c).last)
      → admits limit client.running ≡ is_open_at limit known c
      → (0 < length spots → len more ≤ heads.room)
      → IsLined places spots more heads limit ready next
  changed more c client states row last flag seats =
      record {
        hangs = said (client_by spots) (number_by spots) (is_open_at limit known) places.places
            (line_by spots known) heads.heads next ready queue.hangs
            (client_by spots) (number_by spots) (is_open_at limit more) (line_by spots more)
            heads.heads (λ p _. refl) (λ p _. refl)
            (λ q _. ap (λ (k : Client). admits limit k.running) (states q) ∙ by_eq q c (λ b. admits
            limit (cond b client (client_at known q)).running ≡ is_open_at limit known q)
            (λ same. flag ∙ ap (is_open_at limit known) (sym same)) (λ differs. refl))
            rows (IsPermutation-refl heads.heads);
        lined = lined_as (after_by spots) (length spots) (line_at known) queue.lined
            (after_by spots) (length spots) (line_at more) rows
            (λ q some. elim (cases_eq q c) [
              | inl e ↦ ap (λ (k : Client). k.line.last) (here q e)
                  ∙ last (subst (λ (k : Client). 0 < k.line.len) (here q e) some)
                  ∙ ap (λ k. (line_at known k).last) (sym e)
              | inr n ↦ ap (λ (k : Client). k.line.last)
                  (states q ∙ ap (λ b. cond b client (client_at known q)) (ne_eqb q c n))
            ])
            (omega arith);
        chain_room = queue.chain_room;
        seats = seats;
        within = queue.within;
        left = queue.left;
      }
    where
      here : (q : ℕ) → q ≡ c → client_at more q ≡ client
      here q e = states q ∙ ap (λ b. cond b client (client_at known q)) (eq-eqb q c e)

      rows : (q : ℕ) → line_by spots more q ≡ line_by spots known q
      rows q = ap (λ (k : Client). places_of (after_by spots) k.line) (states q)
          ∙ by_eq q c (λ b. places_of (after_by spots) (cond b client (client_at known q)).line
          ≡ line_by spots known q)
          (λ same. row ∙ ap (line_by spots known) (sym same)) (λ differs. refl)

  -- the same, where the client is set
  pub changed_set : (more : Known) (c : ℕ) (state client : Client)
      → state ≡ client_at known c → more ≡ insert known c client → client.line ≡ state.line
      → admits limit client.running ≡ admits limit state.running
      → (0 < length spots → len more ≤ heads.room)
      → IsLined places spots more heads limit ready next
  changed_set more c state client got is line flag seats =
      let same : client.line ≡ line_at known c = line ∙ ap (λ (k : Client). k.line) got in
      changed more c client (λ q. ap (λ k. client_at k q) is ∙ client_set known c client q)
      (ap (places_of (after_by spots)) same) (λ _. ap (λ (l : Line). l.last) same)
      (flag ∙ ap (λ (k : Client). admits limit k.running) got) seats

  -- there is more room
  pub widened : (places_now : Chain) (spots_now : List Spot) (heads_now : Heads)
      → places_now.places ≡ places.places → heads_now.heads ≡ heads.heads
      → ((p : ℕ) → get_or spots_now p nowhere ≡ get_or spots p nowhere)
      → length spots ≤ length spots_now → length spots_now ≤ places_now.room
      → len known ≤ heads_now.room
      → IsLined places_now spots_now known heads_now limit ready next
  widened places_now spots_now heads_now same_places same_heads same longer room seats =
      let rows : (c : ℕ) → line_by spots_now known c ≡ line_by spots known c =
      λ c. walk_same (after_by spots) (after_by spots_now) (line_at known c).len
      (line_at known c).first (λ p _. ap (λ (s : Spot). s.after) (same p)) in
      record {
        hangs =
            subst (λ ps. Hangs (client_by spots_now) (number_by spots_now) (is_open_at limit known)
            ps (line_by spots_now known) heads_now.heads next ready) (sym same_places)
            (subst (λ hs. Hangs (client_by spots_now) (number_by spots_now) (is_open_at limit known)
            places.places (line_by spots_now known) hs next ready) (sym same_heads)
            (said (client_by spots) (number_by spots) (is_open_at limit known) places.places
            (line_by spots known) heads.heads next ready queue.hangs
            (client_by spots_now) (number_by spots_now) (is_open_at limit known)
            (line_by spots_now known) heads.heads
            (λ p _. ap (λ (s : Spot). s.client) (same p))
            (λ p _. ap (λ (s : Spot). s.number) (same p)) (λ c _. refl) rows
            (IsPermutation-refl heads.heads)));
        lined = lined_as (after_by spots) (length spots) (line_at known) queue.lined
            (after_by spots_now) (length spots_now) (line_at known) rows (λ c _. refl) longer;
        chain_room = room;
        seats = λ _. seats;
        within = λ p there. (let b = queue.within p
            (subst (λ ps. is_in p ps ≡ true) same_places there) in omega (arith, b, longer));
        left = queue.left;
      }

-- spots that were added stand nowhere
pub added_spots : (old : List Spot) (more p : ℕ)
    → get_or (old ++ replicate more nowhere) p nowhere ≡ get_or old p nowhere
added_spots [] zero p = refl
added_spots [] (suc more) zero = refl
added_spots [] (suc more) (suc p) = added_spots [] more p
added_spots (spot ∷ old) more zero = refl
added_spots (spot ∷ old) more (suc p) = added_spots old more p

-- what a contract sees of a client
pub tally_seen : (queue : Queue) (places : List ℕ)
    (spots : List Spot) (known : Known) (limit : Option ℕ) (spare c : ℕ) (state : Client)
    → seen_as places spots known limit spare ≡ queue → state ≡ client_at known c
    → tally_at queue.tallies c ≡ tally_of state
tally_seen queue places spots known limit spare c state is got =
    ap (λ (q : Queue). tally_at q.tallies c) (sym is) ∙ tally_is known c ∙ ap tally_of (sym got)

-- one client's tally has changed, where the client is set
pub tallied_set : (old : Queue) (places : List ℕ) (spots : List Spot) (known more : Known)
    (limit : Option ℕ) (spare left c : ℕ) (state client : Client) (change : Tally → Tally)
    → seen_as places spots known limit spare ≡ old → state ≡ client_at known c
    → more ≡ insert known c client → tally_of client ≡ change (tally_of state)
    → Tallied old (seen_as places spots more limit left) c change
tallied_set old places spots known more limit spare left c state client change seen got is changes =
    subst (λ (q : Queue). Tallied q (seen_as places spots more limit left) c change) seen
    (tallied_by places spots known more limit
    spare left c client change (λ q. ap (λ k. client_at k q) is ∙ client_set known c client q)
    (changes ∙ ap (λ k. change (tally_of k)) got))

-- a client that is set has its seat
pub seats_kept : (queue : Queue) (places : List ℕ)
    (spots : List Spot) (known more : Known) (limit : Option ℕ) (spare room c : ℕ) (client : Client)
    → seen_as places spots known limit (min spare (room - len known)) ≡ queue
    → has_seat queue c ≡ true → more ≡ insert known c client → len known ≤ room → len more ≤ room
seats_kept queue places spots known more limit spare room c client seen seat is most =
    subst (λ k. len k ≤ room) (sym is)
    (seats_set known c spare room client (ap (λ q. has_seat q c) seen ∙ seat) most)

-- the line of a client, as it is seen
pub line_seen : (queue : Queue) (places : List ℕ) (spots : List Spot) (known : Known)
    (limit : Option ℕ) (spare c : ℕ) → seen_as places spots known limit spare ≡ queue
    → line_in queue c ≡ line_of (client_by spots) c places
line_seen queue places spots known limit spare c is = ap (λ (q : Queue). line_in q c) (sym is)
    ∙ filter_agree _ _ (λ p. ap (λ k. eqb k c) (owner_seen spots p)) places

-- the last job of a client is over
module _ (places : Chain) (spots : List Spot) (known : Known) (limit : Option ℕ)
    (old : Queue) (spare c : ℕ) (state : Client) (seen : seen_as places.places spots known limit
    spare ≡ old) (got : state ≡ client_at known c) (last : state.jobs ≡ 1)
    (idle : (tally_at old.tallies c).jobs ≡ 1 → (tally_at old.tallies c).running ≡ 0)
    (none_queued : (tally_at old.tallies c).jobs ≡ 1 → line_in old c ≡ []) (more : Known)
    (states : (q : ℕ) → client_at more q ≡ cond (eqb q c) no_client (client_at known q)) where
  tally : tally_at old.tallies c ≡ tally_of state
  tally = tally_seen old places.places spots known limit spare c state seen got

  one : (tally_at old.tallies c).jobs ≡ 1
  one = ap (λ (t : Tally). t.jobs) tally ∙ last

  no_running : state.running ≡ 0
  no_running = ap (λ (t : Tally). t.running) (sym tally) ∙ idle one

  pub given_up : (heads : Heads) (ready next : ℕ)
      → IsLined places spots known heads limit ready next → len more ≤ len known
      → IsLined places spots more heads limit ready next
  given_up heads ready next queue fewer =
      changed places spots known heads limit ready next queue more c no_client states
      (sym (queue.hangs.line_is c ∙ sym (line_seen old places.places spots known limit spare c seen)
      ∙ none_queued one)) (λ bad. absurd (omega (arith, bad)))
      (ap (admits limit) (sym no_running) ∙ ap (λ (k : Client). admits limit k.running) got)
      (λ some. (let most = queue.seats some in omega (arith, most, fewer)))

  pub gave_up : (left : ℕ) → Tallied old (seen_as places.places spots more limit left) c discharged
  gave_up left =
      subst (λ (q : Queue). Tallied q (seen_as places.places spots more limit left) c discharged)
      seen
      (tallied_by places.places spots known more limit spare left c no_client discharged states
      (let none : state.jobs - 1 ≡ 0 = ap (λ n. n - 1) last in
      ap (λ n. record { jobs = n; running = 0 }) (sym none)
      ∙ ap (λ n. record { jobs = state.jobs - 1; running = n }) (sym no_running)
      ∙ ap (λ (k : Client). discharged (tally_of k)) got))

-- a client of which something is counted may be set
module _ (known : Known) (c : ℕ) (count : Client → ℕ) (state : Client)
    (got : state ≡ client_at known c) (none : count no_client ≡ 0) (some : 0 < count state) where
  pub is_known : is_some (get known c) ≡ true
  is_known = known_by known c count none (subst (λ k. 0 < count k) got some)

  pub set_room : (b : Bool) → (is_some (get known c) || b) ≡ true
  set_room b = ap (λ x. x || b) is_known

  pub seats_again : (more : Known) (client : Client) (room : ℕ) → more ≡ insert known c client
      → len known ≤ room → len more ≤ room
  seats_again more client room is most = let same = ap len is ∙ len_again known c client is_known in
      omega (arith, same, most)

-- who has room has room with one job fewer
pub lowered : (limit : Option ℕ) (n : ℕ) → admits limit n ≡ true
    → admits limit (n - 1) ≡ admits limit n
lowered None n free = refl
lowered (Some limit) n free =
    (let less = ltb-true n limit free in lt-ltb (n - 1) limit (omega (arith, less))) ∙ sym free
