-- What a change of the queue by clients leaves: a stop, a take, an entry, and heads made anew.
use Rattle.std.proofs.Common.{◌≡◌, ◌≢◌, ℕ, zero, suc, ◌+◌, ◌-◌, ◌<◌, ◌≤◌, Bool, true, false, cond}
use Rattle.std.proofs.Common.{eqb, List, [], ◌∷◌, ◌++◌, length, Option, Some, None, IsSome, refl}
use Rattle.std.proofs.Common.{sym, ap, ◌∙◌, subst, inl, inr, arith, length-append, IsPermutation}
use Rattle.std.proofs.lemmas.Bool.{cases_eq, eq-eqb, ne_eqb, false≢true}
use Rattle.std.proofs.lemmas.List.Sorted.{IsPermutation-refl, All-permutation}
use Rattle.std.specs.FinMap.{insert, len}
use Rattle.blocking_pool.specs.Growth.{greatest}
use Rattle.blocking_pool.specs.Lists.{is_in, first_of, without}
use Rattle.blocking_pool.specs.Chain.{Chain}
use Rattle.blocking_pool.specs.Heads.{Head, Heads, PopsLeast}
use Rattle.blocking_pool.specs.Clients.{tally_at, IsTallied, started}
use Rattle.blocking_pool.specs.ClientTable.{Known, client_at}
use Rattle.blocking_pool.specs.Lines.{rest_of, places_of, AreLined}
use Rattle.blocking_pool.specs.Hangs.{ready_of, Leads, Hangs}
use Rattle.blocking_pool.specs.Queue.{Queue, ready_in, TakesPlace}
use Rattle.blocking_pool.specs.QueueForm.{tally_of, tallies_of, client_by, number_by, after_by}
use Rattle.blocking_pool.specs.QueueForm.{admits, is_open_at, line_at, line_by, head_of, ready_at}
use Rattle.blocking_pool.specs.QueueForm.{shorter, taken_from, AreAnew, IsLined}
use Rattle.blocking_pool.specs.declared.pool.clients.Line.{Line}
use Rattle.blocking_pool.specs.declared.pool.clients.Client.{Client}
use Rattle.blocking_pool.specs.declared.pool.queue.Spot.{Spot}
use Rattle.blocking_pool.proofs.Lists.{is_in-first}
use Rattle.blocking_pool.proofs.ClientLemmas.{client_set}
use Rattle.blocking_pool.proofs.OpenLemmas.{is_in-filter, opened as opened_by}
use Rattle.blocking_pool.proofs.HangLemmas.{said, numbered, in_queue_of, none_taken, first_is}
use Rattle.blocking_pool.proofs.HangLemmas.{its_client, is_ready, taken as taken_out}
use Rattle.blocking_pool.proofs.LineLemmas.{line_begins, line_none, line_long, first_below}
use Rattle.blocking_pool.proofs.LineLemmas.{lined_as, popped, popped_row}
use Rattle.blocking_pool.proofs.AdmitLemmas.{admitted, IsBase, heads_fit, ready_short, hangs_anew}
use Rattle.blocking_pool.proofs.QueueLemmas.{seen_as, owner_seen, ready_seen, tallied_by}

-- ---- heads made anew

module _ (places : Chain) (spots : List Spot) (known : Known) (heads : Heads) (limit : Option ℕ)
    (ready next : ℕ) (queue : IsLined places spots known heads limit ready next) where
  pub base_of : IsBase places.places spots known heads.room next
  base_of =
      record {
        base = numbered (client_by spots) (number_by spots) (is_open_at limit known) places.places
            (line_by spots known) heads.heads next ready queue.hangs (number_by spots) next
            queue.hangs.rises queue.hangs.below;
        lined = queue.lined;
        seats = queue.seats;
        within = queue.within;
      }

pub queue_anew : (places : Chain) (spots : List Spot) (known : Known) (old new : Heads)
    (limit : Option ℕ) (ready next : ℕ) → IsBase places.places spots known old.room next
    → length spots ≤ places.room → next < greatest
    → AreAnew known spots limit old new ready → IsLined places spots known new limit ready next
queue_anew places spots known old new limit ready next base room left anew =
    record {
      hangs = hangs_anew places.places spots known old.room next base limit anew.entries anew.all
          new.heads ready anew.heads anew.count;
      lined = base.lined;
      chain_room = room;
      seats = λ some. (let s = base.seats some in let wider = anew.room in omega (arith, s, wider));
      within = base.within;
      left = left;
    }

-- ---- a client that had no room is set, and may have room now

module _ (places : Chain) (spots : List Spot) (known : Known) (heads : Heads) (limit : Option ℕ)
    (ready next : ℕ) (queue : IsLined places spots known heads limit ready next)
    (more : Known) (c : ℕ) (state later : Client) (got : state ≡ client_at known c)
    (is : more ≡ insert known c later) (line : later.line ≡ state.line)
    (shut : admits limit state.running ≡ false)
    (seats : len known ≤ heads.room → len more ≤ heads.room) where
  states : (q : ℕ) → client_at more q ≡ cond (eqb q c) later (client_at known q)
  states q = ap (λ k. client_at k q) is ∙ client_set known c later q

  here : client_at more c ≡ later
  here = states c ∙ ap (λ b. cond b later (client_at known c)) (eq-eqb c c refl)

  others : (q : ℕ) → q ≢ c → client_at more q ≡ client_at known q
  others q n = states q ∙ ap (λ b. cond b later (client_at known q)) (ne_eqb q c n)

  lines : (q : ℕ) → line_at more q ≡ line_at known q
  lines q = elim (cases_eq q c) [
    | inl e ↦ ap (line_at more) e ∙ ap (λ (k : Client). k.line) here ∙ line
        ∙ ap (λ (k : Client). k.line) got ∙ ap (line_at known) (sym e)
    | inr n ↦ ap (λ (k : Client). k.line) (others q n)
  ]

  opened : (now : List Head)
      → IsPermutation (head_of (number_by spots) limit c later ++ heads.heads) now
      → Hangs (client_by spots) (number_by spots) (is_open_at limit more) places.places
      (line_by spots more) now next (ready_at limit later + ready)
  opened now order =
      said (client_by spots) (number_by spots) (is_open_at limit more) places.places
      (line_by spots known) (head_of (number_by spots) limit c later ++ heads.heads) next
      (ready_at limit later + ready)
      (admitted (client_by spots) (number_by spots) (is_open_at limit known) places.places
      (line_by spots known) heads.heads next ready queue.hangs (after_by spots) limit c later
      (is_open_at limit more)
      (ap (λ (k : Client). admits limit k.running) (sym got) ∙ shut)
      (ap (λ (k : Client). places_of (after_by spots) k.line) (sym got)
      ∙ ap (places_of (after_by spots)) (sym line))
      (ap (λ (k : Client). admits limit k.running) here)
      (λ q n. ap (λ (k : Client). admits limit k.running) (others q n)))
      (client_by spots) (number_by spots) (is_open_at limit more) (line_by spots more) now
      (λ p _. refl) (λ p _. refl) (λ q _. refl) (λ q. ap (places_of (after_by spots)) (lines q))
      order

  lined_now : AreLined (after_by spots) (length spots) (line_at more)
  lined_now = lined_as (after_by spots) (length spots) (line_at known) queue.lined (after_by spots)
      (length spots) (line_at more) (λ q. ap (places_of (after_by spots)) (lines q))
      (λ q _. ap (λ (l : Line). l.last) (lines q)) (omega arith)

  base_now : IsBase places.places spots more heads.room next
  base_now =
      let h = opened (head_of (number_by spots) limit c later ++ heads.heads)
      (IsPermutation-refl (head_of (number_by spots) limit c later ++ heads.heads)) in
      record {
        base = numbered (client_by spots) (number_by spots) (is_open_at limit more) places.places
            (line_by spots more) (head_of (number_by spots) limit c later ++ heads.heads) next
            (ready_at limit later + ready) h
            (number_by spots) next h.rises h.below;
        lined = lined_now;
        seats = λ some. seats (queue.seats some);
        within = queue.within;
      }

  pub opens_first : 0 < later.line.len → later.line.first < length spots
  opens_first some = subst (λ (l : Line). l.first < length spots) (ap (λ (k : Client). k.line) here)
      (first_below (after_by spots) (length spots) (line_at more) lined_now c
      (subst (λ (k : Client). 0 < k.line.len) (sym here) some))

  pub opens_room : length (head_of (number_by spots) limit c later) + length heads.heads
      ≤ heads.room
  opens_room =
      let fit = heads_fit places.places spots more heads.room next base_now (is_open_at limit more)
      (head_of (number_by spots) limit c later ++ heads.heads) (ready_at limit later + ready)
      (opened (head_of (number_by spots) limit c later ++ heads.heads)
      (IsPermutation-refl (head_of (number_by spots) limit c later ++ heads.heads))) in
      let long = length-append (head_of (number_by spots) limit c later) heads.heads in
      omega (arith, fit, long)

  pub opens_small : ready + ready_at limit later ≤ length spots
  opens_small =
      let short =
      ready_short places.places spots more heads.room next base_now (is_open_at limit more)
      (head_of (number_by spots) limit c later ++ heads.heads) (ready_at limit later + ready)
      (opened (head_of (number_by spots) limit c later ++ heads.heads)
      (IsPermutation-refl (head_of (number_by spots) limit c later ++ heads.heads))) in
      omega (arith, short)

  pub opens_queue : (now : Heads) (grown : ℕ)
      → IsPermutation (head_of (number_by spots) limit c later ++ heads.heads) now.heads
      → heads.room ≤ now.room → grown ≡ ready_at limit later
      → IsLined places spots more now limit (ready + grown) next
  opens_queue now grown order wider count =
      record {
        hangs = subst (λ n. Hangs (client_by spots) (number_by spots) (is_open_at limit more)
            places.places (line_by spots more) now.heads next n)
            (let same : ready_at limit later + ready ≡ ready + grown = omega (arith, count) in
            same) (opened now.heads order);
        lined = lined_now;
        chain_room = queue.chain_room;
        seats = λ some. (let s = seats (queue.seats some) in omega (arith, s, wider));
        within = queue.within;
        left = queue.left;
      }

-- ---- a take

-- a line that begins, begins with its first place
module _ (after : ℕ → ℕ) (state : Client) where
  pub begins_first : 0 < state.line.len
      → places_of after state.line ≡ state.line.first ∷ rest_of (places_of after state.line)
  begins_first some = let is = line_begins after state.line some in
      is ∙ ap (λ ps. state.line.first ∷ rest_of ps) (sym is)

  pub some_first : (place : ℕ) → first_of (places_of after state.line) ≡ Some place
      → (0 < state.line.len) × (state.line.first ≡ place)
  some_first place is = from state.line.len refl
    where
      from : (n : ℕ) → state.line.len ≡ n → (0 < state.line.len) × (state.line.first ≡ place)
      from zero none = absurd (let bad : first_of []
          ≡ Some place = ap first_of (sym (line_none after state.line none)) ∙ is in cc)
      from (suc n) many =
          let some : 0 < state.line.len = omega (arith, many) in (
            some,
            (let e : Some state.line.first
                ≡ Some place = ap first_of (sym (line_begins after state.line some)) ∙ is in cc),
          )

-- the first ready place is taken, as it is seen
pub takes_place : (old : Queue) (places left : List ℕ) (spots : List Spot)
    (known more : Known) (limit : Option ℕ) (spare room c place : ℕ) (state later : Client)
    → seen_as places spots known limit spare ≡ old
    → state ≡ client_at known c → more ≡ insert known c later
    → tally_of later ≡ started (tally_of state) → client_by spots place ≡ c
    → first_of (ready_in (seen_as places spots known limit spare)) ≡ Some place
    → left ≡ without place places → TakesPlace old place (seen_as left spots more limit room)
takes_place old places left spots known more limit spare room c place state later seen got is counts
    own first gone =
    subst (λ (q : Queue). TakesPlace q place (seen_as left spots more limit room)) seen
    (record {
      first = first;
      places = gone;
      owners = refl;
      tallies = subst (λ k. IsTallied (tallies_of known) (tallies_of more) k
          (started (tally_at (tallies_of known) k))) (sym (owner_seen spots place ∙ own))
          (tallied_by places spots known more limit spare
          room c later started (λ q. ap (λ k. client_at k q) is ∙ client_set known c later q)
          (counts ∙ ap (λ k. started (tally_of k)) got)).tallies;
      limit = refl;
    })

-- the first place of a client's line is taken out
module _ (places : Chain) (spots : List Spot) (known : Known) (heads : Heads) (limit : Option ℕ)
    (ready next : ℕ) (queue : IsLined places spots known heads limit ready next)
    (c : ℕ) (state : Client) (got : state ≡ client_at known c) (some : 0 < state.line.len) where
  some_known : 0 < (line_at known c).len
  some_known = subst (λ (k : Client). 0 < k.line.len) got some

  pub line_begins_with : line_by spots known c ≡ state.line.first ∷ rest_of (line_by spots known c)
  line_begins_with =
      subst (λ (k : Client). places_of (after_by spots) k.line ≡ state.line.first ∷ rest_of
      (places_of (after_by spots) k.line)) got (begins_first (after_by spots) state some)

  pub first_within : state.line.first < length spots
  first_within = subst (λ (k : Client). k.line.first < length spots) (sym got)
      (first_below (after_by spots) (length spots) (line_at known) queue.lined c some_known)

  pub first_queued : is_in state.line.first places.places ≡ true
  first_queued = in_queue_of (client_by spots) (number_by spots) (is_open_at limit known)
      places.places (line_by spots known) heads.heads next ready queue.hangs c state.line.first
      (subst (λ ps. is_in state.line.first ps ≡ true) (sym line_begins_with)
      (is_in-first state.line.first (rest_of (line_by spots known c))))

  module _ (more : Known) (later : Client) (is : more ≡ insert known c later)
      (taken : later ≡ taken_from spots state) where
    put : (q : ℕ) → client_at more q ≡ cond (eqb q c) later (client_at known q)
    put q = ap (λ k. client_at k q) is ∙ client_set known c later q

    put_here : client_at more c ≡ taken_from spots state
    put_here = put c ∙ ap (λ b. cond b later (client_at known c)) (eq-eqb c c refl) ∙ taken

    put_else : (q : ℕ) → q ≢ c → client_at more q ≡ client_at known q
    put_else q n = put q ∙ ap (λ b. cond b later (client_at known q)) (ne_eqb q c n)

    line_here : line_at more c ≡ record {
      first = after_by spots (line_at known c).first;
      last = (line_at known c).last;
      len = (line_at known c).len - 1;
    }
    line_here = ap (λ (k : Client). k.line) put_here ∙ ap (λ (k : Client). shorter spots k.line) got

    line_else : (q : ℕ) → q ≢ c → line_at more q ≡ line_at known q
    line_else q n = ap (λ (k : Client). k.line) (put_else q n)

    pub lined_less : AreLined (after_by spots) (length spots) (line_at more)
    lined_less = popped (after_by spots) (length spots) (line_at known) queue.lined c some_known
        (line_at more) line_here line_else

    pub row_less : line_by spots more c ≡ rest_of (line_by spots known c)
    row_less = popped_row (after_by spots) (length spots) (line_at known) queue.lined c some_known
        (line_at more) line_here line_else

    pub row_else : (q : ℕ) → q ≢ c → line_by spots more q ≡ line_by spots known q
    row_else q n = ap (places_of (after_by spots)) (line_else q n)

    pub open_else : (q : ℕ) → q ≢ c → is_open_at limit more q ≡ is_open_at limit known q
    open_else q n = ap (λ (k : Client). admits limit k.running) (put_else q n)

    pub open_here : is_open_at limit more c ≡ admits limit later.running
    open_here = ap (λ (k : Client). admits limit k.running) (put_here ∙ sym taken)

    pub row_later : line_by spots more c ≡ places_of (after_by spots) later.line
    row_later = ap (λ (k : Client). places_of (after_by spots) k.line) (put_here ∙ sym taken)

-- where a limit is set: the first head is taken out
module _ (places : Chain) (spots : List Spot) (known : Known) (heads : Heads) (limit : Option ℕ)
    (ready next : ℕ) (queue : IsLined places spots known heads limit ready next)
    (n c : ℕ) (left : Heads) (pops : PopsLeast heads (Some (n, c)) left) (state : Client)
    (got : state ≡ client_at known c) where
  leads : Leads (number_by spots) (line_by spots known c) n
  leads = All-permutation (λ (o : Head). Leads (number_by spots) (line_by spots known o.1) o.0)
      heads.heads ((n, c) ∷ left.heads) pops.0 queue.hangs.led 0 (n, c) (omega arith)

  pub head_some : 0 < state.line.len
  head_some = from state.line.len refl
    where
      from : (m : ℕ) → state.line.len ≡ m → 0 < m
      from zero none = absurd (subst (λ ps. Leads (number_by spots) ps n)
          (ap (λ (k : Client). places_of (after_by spots) k.line) (sym got)
          ∙ line_none (after_by spots) state.line none) leads)
      from (suc m) many = omega arith

  begins : line_by spots known c ≡ state.line.first ∷ rest_of (line_by spots known c)
  begins = line_begins_with places spots known heads limit ready next queue c state got head_some

  pub head_of_client : client_by spots state.line.first ≡ c
  head_of_client = its_client (client_by spots) (number_by spots) (is_open_at limit known)
      places.places (line_by spots known) heads.heads next ready queue.hangs n c state.line.first
      (rest_of (line_by spots known c)) left.heads pops.0 pops.1 begins

  pub head_first : first_of (ready_of (is_open_at limit known) (client_by spots) places.places)
      ≡ Some state.line.first
  head_first = first_is (client_by spots) (number_by spots) (is_open_at limit known) places.places
      (line_by spots known) heads.heads next ready queue.hangs n c state.line.first
      (rest_of (line_by spots known c)) left.heads pops.0 pops.1 begins

  head_open : is_open_at limit known c ≡ true
  head_open = is_ready (client_by spots) (number_by spots) (is_open_at limit known) places.places
      (line_by spots known) heads.heads next ready queue.hangs n c state.line.first
      (rest_of (line_by spots known c)) left.heads pops.0 pops.1 begins

  -- the client is closed, for now
  abbrev shut : ℕ → Bool
  shut d = cond (eqb d c) false (is_open_at limit known d)

  shut_here : shut c ≡ false
  shut_here = ap (λ b. cond b false (is_open_at limit known c)) (eq-eqb c c refl)

  shut_else : (d : ℕ) → d ≢ c → shut d ≡ is_open_at limit known d
  shut_else d m = ap (λ b. cond b false (is_open_at limit known d)) (ne_eqb d c m)

  row_long : length (line_by spots known c) ≡ state.line.len
  row_long = ap (λ (k : Client). length (places_of (after_by spots) k.line)) (sym got)
      ∙ line_long (after_by spots) state.line

  -- what is ready counts the whole line
  pub head_counted : state.line.len ≤ ready
  head_counted =
      let parts = opened_by (client_by spots) shut (is_open_at limit known) c places.places
      shut_here head_open (λ d m. sym (shut_else d m)) in
      let same = ap length (queue.hangs.line_is c) in let long = row_long in
      let is = queue.hangs.counted in omega (arith, parts, same, long, is)

  module _ (more : Known)
      (later : Client) (is : more ≡ insert known c later) (taken : later ≡ taken_from spots state)
      (seats : len known ≤ heads.room → len more ≤ heads.room) where
    row : line_by spots more c ≡ rest_of (line_by spots known c)
    row = row_less places spots known heads limit ready next queue c state got head_some more later
        is taken

    abbrev now_heads : List Head
    now_heads = head_of (number_by spots) limit c later ++ left.heads

    took : Hangs (client_by spots) (number_by spots) (is_open_at limit more)
        (without state.line.first places.places) (line_by spots more) now_heads next
        (ready_at limit later + (ready - state.line.len))
    took =
        admitted (client_by spots) (number_by spots) shut (without state.line.first places.places)
        (line_by spots more) left.heads next (ready - state.line.len)
        (taken_out (client_by spots) (number_by spots) (is_open_at limit known) places.places
        (line_by spots known) heads.heads next ready queue.hangs n c state.line.first
        (rest_of (line_by spots known c)) left.heads
        pops.0 pops.1 begins shut (line_by spots more) (ready - state.line.len) shut_here shut_else
        row (row_else places spots known heads limit ready next queue c state got head_some more
        later is taken)
        (let long = row_long in let counted = head_counted in omega (arith, long, counted)))
        (after_by spots) limit c later (is_open_at limit more) shut_here (row_later places spots
        known heads limit ready next queue c state got head_some more later is taken)
        (open_here places spots known heads limit ready next queue c state got head_some more later
        is taken)
        (λ d m. open_else places spots known heads limit ready next queue c state got head_some more
        later is taken d m ∙ sym (shut_else d m))

    lined : AreLined (after_by spots) (length spots) (line_at more)
    lined = lined_less places spots known heads limit ready next queue c state got head_some more
        later is taken

    within : (p : ℕ) → is_in p (without state.line.first places.places) ≡ true → p < length spots
    within p there = queue.within p (is_in-filter _ p places.places there)

    base : IsBase (without state.line.first places.places) spots more left.room next
    base =
        record {
          base = numbered (client_by spots) (number_by spots) (is_open_at limit more)
              (without state.line.first places.places) (line_by spots more) now_heads next
              (ready_at limit later + (ready - state.line.len)) took
              (number_by spots) next took.rises took.below;
          lined = lined;
          seats = λ some.
              (let s = seats (queue.seats some) in let same = pops.2 in omega (arith, s, same));
          within = within;
        }

    pub again_first : 0 < later.line.len → later.line.first < length spots
    again_first some =
        let at : client_at more c ≡ later = ap (λ k. client_at k c) is ∙ client_set known c later c
        ∙ ap (λ b. cond b later (client_at known c)) (eq-eqb c c refl) in
        subst (λ (k : Client). k.line.first < length spots)
        at (first_below (after_by spots) (length spots) (line_at more) lined c
        (subst (λ (k : Client). 0 < k.line.len) (sym at) some))

    pub again_room : length (head_of (number_by spots) limit c later) + length left.heads
        ≤ left.room
    again_room =
        let fit = heads_fit (without state.line.first places.places) spots more left.room next
        base (is_open_at limit more) now_heads (ready_at limit later + (ready - state.line.len))
        took in
        let long = length-append (head_of (number_by spots) limit c later) left.heads in
        omega (arith, fit, long)

    pub again_small : (ready - state.line.len) + ready_at limit later ≤ length spots
    again_small =
        let short = ready_short (without state.line.first places.places) spots more left.room next
        base (is_open_at limit more) now_heads (ready_at limit later + (ready - state.line.len))
        took in
        omega (arith, short)

    pub again_queue : (chain : Chain) (now : Heads) (grown : ℕ)
        → chain ≡ record places { places = without state.line.first places.places }
        → IsPermutation (head_of (number_by spots) limit c later ++ left.heads) now.heads
        → left.room ≤ now.room → grown ≡ ready_at limit later
        → IsLined chain spots more now limit ((ready - state.line.len) + grown) next
    again_queue chain now grown gone order wider count =
        subst (λ (q : Chain).
        IsLined q spots more now limit ((ready - state.line.len) + grown) next) (sym gone)
        (record {
          hangs = subst (λ m. Hangs (client_by spots) (number_by spots) (is_open_at limit more)
              (without state.line.first places.places) (line_by spots more) now.heads next m)
              (let same : ready_at limit later + (ready - state.line.len)
              ≡ (ready - state.line.len) + grown = omega (arith, count) in same)
              (said (client_by spots) (number_by spots) (is_open_at limit more)
              (without state.line.first places.places) (line_by spots more) now_heads next
              (ready_at limit later + (ready - state.line.len)) took
              (client_by spots) (number_by spots) (is_open_at limit more) (line_by spots more)
              now.heads (λ p _. refl) (λ p _. refl) (λ d _. refl) (λ d. refl) order);
          lined = lined;
          chain_room = queue.chain_room;
          seats = λ some. (let s = seats (queue.seats some) in let same = pops.2 in
              omega (arith, s, same, wider));
          within = within;
          left = queue.left;
        })

-- where there is no head, nothing is ready
pub no_head : (places : Chain) (spots : List Spot)
    (known : Known) (heads : Heads) (limit : Option ℕ) (ready next spare most : ℕ)
    → IsLined places spots known heads limit ready next → limit ≡ Some most → heads.heads ≡ []
    → ready_in (seen_as places.places spots known limit spare) ≡ []
no_head places spots known heads limit ready next spare most queue is none =
    ready_seen places.places spots known limit spare most is
    ∙ none_taken (client_by spots) (number_by spots) (is_open_at limit known) places.places
    (line_by spots known) heads.heads next ready queue.hangs none

pub some_limit : (limit : Option ℕ) → IsSome limit → (most : ℕ) × (limit ≡ Some most)
some_limit None bad = absurd (false≢true bad)
some_limit (Some most) is = (most, refl)
