-- What an entry leaves of the queue by clients.
use Rattle.std.proofs.Common.{◌≡◌, ◌≢◌, ◌⊎◌, ℕ, zero, suc, ◌+◌, ◌<◌, ◌≤◌, Bool, true, false, cond}
use Rattle.std.proofs.Common.{eqb, ◌&&◌, List, [], ◌∷◌, ◌++◌, map, length, set, Option, refl, sym}
use Rattle.std.proofs.Common.{ap, ◌∙◌, subst, inl, inr, arith, IsPermutation}
use Rattle.std.proofs.Math.Dec.{eqb-suc-zero}
use Rattle.std.proofs.lemmas.Bool.{cases_eq, eq-eqb, ne_eqb, false≢true}
use Rattle.std.proofs.lemmas.Grind.{same_number_lists}
use Rattle.std.proofs.lemmas.List.{length-map}
use Rattle.std.proofs.lemmas.List.Sorted.{IsPermutation-refl}
use Rattle.std.specs.FinMap.{insert, len}
use Rattle.blocking_pool.specs.Growth.{greatest}
use Rattle.blocking_pool.specs.Lists.{is_in}
use Rattle.blocking_pool.specs.Chain.{Chain}
use Rattle.blocking_pool.specs.Heads.{Head, Heads}
use Rattle.blocking_pool.specs.ClientTable.{Known, client_at}
use Rattle.blocking_pool.specs.Lines.{AreLined}
use Rattle.blocking_pool.specs.Hangs.{one_if, is_some_line, Hangs}
use Rattle.blocking_pool.specs.Queue.{Queue, Holds}
use Rattle.blocking_pool.specs.QueueForm.{tally_of, client_by, number_by, after_by, admits}
use Rattle.blocking_pool.specs.QueueForm.{is_open_at, line_at, line_by, longer, Appends, Renumbers}
use Rattle.blocking_pool.specs.QueueForm.{IsLined}
use Rattle.blocking_pool.specs.declared.pool.clients.Line.{Line}
use Rattle.blocking_pool.specs.declared.pool.clients.Client.{Client}
use Rattle.blocking_pool.specs.declared.pool.queue.Spot.{Spot}
use Rattle.blocking_pool.proofs.Lists.{by_eq, length-le_below}
use Rattle.blocking_pool.proofs.ClientLemmas.{client_set, tally_is}
use Rattle.blocking_pool.proofs.HangLemmas.{not_true, in_push, said, numbered, in_queue_of, entered}
use Rattle.blocking_pool.proofs.LineLemmas.{walk_same, line_none, line_begins, line_short}
use Rattle.blocking_pool.proofs.LineLemmas.{last_below, lined_as, pushed, pushed_row, pushed_else}
use Rattle.blocking_pool.proofs.NumberLemmas.{numbers_between, numbers_rise}
use Rattle.blocking_pool.proofs.AdmitLemmas.{IsBase, heads_fit, ready_short}
use Rattle.blocking_pool.proofs.QueueLemmas.{seen_as, owner_seen}

-- the head of a client whose line begins, where it is open
abbrev pub new_head : Bool → Line → ℕ → ℕ → List Head
new_head may_run line number c = cond (may_run && eqb line.len 0) ((number, c) ∷ []) []

module _ (places : Chain) (spots : List Spot) (known : Known) (heads : Heads) (limit : Option ℕ)
    (ready next : ℕ) (queue : IsLined places spots known heads limit ready next)
    (place c : ℕ) (state : Client) (got : state ≡ client_at known c) where
  pub end_within : 0 < state.line.len → state.line.last < length spots
  end_within some = subst (λ (k : Client). k.line.last < length spots)
      (sym got) (last_below (after_by spots) (length spots) (line_at known) queue.lined c
      (subst (λ (k : Client). 0 < k.line.len) got some))

  pub line_small : state.line.len ≤ length spots
  line_small = subst (λ (k : Client). k.line.len ≤ length spots) (sym got)
      (line_short (after_by spots) (length spots) (line_at known) queue.lined c)

  module _ (room : place < length spots)
      (fresh : is_in place places.places ≡ false) (now : List Spot) (appended :
      Appends spots now state.line place (record { client = c; number = next; after = place }))
      (more : Known) (later : Client)
      (is : more ≡ insert known c later) (line : later.line ≡ longer state.line place)
      (running : later.running ≡ state.running) where
    put : (q : ℕ) → client_at more q ≡ cond (eqb q c) later (client_at known q)
    put q = ap (λ k. client_at k q) is ∙ client_set known c later q

    put_here : client_at more c ≡ later
    put_here = put c ∙ ap (λ b. cond b later (client_at known c)) (eq-eqb c c refl)

    put_else : (q : ℕ) → q ≢ c → client_at more q ≡ client_at known q
    put_else q n = put q ∙ ap (λ b. cond b later (client_at known q)) (ne_eqb q c n)

    line_here : line_at more c ≡ longer (line_at known c) place
    line_here =
        ap (λ (k : Client). k.line) put_here ∙ line ∙ ap (λ (k : Client). longer k.line place) got

    line_else : (q : ℕ) → q ≢ c → line_at more q ≡ line_at known q
    line_else q n = ap (λ (k : Client). k.line) (put_else q n)

    same_open : (q : ℕ) → is_open_at limit more q ≡ is_open_at limit known q
    same_open q = elim (cases_eq q c) [
      | inl e ↦ ap (is_open_at limit more) e ∙ ap (λ (k : Client). admits limit k.running) put_here
          ∙ ap (admits limit) running ∙ ap (λ (k : Client). admits limit k.running) got
          ∙ ap (is_open_at limit known) (sym e)
      | inr n ↦ ap (λ (k : Client). admits limit k.running) (put_else q n)
    ]

    spot_is : Appends spots now (line_at known c) place
        (record { client = c; number = next; after = place })
    spot_is = subst (λ (k : Client). Appends spots now k.line place
        (record { client = c; number = next; after = place })) got appended

    in_no_line : (d : ℕ) → is_in place (line_by spots known d) ≡ false
    in_no_line d = not_true _ (λ there. false≢true
        (sym fresh ∙ in_queue_of (client_by spots) (number_by spots) (is_open_at limit known)
        places.places (line_by spots known) heads.heads next ready queue.hangs d place there))

    row_here : line_by now more c ≡ line_by spots known c ++ place ∷ []
    row_here = pushed_row (after_by spots) (length spots) (line_at known) queue.lined c place room
        in_no_line (after_by now) (line_at more) line_here line_else spot_is.linked spot_is.links

    row_else : (d : ℕ) → d ≢ c → line_by now more d ≡ line_by spots known d
    row_else = pushed_else (after_by spots) (length spots) (line_at known) queue.lined c place room
        in_no_line (after_by now) (line_at more) line_here line_else spot_is.linked spot_is.links

    lined : AreLined (after_by now) (length now) (line_at more)
    lined = subst (λ n. AreLined (after_by now) n (line_at more)) (sym spot_is.count)
        (pushed (after_by spots) (length spots) (line_at known) queue.lined c place room in_no_line
        (after_by now) (line_at more) line_here line_else spot_is.linked spot_is.links)

    -- the entry, with its client's flags as they were
    came_with : (heads_now : List Head) (grown : ℕ)
        → grown ≡ ready + one_if (is_open_at limit known c)
        → (((is_open_at limit known c ≡ false) ⊎ (is_some_line (line_by spots known c) ≡ true))
        × (heads_now ≡ heads.heads)) ⊎ ((is_open_at limit known c ≡ true)
        × (line_by spots known c ≡ []) × IsPermutation ((next, c) ∷ heads.heads) heads_now)
        → Hangs (client_by now) (number_by now) (is_open_at limit known)
        (places.places ++ place ∷ []) (line_by now more) heads_now (next + 1) grown
    came_with heads_now grown count cases =
        entered (client_by spots) (number_by spots) (is_open_at limit known) places.places
        (line_by spots known) heads.heads next ready queue.hangs c place fresh (client_by now)
        (number_by now)
        (spot_is.clients place
        ∙ ap (λ b. cond b c (client_by spots place)) (eq-eqb place place refl))
        (λ q n. spot_is.clients q ∙ ap (λ b. cond b c (client_by spots q)) (ne_eqb q place n))
        (spot_is.numbers place
        ∙ ap (λ b. cond b next (number_by spots place)) (eq-eqb place place refl)) (λ q n.
        spot_is.numbers q ∙ ap (λ b. cond b next (number_by spots q)) (ne_eqb q place n))
        (line_by now more) heads_now grown row_here row_else count cases

    some_row : (n : ℕ) → (line_at known c).len ≡ suc n → is_some_line (line_by spots known c) ≡ true
    some_row n many =
        ap is_some_line (line_begins (after_by spots) (line_at known c) (omega (arith, many)))

    came_flags : (b : Bool) → is_open_at limit known c ≡ b → (n : ℕ) → (line_at known c).len ≡ n
        → Hangs (client_by now)
        (number_by now) (is_open_at limit known) (places.places ++ place ∷ [])
        (line_by now more) (cond (b && eqb n 0) ((next, c) ∷ []) [] ++ heads.heads) (next + 1)
        (ready + one_if (is_open_at limit known c))
    came_flags false shut n long = came_with heads.heads (ready + one_if (is_open_at limit known c))
        refl (inl (inl shut, refl))
    came_flags true free zero none =
        came_with ((next, c) ∷ heads.heads) (ready + one_if (is_open_at limit known c)) refl
        (inr (
          free,
          line_none (after_by spots) (line_at known c) none,
          IsPermutation-refl ((next, c) ∷ heads.heads),
        ))
    came_flags true free (suc n) many =
        subst (λ b. Hangs (client_by now) (number_by now) (is_open_at limit known)
        (places.places ++ place ∷ []) (line_by now more) (cond (true && b) ((next, c) ∷ []) []
        ++ heads.heads) (next + 1) (ready + one_if (is_open_at limit known c)))
        (sym (eqb-suc-zero n)) (came_with heads.heads (ready + one_if (is_open_at limit known c))
        refl (inl (inr (some_row n many), refl)))

    came : (heads_now : List Head) → IsPermutation
        (new_head (is_open_at limit known c) (line_at known c) next c ++ heads.heads) heads_now
        → Hangs (client_by now) (number_by now) (is_open_at limit more)
        (places.places ++ place ∷ []) (line_by now more) heads_now (next + 1)
        (ready + one_if (is_open_at limit known c))
    came heads_now order =
        said (client_by now) (number_by now)
        (is_open_at limit known) (places.places ++ place ∷ []) (line_by now more)
        (new_head (is_open_at limit known c) (line_at known c) next c ++ heads.heads) (next + 1)
        (ready + one_if (is_open_at limit known c))
        (came_flags (is_open_at limit known c) refl (line_at known c).len refl)
        (client_by now) (number_by now) (is_open_at limit more) (line_by now more) heads_now
        (λ p _. refl) (λ p _. refl) (λ q _. same_open q) (λ q. refl) order

    within : (p : ℕ) → is_in p (places.places ++ place ∷ []) ≡ true → p < length now
    within p there = elim (in_push p place places.places there) [
      | inl e ↦ (let long = spot_is.count in omega (arith, e, room, long))
      | inr was ↦ (let b = queue.within p was in let long = spot_is.count in omega (arith, b, long))
    ]

    module _ (seats : len known ≤ heads.room → len more ≤ heads.room) where
      pub came_base : (wide : ℕ) → heads.room ≤ wide
          → IsBase (places.places ++ place ∷ []) now more wide (next + 1)
      came_base wide wider =
          let h = came (new_head (is_open_at limit known c) (line_at known c) next c ++ heads.heads)
          (IsPermutation-refl
          (new_head (is_open_at limit known c) (line_at known c) next c ++ heads.heads)) in
          record {
            base = numbered (client_by now) (number_by now)
                (is_open_at limit more) (places.places ++ place ∷ []) (line_by now more) (new_head
                (is_open_at limit known c) (line_at known c) next c ++ heads.heads) (next + 1)
                (ready + one_if (is_open_at limit known c)) h (number_by now) (next + 1) h.rises
                h.below;
            lined = lined;
            seats = λ some. (let long = spot_is.count in let s =
                seats (queue.seats (omega (arith, some, long))) in omega (arith, s, wider));
            within = within;
          }

      -- the flag of the client, by what is known of it
      flag : is_open_at limit known c ≡ admits limit state.running
      flag = ap (λ (k : Client). admits limit k.running) (sym got)

      pub came_seat : admits limit state.running ≡ true → state.line.len ≡ 0
          → length heads.heads < heads.room
      came_seat free none =
          let fit = heads_fit (places.places ++ place ∷ []) now more heads.room (next + 1)
          (came_base heads.room (omega arith)) (is_open_at limit more) ((next, c) ∷ heads.heads)
          (ready + one_if (is_open_at limit known c))
          (came ((next, c) ∷ heads.heads)
          (subst (λ hs. IsPermutation (hs ++ heads.heads) ((next, c) ∷ heads.heads)) (sym one)
          (IsPermutation-refl ((next, c) ∷ heads.heads)))) in
          omega (arith, fit)
        where
          one : new_head (is_open_at limit known c) (line_at known c) next c ≡ (next, c) ∷ []
          one = ap (λ b. new_head b (line_at known c) next c) (flag ∙ free)
              ∙ ap (λ (k : Client). new_head true k.line next c) (sym got)
              ∙ ap (λ n. cond (true && eqb n 0) ((next, c) ∷ []) []) none

      pub came_small : ready + one_if (admits limit state.running) ≤ length now
      came_small =
          let short = ready_short (places.places ++ place ∷ []) now more
          heads.room (next + 1) (came_base heads.room (omega arith)) (is_open_at limit more)
          (new_head (is_open_at limit known c) (line_at known c) next c ++ heads.heads)
          (ready + one_if (is_open_at limit known c)) (came (new_head (is_open_at limit known c)
          (line_at known c) next c ++ heads.heads) (IsPermutation-refl
          (new_head (is_open_at limit known c) (line_at known c) next c ++ heads.heads))) in
          subst (λ b. ready + one_if b ≤ length now) flag short

      pub came_queue : (chain : Chain) (heads_now : Heads) (grown : ℕ)
          → chain ≡ record places { places = places.places ++ place ∷ [] } → IsPermutation
          (new_head (admits limit state.running) state.line next c ++ heads.heads) heads_now.heads
          → heads.room ≤ heads_now.room → grown ≡ one_if (admits limit state.running)
          → next + 1 < greatest → IsLined chain now more heads_now limit (ready + grown) (next + 1)
      came_queue chain heads_now grown entered_is order wider count left =
          let order : IsPermutation (new_head (is_open_at limit known c) (line_at known c) next c
          ++ heads.heads) heads_now.heads =
          subst (λ (k : Client). IsPermutation (new_head (admits limit k.running) k.line next c
          ++ heads.heads) heads_now.heads) got order in
          let base = came_base heads_now.room wider in
          subst (λ (q : Chain). IsLined q now more heads_now limit (ready + grown) (next + 1))
          (sym entered_is)
          (record {
            hangs = subst (λ n. Hangs (client_by now) (number_by now) (is_open_at limit more)
                (places.places ++ place ∷ []) (line_by now more) heads_now.heads (next + 1) n)
                (ap (λ n. ready + n) (ap one_if flag ∙ sym count)) (came heads_now.heads order);
            lined = lined;
            chain_room =
                (let long = spot_is.count in let r = queue.chain_room in omega (arith, long, r));
            seats = base.seats;
            within = within;
            left = left;
          })

-- ---- the queue is numbered again

module _ (places : List ℕ) (spots now : List Spot)
    (known : Known) (room next later : ℕ) (base : IsBase places spots known room next)
    (renumbers : Renumbers spots now places later) where
  pub base_renumbered : IsBase places now known room later
  base_renumbered =
      record {
        base = said (client_by spots) (number_by now) (λ _. false) places (line_by spots known) []
            later 0
            (numbered (client_by spots) (number_by spots) (λ _. false)
            places (line_by spots known) [] next 0 base.base (number_by now) later
            (numbers_rise (number_by now) 0 places renumbers.numbers)
            (λ p there. (let b = numbers_between (number_by now) 0 places renumbers.numbers p
            there in let is = renumbers.next_is in omega (arith, b.1, is))))
            (client_by now) (number_by now) (λ _. false)
            (line_by now known) [] (λ p _. renumbers.clients p) (λ p _. refl) (λ c _. refl) rows
            (IsPermutation-refl []);
        lined = lined_as (after_by spots) (length spots) (line_at known)
            base.lined (after_by now) (length now) (line_at known) rows (λ c _. refl)
            (let long = renumbers.count in omega (arith, long));
        seats = λ some. (let long = renumbers.count in base.seats (omega (arith, some, long)));
        within = λ p there.
            (let long = renumbers.count in let b = base.within p there in omega (arith, b, long));
      }
    where
      rows : (c : ℕ) → line_by now known c ≡ line_by spots known c
      rows c = walk_same (after_by spots) (after_by now) (line_at known c).len
          (line_at known c).first (λ p _. renumbers.links p)

  pub later_small : length spots < greatest → later < greatest
  later_small small =
      (let most = length-le_below places (length spots) base.base.once base.within in
      let is = renumbers.next_is in omega (arith, most, is, small))

  pub owners_renumbered : map (λ (s : Spot). s.client) now ≡ map (λ (s : Spot). s.client) spots
  owners_renumbered =
      same_number_lists (map (λ (s : Spot). s.client) now) (map (λ (s : Spot). s.client) spots)
      (length-map now (λ (s : Spot). s.client) ∙ renumbers.count
      ∙ sym (length-map spots (λ (s : Spot). s.client)))
      (λ p _. owner_seen now p ∙ renumbers.clients p ∙ sym (owner_seen spots p))

-- a place was entered, as it is seen
pub holds_entered : (old : Queue) (places left : List ℕ) (spots now : List Spot)
    (known more : Known) (limit : Option ℕ) (spare room c place : ℕ) (state later : Client)
    → seen_as places spots known limit spare ≡ old
    → state ≡ client_at known c
    → more ≡ insert known c later → tally_of later ≡ tally_of state → left ≡ places ++ place ∷ []
    → map (λ (s : Spot). s.client) now ≡ set (map (λ (s : Spot). s.client) spots) place c
    → Holds old (seen_as left now more limit room) (old.places ++ place ∷ [])
    (set old.owners place c)
holds_entered old places left spots now known more limit spare room c place state later seen got is
    same came owners =
    subst (λ (q : Queue). Holds q (seen_as left now more limit room) (q.places ++ place ∷ [])
    (set q.owners place c)) seen
    (record {
      places_are = came;
      owners_are = owners;
      tallies = λ q. tally_is more q
          ∙ ap tally_of (ap (λ k. client_at k q) is ∙ client_set known c later q)
          ∙ by_eq
          q c (λ b. tally_of (cond b later (client_at known q)) ≡ tally_of (client_at known q))
          (λ e. same ∙ ap tally_of (got ∙ ap (client_at known) (sym e))) (λ n. refl)
          ∙ sym (tally_is known q);
      limit = refl;
    })
