-- The heads of many clients, one after the other.
use Rattle.std.proofs.Common.{◌≡◌, ℕ, ◌+◌, ◌-◌, ◌<◌, ◌≤◌, List, [], ◌∷◌, ◌++◌, length, Option, sym}
use Rattle.std.proofs.Common.{ap, subst, arith, append_assoc, length-append, IsPermutation}
use Rattle.std.proofs.lemmas.List.Sorted.{IsPermutation-trans, IsPermutation-append_left}
use Rattle.std.proofs.lemmas.List.Sorted.{IsPermutation-append_right, IsPermutation-append_comm}
use Rattle.std.proofs.lemmas.List.Sorted.{length_permutation}
use Rattle.std.proofs.lemmas.List.{append-nil}
use Rattle.std.proofs.lemmas.List.Elements.{All-tail}
use Rattle.blocking_pool.specs.Growth.{greatest}
use Rattle.blocking_pool.specs.ClientTable.{Known, client_at, AreAll}
use Rattle.blocking_pool.specs.Heads.{Head, Heads}
use Rattle.blocking_pool.specs.QueueForm.{head_of, heads_of, ready_at, ready_among, number_by, Fits}
use Rattle.blocking_pool.specs.QueueForm.{AreAnew}
use Rattle.blocking_pool.specs.declared.pool.clients.Client.{Client}
use Rattle.blocking_pool.specs.declared.pool.queue.Spot.{Spot}

-- So many of the clients are done: what is left of them and the heads that there are make up all.
pub record IsAdmitting (number : ℕ → ℕ) (limit : Option ℕ) (all rest : List (ℕ × Client))
    (first : Heads) (now : Heads) (ready : ℕ) : Type 0 where
  pub heads : IsPermutation (heads_of number limit all ++ first.heads)
      (heads_of number limit rest ++ now.heads)
  pub room : length now.heads + length (heads_of number limit rest) ≤ now.room
  pub kept : first.room ≤ now.room
  pub count : ready + ready_among limit rest ≡ ready_among limit all

module _ (number : ℕ → ℕ) (limit : Option ℕ) where
  -- one head moves from what is left to those that there are
  moves : (h hs gs more : List Head) → IsPermutation (h ++ gs) more
      → IsPermutation ((h ++ hs) ++ gs) (hs ++ more)
  moves h hs gs more order =
      let turned : IsPermutation ((h ++ hs) ++ gs) ((hs ++ h) ++ gs) =
      IsPermutation-append_left gs (h ++ hs) (hs ++ h) (IsPermutation-append_comm h hs) in
      let there : IsPermutation (hs ++ (h ++ gs)) (hs ++ more) =
      IsPermutation-append_right hs (h ++ gs) more order in
      IsPermutation-trans ((h ++ hs) ++ gs) ((hs ++ h) ++ gs) (hs ++ more) turned
      (subst (λ xs. IsPermutation xs (hs ++ more)) (sym (append_assoc hs h gs)) there)

  module _ (all rest : List (ℕ × Client)) (name : ℕ) (client : Client) (first now more : Heads)
      (ready grown : ℕ)
      (so_far : IsAdmitting number limit all ((name, client) ∷ rest) first now ready) where
    pub head_room : length (head_of number limit name client) + length now.heads ≤ now.room
    head_room = let r = so_far.room in
        let long = length-append (head_of number limit name client) (heads_of number limit rest) in
        omega (arith, r, long)

    pub ready_fits : ready + ready_at limit client ≤ ready_among limit all
    ready_fits = let c = so_far.count in omega (arith, c)

    pub one_more : IsPermutation (head_of number limit name client ++ now.heads) more.heads
        → now.room ≤ more.room → grown ≡ ready_at limit client
        → IsAdmitting number limit all rest first more (ready + grown)
    one_more order wider is =
        record {
          heads = IsPermutation-trans (heads_of number limit all ++ first.heads)
              ((head_of number limit name client ++ heads_of number limit rest) ++ now.heads)
              (heads_of number limit rest ++ more.heads)
              so_far.heads (moves (head_of number limit name client) (heads_of number limit rest)
              now.heads more.heads order);
          room = (let r = so_far.room in
              let long =
              length-append (head_of number limit name client) (heads_of number limit rest) in
              let same = length_permutation (head_of number limit name client ++ now.heads)
              more.heads order in
              let both = length-append (head_of number limit name client) now.heads in
              omega (arith, r, long, same, both, wider));
          kept = (let k = so_far.kept in omega (arith, k, wider));
          count = (let c = so_far.count in omega (arith, c, is));
        }

-- ---- the heads made anew: those of the named clients, and then that of client 0

module _ (spots : List Spot) (known : Known) (limit : Option ℕ) (old cleared : Heads)
    (es : List (ℕ × Client)) (fits : Fits spots limit old.room ((0, client_at known 0) ∷ es))
    (clears : cleared ≡ record old { heads = [] }) where
  head : List Head
  head = head_of (number_by spots) limit 0 (client_at known 0)

  named_heads : List Head
  named_heads = heads_of (number_by spots) limit es

  no_heads : cleared.heads ≡ []
  no_heads = ap (λ (h : Heads). h.heads) clears

  same_room : cleared.room ≡ old.room
  same_room = ap (λ (h : Heads). h.room) clears

  pub named_fits : Fits spots limit (cleared.room - length cleared.heads) es
  named_fits =
      record {
        firsts = All-tail (λ (e : ℕ × Client). 0 < e.1.line.len
            → e.1.line.first < length spots) (0, client_at known 0) es fits.firsts;
        seats = (let s = fits.seats in
            let both = length-append (head_of (number_by spots) limit 0 (client_at known 0))
            (heads_of (number_by spots) limit es) in
            let none = ap length no_heads in let same = same_room in
            omega (arith, s, both, none, same));
        count = (let c = fits.count in omega (arith, c));
      }

  module _ (state : Client) (got : state ≡ client_at known 0) where
    pub unnamed_first : 0 < state.line.len → state.line.first < length spots
    unnamed_first = subst (λ (k : Client). 0 < k.line.len → k.line.first < length spots) (sym got)
        (fits.firsts 0 (0, client_at known 0) (omega arith))

    module _ (named : Heads)
        (order : IsPermutation (heads_of (number_by spots) limit es ++ cleared.heads) named.heads)
        (wider : cleared.room ≤ named.room) where
      named_long : length named.heads ≡ length (heads_of (number_by spots) limit es)
      named_long = (let same = length_permutation _ _ order in
          let both = length-append (heads_of (number_by spots) limit es) cleared.heads in
          let none = ap length no_heads in omega (arith, same, both, none))

      pub unnamed_room : length (head_of (number_by spots) limit 0 state) + length named.heads
          ≤ named.room
      unnamed_room = subst (λ (k : Client). length (head_of (number_by spots) limit 0 k)
          + length named.heads ≤ named.room) (sym got)
          (let s = fits.seats in
          let both = length-append (head_of (number_by spots) limit 0 (client_at known 0))
          (heads_of (number_by spots) limit es) in
          let long = named_long in let same = same_room in
          omega (arith, s, both, long, same, wider))

      pub all_anew : AreAll known ((0, client_at known 0) ∷ es) → (new : Heads) (ready more : ℕ)
          → IsPermutation (head_of (number_by spots) limit 0 state ++ named.heads) new.heads
          → named.room ≤ new.room
          → ready ≡ ready_among limit es → more ≡ ready_at limit state
          → AreAnew known spots limit old new (ready + more)
      all_anew all new ready more last wide is also =
          record {
            entries = (0, client_at known 0) ∷ es;
            all = all;
            heads = IsPermutation-trans (head_of (number_by spots) limit 0 (client_at known 0)
                ++ heads_of (number_by spots) limit es)
                (head_of (number_by spots) limit 0 (client_at known 0) ++ named.heads) new.heads
                (IsPermutation-append_right (head_of (number_by spots) limit 0 (client_at known 0))
                (heads_of (number_by spots) limit es) named.heads
                (subst (λ xs. IsPermutation xs named.heads)
                (append-nil (heads_of (number_by spots) limit es)) (subst (λ hs. IsPermutation
                (heads_of (number_by spots) limit es ++ hs) named.heads) no_heads order)))
                (subst (λ (k : Client). IsPermutation
                (head_of (number_by spots) limit 0 k ++ named.heads) new.heads) got last);
            count = (let same : ready_at limit state ≡ ready_at limit (client_at known 0) =
                ap (ready_at limit) got in omega (arith, is, also, same));
            room = (let same = same_room in omega (arith, wider, wide, same));
          }

      pub ready_small : (ready more : ℕ) → ready ≡ ready_among limit es
          → more ≡ ready_at limit state → ready + more ≤ greatest
      ready_small ready more is also =
          (let same : ready_at limit state ≡ ready_at limit (client_at known 0) =
          ap (ready_at limit) got in let c = fits.count in omega (arith, is, also, same, c))
