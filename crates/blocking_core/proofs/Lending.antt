-- Pieces in a row: what comes behind the last, what is left without the first, and where an item
-- stands.
use Rattle.std.proofs.Common.{◌≡◌, ℕ, zero, suc, ◌+◌, ◌-◌, ◌*◌, ◌/◌, ◌%◌, ◌<◌, ◌≤◌, min, inl, inr}
use Rattle.std.proofs.Common.{List, [], ◌∷◌, ◌++◌, length, take, drop, slice_get, Some, All}
use Rattle.std.proofs.Common.{flat_map, refl, ap, sym, subst, ◌∙◌, arith, append_assoc}
use Rattle.std.proofs.Common.{length-append, take_at, drop_at, take-add}
use Rattle.std.proofs.lemmas.List.{take_rest, append-nil, take_all, length_push, drop_all}
use Rattle.std.proofs.lemmas.List.{drop-append-le, take-append-le, take-append-drop}
use Rattle.std.proofs.lemmas.List.{length-take-le, length-drop}
use Rattle.std.proofs.lemmas.List.{take-take, drop_more, drop-drop, get_or-take}
use Rattle.std.proofs.lemmas.List.Concat.{flat_map-append}
use Rattle.std.proofs.lemmas.List.Elements.{All-tail, All-push, All-take, All-drop, All-nil}
use Rattle.std.proofs.lemmas.Nat.{mod-mul-add, div-add-mod', mod_below, div_below}
use Rattle.std.proofs.lemmas.Option.{slice_get_within, get_or_from_slice_get}
use Rattle.circular_buffer.proofs.Places.{below_or_not, slice_get-some, slice_get-tail}
use Rattle.circular_buffer.proofs.Places.{slice_get-append_left, slice_get-append_right}
use Rattle.circular_buffer.specs.Buffer.{last_item}
use Rattle.blocking_core.specs.Lending.{IsRow, IsMemory, IsLast}
use Rattle.blocking_core.proofs.Stores.{one_more}

-- one row more
row_more : (k n piece : ℕ) → n ≡ k + 1 → n * piece ≡ k * piece + piece
row_more k n piece more = ap (λ m. m * piece) more ∙ omega arith

-- what stands behind whole pieces is a whole one too
ends_whole : (n last piece total : ℕ) → n * piece + last ≡ total → total % piece ≡ 0 → 0 < last
    → last ≤ piece → last ≡ piece
ends_whole n last piece total all whole some within = elim (below_or_not last piece) [
  | inl less ↦ absurd
      (omega (arith, sym (mod-mul-add n piece last less) ∙ ap (λ t. t % piece) all ∙ whole, some))
  | inr full ↦ omega arith
]

-- and what is left behind them is all there is of one
ends_open : (n last piece total : ℕ) → n * piece + last ≡ total → 0 < total % piece → last ≤ piece
    → 0 < piece → last ≡ total % piece
ends_open n last piece total all some within whole = elim (below_or_not last piece) [
  | inl less ↦ sym (mod-mul-add n piece last less) ∙ ap (λ t. t % piece) all
  | inr full ↦
      let more : (n + 1) * piece + 0 ≡ total = omega (arith, all, within, full) in
      absurd
      (omega (arith, sym (mod-mul-add (n + 1) piece 0 whole) ∙ ap (λ t. t % piece) more, some))
]

module _ {V X : Type 0} (items_of : V → List X) where
  -- pieces that are all full
  length_full : (pieces : List V) (piece : ℕ) → All (λ v. length (items_of v) ≡ piece) pieces
      → length (flat_map items_of pieces) ≡ length pieces * piece
  length_full [] piece full = omega arith
  length_full (v ∷ pieces) piece full =
      let here : length (items_of v) ≡ piece = full 0 v (omega arith) in
      let behind =
      length_full pieces piece (All-tail (λ w. length (items_of w) ≡ piece) v pieces full) in
      omega (arith, length-append (items_of v) (flat_map items_of pieces), here, behind)

  -- the items with one piece more behind
  items_pushed : (pieces : List V) (last : V)
      → flat_map items_of (pieces ++ last ∷ []) ≡ flat_map items_of pieces ++ items_of last
  items_pushed pieces last =
      flat_map-append items_of pieces (last ∷ [])
      ∙ ap (λ items. flat_map items_of pieces ++ items) (append-nil (items_of last))

  -- the last piece, and those before it
  last_apart : (pieces : List V) (last : V) → last_item pieces ≡ Some last
      → take (length pieces - 1) pieces ++ last ∷ [] ≡ pieces
  last_apart pieces last at =
      let within = slice_get_within pieces (length pieces - 1) last at in
      sym (one_more pieces (length pieces - 1) last at)
      ∙ take_all (length pieces - 1 + 1) pieces (omega arith)

  -- one more behind others that are all full
  pub row_pushed : (before : List V) (last : V) (piece total : ℕ)
      → All (λ v. length (items_of v) ≡ piece) before
      → length before * piece + length (items_of last) ≡ total → 0 < length (items_of last)
      → length (items_of last) ≤ piece
      → IsRow items_of (before ++ last ∷ []) piece total
  row_pushed before last piece total full all some within =
      let long = length_push before last in
      let items = ap length (items_pushed before last)
      ∙ length-append (flat_map items_of before) (items_of last) in
      let places : length (before ++ last ∷ []) * piece ≡ length before * piece + piece =
      ap (λ n. n * piece) long ∙ omega arith in
      let last_place : length (before ++ last ∷ []) - 1 ≡ length before = omega arith in
      record {
        some = omega arith;
        all = omega (arith, items, length_full before piece full);
        full = subst (λ pieces. All (λ v. length (items_of v) ≡ piece) pieces)
            (sym (ap (λ n. take n (before ++ last ∷ [])) last_place
            ∙ take_at before (last ∷ []) (length before) refl)) full;
        low = omega arith;
        high = omega arith;
      }

  -- the last piece of a row, before which all are full
  last_row : (pieces : List V) (last : V) (piece total : ℕ) → IsRow items_of pieces piece total
      → last_item pieces ≡ Some last
      → (length (take (length pieces - 1) pieces) ≡ length pieces - 1)
      × ((length pieces - 1) * piece + length (items_of last) ≡ total)
      × (0 < length (items_of last))
      × (length (items_of last) ≤ piece)
      × (0 < length pieces)
  last_row pieces last piece total row at =
      let before = take (length pieces - 1) pieces in
      let within = slice_get_within pieces (length pieces - 1) last at in
      let long : length before ≡ length pieces - 1 =
      length-take-le (length pieces - 1) pieces (omega arith) in
      let items = ap (λ all. length (flat_map items_of all)) (sym (last_apart pieces last at))
      ∙ ap length (items_pushed before last)
      ∙ length-append (flat_map items_of before) (items_of last) in
      let full = length_full before piece row.full ∙ ap (λ n. n * piece) long in
      let all : (length pieces - 1) * piece + length (items_of last) ≡ total =
      omega (arith, row.all, items, full) in
      let places : length pieces * piece ≡ (length pieces - 1) * piece + piece =
      row_more (length pieces - 1) (length pieces) piece (omega arith) in (
        long,
        all,
        omega (arith, row.low, all, places),
        omega (arith, row.high, all, places),
        omega arith,
      )

  row_ends_whole : (pieces : List V) (last : V) (piece total : ℕ)
      → IsRow items_of pieces piece total → total % piece ≡ 0
      → last_item pieces ≡ Some last
      → All (λ v. length (items_of v) ≡ piece) pieces × (length pieces * piece ≡ total)
  row_ends_whole pieces last piece total row whole at =
      let cut = last_row pieces last piece total row at in
      let long : length (items_of last) ≡ piece = ends_whole (length pieces - 1)
      (length (items_of last)) piece total cut.1 whole cut.2 cut.3 in
      let places : length pieces * piece ≡ (length pieces - 1) * piece + piece =
      row_more (length pieces - 1) (length pieces) piece (omega arith) in (
        subst (λ all. All (λ w. length (items_of w) ≡ piece) all) (last_apart pieces last at)
            (All-push (λ w. length (items_of w) ≡ piece) (take (length pieces - 1) pieces) last
            row.full long),
        omega (arith, cut.1, long, places),
      )

  -- The last piece is full or there is none exactly where the items are so many whole pieces: then
  -- all are full.
  pub row_whole : (pieces : List V) (piece total : ℕ) → IsRow items_of pieces piece total
      → total % piece ≡ 0
      → All (λ v. length (items_of v) ≡ piece) pieces × (length pieces * piece ≡ total)
  row_whole [] piece total row whole =
      (All-nil (λ v. length (items_of v) ≡ piece), omega (arith, row.high))
  row_whole (v ∷ pieces) piece total row whole =
      let last = slice_get-some (v ∷ pieces) (length (v ∷ pieces) - 1) (omega arith) in
      row_ends_whole (v ∷ pieces) last.0 piece total row whole last.1

  -- What a row has without its last piece, which has less than a whole one: where nothing is left
  -- of the last whole one.
  pub row_open : (pieces : List V) (last : V) (piece total : ℕ) → IsRow items_of pieces piece total
      → 0 < total % piece → last_item pieces ≡ Some last
      → IsLast items_of pieces (take (length pieces - 1) pieces) last piece total
      × (length (items_of last) ≡ total % piece)
  row_open pieces last piece total row some at =
      let cut = last_row pieces last piece total row at in
      let long : length (items_of last) ≡ total % piece = ends_open (length pieces - 1)
      (length (items_of last)) piece total cut.1 some cut.3 row.some in
      let less = mod_below total piece row.some in (
        record {
          full = row.full;
          all = ap (λ n. n * piece + length (items_of last)) cut.0 ∙ cut.1;
          less = omega (arith, long, less);
          items = sym (items_pushed (take (length pieces - 1) pieces) last)
              ∙ ap (flat_map items_of) (last_apart pieces last at);
        },
        long,
      )

  -- where others follow, the first is full, and so are those that follow but the last
  full_first : (p : V) (rest : List V) (piece : ℕ) → 0 < length rest
      → All (λ v. length (items_of v) ≡ piece) (take (length (p ∷ rest) - 1) (p ∷ rest))
      → (length (items_of p) ≡ piece)
      × All (λ v. length (items_of v) ≡ piece) (take (length rest - 1) rest)
  full_first p rest piece more full =
      let IsFull : V → Type 0 = λ v. length (items_of v) ≡ piece in
      let next : length (p ∷ rest) - 1 ≡ suc (length rest - 1) = omega arith in
      let all : All IsFull (p ∷ take (length rest - 1) rest) =
      subst (λ n. All IsFull (take n (p ∷ rest))) next full in
      (all 0 p (omega arith), All-tail IsFull p (take (length rest - 1) rest) all)

  -- how much the first piece has, and the row without it
  without_piece : (p : V) (rest : List V) (piece total : ℕ) → IsRow items_of (p ∷ rest) piece total
      → (length (items_of p) ≡ min piece total)
      × IsRow items_of rest piece (total - min piece total)
  without_piece p [] piece total row =
      let long : length (items_of p) ≡ total =
      ap length (sym (append-nil (items_of p))) ∙ sym row.all in (
        omega (arith, long, row.high),
        record {
          some = row.some;
          all = omega (arith, row.high);
          full = λ k d below. absurd (omega (arith, below));
          low = omega (arith, row.some);
          high = omega (arith, row.high);
        },
      )
  without_piece p (q ∷ rest) piece total row =
      let first = full_first p (q ∷ rest) piece (omega arith) row.full in
      let items = length-append (items_of p) (flat_map items_of (q ∷ rest)) in
      let places : length (p ∷ q ∷ rest) * piece ≡ length (q ∷ rest) * piece + piece =
      row_more (length (q ∷ rest)) (length (p ∷ q ∷ rest)) piece (omega arith) in
      let long = first.0 in (
        omega (arith, row.all, items, long),
        record {
          some = row.some;
          all = omega (arith, row.all, items, long);
          full = first.1;
          low = omega (arith, row.all, row.low, items, long, places);
          high = omega (arith, row.all, row.high, items, long, places);
        },
      )

  -- the first piece: what it has, and what is left without it
  pub row_first : (pieces : List V) (first : V) (piece total : ℕ)
      → IsRow items_of pieces piece total → slice_get pieces 0 ≡ Some first
      → (length (items_of first) ≡ min piece total)
      × (items_of first ≡ take (min piece total) (flat_map items_of pieces))
      × (flat_map items_of (drop 1 pieces) ≡ drop (min piece total) (flat_map items_of pieces))
      × IsRow items_of (drop 1 pieces) piece (total - min piece total)
  row_first [] first piece total row at = absurd cc
  row_first (p ∷ rest) first piece total row at =
      let is : p ≡ first = cc in
      let cut = without_piece p rest piece total row in (
        ap (λ v. length (items_of v)) (sym is) ∙ cut.0,
        ap items_of (sym is)
            ∙ sym (take_at (items_of p) (flat_map items_of rest) (min piece total) cut.0),
        sym (drop_at (items_of p) (flat_map items_of rest) (min piece total) cut.0),
        cut.1,
      )

  -- so many whole pieces at the front have so many items
  length_front : (pieces : List V) (k piece total : ℕ) → IsRow items_of pieces piece total
      → k < length pieces
      → length (flat_map items_of (take k pieces)) ≡ k * piece
  length_front pieces k piece total row within =
      let IsFull : V → Type 0 = λ v. length (items_of v) ≡ piece in
      let full : All IsFull (take k pieces) =
      subst (λ front. All IsFull front) (take-take k (length pieces - 1) pieces (omega arith))
      (All-take IsFull k (take (length pieces - 1) pieces) row.full) in
      length_full (take k pieces) piece full
      ∙ ap (λ n. n * piece) (length-take-le k pieces (omega arith))

  -- the items before a piece, in it and behind it
  items_around : (pieces : List V) (k : ℕ) (v : V) → slice_get pieces k ≡ Some v
      → flat_map items_of pieces
      ≡ flat_map items_of (take k pieces) ++ (items_of v ++ flat_map items_of (drop (k + 1) pieces))
  items_around pieces k v at =
      let cut : drop k pieces ≡ v ∷ drop (k + 1) pieces =
      drop_more pieces k v (slice_get_within pieces k v at)
      ∙ ap (λ w. w ∷ drop (k + 1) pieces) (get_or_from_slice_get pieces k v v at) in
      ap (flat_map items_of) (sym (take-append-drop k pieces))
      ∙ flat_map-append items_of (take k pieces) (drop k pieces)
      ∙ ap (λ rest. flat_map items_of (take k pieces) ++ flat_map items_of rest) cut

  -- a place of a piece, counted from its start, is one of its own
  own_place : (pieces : List V) (k place piece total : ℕ) (v : V)
      → IsRow items_of pieces piece total → slice_get pieces k ≡ Some v
      → place < piece → k * piece + place < total → place < length (items_of v)
  own_place pieces k place piece total v row at small within =
      elim (below_or_not (k + 1) (length pieces)) [
        | inl more ↦
            let here = row.full k v
            (omega (arith, more, length-take-le (length pieces - 1) pieces (omega arith))) in
            let same = get_or-take (length pieces - 1) pieces k v (omega (arith, more))
            ∙ get_or_from_slice_get pieces k v v at in
            let long : length (items_of v) ≡ piece = ap (λ w. length (items_of w)) (sym same)
            ∙ here in
            omega (arith, long, small)
        | inr last ↦
            let before = length_front pieces k piece total row (slice_get_within pieces k v at) in
            let none : flat_map items_of (drop (k + 1) pieces) ≡ [] =
            ap (flat_map items_of) (drop_all (k + 1) pieces last) in
            let items = ap length (items_around pieces k v at
            ∙ ap (λ rest. flat_map items_of (take k pieces) ++ (items_of v ++ rest)) none) in
            let parts = length-append (flat_map items_of (take k pieces)) (items_of v ++ []) in
            let own = ap length (append-nil (items_of v)) in
            omega (arith, row.all, items, parts, own, before, within)
      ]

  -- The item at a place stands in the piece that comes after so many whole ones.
  pub row_place : (pieces : List V) (at piece total : ℕ) (v : V) → IsRow items_of pieces piece total
      → at < total → slice_get pieces (at / piece) ≡ Some v
      → (at % piece < length (items_of v))
      × (slice_get (items_of v) (at % piece) ≡ slice_get (flat_map items_of pieces) at)
  row_place pieces at piece total v row within here =
      let k = at / piece in
      let place = at % piece in
      let parts : k * piece + place ≡ at = div-add-mod' at piece in
      let small = mod_below at piece row.some in
      let before = length_front pieces k piece total row (slice_get_within pieces k v here) in
      let own : place < length (items_of v) =
      own_place pieces k place piece total v row here small (omega (arith, parts, within)) in
      let rest = flat_map items_of (drop (k + 1) pieces) in (
        own,
        sym (ap (λ items. slice_get items at) (items_around pieces k v here)
            ∙ slice_get-append_right (flat_map items_of (take k pieces)) (items_of v ++ rest) at
            place (omega (arith, before, parts))
            ∙ slice_get-append_left (items_of v) rest place own),
      )

  -- and there is such a piece
  pub row_piece : (pieces : List V) (at piece total : ℕ) → IsRow items_of pieces piece total
      → at < total → at / piece < length pieces
  row_piece pieces at piece total row within =
      div_below at piece (length pieces) row.some (omega (arith, row.high, within))

  -- how many items are inside
  pub inside_long : (pieces : List V) (piece gone len : ℕ)
      → IsRow items_of pieces piece (gone + len)
      → length (drop gone (flat_map items_of pieces)) ≡ len
  inside_long pieces piece gone len row =
      omega (arith, length-drop gone (flat_map items_of pieces), row.all)

  -- what is dropped with the first piece
  pub passed : (pieces : List V) (first : V) (piece gone len left : ℕ)
      → IsRow items_of pieces piece (gone + len) → gone < piece
      → slice_get pieces 0 ≡ Some first → left ≡ min len (piece - gone)
      → IsRow items_of (drop 1 pieces) piece (0 + (len - left)) × (drop 0
      (flat_map items_of (drop 1 pieces)) ≡ drop left (drop gone (flat_map items_of pieces)))
  passed pieces first piece gone len left row before at is =
      let cut = row_first pieces first piece (gone + len) row at in
      let rest : gone + len - min piece (gone + len) ≡ 0 + (len - left) =
      omega (arith, is, before) in
      let both : min piece (gone + len) ≡ gone + left = omega (arith, is, before) in (
        subst (IsRow items_of (drop 1 pieces) piece) rest cut.3,
        cut.2 ∙ ap (λ n. drop n (flat_map items_of pieces)) both
            ∙ sym (drop-drop left gone (flat_map items_of pieces)),
      )

-- a place behind those that are gone
slice_get-drop : {X : Type 0} (n : ℕ) (xs : List X) (i : ℕ)
    → slice_get (drop n xs) i ≡ slice_get xs (n + i)
slice_get-drop zero xs i = let same : i ≡ 0 + i = omega arith in ap (slice_get xs) same
slice_get-drop (suc n) [] i = refl
slice_get-drop (suc n) (x ∷ xs) i =
    slice_get-drop n xs i ∙ sym (slice_get-tail x xs (n + i) (suc n + i) (omega arith))

module _ {V X : Type 0} (items_of : V → List X) where
  -- the piece in which an item that is inside stands
  pub piece_of : (pieces : List V) (place piece gone len : ℕ)
      → IsRow items_of pieces piece (gone + len)
      → place < length (drop gone (flat_map items_of pieces))
      → (gone + place) / piece < length pieces
  piece_of pieces place piece gone len row within =
      let long = inside_long items_of pieces piece gone len row in
      row_piece items_of pieces (gone + place) piece (gone + len) row (omega arith)

  -- and its place there
  pub place_of : (pieces : List V) (v : V) (place piece gone len : ℕ)
      → IsRow items_of pieces piece (gone + len)
      → place < length (drop gone (flat_map items_of pieces))
      → slice_get pieces ((gone + place) / piece) ≡ Some v
      → ((gone + place) % piece < length (items_of v))
      × (slice_get (items_of v) ((gone + place) % piece)
      ≡ slice_get (drop gone (flat_map items_of pieces)) place)
  place_of pieces v place piece gone len row within at =
      let long = inside_long items_of pieces piece gone len row in
      let here =
      row_place items_of pieces (gone + place) piece (gone + len) v row (omega arith) at in
      (here.0, here.1 ∙ sym (slice_get-drop gone (flat_map items_of pieces) place))

  -- Where all are full an empty piece may come behind them.
  pub empty_last : (pieces : List V) (last : V) (piece total : ℕ)
      → IsRow items_of pieces piece total → total % piece ≡ 0 → items_of last ≡ []
      → IsLast items_of pieces pieces last piece total
  empty_last pieces last piece total row whole none =
      let all = row_whole items_of pieces piece total row whole in
      let long : length (items_of last) ≡ 0 = ap length none in
      record {
        full = all.0;
        all = omega (arith, all.1, long);
        less = omega (arith, row.some, long);
        items = ap (λ items. flat_map items_of pieces ++ items) none
            ∙ append-nil (flat_map items_of pieces);
      }

  -- Items that fit into the last piece come behind all others.
  pub appended : (pieces before : List V) (last put : V) (more : List X) (piece gone len count : ℕ)
      → IsLast items_of pieces before last piece (gone + len)
      → items_of put ≡ items_of last ++ more → length more ≡ count → 0 < count
      → length (items_of last) + count ≤ piece
      → IsRow items_of (before ++ put ∷ []) piece (gone + (len + count))
      × (drop gone (flat_map items_of (before ++ put ∷ []))
      ≡ drop gone (flat_map items_of pieces) ++ more)
  appended pieces before last put more piece gone len count cut is long some fits =
      let put_long = ap length is ∙ length-append (items_of last) more in
      let all =
      ap length (sym cut.items) ∙ length-append (flat_map items_of before) (items_of last) in
      let front = length_full items_of before piece cut.full in
      let items : flat_map items_of (before ++ put ∷ []) ≡ flat_map items_of pieces ++ more =
      items_pushed items_of before put ∙ ap (λ end. flat_map items_of before ++ end) is
      ∙ sym (append_assoc (flat_map items_of before) (items_of last) more)
      ∙ ap (λ inside. inside ++ more) cut.items in (
        row_pushed items_of before put piece (gone + (len + count)) cut.full
            (omega (arith, cut.all, put_long, long))
            (omega (arith, put_long, long, some)) (omega (arith, put_long, long, fits)),
        ap (drop gone) items ∙ drop-append-le gone (flat_map items_of pieces) more
            (omega (arith, all, front, cut.all)),
      )

  -- A whole piece comes behind whole ones.
  pub exchanged : (pieces : List V) (put : V) (piece gone len : ℕ)
      → IsRow items_of pieces piece (gone + len) → (gone + len) % piece ≡ 0
      → length (items_of put) ≡ piece
      → IsRow items_of (pieces ++ put ∷ []) piece (gone + (len + piece))
      × (drop gone (flat_map items_of (pieces ++ put ∷ []))
      ≡ drop gone (flat_map items_of pieces) ++ items_of put)
  exchanged pieces put piece gone len row whole long =
      let all = row_whole items_of pieces piece (gone + len) row whole in (
        row_pushed items_of pieces put piece (gone + (len + piece)) all.0
            (omega (arith, all.1, long)) (omega (arith, row.some, long)) (omega (arith, long)),
        ap (drop gone) (items_pushed items_of pieces put) ∙ drop-append-le gone
            (flat_map items_of pieces) (items_of put) (omega (arith, row.all)),
      )

  -- what a first piece of which nothing is gone is, where it is given whole
  pub given_first : (pieces : List V) (first : V) (piece gone len count : ℕ)
      → IsRow items_of pieces piece (gone + len) → gone ≡ 0
      → slice_get pieces 0 ≡ Some first → count ≡ length (items_of first)
      → (count ≡ min piece (length (drop gone (flat_map items_of pieces))))
      × (items_of first ≡ take count (drop gone (flat_map items_of pieces)))
      × (drop gone (flat_map items_of (drop 1 pieces))
      ≡ drop count (drop gone (flat_map items_of pieces)))
      × IsRow items_of (drop 1 pieces) piece (gone + (len - count))
  given_first pieces first piece gone len count row none at is =
      let cut = row_first items_of pieces first piece (gone + len) row at in
      let long = inside_long items_of pieces piece gone len row in
      let same : min piece (gone + len) ≡ count = sym cut.0 ∙ sym is in
      let from : (items : List X) → drop gone items ≡ items =
      λ items. ap (λ n. drop n items) none in (
        omega (arith, same, long, none),
        cut.1 ∙ ap (λ n. take n (flat_map items_of pieces)) same
            ∙ ap (take count) (sym (from (flat_map items_of pieces))),
        from (flat_map items_of (drop 1 pieces)) ∙ cut.2
            ∙ ap (λ n. drop n (flat_map items_of pieces)) same
            ∙ ap (drop count) (sym (from (flat_map items_of pieces))),
        subst (IsRow items_of (drop 1 pieces) piece) (omega (arith, same, none)) cut.3,
      )

-- Whole pieces while what is inside moves towards the front, and a piece in hand: the first so many
-- of them are as they were, and their items come behind those in hand. The others come before it.
pub record IsMoving {V X : Type 0} (items_of : V → List X) (inside : List X) (pieces : List V)
    (hand : V) (left gone piece : ℕ) : Type 0 where
  pub full : All (λ v. length (items_of v) ≡ piece) pieces
  pub short : length (items_of hand) + gone ≡ piece
  pub items : flat_map items_of (drop left pieces) ++ (items_of hand
      ++ flat_map items_of (take left pieces)) ≡ inside

module _ {V X : Type 0} (items_of : V → List X) where
  -- the first piece is in hand, without those that are gone
  pub moving_from : (pieces : List V) (first hand : V) (left gone piece : ℕ)
      → All (λ v. length (items_of v) ≡ piece) pieces → slice_get pieces 0 ≡ Some first
      → items_of hand ≡ drop gone (items_of first) → gone < piece
      → left ≡ length (drop 1 pieces)
      → IsMoving items_of (drop gone (flat_map items_of pieces)) (drop 1 pieces) hand left gone
      piece
  moving_from [] first hand left gone piece full at is less all = absurd cc
  moving_from (v ∷ rest) first hand left gone piece full at is less all =
      let same : v ≡ first = cc in
      let long : length (items_of v) ≡ piece = full 0 v (omega arith) in
      let own : items_of hand ≡ drop gone (items_of v) =
      is ∙ ap (λ w. drop gone (items_of w)) (sym same) in
      record {
        full = All-tail (λ w. length (items_of w) ≡ piece) v rest full;
        short = omega (arith, ap length own, length-drop gone (items_of v), long);
        items = ap (λ none. flat_map items_of none ++ (items_of hand
            ++ flat_map items_of (take left rest))) (drop_all left rest (omega arith))
            ∙ ap (λ more. items_of hand ++ flat_map items_of more)
            (take_all left rest (omega arith))
            ∙ ap (λ front. front ++ flat_map items_of rest) own
            ∙ sym (drop-append-le gone (items_of v) (flat_map items_of rest) (omega arith));
      }

  -- what stands where, as the next piece fills that in hand up
  moved_items : (before behind : List X) (next hand filled rest : List X) (gone : ℕ)
      → filled ≡ hand ++ take gone next → rest ≡ drop gone next
      → (before ++ filled) ++ (rest ++ behind) ≡ before ++ (hand ++ (next ++ behind))
  moved_items before behind next hand filled rest gone fills left =
      let start = take gone next in
      let end = drop gone next in
      let apart : (before ++ (hand ++ start)) ++ (end ++ behind)
      ≡ before ++ (hand ++ ((start ++ end) ++ behind)) = simp append_assoc in
      ap (λ all. (before ++ all) ++ (rest ++ behind)) fills
      ∙ ap (λ more. (before ++ (hand ++ start)) ++ (more ++ behind)) left
      ∙ apart
      ∙ ap (λ all. before ++ (hand ++ (all ++ behind))) (take-append-drop gone next)

  -- the next piece fills that in hand up, and its rest is in hand
  pub moving_on : (inside : List X) (pieces : List V) (next hand filled rest : V)
      (left fewer gone piece : ℕ) → IsMoving items_of inside pieces hand left gone piece
      → slice_get pieces 0 ≡ Some next → left ≡ suc fewer → left ≤ length pieces
      → items_of filled ≡ items_of hand ++ take gone (items_of next)
      → items_of rest ≡ drop gone (items_of next)
      → IsMoving items_of inside (drop 1 pieces ++ filled ∷ []) rest fewer gone piece
  moving_on inside [] next hand filled rest left fewer gone piece now at more low put is =
      absurd cc
  moving_on inside (v ∷ others) next hand filled rest left fewer gone piece now at more low put is =
      let same : v ≡ next = cc in
      let long : length (items_of v) ≡ piece = now.full 0 v (omega arith) in
      let filled_is : items_of filled ≡ items_of hand ++ take gone (items_of v) =
      put ∙ ap (λ w. items_of hand ++ take gone (items_of w)) (sym same) in
      let rest_is : items_of rest ≡ drop gone (items_of v) =
      is ∙ ap (λ w. drop gone (items_of w)) (sym same) in
      let taken = length-take-le gone (items_of v) (omega (arith, now.short)) in
      let long_put = ap length filled_is ∙ length-append (items_of hand) (take gone (items_of v)) in
      let own = ap length rest_is ∙ length-drop gone (items_of v) in
      let were : flat_map items_of (drop fewer others) ++ (items_of hand ++ (items_of v
      ++ flat_map items_of (take fewer others))) ≡ inside =
      subst (λ n. flat_map items_of (drop n (v ∷ others)) ++ (items_of hand
      ++ flat_map items_of (take n (v ∷ others))) ≡ inside) more now.items in
      record {
        full = All-push (λ w. length (items_of w) ≡ piece) others filled
            (All-tail (λ w. length (items_of w) ≡ piece) v others now.full)
            (omega (arith, long_put, taken, now.short));
        short = omega (arith, own, long, now.short);
        items = ap (λ all. flat_map items_of all ++ (items_of rest
            ++ flat_map items_of (take fewer (others ++ filled ∷ []))))
            (drop-append-le fewer others (filled ∷ []) (omega arith))
            ∙ ap (λ all. all ++ (items_of rest
            ++ flat_map items_of (take fewer (others ++ filled ∷ []))))
            (items_pushed items_of (drop fewer others) filled)
            ∙ ap (λ all. (flat_map items_of (drop fewer others) ++ items_of filled)
            ++ (items_of rest ++ flat_map items_of all))
            (take-append-le fewer others (filled ∷ []) (omega arith))
            ∙ moved_items (flat_map items_of (drop fewer others))
            (flat_map items_of (take fewer others)) (items_of v) (items_of hand)
            (items_of filled) (items_of rest) gone filled_is rest_is
            ∙ were;
      }

  -- what is in hand comes behind all others
  pub moving_ends : (inside : List X) (pieces : List V) (hand : V) (left gone piece : ℕ)
      → IsMoving items_of inside pieces hand left gone piece → left ≡ 0 → gone < piece
      → IsRow items_of (pieces ++ hand ∷ []) piece (length (pieces ++ hand ∷ []) * piece - gone)
      × (flat_map items_of (pieces ++ hand ∷ []) ≡ inside)
  moving_ends inside pieces hand left gone piece now none less =
      let were : flat_map items_of pieces ++ (items_of hand ++ []) ≡ inside =
      subst (λ n. flat_map items_of (drop n pieces) ++ (items_of hand
      ++ flat_map items_of (take n pieces)) ≡ inside) none now.items in
      let places : length (pieces ++ hand ∷ []) * piece ≡ length pieces * piece + piece =
      row_more (length pieces) (length (pieces ++ hand ∷ [])) piece (length_push pieces hand) in (
        row_pushed items_of pieces hand piece (length (pieces ++ hand ∷ []) * piece - gone)
            now.full (omega (arith, now.short, places)) (omega (arith, now.short))
            (omega (arith, now.short)),
        flat_map-append items_of pieces (hand ∷ []) ∙ were,
      )

module _ {V : Type 0} (room_of : V → ℕ) where
  -- each piece has room for so many items
  pub room_inside : (pieces : List V) (piece n : ℕ) (v : V) → All (λ w. piece ≤ room_of w) pieces
      → slice_get pieces n ≡ Some v → piece ≤ room_of v
  room_inside pieces piece n v each at =
      subst (λ w. piece ≤ room_of w) (get_or_from_slice_get pieces n v v at)
      (each n v (slice_get_within pieces n v at))

  -- the first piece is gone, and a piece is spent
  pub memory_spent : (pieces spent : List V) (v : V) (piece places spent_places : ℕ)
      → IsMemory room_of pieces spent 0 piece places spent_places
      → 0 < length pieces → piece ≤ room_of v
      → IsMemory room_of (drop 1 pieces) (spent ++ v ∷ []) 0 piece places spent_places
  memory_spent pieces spent v piece places spent_places memory some room =
      let left = length-drop 1 pieces in
      let more = length_push spent v in
      record {
        inside = All-drop (λ w. piece ≤ room_of w) 1 pieces memory.inside;
        spare = All-push (λ w. piece ≤ room_of w) spent v memory.spare room;
        fit = omega (arith, memory.fit);
        spare_fit = omega (arith, memory.spare_fit);
      }

  -- a piece that was out comes behind all others
  pub memory_put : (pieces spent : List V) (v : V) (piece places spent_places : ℕ)
      → IsMemory room_of pieces spent 1 piece places spent_places
      → piece ≤ room_of v → IsMemory room_of (pieces ++ v ∷ []) spent 0 piece places spent_places
  memory_put pieces spent v piece places spent_places memory room =
      let more = length_push pieces v in
      record {
        inside = All-push (λ w. piece ≤ room_of w) pieces v memory.inside room;
        spare = memory.spare;
        fit = omega (arith, memory.fit);
        spare_fit = omega (arith, memory.spare_fit);
      }

  -- a spent piece goes out
  pub memory_out : (pieces spent : List V) (piece places spent_places : ℕ)
      → IsMemory room_of pieces spent 0 piece places spent_places
      → 0 < length spent
      → IsMemory room_of pieces (take (length spent - 1) spent) 1 piece places spent_places
  memory_out pieces spent piece places spent_places memory some =
      let left = length-take-le (length spent - 1) spent (omega arith) in
      record {
        inside = memory.inside;
        spare = All-take (λ w. piece ≤ room_of w) (length spent - 1) spent memory.spare;
        fit = omega (arith, memory.fit);
        spare_fit = omega (arith, memory.spare_fit);
      }

-- as many items more of those that are left came in
pub more_put : {X : Type 0} (before inside items : List X) (start count : ℕ)
    → inside ≡ before ++ take start items
    → inside ++ take count (take (length items - start) (drop start items))
    ≡ before ++ take (start + count) items
more_put before inside items start count is =
    ap (λ rest. inside ++ take count rest) (take_rest items start)
    ∙ ap (λ all. all ++ take count (drop start items)) is
    ∙ append_assoc before (take start items) (take count (drop start items))
    ∙ ap (λ more. before ++ more) (sym (take-add start count items))

-- behind nothing
pub behind_none : {X : Type 0} (none more : List X) → none ≡ [] → more ≡ none ++ more
behind_none none more is = ap (λ front. front ++ more) (sym is)
