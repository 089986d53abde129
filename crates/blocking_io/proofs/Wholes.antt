-- Whole reads and writes: where in a buffer the bytes stand that went by their polls.
use Rattle.std.proofs.Common.{◌≡◌, ◌∙◌, ◌≤◌, ◌<◌, ◌+◌, ◌-◌, ◌++◌, ap, sym, refl, subst, rules}
use Rattle.std.proofs.Common.{arith, ℕ, zero, suc, List, [], ◌∷◌, take, drop, drop_at, length}
use Rattle.std.proofs.Common.{length-take-le, slice_range, append-nil, le_refl, IfOk, Result, Ok}
use Rattle.std.proofs.Common.{Err}
use Rattle.std.proofs.lemmas.Grind.{common_steps}
use Rattle.std.proofs.lemmas.List.{drop-drop, length-drop, take-take}
use Rattle.std.proofs.lemmas.Slice.{between_is, between_to_end, take-put_mid_below}
use Rattle.std.specs.declared.io.Error.{Error}
use Rattle.futures.specs.Poll.{IfReady}
use Rattle.futures.specs.declared.task.Poll.{Poll}
use Rattle.futures.specs.declared.task.Poll.TheVariants.{Ready, Pending}
use Rattle.blocking_core.specs.declared.io.Fault.{Fault}
use Rattle.blocking_io.specs.Copies.{all_read, all_written, bytes_of}
use Rattle.blocking_io.specs.Passed.{AddsTo, Gave, GaveAll, Took}
use Rattle.blocking_io.specs.Polled.{ReaderPoll, WriterPoll, OfFlush, OfRead, OfWrite, with_bytes}
use Rattle.blocking_io.proofs.Passes.{assoc, passes_join, read_on, read_to_end_on, written_on}
use borrow.Rule.Slice.PartMut.{post_of, put_mid}
use lib.Seq.{take-add, take-append-add, take-append-le}

-- how many bytes a poll moved
abbrev pub count_of : Poll (Result ℕ (Fault Error)) → ℕ
count_of (Ready (Ok count)) = count
count_of (Ready (Err why)) = 0
count_of Pending = 0

-- what holds where a poll moved nothing
pub at_end : (r : Poll (Result ℕ (Fault Error))) (P : Type 0) → (r ≡ Ready (Ok 0) → P)
    → IfReady r (λ done. IfOk done (λ count. count ≡ 0 → P))
at_end (Ready (Ok count)) P so = λ none. so (ap (λ n. Ready (Ok n)) none)
at_end (Ready (Err why)) P so = tt
at_end Pending P so = tt

bytes_counted : (r : Poll (Result ℕ (Fault Error))) (bytes : List ℕ)
    → bytes_of (with_bytes r bytes) ++ [] ≡ take (count_of r) bytes
bytes_counted (Ready (Ok count)) bytes = search (rules, common_steps)
bytes_counted (Ready (Err why)) bytes = refl
bytes_counted Pending bytes = refl

-- a range is one up to a place in it, and what is behind that
range_on : (xs : List ℕ) (from at count : ℕ) → from ≤ at
    → slice_range xs from (at + count) ≡ slice_range xs from at ++ take count (drop at xs)
range_on xs from at count le =
    let parts : (at + count) - from ≡ (at - from) + count = omega (arith, le) in
    let there : from + (at - from) ≡ at = omega (arith, le) in
    ap (λ n. take n (drop from xs)) parts ∙ (take-add (at - from) count (drop from xs)
    ∙ ap (λ l. slice_range xs from at ++ take count l)
    (drop-drop (at - from) from xs ∙ ap (λ n. drop n xs) there))

rest_is_all : (xs : List ℕ) (at : ℕ) → slice_range xs at (length xs) ≡ drop at xs
rest_is_all xs at = between_to_end xs at (length xs) (le_refl (length xs))

no_range : (xs : List ℕ) (at : ℕ) → slice_range xs at at ≡ []
no_range xs at = grind (arith, common_steps)

room_left : (xs : List ℕ) (at : ℕ) → at < length xs → 0 < length (slice_range xs at (length xs))
room_left xs at within = let e : length (slice_range xs at (length xs)) ≡ length (drop at xs) =
    ap (λ (l : List ℕ). length l) (rest_is_all xs at) in
    omega (arith, e, length-drop at xs, within)

-- what stands in front of the rest of a buffer stays
range_kept : (xs ys : List ℕ) (from at rest : ℕ) → at ≤ length xs
    → slice_range (put_mid at rest xs ys) from at ≡ slice_range xs from at
range_kept xs ys from at rest within = between_is (put_mid at rest xs ys) from at
    ∙ (ap (drop from) (take-put_mid_below at rest xs ys at (le_refl at) within)
    ∙ sym (between_is xs from at))

-- what a buffer behind others is cut down to, once it was read into
pub cut_behind : (xs ys after rest : List ℕ) (at count all : ℕ) → at ≤ length xs → count ≤ length ys
    → at + count ≤ all
    → take (at + count) (take all ((take at xs ++ (ys ++ after)) ++ rest))
    ≡ take at xs ++ take count ys
cut_behind xs ys after rest at count all within fits le =
    let front : length (take at xs) ≡ at = length-take-le at xs within in
    take-take (at + count) all _ le
    ∙ (ap (take (at + count)) (assoc (take at xs) (ys ++ after) rest)
    ∙ (ap (λ n. take (n + count) (take at xs ++ ((ys ++ after) ++ rest))) (sym front)
    ∙ (take-append-add (take at xs) ((ys ++ after) ++ rest) count
    ∙ ap (λ l. take at xs ++ l)
    (ap (take count) (assoc ys after rest) ∙ take-append-le count ys (after ++ rest) fits))))

module _ {A : Type 0} (writes : A → WriterPoll → A → Type 0) where
  pub took_join : (old mid new : A) (xs ys all : List ℕ) → Took writes old xs mid
      → Took writes mid ys new → all ≡ xs ++ ys → Took writes old all new
  took_join old mid new xs ys all first rest is = (
    first.0 ++ rest.0,
    passes_join writes old mid new first.0 rest.0 first.1 rest.1,
    written_on first.0 rest.0
        ∙ (ap (λ l. l ++ all_written rest.0) first.2 ∙ (ap (λ l. xs ++ l) rest.2 ∙ sym is)),
  )

  pub took_by_flush : (old new : A) (poll : Poll (Result (Unit {0}) (Fault Error)))
      → writes old (OfFlush poll) new → Took writes old [] new
  took_by_flush old new poll flushed = (OfFlush poll ∷ [], (new, flushed, refl), refl)

  -- one more write of what is left
  pub took_on : (old mid new : A) (all : List ℕ) (from at to : ℕ)
      (r : Poll (Result ℕ (Fault Error)))
      → Took writes old (slice_range all from at) mid
      → writes mid (OfWrite (with_bytes r (slice_range all at (length all)))) new → from ≤ at
      → to ≡ at + count_of r → Took writes old (slice_range all from to) new
  took_on old mid new all from at to r first wrote le is = took_join old mid new _ _ _ first (
    OfWrite (with_bytes r (slice_range all at (length all))) ∷ [],
    (new, wrote, refl),
    bytes_counted r (slice_range all at (length all)),
  )
      (ap (λ n. slice_range all from n) is ∙ (range_on all from at (count_of r) le
      ∙ ap (λ l. slice_range all from at ++ take (count_of r) l) (sym (rest_is_all all at))))

  -- polls that took nothing, behind others or behind none
  pub took_no_more : (old mid again new : A) (all : List ℕ) (from to is : ℕ)
      → Took writes old (slice_range all from to) mid → Took writes again [] new → again ≡ mid
      → is ≡ to → Took writes old (slice_range all from is) new
  took_no_more old mid again new all from to is first rest there same =
      let Q : A → Type 0 = λ m. Took writes m [] new in
      took_join old mid new _ [] _ first (subst Q there rest)
      (ap (λ n. slice_range all from n) same ∙ sym (append-nil _))

  pub took_none : (old again new : A) (all : List ℕ) (from is : ℕ) → Took writes again [] new
      → again ≡ old → is ≡ from → Took writes old (slice_range all from is) new
  took_none old again new all from is rest there same =
      took_no_more old old again new all from from is ([], refl, sym (no_range all from)) rest there
      same

-- what was read into the rest of a buffer is behind what stood in front of it
filled_on : (xs ys : List ℕ) (from at rest count : ℕ) → from ≤ at → at ≤ length xs
    → count ≤ length ys
    → slice_range (put_mid at rest xs ys) from (at + count)
    ≡ slice_range xs from at ++ take count ys
filled_on xs ys from at rest count le within fits =
    let now = put_mid at rest xs ys in
    range_on now from at count le
    ∙ (ap (λ l. l ++ take count (drop at now)) (range_kept xs ys from at rest within)
    ∙ ap (λ l. slice_range xs from at ++ l)
    (ap (take count)
    (drop_at (take at xs) (ys ++ post_of at rest xs) at (length-take-le at xs within))
    ∙ take-append-le count ys (post_of at rest xs) fits))

module _ {A : Type 0} (reads : A → ReaderPoll → A → Type 0) where
  pub gave_join : (old mid new : A) (xs ys : List ℕ) → Gave reads old xs mid
      → Gave reads mid ys new → Gave reads old (xs ++ ys) new
  gave_join old mid new xs ys first rest = (
    first.0 ++ rest.0,
    passes_join reads old mid new first.0 rest.0 first.1 rest.1,
    read_on first.0 rest.0 ∙ (ap (λ l. l ++ all_read rest.0) first.2 ∙ ap (λ l. xs ++ l) rest.2),
  )

  pub gave_all_join : (old mid new : A) (xs ys : List ℕ) → Gave reads old xs mid
      → GaveAll reads mid ys new → GaveAll reads old (xs ++ ys) new
  gave_all_join old mid new xs ys first rest = (
    first.0 ++ rest.0,
    passes_join reads old mid new first.0 rest.0 first.1 rest.1,
    read_on first.0 rest.0 ∙ (ap (λ l. l ++ all_read rest.0) first.2 ∙ ap (λ l. xs ++ l) rest.2),
    read_to_end_on first.0 rest.0 rest.3,
  )

  pub gave_once : (old new : A) (room : ℕ) (bytes : List ℕ) (r : Poll (Result ℕ (Fault Error)))
      → reads old (OfRead room (with_bytes r bytes)) new
      → Gave reads old (take (count_of r) bytes) new
  gave_once old new room bytes r read =
      (OfRead room (with_bytes r bytes) ∷ [], (new, read, refl), bytes_counted r bytes)

  pub met_end : (old new : A) (room : ℕ) (bytes : List ℕ) (r : Poll (Result ℕ (Fault Error)))
      → reads old (OfRead room (with_bytes r bytes)) new → r ≡ Ready (Ok 0) → 0 < room
      → GaveAll reads old [] new
  met_end old new zero bytes r read is some = absurd (omega (arith, some))
  met_end old new (suc room) bytes r read is some =
      let P : Poll (Result ℕ (Fault Error)) → Type 0 =
      λ p. reads old (OfRead (suc room) (with_bytes p bytes)) new in
      (OfRead (suc room) (Ready (Ok [])) ∷ [], (new, subst P is read, refl), refl, ([], room, refl))

  -- one more read into the rest of a buffer
  pub gave_on : (old mid new : A) (xs ys : List ℕ) (from at to rest room : ℕ)
      (r : Poll (Result ℕ (Fault Error))) → Gave reads old (slice_range xs from at) mid
      → reads mid (OfRead room (with_bytes r ys)) new → from ≤ at → at ≤ length xs
      → count_of r ≤ length ys → to ≡ at + count_of r
      → Gave reads old (slice_range (put_mid at rest xs ys) from to) new
  gave_on old mid new xs ys from at to rest room r first read le within fits is =
      let Q : List ℕ → Type 0 = λ l. Gave reads old l new in
      subst Q (sym (ap (slice_range (put_mid at rest xs ys) from) is
      ∙ filled_on xs ys from at rest (count_of r) le within fits))
      (gave_join old mid new _ _ first (gave_once mid new room ys r read))

  -- one that met the end
  pub gave_no_more : (old mid new : A) (xs ys : List ℕ) (from at rest : ℕ)
      (r : Poll (Result ℕ (Fault Error))) → Gave reads old (slice_range xs from at) mid
      → reads mid (OfRead (length (slice_range xs at (length xs))) (with_bytes r ys)) new
      → at < length xs → r ≡ Ready (Ok 0)
      → GaveAll reads old (slice_range (put_mid at rest xs ys) from at) new
  gave_no_more old mid new xs ys from at rest r first read within is =
      let Q : List ℕ → Type 0 = λ l. GaveAll reads old l new in
      subst Q (append-nil _ ∙ sym (range_kept xs ys from at rest (omega (arith, within))))
      (gave_all_join old mid new _ [] first
      (met_end mid new _ ys r read is (room_left xs at within)))

  -- a list with what was read behind it, and more
  pub adds_more : (old mid new : A) (before between after : List ℕ)
      → AddsTo before between (λ bytes. Gave reads old bytes mid)
      → AddsTo between after (λ bytes. Gave reads mid bytes new)
      → AddsTo before after (λ bytes. Gave reads old bytes new)
  adds_more old mid new before between after first rest = (
    first.0 ++ rest.0,
    rest.1 ∙ (ap (λ l. l ++ rest.0) first.1 ∙ assoc before first.0 rest.0),
    gave_join old mid new first.0 rest.0 first.2 rest.2,
  )

  pub adds_all : (old mid new : A) (before between after : List ℕ)
      → AddsTo before between (λ bytes. Gave reads old bytes mid)
      → AddsTo between after (λ bytes. GaveAll reads mid bytes new)
      → AddsTo before after (λ bytes. GaveAll reads old bytes new)
  adds_all old mid new before between after first rest = (
    first.0 ++ rest.0,
    rest.1 ∙ (ap (λ l. l ++ rest.0) first.1 ∙ assoc before first.0 rest.0),
    gave_all_join old mid new first.0 rest.0 first.2 rest.2,
  )
